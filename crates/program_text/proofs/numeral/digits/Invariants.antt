use Prim.Native.Nat.{◌^◌, ◌<◌}
use mathlib.Core.Path.{◌≡◌}
use lib.ListN.{drop}
use Rattle.program_text.specs.Numeral.{digits_from}
use Rattle.program_text.proofs.numeral.digits.Given as goal

abbrev pub invariant-loop-byte : goal.invariant-loop-byte
invariant-loop-byte l = (l.value < 10 ^ l.byte-index) × (digits_from 0 l.text ≡ digits_from l.value (drop l.byte-index l.text))
