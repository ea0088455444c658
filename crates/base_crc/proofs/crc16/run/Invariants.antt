-- `base_crc::crc16::run` meets its contract: the bytes that are left go into the register as all of them do at the start.
use mathlib.Core.Path.{◌≡◌}
use Prim.Native.Nat.{ℕ, ◌<◌}
use lib.Bits.{bit_xor}
use lib.ListN.{get_or, drop}
use Rattle.base_crc.specs.Polynomial.{crc16_polynomial}
use Rattle.base_crc.specs.Crc.{crc16_from}
use Rattle.base_crc.specs.Table.{table_of}
use Rattle.base_crc.proofs.crc16.run.Given as goal

-- the register that is kept as a rest and a place
abbrev pub kept : ℕ → ℕ → ℕ
kept rest place = bit_xor rest (get_or (table_of crc16_polynomial) place 0)

abbrev pub invariant-loop-b : goal.invariant-loop-b
invariant-loop-b l = (l.place < 256) × (crc16_from (kept l.rest l.place) (drop l.b-index l.bytes) ≡ crc16_from l.reg l.bytes)
