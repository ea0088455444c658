use Prim.Native.Nat.{◌≤◌}
use mathlib.Core.Path.{◌≡◌}
use lib.ListN.{length, take}
use Rattle.chip_memory.specs.Page.{copied}
use Rattle.chip_memory.proofs.page.copy.Given as goal

abbrev pub invariant-loop-i : goal.invariant-loop-i
invariant-loop-i l = (l.i ≤ l.i-end) × (length l.buffer ≡ length l.initial.buffer) × (l.buffer ≡ copied (take l.i l.page) l.initial.buffer)
