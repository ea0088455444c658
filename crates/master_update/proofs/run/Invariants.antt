use Prim.Native.Nat.{◌-◌}
use mathlib.Core.Path.{◌≡◌}
use Rattle.master_update.specs.Update.{run_for}
use Rattle.master_update.proofs.run.Given as goal

abbrev pub invariant-loop : goal.invariant-loop
invariant-loop l = run_for 64 (l.calls - l.counter) l.j l.image ≡ run_for 64 l.calls l.initial.j l.initial.image
