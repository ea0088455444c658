use mathlib.Core.Path.{◌≡◌}
use lib.ListN.{length}
use Rattle.chip_entries.proofs.Runs.{Midway}
use Rattle.chip_entries.proofs.event.run_within.Given as goal

abbrev pub invariant-loop-i : goal.invariant-loop-i
invariant-loop-i l = record {
  long : length l.replies ≡ length l.codes;
  midway : Midway 64 (record { state = l.fn.start; image = l.fn.image }) l.codes l.i (record { state = record { stage = l.stage; number = l.fn.start.number }; image = l.image }) l.replies;
}
