use Rattle.bus_scripts.specs.Next.{next_outcome}
use Rattle.master_runs.proofs.Runs.{Midway}
use Rattle.master_runs.proofs.calls.feed.Given as goal

abbrev pub invariant-loop-i : goal.invariant-loop-i
invariant-loop-i g l =
    Midway g.M.Master.called g.M.Master.told (g.M.Master.seen l.fn.start) l.replies l.i (g.M.Master.seen l.last.state) (next_outcome g.M.Master.values l.last.answer) l.events
