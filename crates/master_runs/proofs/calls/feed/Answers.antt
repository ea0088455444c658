use Rattle.master_runs.proofs.Runs.{midway}
use Rattle.master_runs.proofs.calls.feed.Goals as goal

pub loop-i-preserved : goal.loop-i-preserved
loop-i-preserved g c =
    midway _ _ _ _ _ _ _ _ c.loop-i.invariant c.loop-i-test.true _ _ _ c.call-last.ensures.state c.call-last.ensures.answer
    (c.code.ensures g.M.Master.values)
