use mathlib.Core.Path.{ap₂}
use mathlib.Core.List.{[], ◌∷◌}
use Rattle.master_page.specs.Held.{page_held}
use Rattle.master_runs.proofs.Runs.{midway}
use Rattle.master_runs.proofs.page.feed.Goals as goal

pub loop-i-preserved : goal.loop-i-preserved
loop-i-preserved c =
    midway _ _ _ _ _ _ _ _ c.loop-i.invariant c.loop-i-test.true _ _ _
    (ap₂ page_held c.call-last.ensures.state c.call-last.ensures.buffer) c.call-last.ensures.answer
    (c.code.ensures (λ e. e.0.0 ∷ e.1 ∷ []))
