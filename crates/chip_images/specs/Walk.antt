-- What the walk from a page tells, over the page count n.
use Rattle.std.specs.Prelude.{ℕ, List}
use Rattle.base_types.specs.Outcome.{Outcome, accepted}
use Rattle.base_types.specs.declared.verdict.Verdict.{Verdict}
use Rattle.chip_chain.specs.Walk.{walk_of}
use Rattle.chip_images.specs.Page.{on_page}

-- 1, 3, or the verdict
unfoldable pub walk_answer : ℕ → List ℕ → ℕ → Outcome Verdict
walk_answer n img p = on_page n img p (accepted (walk_of n img p))
