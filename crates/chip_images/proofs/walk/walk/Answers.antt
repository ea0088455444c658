use mathlib.Core.Path.{◌∙◌, ap}
use Rattle.std.proofs.lemmas.Result.{err_from_is_err_and}
use Rattle.base_types.specs.Outcome.{accepted}
use Rattle.chip_images.specs.Walk.{walk_answer}
use Rattle.chip_images.proofs.Judging.{on_page_lem}
use Rattle.chip_images.proofs.walk.walk.Goals as goal

pub returns-in_err-judge : goal.returns-in_err-judge
unfolding walk_answer
returns-in_err-judge c = let p = err_from_is_err_and c.from_residual.result c.from_residual.ensures.1 in
    rw (p.1, p.2) (on_page_lem 64 _ _ _ c.in_err-judge.ensures)

pub returns : goal.returns
unfolding walk_answer
returns c = ap accepted c.walk.ensures ∙ on_page_lem 64 _ _ _ c.in_ok-judge.ensures
