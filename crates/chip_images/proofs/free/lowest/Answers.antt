use mathlib.Core.Path.{◌≡◌, refl, ap, ◌∙◌}
use Rattle.std.specs.Prelude.{Option, Some, None}
use Rattle.std.specs.Option.{ok_or}
use Rattle.std.proofs.lemmas.Result.{err_from_is_err_and}
use Rattle.base_types.specs.declared.address.Page.{Page}
use Rattle.base_types.specs.declared.refusal.Refusal.TheVariants.{NoFreePage}
use Rattle.base_types.specs.Outcome.{outcome_of}
use Rattle.chip_images.specs.Free.{found_outcome, free_answer}
use Rattle.chip_images.proofs.Judging.{on_page_lem}
use Rattle.chip_images.proofs.free.lowest.Goals as goal

found : (o : Option Page) → outcome_of (ok_or o NoFreePage) ≡ found_outcome o
found None = refl
found (Some p) = refl

pub returns-in_err-judge : goal.returns-in_err-judge
unfolding free_answer
returns-in_err-judge c = let p = err_from_is_err_and c.from_residual.result c.from_residual.ensures.1 in
    rw (p.1, p.2) (on_page_lem 64 _ _ _ c.in_err-judge.ensures)

pub returns : goal.returns
unfolding free_answer
returns c = ap outcome_of c.ok_or.ensures.value ∙ found c.lowest_free.result ∙ ap found_outcome c.lowest_free.ensures
    ∙ on_page_lem 64 _ _ _ c.in_ok-judge.ensures
