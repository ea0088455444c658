-- An entry on a page judges as the judgement of a page does, and then goes on.
use Prim.Native.Nat.{ℕ}
use mathlib.Core.Path.{◌≡◌, refl}
use mathlib.Core.Bool.{Bool, true, false}
use mathlib.Core.List.{List}
use Rattle.base_types.specs.Outcome.{Outcome, accepted, judge, Done, done, following}
use Rattle.chip_memory.specs.Layout.{is_image, is_page}
use Rattle.chip_images.specs.Page.{on_page, page_answer}

pub on_page_lem : {A : Type 0} (n : ℕ) (img : List ℕ) (p : ℕ) {j : Outcome Done} (answer : Outcome A) → j ≡ page_answer n img p
    → following j answer ≡ on_page n img p answer
unfolding page_answer
on_page_lem n img p answer e = rw e (go (is_image n img) (is_page n p))
  where
    go : (s t : Bool) → following (judge s 1 (judge t 3 (accepted done))) answer ≡ judge s 1 (judge t 3 answer)
    go true true = refl
    go true false = refl
    go false t = refl
