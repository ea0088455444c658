-- The walk, the free page and the page's copy draw the same of a page number that no byte holds and of 255.
use Prim.Native.Nat.{ℕ}
use mathlib.Core.Path.{◌≡◌, sym, ◌∙◌}
use mathlib.Core.Bool.{false}
use mathlib.Core.List.{List}
use native.Mathlib.Omega.{arith}
use Rattle.chip_memory.specs.Layout.{is_page}
use Rattle.chip_images.specs.Walk.{walk_answer}
use Rattle.chip_images.specs.Free.{free_answer}
use Rattle.chip_images.specs.Page.{copy_answer, copy_buffer}
use Rattle.plug_answers.specs.Calls.{page_number}
use Rattle.plug_answers.proofs.Pages.{same_at}

module _ (img : List ℕ) where
  pub walk_same : (p : ℕ) → walk_answer 64 img (page_number p) ≡ walk_answer 64 img p
  unfolding walk_answer
  walk_same = same_at (walk_answer 64 img) (λ p q e f. simp (e, f))

  pub free_same : (p : ℕ) → free_answer 64 img (page_number p) ≡ free_answer 64 img p
  unfolding free_answer
  free_same = same_at (free_answer 64 img) (λ p q e f. simp (e, f))

  module _ (buffer : List ℕ) where
    pub copy_same : (p : ℕ) → copy_answer 64 img (page_number p) buffer ≡ copy_answer 64 img p buffer
    unfolding copy_answer
    copy_same = same_at (λ p. copy_answer 64 img p buffer) (λ p q e f. simp (e, f))

    -- a refusal leaves the buffer
    left : (p : ℕ) → is_page 64 p ≡ false → copy_buffer 64 img p buffer ≡ buffer
    unfolding copy_answer copy_buffer
    left p e = grind (arith, e)

    pub copied_same : (p : ℕ) → copy_buffer 64 img (page_number p) buffer ≡ copy_buffer 64 img p buffer
    copied_same = same_at (λ p. copy_buffer 64 img p buffer) (λ p q e f. left p e ∙ sym (left q f))
