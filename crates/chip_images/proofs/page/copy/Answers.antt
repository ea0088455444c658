use Prim.Native.Nat.{ℕ}
use mathlib.Core.Path.{sym, ap, ◌∙◌}
use mathlib.Core.List.{List}
use borrow.Author.Tests.{eq-eqb}
use Rattle.chip_memory.specs.Image.{page_bytes}
use Rattle.chip_memory.specs.Page.{copied}
use Rattle.chip_memory.proofs.Pages.{page_length, copied_same}
use Rattle.chip_memory.proofs.Sizes.{image_length, page_below}
use Rattle.chip_images.specs.Page.{copy_answer, copy_buffer}
use Rattle.chip_images.proofs.page.copy.Goals as goal

-- the image and the page are those of the chip, so that the page has as many bytes as the buffer
pub returns-clause-buffer : goal.returns-clause-buffer
unfolding copy_answer copy_buffer
returns-clause-buffer c = let i = sym c.is_image.ensures ∙ c.if-not-is_image.false in
    let p = sym c.is_page.ensures ∙ c.if-not-is_page.false in
    let a = c.args in
    let long = page_length 64 a.image.now a.page.0 (image_length 64 _ i) (page_below 64 _ p) in
    let same = c.copy.ensures ∙ ap (λ (l : List ℕ). copied l a.buffer.now) c.part.ensures ∙
    copied_same (page_bytes a.image.now a.page.0) a.buffer.now (long ∙ sym c.if-buffer-ne32.false) in
    simp (i, eq-eqb _ _ c.if-buffer-ne32.false, p) same
