-- The number and the image of a sheet fit into buffers of their lengths.
use Prim.Native.Nat.{ℕ}
use mathlib.Core.Path.{◌≡◌, sym, ◌∙◌}
use mathlib.Core.Bool.{true}
use mathlib.Core.List.{List}
use lib.ListN.{length}
use borrow.Author.Tests.{eqb-true}
use Rattle.chip_memory.specs.Layout.{image_size, is_image}
use Rattle.chip_memory.specs.Page.{copied}
use Rattle.chip_memory.proofs.Pages.{copied_same}
use Rattle.plug_sheet.specs.Stored.{is_sheet, number_part, image_part}
use Rattle.plug_sheet.proofs.Sheets.{sheet_laws}
use Rattle.plug_answers.specs.Answers.{is_number_buffer}

module _ (sheet : List ℕ) (e : is_sheet 64 sheet ≡ true) where
  pub number_fits : (number : List ℕ) → is_number_buffer number ≡ true → length number ≡ length (number_part 64 sheet)
  unfolding is_number_buffer
  number_fits number eight = eqb-true (length number) 8 eight ∙ sym ((sheet_laws 64).number_length sheet e)

  pub image_fits : (img : List ℕ) → is_image 64 img ≡ true → length img ≡ length (image_part 64 sheet)
  unfolding is_image
  image_fits img sized =
      eqb-true (length img) (image_size 64) sized ∙ sym (eqb-true (length (image_part 64 sheet)) (image_size 64) ((sheet_laws 64).image_length sheet e))

  -- so what is copied there is all of them
  pub number_copied : (number : List ℕ) → is_number_buffer number ≡ true → copied (number_part 64 sheet) number ≡ number_part 64 sheet
  number_copied number eight = copied_same (number_part 64 sheet) number (sym (number_fits number eight))

  pub image_copied : (img : List ℕ) → is_image 64 img ≡ true → copied (image_part 64 sheet) img ≡ image_part 64 sheet
  image_copied img sized = copied_same (image_part 64 sheet) img (sym (image_fits img sized))
