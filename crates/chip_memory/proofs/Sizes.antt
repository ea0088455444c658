-- What the tests of sizes say: an image is as long as it should be, a page is at most the last one; and where the fields of bits lie.
use Prim.Native.Nat.{ℕ, ◌≤◌, ◌<◌}
use mathlib.Core.Path.{◌≡◌}
use lib.ListN.{length}
use mathlib.Core.Bool.{true}
use mathlib.Core.List.{List}
use borrow.Author.Tests.{eqb-true, ltb-true}
use native.Mathlib.Omega.{arith}
use Rattle.chip_memory.specs.declared.layout.Field.{Field}
use Rattle.chip_memory.specs.declared.layout.Field.TheVariants.{DataProtection, RedirectionProtection, UsedPages}
use Rattle.chip_memory.specs.Layout.{first_address, image_size, is_image, is_page}

pub image_length : (n : ℕ) (img : List ℕ) → is_image n img ≡ true → length img ≡ image_size n
unfolding is_image
image_length n img e = eqb-true _ _ e

pub page_below : (n p : ℕ) → is_page n p ≡ true → p < n
unfolding is_page
page_below n p e = ltb-true _ _ e

pub first_low : (f : Field) → first_address f ≤ 64
unfolding first_address
first_low DataProtection = omega arith
first_low RedirectionProtection = omega arith
first_low UsedPages = omega arith
