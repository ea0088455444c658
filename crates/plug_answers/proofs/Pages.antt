-- A page number that no byte holds is asked for as 255: both are no page of the chip, and so draw the same.
use Prim.Native.Nat.{ℕ}
use mathlib.Core.Path.{◌≡◌, refl}
use mathlib.Core.Bool.{Bool, true, false, cond}
use native.Mathlib.Omega.{arith}
use lib.Dec.{ltb}
use borrow.Author.Tests.{ltb-false, le-ltb}
use Rattle.chip_memory.specs.Layout.{is_page}
use Rattle.plug_answers.specs.Calls.{page_number}

-- what is the same of every number that is no page
pub same_at : {A : Type 0} (f : ℕ → A) → ((p q : ℕ) → is_page 64 p ≡ false → is_page 64 q ≡ false → f p ≡ f q) → (p : ℕ) → f (page_number p) ≡ f p
unfolding is_page
same_at f same p = go (ltb p 256) refl
  where
    go : (b : Bool) → ltb p 256 ≡ b → f (cond b p 255) ≡ f p
    go true e = refl
    go false e = same 255 p refl (le-ltb p 64 (omega (arith, ltb-false p 256 e)))
