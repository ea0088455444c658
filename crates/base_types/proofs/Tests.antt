-- Tests taken apart.
use Prim.Native.Nat.{ℕ}
use mathlib.Core.Bool.{Bool, true, false, not, cond, ◌&&◌}
use mathlib.Core.Path.{◌≡◌, refl, sym}
use lib.Dec.{ltb, leb}
use borrow.Author.Tests.{lt-leb, le-leb, ltb-true, ltb-false}

-- two tests, one after the other: both hold, or the second alone
pub both : (t x : Bool) → cond t x false ≡ true → (t ≡ true) × (x ≡ true)
both true x h = (refl, h)
both false x h = (h, cc)

pub neither : (t x : Bool) → cond t false x ≡ true → (t ≡ false) × (x ≡ true)
neither true x h = (sym h, cc)
neither false x h = (refl, h)

-- two tests joined
pub and_left : (p q : Bool) → (p && q) ≡ true → p ≡ true
and_left true q e = refl
and_left false q e = e

pub and_right : (p q : Bool) → (p && q) ≡ true → q ≡ true
and_right true q e = e
and_right false q e = cc

pub and_true : (p : Bool) → (p && true) ≡ p
and_true true = refl
and_true false = refl

pub and_assoc : (p q r : Bool) → ((p && q) && r) ≡ (p && (q && r))
and_assoc true q r = refl
and_assoc false q r = refl

-- what holds of both cases of a test
pub either : {A : Type 0} (P : A → Type 0) (t : Bool) (x y : A) → (t ≡ true → P x) → (t ≡ false → P y) → P (cond t x y)
either P true x y f g = f refl
either P false x y f g = g refl

-- no page is a number from the page count on
pub beyond : (n x : ℕ) → not (ltb x n) ≡ leb n x
beyond n x = go (ltb x n) refl
  where
    go : (t : Bool) → ltb x n ≡ t → not t ≡ leb n x
    go true e = sym (lt-leb n x (ltb-true x n e))
    go false e = sym (le-leb n x (ltb-false x n e))

pub cond_true : (t x : Bool) → cond t x false ≡ true → x ≡ true
cond_true t x h = (both t x h).1

pub cond_right : (t x : Bool) → cond t false x ≡ true → x ≡ true
cond_right t x h = (neither t x h).1

pub cond_left : (t x : Bool) → cond t false x ≡ true → t ≡ false
cond_left t x h = (neither t x h).0
