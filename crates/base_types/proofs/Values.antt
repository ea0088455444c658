-- The number that bits write.
use Prim.Native.Nat.{ℕ, zero, suc, ◌+◌, ◌*◌, ◌/◌, ◌%◌, ◌^◌, ◌<◌, ◌≤◌}
use mathlib.Core.Bool.{Bool, true, false}
use mathlib.Core.List.{List, [], ◌∷◌}
use mathlib.Core.Path.{◌≡◌, refl, sym, ap, ap₂, ◌∙◌}
use native.Mathlib.Omega.{arith}
use native.Mathlib.Nat.{pow-succ'}
use lib.Dec.{eqb}
use lib.ListN.{length}
use borrow.Author.Tests.{eq-eqb, ne_eqb, eqb-true, eqb-false}
use Rattle.base_types.specs.Bits.{one, odd, bits_of}

-- least significant bit first
abbrev pub value_of : List Bool → ℕ
value_of [] = 0
value_of (b ∷ bs) = one b + 2 * value_of bs

pub one_le : (b : Bool) → one b ≤ 1
one_le true = omega arith
one_le false = omega arith

pub odd_of : (b : Bool) (v : ℕ) → odd (one b + 2 * v) ≡ b
odd_of true v = eq-eqb ((1 + 2 * v) % 2) 1 (omega arith)
odd_of false v = ne_eqb ((0 + 2 * v) % 2) 1 (λ e. omega arith)

bits_value : (bs : List Bool) → bits_of (length bs) (value_of bs) ≡ bs
unfolding bits_of
bits_value [] = refl
bits_value (b ∷ bs) =
    let h : (one b + 2 * value_of bs) / 2 ≡ value_of bs = omega (arith, one_le b) in
    ap₂ (λ (x : Bool) (y : List Bool). x ∷ y) (odd_of b (value_of bs)) (ap (bits_of (length bs)) h ∙ bits_value bs)

pub value_below : (bs : List Bool) → value_of bs < 2 ^ length bs
value_below [] = omega arith
value_below (b ∷ bs) = omega (arith, one_le b, value_below bs, pow-succ' 2 (length bs))

pub one_odd : (v : ℕ) → one (odd v) ≡ v % 2
one_odd v = go (eqb (v % 2) 1) refl
  where
    go : (t : Bool) → eqb (v % 2) 1 ≡ t → one t ≡ v % 2
    go true e = omega (arith, eqb-true (v % 2) 1 e)
    go false e = omega (arith, eqb-false (v % 2) 1 e)

-- a number is the one that its bits write ..
pub value_of_lem : (n v : ℕ) → v < 2 ^ n → value_of (bits_of n v) ≡ v
unfolding bits_of
value_of_lem zero v h = omega arith
value_of_lem (suc n) v h =
    let r : value_of (bits_of n (v / 2)) ≡ v / 2 = value_of_lem n (v / 2) (omega (arith, pow-succ' 2 n)) in
    omega (arith, one_odd v)

-- .. so that its bits tell it from every other
pub bits_tell : (n v w : ℕ) → v < 2 ^ n → w < 2 ^ n → bits_of n v ≡ bits_of n w → v ≡ w
bits_tell n v w hv hw e = sym (value_of_lem n v hv) ∙ ap value_of e ∙ value_of_lem n w hw
