-- Values, and how large they are.
use Prim.Native.Nat.{ℕ, suc, ◌+◌, ◌-◌, ◌≤◌}
use mathlib.Core.Bool.{Bool, true, false, cond}
use mathlib.Core.Path.{◌≡◌, refl}
use native.Mathlib.Omega.{arith}
use lib.Dec.{ltb}
use lib.IntN.{ℤ, pos, negsuc, sub_ℕ, ◌-ℤ◌}
use lib.Signed.{mag}
use mir.Syntax.{w32}
use mir.Val.{SFits}
use borrow.Author.Tests.{ltb-true, ltb-false}
use Rattle.std.proofs.lemmas.Int.{ints}
use Rattle.base_tenths.specs.Tenths.{signed_of, low_bits, is_value}

-- a difference of two naturals, by which is less
sub_bound : (a b : ℕ) (t : Bool) → ltb a b ≡ t → (k : ℕ) → (b ≤ suc (a + k)) → (a ≤ b + k) → mag (cond t (negsuc (b - suc a)) (pos (a - b))) ≤ k
sub_bound a b true e k h g = omega (arith, ltb-true a b e)
sub_bound a b false e k h g = omega (arith, ltb-false a b e)

pub mag_sub : (a b k : ℕ) → b ≤ suc (a + k) → a ≤ b + k → mag (sub_ℕ a b) ≤ k
mag_sub a b k h g = sub_bound a b (ltb a b) refl k h g

-- a value is a number of which mag, n both for n and for -(n + 1), is at most 1799
pub value_mag : (v : ℤ) → is_value v ≡ true → mag v ≤ 1799
unfolding is_value
value_mag v e = grind (arith, ints)

-- two values differ by a turn at most
pub difference_mag : (old new : ℤ) → is_value old ≡ true → is_value new ≡ true → mag (new -ℤ old) ≤ 3599
unfolding is_value
difference_mag old new e f = grind (arith, ints)

pub difference_fits : (old new : ℤ) → is_value old ≡ true → is_value new ≡ true → SFits w32 (new -ℤ old)
difference_fits old new e f = record { sfits = omega (arith, difference_mag old new e f) }

-- the low sixteen bits by the sign, and back
pub low_back : (v : ℤ) → mag v ≤ 1799 → signed_of (low_bits v) ≡ v
unfolding low_bits signed_of
low_back v h = grind (arith, ints)
