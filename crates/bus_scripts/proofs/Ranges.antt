-- The test that a read has some bits still out and not more than all, and a further test after it.
use Prim.Native.Nat.{ℕ, ◌-◌, ◌<◌}
use mathlib.Core.Bool.{Bool, true, false, cond}
use mathlib.Core.Path.{◌≡◌}
use native.Mathlib.Omega.{arith}
use lib.Dec.{ltb}
use borrow.Author.Tests.{le-ltb, ltb-false}
use Rattle.base_types.proofs.Tests.{neither}
use Rattle.bus_scripts.specs.Ranges.{StillOut}

module _ (all : ℕ) (rest : Bool) where
  abbrev is_out : ℕ → Bool
  is_out left = cond (ltb left 1) false (cond (ltb all left) false rest)

  pub out_means : (left : ℕ) → is_out left ≡ true → StillOut left all × (rest ≡ true)
  out_means left h =
      let a = neither (ltb left 1) _ h in
      let b = neither (ltb all left) _ a.1 in
      (record { some = ltb-false left 1 a.0; most = ltb-false all left b.0 }, b.1)

  pub out_is : (left : ℕ) → StillOut left all → rest ≡ true → is_out left ≡ true
  out_is left o r = simp (le-ltb left 1 o.some, le-ltb all left o.most) r

  pub one_less : (left : ℕ) → 1 < left → is_out left ≡ true → is_out (left - 1) ≡ true
  one_less left l h =
      let o = out_means left h in
      out_is (left - 1) (record { some = omega arith; most = omega (arith, o.0.most) }) o.1
