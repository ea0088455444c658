-- Tests over a range of numbers: as a loop that goes up sees them, and what they mean.
use Prim.Native.Nat.{ℕ, zero, suc, ◌+◌, ◌-◌, ◌<◌, ◌≤◌}
use mathlib.Core.Path.{◌≡◌, refl, sym, ap, ◌∙◌}
use mathlib.Core.Bool.{Bool, true, false, ◌&&◌}
use mathlib.Core.Logic.{⊎_elim}
use native.Mathlib.Omega.{arith}
use native.Mathlib.Nat.{eq-or-lt_of_le}
use Rattle.base_types.specs.Scan.{every}

-- one turn of a loop over the numbers below n
module _ (t : ℕ → Bool) (n i : ℕ) where
  ahead : i < n → n - i ≡ suc (n - (i + 1))
  ahead lt = omega arith

  pub every_fails : i < n → t i ≡ false → every t (n - i) i ≡ false
  unfolding every
  every_fails lt e = rw (ahead lt) (simp e)

  pub every_goes_on : i < n → t i ≡ true → every t (n - i) i ≡ every t (n - (i + 1)) (i + 1)
  unfolding every
  every_goes_on lt e = ap (λ k. every t k i) (ahead lt) ∙ simp e

  pub every_over : n ≤ i → every t (n - i) i ≡ true
  unfolding every
  every_over le = let e : n - i ≡ 0 = omega arith in ap (λ k. every t k i) e

-- what the tests mean
pub both_true : (a b : Bool) → (a && b) ≡ true → (a ≡ true) × (b ≡ true)
both_true true b e = (refl, e)
both_true false b e = (e, cc)

pub both_intro : (a b : Bool) → a ≡ true → b ≡ true → (a && b) ≡ true
both_intro a b e f = simp (e, f)

module _ (t : ℕ → Bool) where
  pub every_means : (k q : ℕ) → every t k q ≡ true → (i : ℕ) → q ≤ i → i < q + k → t i ≡ true
  unfolding every
  every_means zero q e i le lt = absurd (omega arith)
  every_means (suc k) q e i le lt =
      let w = both_true (t q) (every t k (q + 1)) e in
      ⊎_elim (λ (s : q ≡ i). ap t (sym s) ∙ w.0) (λ (s : q < i). every_means k (q + 1) w.1 i (omega arith) (omega arith)) (eq-or-lt_of_le le)

  pub every_intro : (k q : ℕ) → ((i : ℕ) → q ≤ i → i < q + k → t i ≡ true) → every t k q ≡ true
  unfolding every
  every_intro zero q f = refl
  every_intro (suc k) q f = both_intro (t q) (every t k (q + 1)) (f q (omega arith) (omega arith)) (every_intro k (q + 1) (λ i a b. f i (omega arith) (omega arith)))
