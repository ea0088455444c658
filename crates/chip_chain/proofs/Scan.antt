-- What the first page that passes a test means.
use Prim.Native.Nat.{ℕ, zero, suc, ◌+◌, ◌<◌, ◌≤◌}
use mathlib.Core.Path.{◌≡◌, refl, sym, ap, ◌∙◌}
use mathlib.Core.Bool.{Bool, true, false}
use mathlib.Core.Logic.{⊎_elim}
use native.Mathlib.Omega.{arith}
use native.Mathlib.Nat.{eq-or-lt_of_le}
use Rattle.base_types.specs.declared.address.Page.{Page}
use Rattle.std.specs.Prelude.{Option, Some, None}
use Rattle.chip_chain.specs.Scan.{first}

module _ (t : ℕ → Bool) where
  -- x is the first of the numbers from q on at which t holds
  pub record First (k q x : ℕ) : Type 0 where
    pub holds : t x ≡ true
    pub low : q ≤ x
    pub high : x < q + k
    pub before : (i : ℕ) → q ≤ i → i < x → t i ≡ false

  pub first_at : (k q x : ℕ) → first t k q ≡ Some (record { 0 = x }) → First k q x
  unfolding first
  first_at zero q x e = absurd (cc)
  first_at (suc k) q x e = go (t q) refl (first_at k (q + 1) x)
    where
      go : (b : Bool) → t q ≡ b → (first t k (q + 1) ≡ Some (record { 0 = x }) → First k (q + 1) x) → First (suc k) q x
      go true s ih =
          let r : ◌≡◌ {A = Option Page} (Some (record { 0 = q })) (Some (record { 0 = x })) = rw s at e in
          let p : ◌≡◌ {A = Page} (record { 0 = q }) (record { 0 = x }) = cc in
          let z : q ≡ x = ap (λ (w : Page). w.0) p in
          record { holds = ap t (sym z) ∙ s; low = omega arith; high = omega arith; before = λ i a b. absurd (omega arith) }
      go false s ih =
          let r : first t k (q + 1) ≡ Some (record { 0 = x }) = rw s at e in
          let f = ih r in
          record {
            holds = f.holds;
            low = omega arith;
            high = omega arith;
            before = λ i a b. ⊎_elim (λ (z : q ≡ i). ap t (sym z) ∙ s) (λ (z : q < i). f.before i (omega arith) b) (eq-or-lt_of_le a);
          }

  pub first_nothing : (k q : ℕ) → first t k q ≡ None → (i : ℕ) → q ≤ i → i < q + k → t i ≡ false
  unfolding first
  first_nothing zero q e i le lt = absurd (omega arith)
  first_nothing (suc k) q e i le lt = go (t q) refl (λ r. first_nothing k (q + 1) r)
    where
      go : (b : Bool) → t q ≡ b → (first t k (q + 1) ≡ None → (i : ℕ) → q + 1 ≤ i → i < q + 1 + k → t i ≡ false) → t i ≡ false
      go true s ih = let r : ◌≡◌ {A = Option Page} (Some (record { 0 = q })) None = rw s at e in absurd (cc)
      go false s ih =
          let r : first t k (q + 1) ≡ None = rw s at e in
          ⊎_elim (λ (z : q ≡ i). ap t (sym z) ∙ s) (λ (z : q < i). ih r i (omega arith) (omega arith)) (eq-or-lt_of_le le)
