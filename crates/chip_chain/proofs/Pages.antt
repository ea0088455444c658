-- The pages of a chip, `0..=last`, one after the other, and what the iterators tell of a test of each.
use Prim.Native.Nat.{ℕ, zero, suc, ◌+◌, ◌-◌}
use mathlib.Core.Path.{◌≡◌, refl, ap, ◌∙◌}
use mathlib.Core.Bool.{Bool, true, false, cond}
use mathlib.Core.List.{◌∷◌, map}
use native.Mathlib.Omega.{arith}
use lib.ListN.{length}
use Rattle.std.specs.Prelude.{Some, filter}
use Rattle.std.specs.List.{range_with_len, find}
use Rattle.std.specs.Iterator.{AlwaysYields}
use Rattle.std.specs.Range.{range_inclusive_left, range_inclusive_len, range_inclusive_start, range_inclusive_end, range_inclusive_exhausted}
use Rattle.std.specs.declared.ops.RangeInclusive.{RangeInclusive}
use Rattle.std.proofs.iter.runs.Sources.{nat_range_inclusive_steps}
use Rattle.std.proofs.lemmas.Iterator.{YieldsList}
use Rattle.base_types.specs.declared.address.Page.{Page}
use Rattle.base_types.specs.Scan.{count}
use Rattle.base_types.proofs.Scan.{every_fails, every_goes_on, every_over}
use Rattle.chip_chain.specs.Scan.{first}

-- how many numbers a range has left
abbrev left : RangeInclusive ℕ → ℕ
left = range_inclusive_left (λ x y. y - x)

yields : (n a : ℕ) (s : RangeInclusive ℕ) → left s ≡ n → (range_inclusive_exhausted s ≡ false → range_inclusive_start s ≡ a)
    → AlwaysYields nat_range_inclusive_steps (λ x. x) s (range_with_len a n)
yields zero a s e f = λ x j p. omega (arith, p.1.1)
yields (suc n) a s e f = (λ j p. omega (arith, p.1.0), λ x j p. go x j p (range_inclusive_exhausted s) refl (yields n (a + 1) j (omega (arith, p.1.1))))
  where
    go : (x : ℕ) (j : RangeInclusive ℕ) (p : nat_range_inclusive_steps s (Some x) j) (b : Bool) → range_inclusive_exhausted s ≡ b
        → ((range_inclusive_exhausted j ≡ false → range_inclusive_start j ≡ a + 1) → AlwaysYields nat_range_inclusive_steps (λ x. x) j (range_with_len (a + 1) n))
        → (x ≡ a) × AlwaysYields nat_range_inclusive_steps (λ x. x) j (range_with_len (a + 1) n)
    go x j p true z rest = absurd (omega (arith, e, ap (range_inclusive_len (λ x y. y - x) (range_inclusive_start s) (range_inclusive_end s)) z))
    go x j p false z rest = (p.1.0 ∙ f z, rest (λ w. p.1.2 w ∙ ap (λ k. k + 1) (f z)))

-- the numbers of the pages up to the last one
pub all_pages : {s : RangeInclusive ℕ} (last : ℕ) → range_inclusive_start s ≡ 0 → range_inclusive_end s ≡ last → range_inclusive_exhausted s ≡ false
    → YieldsList nat_range_inclusive_steps (λ x. x) s (range_with_len 0 (last + 1))
all_pages {s} last a b e = record { runs = yields (last + 1) 0 s (omega (arith, ap (range_inclusive_len (λ x y. y - x) (range_inclusive_start s) (range_inclusive_end s)) e)) (λ z. a) }

-- what the iterators tell of the numbers from q on
module _ (t : ℕ → Bool) where
  pub filtered_count : (k q : ℕ) → length (filter t (range_with_len q k)) ≡ count t k q
  unfolding count
  filtered_count zero q = refl
  filtered_count (suc k) q = go (t q) (filtered_count k (q + 1))
    where
      go : (b : Bool) → length (filter t (range_with_len (q + 1) k)) ≡ count t k (q + 1)
          → length (cond b (q ∷ filter t (range_with_len (q + 1) k)) (filter t (range_with_len (q + 1) k))) ≡ cond b (count t k (q + 1) + 1) (count t k (q + 1))
      go true e = omega (arith, e)
      go false e = e

  pub found_first : (k q : ℕ) → find (λ (p : Page). t p.0) (map (λ q. record { 0 = q }) (range_with_len q k)) ≡ first t k q
  unfolding first
  found_first zero q = refl
  found_first (suc k) q = ap (cond (t q) (Some (record { 0 = q }))) (found_first k (q + 1))

-- one step of a loop that asks whether all pages pass
pub ruleset every_step = (every_fails, every_goes_on, every_over)
