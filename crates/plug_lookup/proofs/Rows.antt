-- Tests over a range of numbers, and the search for a row, as the chains of the code tell them.
use Prim.Native.Nat.{ℕ, zero, suc, ◌+◌}
use mathlib.Core.Path.{◌≡◌, refl, ap, ◌∙◌}
use mathlib.Core.Bool.{Bool}
use mathlib.Core.List.{List}
use native.Mathlib.Omega.{arith}
use lib.IntN.{ℤ}
use Rattle.std.specs.List.{list_all, range_with_len, find}
use Rattle.std.specs.Prelude.{Option, Some, None, option_map}
use Rattle.std.specs.Option.{ok_or}
use Rattle.base_types.specs.declared.refusal.Refusal.TheVariants.{Latitude}
use Rattle.base_types.specs.Outcome.{outcome_of}
use Rattle.base_types.specs.Scan.{every}
use Rattle.plug_lookup.specs.Header.{covers, row_from}

-- a test of all the numbers of a range
pub all_is_every : (t : ℕ → Bool) (k q : ℕ) → list_all t (range_with_len q k) ≡ every t k q
unfolding every
all_is_every t zero q = refl
all_is_every t (suc k) q = simp (all_is_every t k (q + 1)) refl

-- the first number of a range that covers the latitude
pub first_is_row : (header : List ℕ) (latitude : ℤ) (k q : ℕ) (r : Option ℕ) → option_map (λ x. x) r ≡ find (covers header latitude) (range_with_len q k)
    → outcome_of (ok_or r Latitude) ≡ row_from header latitude k q
unfolding row_from
first_is_row header latitude k q r e = ap (λ (o : Option ℕ). outcome_of (ok_or o Latitude)) (same r ∙ e) ∙ row k q
  where
    same : (o : Option ℕ) → o ≡ option_map (λ x. x) o
    same None = refl
    same (Some x) = refl

    row : (k q : ℕ) → outcome_of (ok_or (find (covers header latitude) (range_with_len q k)) Latitude) ≡ row_from header latitude k q
    row zero q = refl
    row (suc k) q = grind (arith, row k (q + 1))
