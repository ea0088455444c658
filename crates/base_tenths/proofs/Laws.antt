-- The laws of the signed tenths.
use Prim.Native.Nat.{ℕ, ◌<◌, ◌≤◌}
use mathlib.Core.Bool.{Bool, true, false, cond, ◌&&◌}
use mathlib.Core.Path.{◌≡◌, refl}
use native.Mathlib.Omega.{arith}
use lib.IntN.{ℤ, pos, negsuc, ◌+ℤ◌, ◌-ℤ◌}
use lib.Signed.{mag, lt_z}
use mir.Syntax.{w16}
use mir.Val.{to_z}
use Rattle.std.proofs.lemmas.Int.{ints}
use Rattle.base_types.specs.Outcome.{accepted, judge}
use Rattle.base_tenths.specs.Tenths.{signed_of, least, greatest, is_value, Folds, fold_of, change_answer, TenthsLaws}
use Rattle.base_tenths.proofs.Integers.{value_mag, difference_mag, low_back}

two's_complement : (x : ℕ) → x < 0x10000 → signed_of x ≡ to_z w16 x
unfolding signed_of
two's_complement x h = grind (arith, ints)

-- ---- the change is a fold

fold_folds : (x : ℤ) → mag x ≤ 3599 → Folds x (fold_of x)
unfolding fold_of is_value
fold_folds x h = go (lt_z x least) (lt_z greatest x) refl refl
  where
    go : (t u : Bool) → lt_z x least ≡ t → lt_z greatest x ≡ u → Folds x (cond t (x +ℤ pos 3600) (cond u (x -ℤ pos 3600) x))
    go true u e f = record { turns = negsuc 0; congruent = grind (arith, ints); within = grind (arith, ints) }
    go false true e f = record { turns = pos 1; congruent = grind (arith, ints); within = grind (arith, ints) }
    go false false e f = record { turns = pos 0; congruent = grind (arith, ints); within = grind (arith, ints) }

pub folds : (old new d : ℤ) → change_answer old new ≡ accepted d → Folds (new -ℤ old) d
unfolding change_answer
folds old new d told = go (is_value old) (is_value new) refl refl told
  where
    go : (t u : Bool) → is_value old ≡ t → is_value new ≡ u → judge (t && u) 19 (accepted (fold_of (new -ℤ old))) ≡ accepted d → Folds (new -ℤ old) d
    go true true e f k = let s : fold_of (new -ℤ old) ≡ d = cc in rw s at (fold_folds (new -ℤ old) (difference_mag old new e f))
    go true false e f k = absurd cc
    go false u e f k = absurd cc

-- ---- there is one fold

folds_once : (x d e : ℤ) → Folds x d → Folds x e → d ≡ e
folds_once x d e f g = omega (arith, ints, f.congruent, g.congruent, value_mag d f.within, value_mag e g.within)

pub tenths_laws : TenthsLaws
tenths_laws = record { two's_complement = two's_complement; back = λ v e. low_back v (value_mag v e); folds = folds; one = folds_once }
