-- Words in which the ranges of the masters' states are listed.
use Rattle.std.specs.Prelude.{ℕ, ◌≤◌, Bool, true, false, cond, List, [], ◌∷◌, eqb}

-- a number is one of these
abbrev pub among : ℕ → List ℕ → Bool
among x [] = false
among x (y ∷ ys) = cond (eqb x y) true (among x ys)

-- so many bits of all are still out
pub record StillOut (left all : ℕ) : Type 0 where
  pub some : 1 ≤ left
  pub most : left ≤ all
