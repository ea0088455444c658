-- n + 1 different numbers below n: there are none.
use Prim.Native.Nat.{ℕ, zero, suc, ◌<◌, ◌≤◌}
use mathlib.Core.Path.{◌≡◌, refl, sym, ◌∙◌}
use mathlib.Core.Bool.{Bool, true, false, cond}
use native.Mathlib.Omega.{arith}
use lib.Dec.{eqb}
use borrow.Author.Tests.{eqb-true, eqb-false}

-- f with the value m taken by z
swap : ℕ → ℕ → ℕ → ℕ
swap m z x = cond (eqb x m) z x

data Swapped (m z x : ℕ) : Type 0 where
  to : x ≡ m → swap m z x ≡ z → Swapped m z x
  kept : (x ≡ m → ⊥) → swap m z x ≡ x → Swapped m z x

swapped : (m z x : ℕ) → Swapped m z x
unfolding swap
swapped m z x = go (eqb x m) refl
  where
    go : (t : Bool) → eqb x m ≡ t → Swapped m z x
    go true e = to (eqb-true x m e) (simp e)
    go false e = kept (eqb-false x m e) (simp e)

pub pigeon : (n : ℕ) (f : ℕ → ℕ) → ((i : ℕ) → i ≤ n → f i < n) → ((i j : ℕ) → i < j → j ≤ n → f i ≡ f j → ⊥) → ⊥
pigeon zero f below apart = omega (arith, below 0 (omega arith))
pigeon (suc m) f below apart =
    pigeon m (λ i. swap m (f (suc m)) (f i))
    (λ i le. low i le (swapped m (f (suc m)) (f i)))
    (λ i j lt le e. far i j lt le e (swapped m (f (suc m)) (f i)) (swapped m (f (suc m)) (f j)))
  where
    low : (i : ℕ) → i ≤ m → Swapped m (f (suc m)) (f i) → swap m (f (suc m)) (f i) < m
    low i le (to e s) = let d : f (suc m) ≡ m → ⊥ = λ q. apart i (suc m) (omega arith) (omega arith) (e ∙ sym q) in omega (arith, below (suc m) (omega arith))
    low i le (kept d s) = omega (arith, below i (omega arith))

    far : (i j : ℕ) → i < j → j ≤ m → swap m (f (suc m)) (f i) ≡ swap m (f (suc m)) (f j)
        → Swapped m (f (suc m)) (f i) → Swapped m (f (suc m)) (f j) → ⊥
    far i j lt le e (to a s) (to b t) = apart i j lt (omega arith) (omega arith)
    far i j lt le e (to a s) (kept b t) = apart j (suc m) (omega arith) (omega arith) (omega arith)
    far i j lt le e (kept a s) (to b t) = apart i (suc m) (omega arith) (omega arith) (omega arith)
    far i j lt le e (kept a s) (kept b t) = apart i j lt (omega arith) (omega arith)
