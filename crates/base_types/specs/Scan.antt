-- Numbers one after the other: tests at each of them, and the values of a function.
use Rattle.std.specs.Prelude.{ℕ, zero, suc, ◌+◌, Bool, true, cond, ◌&&◌, List, [], ◌∷◌}

-- the test t holds at each of the k numbers from q on
unfoldable pub every : (ℕ → Bool) → ℕ → ℕ → Bool
every t zero q = true
every t (suc k) q = let rest : Bool = every t k (q + 1) in t q && rest

-- at how many of the k numbers from q on t holds
unfoldable pub count : (ℕ → Bool) → ℕ → ℕ → ℕ
count t zero q = 0
count t (suc k) q = let rest : ℕ = count t k (q + 1) in cond (t q) (rest + 1) rest

-- the values of f at the n numbers from k on
unfoldable pub values_from : (ℕ → ℕ) → ℕ → ℕ → List ℕ
values_from f k zero = []
values_from f k (suc n) = f k ∷ values_from f (k + 1) n
