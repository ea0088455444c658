-- The first page that passes a test.
use Rattle.std.specs.Prelude.{ℕ, zero, suc, ◌+◌, Bool, cond, Option, Some, None}
use Rattle.base_types.specs.declared.address.Page.{Page}

-- the first of the k pages from q on at which t holds
unfoldable pub first : (ℕ → Bool) → ℕ → ℕ → Option Page
first t zero q = None
first t (suc k) q = let rest : Option Page = first t k (q + 1) in cond (t q) (Some (record { 0 = q })) rest
