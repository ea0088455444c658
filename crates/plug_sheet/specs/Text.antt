-- Text as bytes, and bytes put into a buffer.
use Rattle.std.specs.Prelude.{ℕ, ◌+◌, ◌*◌, ◌-◌, ◌/◌, ◌%◌, ◌<◌, ◌≡◌, cond, List, [], ◌∷◌, ◌++◌, ltb, take, drop}
use Rattle.chip_memory.specs.Page.{copied}

-- a buffer with these bytes put over its own from place at on, as far as both go
unfoldable pub put_at : ℕ → List ℕ → List ℕ → List ℕ
put_at at bytes buffer = take at buffer ++ copied bytes (drop at buffer)

-- the last decimal digit of x, as ASCII has it
unfoldable pub digit_of : ℕ → ℕ
digit_of x = 48 + x % 10

-- a number below 1,000 in decimal, with no leading zero
unfoldable pub decimal : ℕ → List ℕ
decimal x =
    cond (ltb x 10) (digit_of x ∷ [])
    (cond (ltb x 100) (digit_of (x / 10) ∷ digit_of x ∷ [])
    (digit_of (x / 100) ∷ digit_of (x / 10) ∷ digit_of x ∷ []))

-- the number that digits write, after the number v
abbrev pub value_from : ℕ → List ℕ → ℕ
value_from v [] = v
value_from v (d ∷ ds) = value_from (10 * v + (d - 48)) ds

pub record DecimalLaws : Type 0 where
  -- the digits of a number below 1,000 write that number
  pub means : (x : ℕ) → x < 1000 → value_from 0 (decimal x) ≡ x
  -- the first digit is 0 for the number 0 alone
  pub leading : (x : ℕ) (ds : List ℕ) → x < 1000 → decimal x ≡ 48 ∷ ds → x ≡ 0
