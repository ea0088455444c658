-- Decimal numbers as text: the bytes of ASCII, where 48 to 57 are the digits and 45 is the minus.
use Rattle.std.specs.Prelude.{ℕ, ◌+◌, ◌-◌, ◌*◌, Bool, false, cond, ◌&&◌, List, [], ◌∷◌, Option, Some, None, eqb, leb, ℤ, pos, neg_ℤ, length, drop, option_map}

unfoldable pub is_digit : ℕ → Bool
is_digit b = leb 48 b && leb b 57

-- the number that digits write, after those that write v; none where a byte is no digit
unfoldable pub digits_from : ℕ → List ℕ → Option ℕ
digits_from v [] = Some v
digits_from v (b ∷ bs) = cond (is_digit b) (digits_from (10 * v + (b - 48)) bs) None

-- a number without a sign: one to nine digits
unfoldable pub natural_of : List ℕ → Option ℕ
natural_of text = cond (leb 1 (length text) && leb (length text) 9) (digits_from 0 text) None

-- a minus stands first
unfoldable pub is_negative : List ℕ → Bool
is_negative [] = false
is_negative (b ∷ bs) = eqb b 45

abbrev pub plus : Option ℕ → Option ℤ
plus number = option_map pos number

abbrev pub minus : Option ℕ → Option ℤ
minus number = option_map (λ x. neg_ℤ (pos x)) number

-- a number with a minus in front or without: one to nine digits after it
unfoldable pub integer_of : List ℕ → Option ℤ
integer_of text = cond (is_negative text) (minus (natural_of (drop 1 text))) (plus (natural_of text))
