-- Digits, as a loop that goes along the text reads them.
use Prim.Native.Nat.{ℕ, ◌+◌, ◌-◌, ◌*◌, ◌^◌, ◌<◌, ◌≤◌}
use mathlib.Core.Path.{◌≡◌, refl, sym, ◌∙◌}
use mathlib.Core.Bool.{true, false, cond}
use mathlib.Core.List.{List, [], ◌∷◌}
use native.Mathlib.Nat.{pow-suc, pow-le-pow_right}
use native.Mathlib.Numerals.{add-one}
use native.Mathlib.Omega.{arith}
use lib.Dec.{eqb, lit<}
use lib.ListN.{length, get_or, take, drop, drop_of_length-le}
use lib.Pointwise.{pointwise}
use lib.Seq.{drop-cons}
use Rattle.std.specs.Prelude.{Some, None}
use Rattle.program_text.specs.Numeral.{is_digit, digits_from, natural_of, is_negative, plus, minus, integer_of}

pub digits_step : (v : ℕ) (text : List ℕ) (i : ℕ) → i < length text
    → digits_from v (drop i text) ≡ cond (is_digit (get_or text i 0)) (digits_from (10 * v + (get_or text i 0 - 48)) (drop (i + 1) text)) None
unfolding digits_from
digits_step v text i h = rw (add-one, drop-cons text i 0)

pub digits_end : (v : ℕ) (text : List ℕ) (i : ℕ) → length text ≤ i → digits_from v (drop i text) ≡ Some v
unfolding digits_from
digits_end v text i h = rw (drop_of_length-le text h)

-- the number of i digits is below 10 ^ i
pub next_below : (v i d : ℕ) → v < 10 ^ i → d < 10 → 10 * v + d < 10 ^ (i + 1)
next_below v i d h k = rw (add-one, pow-suc) (omega arith)

pub eight_below : (v i : ℕ) → v < 10 ^ i → i < 9 → v < 100000000
eight_below v i h k =
    let few : i ≤ 8 = omega arith in
    let p : 10 ^ i ≤ 10 ^ 8 = pow-le-pow_right (lit< tt) few in
    omega arith

-- ---- the minus

first_is : (text : List ℕ) → pointwise eqb (take 1 text) (45 ∷ []) ≡ is_negative text
unfolding is_negative
first_is [] = refl
first_is (b ∷ bs) = grind arith

pub minus_first : (text : List ℕ) → pointwise eqb (take 1 text) (45 ∷ []) ≡ true → integer_of text ≡ minus (natural_of (drop 1 text))
unfolding integer_of
minus_first text e = simp (sym (first_is text) ∙ e)

pub minus_not_first : (text : List ℕ) → pointwise eqb (take 1 text) (45 ∷ []) ≡ false → integer_of text ≡ plus (natural_of text)
unfolding integer_of
minus_not_first text e = simp (sym (first_is text) ∙ e)
