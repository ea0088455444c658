-- The decimal form of a number; how long the parts of a list are.
use Prim.Native.Nat.{ℕ, zero, suc, ◌+◌, ◌*◌, ◌/◌, ◌%◌, ◌≤◌, ◌<◌}
use mathlib.Core.Path.{◌≡◌, ◌∙◌}
use mathlib.Core.Bool.{Bool, true, false, cond}
use mathlib.Core.List.{List, [], ◌∷◌}
use native.Mathlib.Decide.{dec_lt}
use native.Mathlib.Nat.{div-div-eq-div-mul}
use native.Mathlib.Omega.{arith}
use lib.ListN.{length, length-append}
use borrow.Author.Tests.{lt-ltb, le-ltb}
use Rattle.base_types.specs.declared.verdict.Verdict.{Verdict}
use Rattle.base_types.specs.declared.verdict.Verdict.TheVariants.{Final, Loop, Outside}
use Rattle.chip_chain.specs.Walk.{walk_of, is_redirected, redirected_count}
use Rattle.chip_chain.specs.Free.{free_count}
use Rattle.plug_sheet.specs.Text.{digit_of, decimal, value_from, DecimalLaws}
use Rattle.plug_sheet.specs.List.{pages_line, final_text, outside_text, verdict_text, verdict_line, page_line, page_lines, counts_line, list_of, refused_line, room_for, ListLaws}

-- ---- the decimal form

three : (a b c : ℕ) → value_from 0 ((48 + a) ∷ (48 + b) ∷ (48 + c) ∷ []) ≡ 100 * a + 10 * b + c
three a b c = omega arith

module _ (x : ℕ) where
  pub decimal_one : x < 10 → decimal x ≡ digit_of x ∷ []
  unfolding decimal
  decimal_one h = simp (lt-ltb x 10 h)

  pub decimal_two : 10 ≤ x → x < 100 → decimal x ≡ digit_of (x / 10) ∷ digit_of x ∷ []
  unfolding decimal
  decimal_two l h = simp (le-ltb x 10 l, lt-ltb x 100 h)

  pub decimal_three : 10 ≤ x → 100 ≤ x → decimal x ≡ digit_of (x / 100) ∷ digit_of (x / 10) ∷ digit_of x ∷ []
  unfolding decimal
  decimal_three l h = simp (le-ltb x 10 l, le-ltb x 100 h)

  pub decimal_length : length (decimal x) ≤ 3
  decimal_length = go (dec_lt x 10) (dec_lt x 100)
    where
      go : Dec (x < 10) → Dec (x < 100) → length (decimal x) ≤ 3
      go (yes a) _ = simp (decimal_one a) (omega arith)
      go (no a) (yes b) = simp (decimal_two (omega arith) b) (omega arith)
      go (no a) (no b) = simp (decimal_three (omega arith) (omega arith)) (omega arith)

  means : x < 1000 → value_from 0 (decimal x) ≡ x
  unfolding digit_of
  means h = go (dec_lt x 10) (dec_lt x 100)
    where
      go : Dec (x < 10) → Dec (x < 100) → value_from 0 (decimal x) ≡ x
      go (yes a) _ = simp (decimal_one a) (omega arith)
      go (no a) (yes b) = simp (decimal_two (omega arith) b) (omega arith)
      go (no a) (no b) =
          let tens : x / 10 / 10 ≡ x / 100 = div-div-eq-div-mul x 10 10 in
          let third : x / 100 % 10 ≡ x / 100 = omega arith in
          let second : x / 10 % 10 + 10 * (x / 100) ≡ x / 10 = omega arith in
          simp (decimal_three (omega arith) (omega arith)) (three (x / 100 % 10) (x / 10 % 10) (x % 10) ∙ omega arith)

  leading : (ds : List ℕ) → x < 1000 → decimal x ≡ 48 ∷ ds → x ≡ 0
  unfolding digit_of
  leading ds h e = go (dec_lt x 10) (dec_lt x 100)
    where
      go : Dec (x < 10) → Dec (x < 100) → x ≡ 0
      go (yes a) _ = let d : digit_of x ≡ 48 = cc (decimal_one a) in omega arith
      go (no a) (yes b) = let d : digit_of (x / 10) ≡ 48 = cc (decimal_two (omega arith) b) in omega arith
      go (no a) (no b) = let d : digit_of (x / 100) ≡ 48 = cc (decimal_three (omega arith) (omega arith)) in omega arith

pub decimal_laws : DecimalLaws
decimal_laws = record { means = λ x h. means x h; leading = λ x ds h e. leading x ds h e }

-- ---- how long the lines are

pub pages_length : (n : ℕ) → length (pages_line n) ≤ 10
unfolding pages_line
pages_length n = simp length-append (omega (arith, decimal_length n))

final_length : (q hops : ℕ) → length (final_text q hops) ≤ 19
unfolding final_text
final_length q hops = simp length-append (omega (arith, decimal_length q, decimal_length hops))

outside_length : (x : ℕ) → length (outside_text x) ≤ 19
unfolding outside_text
outside_length x = simp length-append (omega (arith, decimal_length x))

pub verdict_length : (v : Verdict) → length (verdict_text v) ≤ 19
unfolding verdict_text
verdict_length (Final q hops) = final_length _ _
verdict_length Loop = omega arith
verdict_length (Outside x) = outside_length _

pub line_length : (p : ℕ) (v : Verdict) → length (verdict_line p v) ≤ 24
unfolding verdict_line
line_length p v = simp length-append (omega (arith, decimal_length p, verdict_length v))

pub page_line_length : (n : ℕ) (img : List ℕ) (p : ℕ) → length (page_line n img p) ≤ 24
unfolding page_line
page_line_length n img p = go (is_redirected n img p)
  where
    go : (b : Bool) → length (cond b (verdict_line p (walk_of n img p)) []) ≤ 24
    go true = line_length p (walk_of n img p)
    go false = omega arith

pub page_lines_length : (n : ℕ) (img : List ℕ) (k p : ℕ) → length (page_lines n img k p) ≤ 24 * k
unfolding page_lines
page_lines_length n img zero p = omega arith
page_lines_length n img (suc k) p = simp length-append (omega (arith, page_line_length n img p, page_lines_length n img k (p + 1)))

pub counts_length : (n : ℕ) (img : List ℕ) → length (counts_line n img) ≤ 24
unfolding counts_line
counts_length n img = simp length-append (omega (arith, decimal_length (redirected_count n img), decimal_length (free_count n img)))

pub list_length : (n : ℕ) (img : List ℕ) → length (list_of n img) ≤ room_for n
unfolding list_of
list_length n img = simp length-append (omega (arith, pages_length n, page_lines_length n img n 0, counts_length n img))

pub refused_length : (number : ℕ) → length (refused_line number) ≤ 18
unfolding refused_line
refused_length number = simp length-append (omega (arith, decimal_length number))

pub list_laws : (n : ℕ) → ListLaws n
list_laws n = record { fits = list_length n }
