-- What the lookup's answers mean: the row that is told, then the value.
use Prim.Native.Nat.{ℕ, zero, suc, ◌+◌, ◌<◌, ◌≤◌}
use mathlib.Core.Bool.{Bool, true, false, cond, ◌&&◌}
use mathlib.Core.Path.{◌≡◌, refl}
use mathlib.Core.Logic.{◌↔◌, ◌⊎◌, inl, inr}
use mathlib.Core.List.{List, []}
use native.Mathlib.Omega.{arith}
use native.Mathlib.Nat.{mul-le-mul_right}
use lib.Dec.{ltb}
use lib.IntN.{ℤ}
use lib.Signed.{◌<ℤ◌, ◌≤ℤ◌, <ℤ-≤ℤ_trans, clash_ℤ}
use borrow.Author.Tests.{lt-ltb}
use Rattle.std.proofs.lemmas.Int.{ints, by_lt_z}
use Rattle.base_types.specs.Outcome.{Outcome, accepted, refused, judge}
use Rattle.base_types.specs.declared.verdict.Verdict.{Verdict}
use Rattle.base_types.specs.declared.verdict.Verdict.TheVariants.{Final, Loop, Outside}
use Rattle.chip_memory.specs.Layout.{is_image, is_page}
use Rattle.base_types.proofs.Scan.{both_true, every_means}
use Rattle.chip_images.specs.Page.{page_part}
use Rattle.chip_images.specs.Walk.{walk_answer}
use Rattle.base_tenths.specs.Tenths.{is_value, signed_of}
use Rattle.plug_lookup.specs.Header.{word_at, rows_of, columns_of, height_of, row_page, fields_right, pages_right, rest_blank, is_header, lower_edge, covers, row_from, row_answer}
use Rattle.plug_lookup.specs.Lookup.{and_then, final_outcome, end_of, column_value, page_value, row_value, header_value, lookup_answer}
use Rattle.plug_lookup_laws.specs.Outcome.{RowLaws, AnswerLaws}

-- ---- the row of a latitude

module _ (header : List ℕ) (latitude : ℤ) where
  covering : (i : ℕ) → (covers header latitude i ≡ true) ↔ ((lower_edge header i ≤ℤ latitude) × (latitude <ℤ lower_edge header (i + 1)))
  unfolding covers
  covering i = (λ e. grind (arith, ints), λ h. grind (arith, ints))

  edges_rise : (i k : ℕ) → i ≤ k → lower_edge header i ≤ℤ lower_edge header k
  unfolding lower_edge
  edges_rise i k h = omega (arith, ints, mul-le-mul_right (height_of header) h)

  -- where a row covers the latitude, it is below the lower edge of every row after it
  below_later : (i k : ℕ) → covers header latitude i ≡ true → i < k → latitude <ℤ lower_edge header k
  below_later i k c lt = <ℤ-≤ℤ_trans ((covering i).0 c).1 (edges_rise (i + 1) k (omega arith))

  not_later : (i k : ℕ) → covers header latitude i ≡ true → covers header latitude k ≡ true → i < k → ⊥
  not_later i k c d lt = clash_ℤ (below_later i k c lt) ((covering k).0 d).0

  alone : (i k : ℕ) → covers header latitude i ≡ true → covers header latitude k ≡ true → i ≡ k
  alone i k c d = omega (arith, not_later i k c d, not_later k i d c)

  -- what the search of the rows from i on and below m tells
  data Searched (m i : ℕ) : Outcome ℕ → Type 0 where
    found : {x : ℕ} → x < m → covers header latitude x ≡ true → Searched m i (accepted x)
    missed : (lower_edge header i ≤ℤ latitude → lower_edge header m ≤ℤ latitude) → Searched m i (refused 17 [])

  -- a latitude that has passed row i's lower edge, and that row i does not cover, has passed its upper edge
  pass : (i : ℕ) → covers header latitude i ≡ false → lower_edge header i ≤ℤ latitude → lower_edge header (i + 1) ≤ℤ latitude
  unfolding covers
  pass i e low = grind (arith, ints)

  step : (m i : ℕ) {rest : Outcome ℕ} (t : Bool) → covers header latitude i ≡ t → i < m → Searched m (i + 1) rest
      → Searched m i (cond t (accepted i) rest)
  step m i true c lt more = found lt c
  step m i false c lt (found later d) = found later d
  step m i false c lt (missed past) = missed (λ low. past (pass i c low))

  searched : (k i m : ℕ) → i + k ≡ m → Searched m i (row_from header latitude k i)
  unfolding row_from
  searched zero i m s = let e : i ≡ m = omega arith in missed (λ low. rw e at low)
  searched (suc k) i m s = step m i (covers header latitude i) refl (omega arith) (searched k (i + 1) m (omega arith))

  rows_searched : Searched (rows_of header) 0 (row_from header latitude (rows_of header) 0)
  rows_searched = searched (rows_of header) 0 (rows_of header) (omega arith)

  found_means : {m i x : ℕ} → Searched m i (accepted x) → (x < m) × (covers header latitude x ≡ true)
  found_means (found lt c) = (lt, c)

  missed_means : {m i : ℕ} → Searched m i (refused 17 []) → lower_edge header i ≤ℤ latitude → lower_edge header m ≤ℤ latitude
  missed_means (missed past) = past

  -- the latitude is on none of the rows below m
  abbrev Off : ℕ → Type 0
  Off m = (latitude <ℤ lower_edge header 0) ⊎ (lower_edge header m ≤ℤ latitude)

  off_uncovered : (m x : ℕ) → Off m → x < m → covers header latitude x ≡ true → ⊥
  off_uncovered m x (inl low) lt c = clash_ℤ (<ℤ-≤ℤ_trans low (edges_rise 0 x (omega arith))) ((covering x).0 c).0
  off_uncovered m x (inr high) lt c = clash_ℤ (below_later x m c lt) high

  off_missed : {m i : ℕ} {t : Outcome ℕ} → Searched m i t → Off m → t ≡ refused 17 []
  off_missed {m} (found {x} lt c) off = absurd (off_uncovered m x off lt c)
  off_missed (missed past) off = refl

  pub row_laws : RowLaws header latitude
  row_laws = record {
    covering = covering;
    told = λ i e. found_means (rw e at rows_searched);
    alone = alone;
    none = (
      λ e. by_lt_z latitude (lower_edge header 0) inl (λ low. inr (missed_means (rw e at rows_searched) low)),
      off_missed rows_searched,
    );
  }

-- ---- the value

-- an answer that is no refusal 3 and that accepts only what P holds of
pub data Sound {A : Type 0} (P : A → Type 0) : Outcome A → Type 0 where
  other : (number : ℕ) {values : List ℕ} → (number ≡ 3 → ⊥) → Sound P (refused number values)
  good : {a : A} → P a → Sound P (accepted a)

pub good_means : {A : Type 0} {P : A → Type 0} {a : A} → Sound P (accepted a) → P a
good_means (good h) = h

other_means : {A : Type 0} {P : A → Type 0} {number : ℕ} {values : List ℕ} → Sound P (refused number values) → number ≡ 3 → ⊥
other_means (other number d) = d

judge_sound : {A : Type 0} {P : A → Type 0} {rest : Outcome A} (t : Bool) (number : ℕ) → (number ≡ 3 → ⊥) → (t ≡ true → Sound P rest)
    → Sound P (judge t number rest)
judge_sound true number d f = f refl
judge_sound false number d f = other number d

then_sound : {A B : Type 0} {P : A → Type 0} {Q : B → Type 0} {t : Outcome A} {rest : A → Outcome B}
    → Sound P t → ((a : A) → P a → Sound Q (rest a)) → Sound Q (and_then t rest)
then_sound (other number d) f = other number d
then_sound (good {a} h) f = f a h

final_sound : (v : Verdict) → Sound (λ _. Unit) (final_outcome v)
final_sound (Final q hops) = good tt
final_sound Loop = other 4 (omega arith)
final_sound (Outside x) = other 5 (omega arith)

-- of a page of the chip, 3 is not told
module _ (n : ℕ) (img : List ℕ) (p : ℕ) (page : is_page n p ≡ true) where
  walk_sound : Sound (λ _. Unit) (walk_answer n img p)
  unfolding walk_answer
  walk_sound = judge_sound (is_image n img) 1 (omega arith) (λ _. rw page (good tt))

  end_sound : Sound (λ _. Unit) (end_of n img p)
  unfolding end_of
  end_sound = then_sound walk_sound (λ v _. final_sound v)

module _ (n : ℕ) (header : List ℕ) (latitude : ℤ) where
  -- an answer that accepts only rows on a page of the chip
  abbrev pub OnPage : Outcome ℕ → Type 0
  OnPage = Sound (λ i. is_page n (row_page header i) ≡ true)

  row_page_lem : is_header n header ≡ true → (i : ℕ) → i < rows_of header → is_page n (row_page header i) ≡ true
  unfolding is_header pages_right is_page
  row_page_lem e i lt =
      let w = both_true (fields_right header) (pages_right n header && rest_blank header) e in
      every_means _ (rows_of header) 0 (both_true (pages_right n header) (rest_blank header) w.1).0 i (omega arith) (omega arith)

  search_sound : is_header n header ≡ true → {i : ℕ} {t : Outcome ℕ} → Searched header latitude (rows_of header) i t → OnPage t
  search_sound e (found lt c) = good (row_page_lem e _ lt)
  search_sound e (missed past) = other 17 (omega arith)

  pub row_sound : OnPage (row_answer n header latitude)
  unfolding row_answer
  row_sound = judge_sound (is_header n header) 16 (omega arith) (λ e. search_sound e (rows_searched header latitude))

-- an answer that accepts only values
abbrev Valued : Outcome ℤ → Type 0
Valued = Sound (λ v. is_value v ≡ true)

module _ (n : ℕ) (img : List ℕ) (latitude : ℤ) (column : ℕ) where
  column_sound : (page : List ℕ) → Valued (column_value column page)
  unfolding column_value
  column_sound page = judge_sound (is_value (signed_of (word_at page column))) 19 (omega arith) good

  page_sound : (p : ℕ) → is_page n p ≡ true → Valued (page_value n img column p)
  unfolding page_value
  page_sound p page = then_sound (end_sound n img p page) (λ q _. column_sound (page_part n img q.0))

  header_sound : (header : List ℕ) → Valued (header_value n img latitude column header)
  unfolding header_value row_value
  header_sound header =
      then_sound (row_sound n header latitude)
      (λ i page. judge_sound (ltb column (columns_of header)) 18 (omega arith) (λ _. page_sound (row_page header i) page))

  lookup_sound : 1 < n → Valued (lookup_answer n img latitude column)
  unfolding lookup_answer is_page
  lookup_sound lt = then_sound (end_sound n img 1 (lt-ltb 1 n lt)) (λ q _. header_sound (page_part n img q.0))

pub answer_laws : (n : ℕ) → 1 < n → (img : List ℕ) (latitude : ℤ) (column : ℕ) → AnswerLaws n img latitude column
answer_laws n lt img latitude column =
    let sound = lookup_sound n img latitude column lt in
    record { value = λ v e. good_means (rw e at sound); no_page = λ values e. other_means (rw e at sound) refl }

pub answers_ds2505 : (img : List ℕ) (latitude : ℤ) (column : ℕ) → AnswerLaws 64 img latitude column
answers_ds2505 = answer_laws 64 (omega arith)
