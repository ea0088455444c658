-- What the test of a sheet means; the way there and back.
use Prim.Native.Nat.{ℕ, zero, suc, ◌+◌, ◌-◌, ◌≤◌}
use mathlib.Core.Path.{◌≡◌, refl, sym, ap, ◌∙◌}
use mathlib.Core.Bool.{Bool, true, false}
use mathlib.Core.List.{List, [], ◌∷◌, ◌++◌, append_assoc, append-nil}
use native.Mathlib.Omega.{arith}
use lib.Dec.{eqb}
use lib.ListN.{length, take, drop, length-append, length-take, length-drop, take-append-drop, drop_of_length-le}
use lib.Pointwise.{pointwise}
use lib.Seq.{drop-drop, take_all, take_at, drop_at}
use borrow.Author.Tests.{eqb-true, eq-eqb}
use Rattle.std.specs.List.{list_all, range_with_len}
use Rattle.base_types.specs.Scan.{every}
use Rattle.base_types.specs.declared.refusal.Refusal.{Refusal}
use Rattle.base_types.specs.Outcome.{refused, accepted, Done, done, refusing, judge}
use Rattle.chip_memory.specs.Layout.{image_size, is_image}
use Rattle.chip_memory.proofs.Sizes.{image_length}
use Rattle.base_types.proofs.Scan.{both_true, both_intro}
use Rattle.plug_sheet.specs.Stored.{header_of, sheet_size, starts_with, gaps_blank, is_sheet, sheet_answer, number_part, image_part, sheet_of, SheetLaws}

-- ---- the front

-- what the library's test of the front tells
pub front_is : (f s : List ℕ) → pointwise eqb f (take (length f) s) ≡ starts_with f s
unfolding starts_with
front_is [] s = refl
front_is (b ∷ f) [] = refl
front_is (b ∷ f) (x ∷ s) = grind (arith, front_is f s)

starts_means : (f s : List ℕ) → starts_with f s ≡ true → f ++ drop (length f) s ≡ s
unfolding starts_with
starts_means [] s e = refl
starts_means (b ∷ f) [] e = absurd (let z : ◌≡◌ {A = ℕ} 0 1 = cc in omega arith)
starts_means (b ∷ f) (x ∷ s) e =
    let w = both_true (eqb x b) (starts_with f s) e in
    ap (λ (y : ℕ). y ∷ (f ++ drop (length f) s)) (sym (eqb-true x b w.0)) ∙ ap (λ (l : List ℕ). x ∷ l) (starts_means f s w.1)

starts_self : (f t : List ℕ) → starts_with f (f ++ t) ≡ true
unfolding starts_with
starts_self [] t = refl
starts_self (b ∷ f) t = both_intro (eqb b b) (starts_with f (f ++ t)) (eq-eqb b b refl) (starts_self f t)

-- what the library's test of a range tells
pub all_is_every : (t : ℕ → Bool) (k q : ℕ) → list_all t (range_with_len q k) ≡ every t k q
unfolding every
all_is_every t zero q = refl
all_is_every t (suc k) q = simp (all_is_every t k (q + 1)) refl

-- ---- the whole test

-- the part of a list from place a to its end
pub rest_whole : (a : ℕ) (s : List ℕ) → take (length s - a) (drop a s) ≡ drop a s
rest_whole a s = take_all (length s - a) (drop a s) (let e = length-drop a s in omega arith)

pub header_length : (n : ℕ) → length (header_of n) ≡ 16
unfolding header_of
header_length n = refl

pub record Sheet (n : ℕ) (s : List ℕ) : Type 0 where
  pub size : length s ≡ sheet_size n
  pub front : starts_with (header_of n) s ≡ true
  pub gaps : gaps_blank n (drop 24 s) ≡ true

pub sheet_means : (n : ℕ) (s : List ℕ) → is_sheet n s ≡ true → Sheet n s
unfolding is_sheet
sheet_means n s e =
    let a = both_true _ _ e in
    let b = both_true _ _ a.1 in
    record { size = eqb-true _ _ a.0; front = b.0; gaps = b.1 }

means_sheet : (n : ℕ) (s : List ℕ) → Sheet n s → is_sheet n s ≡ true
unfolding is_sheet
means_sheet n s w = simp (eq-eqb _ _ w.size, w.front) w.gaps

-- judge accepted it
pub accepted_sheet : (n : ℕ) (s : List ℕ) (u : Done) → accepted u ≡ sheet_answer n s → is_sheet n s ≡ true
unfolding sheet_answer
accepted_sheet n s u e = go (is_sheet n s) e
  where
    go : (b : Bool) → accepted u ≡ judge b 12 (accepted done) → b ≡ true
    go true h = refl
    go false h = absurd cc

-- judge refused it
pub refused_sheet : (n : ℕ) (s : List ℕ) (r : Refusal) → refusing r ≡ sheet_answer n s → (is_sheet n s ≡ false) × (refusing {A = ℕ} r ≡ refused 12 [])
unfolding sheet_answer
refused_sheet n s r e = go (is_sheet n s) e
  where
    go : (b : Bool) → refusing r ≡ judge b 12 (accepted done) → (b ≡ false) × (refusing {A = ℕ} r ≡ refused 12 [])
    go true h = absurd cc
    go false h = (refl, cc)

-- ---- the parts of a sheet

module _ (n : ℕ) (s : List ℕ) (e : is_sheet n s ≡ true) where
  number_is : number_part n s ≡ take 8 (drop 16 s)
  unfolding number_part sheet_answer
  number_is = simp e

  image_is : image_part n s ≡ drop 24 s
  unfolding image_part sheet_answer
  image_is = simp e

  number_length : length (number_part n s) ≡ 8
  number_length = let w = sheet_means n s e in simp (number_is, length-take, length-drop) (omega arith)

  image_size_lem : is_image n (image_part n s) ≡ true
  unfolding is_image
  image_size_lem =
      let w = sheet_means n s e in
      let l : length (image_part n s) ≡ image_size n = simp (image_is, length-drop) (omega arith) in
      eq-eqb _ _ l

  whole : sheet_of n (number_part n s) (image_part n s) ≡ s
  unfolding sheet_of
  whole =
      let w = sheet_means n s e in
      let f : header_of n ++ drop 16 s ≡ s = rw header_length at (starts_means (header_of n) s w.front) in
      let d : drop 8 (drop 16 s) ≡ drop 24 s = drop-drop 8 16 s in
      simp (number_is, image_is, ← d, append_assoc, take-append-drop) f

-- ---- the sheet of a number and an image

module _ (n : ℕ) (number img : List ℕ) (eight : length number ≡ 8) (whole : is_image n img ≡ true) (blank : gaps_blank n img ≡ true) where
  image_at : drop 24 (sheet_of n number img) ≡ img
  unfolding sheet_of
  image_at = drop_at (header_of n ++ number) img 24 (length-append (header_of n) number ∙ simp (header_length, eight))

  number_at : take 8 (drop 16 (sheet_of n number img)) ≡ number
  unfolding sheet_of
  number_at = rw append_assoc (ap (take 8) (drop_at (header_of n) (number ++ img) 16 (header_length n)) ∙ take_at number img 8 eight)

  written : is_sheet n (sheet_of n number img) ≡ true
  unfolding sheet_of
  written =
      means_sheet n (sheet_of n number img)
      (record {
        size = simp (length-append, header_length, eight) (omega (arith, image_length n img whole));
        front = rw append_assoc (starts_self (header_of n) (number ++ img));
        gaps = ap (gaps_blank n) image_at ∙ blank;
      })

-- three parts put into a buffer that they fill
pub parts_fill : (h number img s : List ℕ) → length h ≡ 16 → length number ≡ 8 → 24 + length img ≡ length s
    → (let second : List ℕ = take 16 (h ++ drop 16 s) ++ (number ++ drop 8 (drop 16 (h ++ drop 16 s))) in
    take 24 second ++ (img ++ drop (length second - 24) (drop 24 second)) ≡ h ++ number ++ img)
parts_fill h number img s a b e =
    let first : take 16 (h ++ drop 16 s) ≡ h = take_at h (drop 16 s) 16 a in
    let second : drop 8 (drop 16 (h ++ drop 16 s)) ≡ drop 24 s = ap (drop 8) (drop_at h (drop 16 s) 16 a) ∙ drop-drop 8 16 s in
    let front : length (h ++ number) ≡ 24 = length-append h number ∙ simp (a, b) in
    let past : length (drop 24 s) ≤ length (h ++ number ++ drop 24 s) - 24 = rw length-append (omega arith) in
    let whole : take 24 (h ++ number ++ drop 24 s) ++ (img ++ drop (length (h ++ number ++ drop 24 s) - 24) (drop 24 (h ++ number ++ drop 24 s))) ≡ h ++ number ++ img =
    rw (take_at (h ++ number) (drop 24 s) 24 front, drop_at (h ++ number) (drop 24 s) 24 front, drop_of_length-le (drop 24 s) past, append-nil img) in
    rw (first, second, ← append_assoc h number (drop 24 s)) whole

pub sheet_laws : (n : ℕ) → SheetLaws n
sheet_laws n =
    record {
      written = λ number img l i g. written n number img l i g;
      number_back = λ number img l i g. number_is n (sheet_of n number img) (written n number img l i g) ∙ number_at n number img l i g;
      image_back = λ number img l i g. image_is n (sheet_of n number img) (written n number img l i g) ∙ image_at n number img l i g;
      whole = λ s e. whole n s e;
      number_length = λ s e. number_length n s e;
      image_length = λ s e. image_size_lem n s e;
    }
