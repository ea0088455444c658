-- The lookup sees an image only through what page 1 and the row's page read as; and what it means that a header covers a latitude.
use Prim.Native.Nat.{ℕ, ◌<◌, ◌≤◌}
use mathlib.Core.Path.{◌≡◌, refl, ap, ◌∙◌}
use mathlib.Core.Bool.{Bool, true, false}
use mathlib.Core.List.{List, [], ◌∷◌}
use native.Mathlib.Omega.{arith}
use native.Mathlib.Nat.{not-suc-le-zero}
use lib.Dec.{ltb, leb, eqb}
use lib.IntN.{ℤ}
use lib.ListN.{length, get_or}
use borrow.Author.Tests.{eqb-true, leb-true, eq-eqb, lt-ltb}
use Rattle.base_types.specs.Outcome.{Outcome, refused, accepted, judge, unless_refused}
use Rattle.base_types.specs.declared.address.Page.{Page}
use Rattle.base_types.specs.declared.verdict.Verdict.{Verdict}
use Rattle.base_types.specs.declared.verdict.Verdict.TheVariants.{Final, Loop, Outside}
use Rattle.bus_events.specs.declared.Event.{Event}
use Rattle.chip_memory.specs.Layout.{image_size, is_image, is_page}
use Rattle.chip_memory.specs.Image.{redirection_of, page_bytes}
use Rattle.chip_memory.specs.Page.{is_blank}
use Rattle.chip_memory.proofs.Sizes.{page_below}
use Rattle.chip_chain.specs.Walk.{walk_of}
use Rattle.base_types.proofs.Scan.{both_true}
use Rattle.chip_chain.proofs.Walks.{final_means}
use Rattle.chip_chain_laws.specs.Update.{PageReading, bytes_under, read_of}
use Rattle.chip_chain_laws.proofs.Relink.{final_below}
use Rattle.chip_entries.specs.Event.{event_image}
use Rattle.chip_images.specs.Page.{page_answer, page_part}
use Rattle.chip_images.specs.Walk.{walk_answer}
use Rattle.chip_entries.specs.Run.{Chip, next, draws, run}
use Rattle.chip_entries.proofs.Kept.{image_length}
use Rattle.base_tenths.specs.Tenths.{word_of}
use Rattle.plug_lookup.specs.Header.{word_at, rows_of, columns_of, row_page, is_between, fields_right, is_header, row_from, row_answer}
use Rattle.plug_lookup.specs.Lookup.{and_then, final_outcome, end_of, column_value, page_value, row_value, header_value, lookup_answer}
use Rattle.plug_lookup_laws.proofs.Outcome.{good_means, row_sound}

-- ---- events leave an image as long as it is

either_length : (t : Outcome Bool) (new old : List ℕ) → length new ≡ length old → length (unless_refused t new old) ≡ length old
either_length (accepted r) new old e = e
either_length (refused k vs) new old e = refl

pub run_length : (n : ℕ) (es : List Event) (c : Chip) → length (run n c es).image ≡ length c.image
unfolding run event_image
run_length n [] c = refl
run_length n (e ∷ es) c = run_length n es (next n c e) ∙ either_length (draws n c e) _ _ (image_length n c.state.stage e c.image)

-- ---- the header

-- a test that refuses where it fails has held
passed : {A : Type 0} (b : Bool) (k : ℕ) (rest : Outcome A) (a : A) → judge b k rest ≡ accepted a → b ≡ true
passed true k rest a e = refl
passed false k rest a e = absurd cc

first_blank : (bs : List ℕ) → is_blank bs ≡ true → 0 < length bs → get_or bs 0 0 ≡ 255
unfolding is_blank
first_blank [] e lt = absurd (not-suc-le-zero lt)
first_blank (b ∷ bs) e lt = eqb-true b 255 (both_true (eqb b 255) (is_blank bs) e).0

module _ (n : ℕ) (header : List ℕ) (latitude : ℤ) (i : ℕ) (row : row_answer n header latitude ≡ accepted i) where
  sound : is_header n header ≡ true
  unfolding row_answer
  sound = passed (is_header n header) 16 (row_from header latitude (rows_of header) 0) i row

  pub row_on_chip : row_page header i < n
  row_on_chip = page_below n (row_page header i) (good_means (rw row at (row_sound n header latitude)))

  few_rows : rows_of header ≤ 15
  unfolding is_header fields_right is_between
  few_rows =
      let rows = (both_true (is_between 1 15 (rows_of header)) _ (both_true (fields_right header) _ sound).0).0 in
      leb-true (rows_of header) 15 (both_true (leb 1 (rows_of header)) _ rows).1

  -- a blank page is no header: by its first byte it has 255 rows at least
  pub not_blank : is_blank header ≡ true → 0 < length header → ⊥
  unfolding rows_of word_at word_of
  not_blank blank some = omega (arith, few_rows, first_blank header blank some)

-- ---- the answers

-- what follows from the bytes of a page that is reached through its chain, by what the page reads as
abbrev pub on_reading : {A : Type 0} → (List ℕ → Outcome A) → PageReading → Outcome A
on_reading rest r = and_then (final_outcome r.verdict) (λ (q : Page). rest r.bytes)

module _ (n : ℕ) (img : List ℕ) (sized : length img ≡ image_size n) where
  part_is : (q : ℕ) → q < n → page_part n img q ≡ page_bytes img q
  unfolding page_part page_answer is_image is_page
  part_is q lt = simp (eq-eqb (length img) (image_size n) sized, lt-ltb q n lt)

  end_is : (p : ℕ) → p < n → end_of n img p ≡ final_outcome (walk_of n img p)
  unfolding end_of walk_answer is_image is_page
  end_is p lt = simp (eq-eqb (length img) (image_size n) sized, lt-ltb p n lt)

  end_below : (p : ℕ) (f : Page) (hops : ℕ) → p < n → walk_of n img p ≡ Final f hops → f.0 < n
  unfolding walk_of
  end_below p f hops lt w = final_below n (redirection_of n img) p f.0 hops lt ((final_means (redirection_of n img) n p f.0 hops lt).0 w)

  on_page_lem : {A : Type 0} (rest : List ℕ → Outcome A) (p : ℕ) → p < n
      → and_then (end_of n img p) (λ (q : Page). rest (page_part n img q.0)) ≡ on_reading rest (read_of n img p)
  on_page_lem rest p lt = rw (end_is p lt) (go (walk_of n img p) refl)
    where
      go : (v : Verdict) → walk_of n img p ≡ v
          → and_then (final_outcome v) (λ (q : Page). rest (page_part n img q.0)) ≡ and_then (final_outcome v) (λ (q : Page). rest (bytes_under img v))
      go (Final f hops) w = ap rest (part_is f.0 (end_below p f hops lt w))
      go Loop w = refl
      go (Outside x) w = refl

  module _ (some : 1 < n) (latitude : ℤ) (column : ℕ) (header : List ℕ) (f : Page) (hops : ℕ)
      (first : read_of n img 1 ≡ record { verdict = Final f hops; bytes = header }) where
    pub by_header : lookup_answer n img latitude column ≡ header_value n img latitude column header
    unfolding lookup_answer
    by_header = on_page_lem (header_value n img latitude column) 1 some ∙ ap (on_reading (header_value n img latitude column)) first

    pub by_row : (i : ℕ) → row_answer n header latitude ≡ accepted i → (r : PageReading) → read_of n img (row_page header i) ≡ r
        → lookup_answer n img latitude column ≡ judge (ltb column (columns_of header)) 18 (on_reading (column_value column) r)
    unfolding header_value row_value page_value
    by_row i row r second =
        by_header
        ∙ ap (λ a. and_then a (row_value n img header column)) row
        ∙ ap (judge (ltb column (columns_of header)) 18)
        (on_page_lem (column_value column) (row_page header i) (row_on_chip n header latitude i row) ∙ ap (on_reading (column_value column)) second)
