-- What the lookup's answers mean, in the words of M-102. n is the page count.
use Rattle.std.specs.Prelude.{ℕ, ◌+◌, ◌<◌, ◌≡◌, ◌↔◌, ◌⊎◌, true, List, [], ℤ, ◌<ℤ◌, ◌≤ℤ◌}
use Rattle.base_types.specs.Outcome.{accepted, refused}
use Rattle.base_tenths.specs.Tenths.{is_value}
use Rattle.plug_lookup.specs.Header.{rows_of, lower_edge, covers, row_from}
use Rattle.plug_lookup.specs.Lookup.{lookup_answer}

pub record RowLaws (header : List ℕ) (latitude : ℤ) : Type 0 where
  -- a row covers its lower edge and not its upper
  pub covering : (i : ℕ) → (covers header latitude i ≡ true) ↔ ((lower_edge header i ≤ℤ latitude) × (latitude <ℤ lower_edge header (i + 1)))
  -- the row told is one of the header's, and it covers the latitude; no other row does
  pub told : (i : ℕ) → row_from header latitude (rows_of header) 0 ≡ accepted i → (i < rows_of header) × (covers header latitude i ≡ true)
  pub alone : (i k : ℕ) → covers header latitude i ≡ true → covers header latitude k ≡ true → i ≡ k
  -- 17 exactly where the latitude is below the first row, or at or past the last row's upper edge
  pub none : (row_from header latitude (rows_of header) 0 ≡ refused 17 []) ↔ ((latitude <ℤ lower_edge header 0) ⊎ (lower_edge header (rows_of header) ≤ℤ latitude))

pub record AnswerLaws (n : ℕ) (img : List ℕ) (latitude : ℤ) (column : ℕ) : Type 0 where
  -- what is accepted is a value
  pub value : (v : ℤ) → lookup_answer n img latitude column ≡ accepted v → is_value v ≡ true
  -- 3 is never told: page 1 is a page of the chip, and a header names no page that is not
  pub no_page : (values : List ℕ) → lookup_answer n img latitude column ≡ refused 3 values → ⊥
