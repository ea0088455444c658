-- The value of a latitude and a column, from what the chip's walk and page tell. n is the page count.
use Rattle.std.specs.Prelude.{ℕ, List, [], ◌∷◌, ltb, ℤ}
use Rattle.base_types.specs.Outcome.{Outcome, refused, accepted, judge}
use Rattle.base_types.specs.declared.address.Page.{Page}
use Rattle.base_types.specs.declared.verdict.Verdict.{Verdict}
use Rattle.base_types.specs.declared.verdict.Verdict.TheVariants.{Final, Loop, Outside}
use Rattle.chip_images.specs.Walk.{walk_answer}
use Rattle.chip_images.specs.Page.{page_part}
use Rattle.base_tenths.specs.Tenths.{signed_of, is_value}
use Rattle.plug_lookup.specs.Header.{word_at, columns_of, row_page, row_answer}

-- what follows from an answer that is not refused
abbrev pub and_then : {A B : Type 0} → Outcome A → (A → Outcome B) → Outcome B
and_then (refused number values) rest = refused number values
and_then (accepted a) rest = rest a

-- ---- a page, reached through its chain

-- the final page; 4; 5 with the number
abbrev pub final_outcome : Verdict → Outcome Page
final_outcome (Final q hops) = accepted q
final_outcome Loop = refused 4 []
final_outcome (Outside x) = refused 5 (x ∷ [])

-- where the chain of page p ends: 1, 3, 4, 5, or the final page
unfoldable pub end_of : ℕ → List ℕ → ℕ → Outcome Page
end_of n img p = and_then (walk_answer n img p) final_outcome

-- ---- the value

-- 19, or the value of a column on a row page
unfoldable pub column_value : ℕ → List ℕ → Outcome ℤ
column_value column page = judge (is_value (signed_of (word_at page column))) 19 (accepted (signed_of (word_at page column)))

-- in a row page that is reached through its chain: 4, 5, 19, or the value
unfoldable pub page_value : ℕ → List ℕ → ℕ → ℕ → Outcome ℤ
page_value n img column p = and_then (end_of n img p) (λ (q : Page). column_value column (page_part n img q.0))

-- in a row of the header: 18, then as its page says
unfoldable pub row_value : ℕ → List ℕ → List ℕ → ℕ → ℕ → Outcome ℤ
row_value n img header column i = judge (ltb column (columns_of header)) 18 (page_value n img column (row_page header i))

-- with this header: 16, 17, then as the row says
unfoldable pub header_value : ℕ → List ℕ → ℤ → ℕ → List ℕ → Outcome ℤ
header_value n img latitude column header = and_then (row_answer n header latitude) (row_value n img header column)

-- 1, page 1's own 4 or 5, then as the final page of page 1's chain says
unfoldable pub lookup_answer : ℕ → List ℕ → ℤ → ℕ → Outcome ℤ
lookup_answer n img latitude column = and_then (end_of n img 1) (λ (q : Page). header_value n img latitude column (page_part n img q.0))
