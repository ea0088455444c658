-- The lookup on a stored sheet, over the page count n.
use Rattle.std.specs.Prelude.{ℕ, List, ℤ}
use Rattle.base_types.specs.Outcome.{Outcome, judge}
use Rattle.plug_sheet.specs.Stored.{is_sheet, image_part}
use Rattle.plug_lookup.specs.Lookup.{lookup_answer}

-- 12, then as the sheet's image says
unfoldable pub sheet_value : ℕ → List ℕ → ℤ → ℕ → Outcome ℤ
sheet_value n sheet latitude column = judge (is_sheet n sheet) 12 (lookup_answer n (image_part n sheet) latitude column)
