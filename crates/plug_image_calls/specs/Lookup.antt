-- The entries on the variation, over the page count n. The buffer for the answer, which only callers in C have, is judged after 1, with 10.
use Rattle.std.specs.Prelude.{ℕ, ◌/◌, ◌%◌, true, List, [], ◌∷◌, ℤ}
use Rattle.base_types.specs.Outcome.{Outcome, refused, accepted, judge, following, in_order}
use Rattle.chip_memory.specs.Layout.{is_image}
use Rattle.base_tenths.specs.Tenths.{low_bits, change_answer}
use Rattle.plug_lookup.specs.Lookup.{lookup_answer}
use Rattle.plug_sheet_lookup.specs.Lookup.{sheet_value}
use Rattle.plug_answers.specs.Answers.{is_answer}

-- tenths of a degree in sixteen bits, low byte first
abbrev pub tenths_values : Outcome ℤ → Outcome (List ℕ)
tenths_values (refused number values) = refused number values
tenths_values (accepted v) = accepted (low_bits v % 256 ∷ low_bits v / 256 % 256 ∷ [])

unfoldable pub variation_values : ℕ → List ℕ → ℤ → ℕ → List ℕ → Outcome (List ℕ)
variation_values n img latitude column answer =
    following (in_order (is_image n img) true (is_answer answer)) (tenths_values (lookup_answer n img latitude column))

unfoldable pub sheet_variation_values : ℕ → List ℕ → ℤ → ℕ → List ℕ → Outcome (List ℕ)
sheet_variation_values n sheet latitude column answer = judge (is_answer answer) 10 (tenths_values (sheet_value n sheet latitude column))

unfoldable pub change_values : ℤ → ℤ → List ℕ → Outcome (List ℕ)
change_values old new answer = judge (is_answer answer) 10 (tenths_values (change_answer old new))
