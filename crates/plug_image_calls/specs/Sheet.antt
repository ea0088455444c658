-- The entries on stored sheets, over the page count n. Buffers that only callers in C have are judged after 1, with 10.
use Rattle.std.specs.Prelude.{ℕ, ◌/◌, ◌%◌, true, cond, List, [], ◌∷◌}
use Rattle.base_types.specs.Outcome.{Outcome, refused, accepted, judge, Done, done, unless_refused, following, in_order}
use Rattle.chip_memory.specs.Layout.{is_image}
use Rattle.plug_sheet.specs.Stored.{is_sheet, number_part, image_part, sheet_of, write_answer}
use Rattle.plug_sheet.specs.List.{list_answer, list_buffer}
use Rattle.plug_answers.specs.Answers.{is_answer, is_number_buffer, eight_of}

-- 1, 10 for the number, then 10 and 12 as the sheet's own
unfoldable pub sheet_written : ℕ → List ℕ → List ℕ → List ℕ → Outcome Done
sheet_written n number img sheet = following (in_order (is_image n img) true (is_number_buffer number)) (write_answer n img sheet)

unfoldable pub sheet_buffer : ℕ → List ℕ → List ℕ → List ℕ → List ℕ
sheet_buffer n number img sheet = unless_refused (sheet_written n number img sheet) (sheet_of n (eight_of number) img) sheet

-- 1 for the image's buffer, 10 for the number's, 12
unfoldable pub sheet_read : ℕ → List ℕ → List ℕ → List ℕ → Outcome Done
sheet_read n sheet number img = following (in_order (is_image n img) true (is_number_buffer number)) (judge (is_sheet n sheet) 12 (accepted done))

unfoldable pub read_number : ℕ → List ℕ → List ℕ → List ℕ → List ℕ
read_number n sheet number img = unless_refused (sheet_read n sheet number img) (number_part n sheet) number

unfoldable pub read_image : ℕ → List ℕ → List ℕ → List ℕ → List ℕ
read_image n sheet number img = unless_refused (sheet_read n sheet number img) (image_part n sheet) img

-- the length of a text, low byte first
abbrev pub length_values : Outcome ℕ → Outcome (List ℕ)
length_values (refused number values) = refused number values
length_values (accepted size) = accepted (size % 256 ∷ size / 256 % 256 ∷ [])

-- 10 for the answer's buffer and for the text's, 12, or the length of the text
unfoldable pub list_values : ℕ → List ℕ → List ℕ → List ℕ → Outcome (List ℕ)
list_values n sheet text answer = judge (is_answer answer) 10 (length_values (list_answer n sheet text))

unfoldable pub list_text : ℕ → List ℕ → List ℕ → List ℕ → List ℕ
list_text n sheet text answer = cond (is_answer answer) (list_buffer n sheet text) text
