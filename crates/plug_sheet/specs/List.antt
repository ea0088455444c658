-- The list of a stored chip, as the bytes of its text. n is the page count.
use Rattle.std.specs.Prelude.{ℕ, zero, suc, ◌+◌, ◌*◌, ◌≤◌, cond, List, [], ◌∷◌, ◌++◌, leb, length}
use Rattle.base_types.specs.Outcome.{Outcome, accepted, judge, unless_refused}
use Rattle.base_types.specs.Refusal.{number_of}
use Rattle.base_types.specs.declared.refusal.Refusal.{Refusal}
use Rattle.base_types.specs.declared.verdict.Verdict.{Verdict}
use Rattle.base_types.specs.declared.verdict.Verdict.TheVariants.{Final, Loop, Outside}
use Rattle.chip_memory.specs.Page.{copied}
use Rattle.chip_chain.specs.Walk.{walk_of, is_redirected, redirected_count}
use Rattle.chip_chain.specs.Free.{free_count}
use Rattle.plug_sheet.specs.Text.{decimal}
use Rattle.plug_sheet.specs.Stored.{is_sheet, image_part}

-- ---- words, as ASCII has them

-- "pages "
abbrev pub pages_word : List ℕ
pages_word = 112 ∷ 97 ∷ 103 ∷ 101 ∷ 115 ∷ 32 ∷ []

-- " final "
abbrev pub final_word : List ℕ
final_word = 32 ∷ 102 ∷ 105 ∷ 110 ∷ 97 ∷ 108 ∷ 32 ∷ []

-- " hops "
abbrev pub hops_word : List ℕ
hops_word = 32 ∷ 104 ∷ 111 ∷ 112 ∷ 115 ∷ 32 ∷ []

-- " loop"
abbrev pub loop_word : List ℕ
loop_word = 32 ∷ 108 ∷ 111 ∷ 111 ∷ 112 ∷ []

-- " outside "
abbrev pub outside_word : List ℕ
outside_word = 32 ∷ 111 ∷ 117 ∷ 116 ∷ 115 ∷ 105 ∷ 100 ∷ 101 ∷ 32 ∷ []

-- "redirected "
abbrev pub redirected_word : List ℕ
redirected_word = 114 ∷ 101 ∷ 100 ∷ 105 ∷ 114 ∷ 101 ∷ 99 ∷ 116 ∷ 101 ∷ 100 ∷ 32 ∷ []

-- " free "
abbrev pub free_word : List ℕ
free_word = 32 ∷ 102 ∷ 114 ∷ 101 ∷ 101 ∷ 32 ∷ []

-- "sheet refused "
abbrev pub refused_word : List ℕ
refused_word = 115 ∷ 104 ∷ 101 ∷ 101 ∷ 116 ∷ 32 ∷ 114 ∷ 101 ∷ 102 ∷ 117 ∷ 115 ∷ 101 ∷ 100 ∷ 32 ∷ []

-- the end of a line
abbrev pub newline : List ℕ
newline = 10 ∷ []

-- ---- lines

unfoldable pub pages_line : ℕ → List ℕ
pages_line n = pages_word ++ (decimal n ++ newline)

unfoldable pub final_text : ℕ → ℕ → List ℕ
final_text q hops = final_word ++ (decimal q ++ (hops_word ++ decimal hops))

unfoldable pub outside_text : ℕ → List ℕ
outside_text x = outside_word ++ decimal x

unfoldable pub verdict_text : Verdict → List ℕ
verdict_text (Final q hops) = final_text q.0 hops
verdict_text Loop = loop_word
verdict_text (Outside x) = outside_text x

unfoldable pub verdict_line : ℕ → Verdict → List ℕ
verdict_line p v = decimal p ++ (verdict_text v ++ newline)

-- redirected pages only are listed
unfoldable pub page_line : ℕ → List ℕ → ℕ → List ℕ
page_line n img p = cond (is_redirected n img p) (verdict_line p (walk_of n img p)) []

-- the lines of the k pages from p on, rising
unfoldable pub page_lines : ℕ → List ℕ → ℕ → ℕ → List ℕ
page_lines n img zero p = []
page_lines n img (suc k) p = page_line n img p ++ page_lines n img k (p + 1)

unfoldable pub counts_line : ℕ → List ℕ → List ℕ
counts_line n img = redirected_word ++ (decimal (redirected_count n img) ++ (free_word ++ (decimal (free_count n img) ++ newline)))

-- the whole list
unfoldable pub list_of : ℕ → List ℕ → List ℕ
list_of n img = pages_line n ++ (page_lines n img n 0 ++ counts_line n img)

-- what is said of a refused sheet
unfoldable pub refused_line : ℕ → List ℕ
refused_line number = refused_word ++ (decimal number ++ newline)

-- ---- the entries

-- room that is enough for the list of every image
abbrev pub room_for : ℕ → ℕ
room_for n = 40 + 24 * n

-- 10 where there is less room than any list may need, 12, or the length of the text
unfoldable pub list_answer : ℕ → List ℕ → List ℕ → Outcome ℕ
list_answer n s buffer =
    judge (leb (room_for n) (length buffer)) 10 (judge (is_sheet n s) 12 (accepted (length (list_of n (image_part n s)))))

-- the text, and after it what stood there
unfoldable pub list_buffer : ℕ → List ℕ → List ℕ → List ℕ
list_buffer n s buffer = unless_refused (list_answer n s buffer) (copied (list_of n (image_part n s)) buffer) buffer

unfoldable pub refusal_answer : ℕ → Refusal → List ℕ → Outcome ℕ
refusal_answer n r buffer = judge (leb (room_for n) (length buffer)) 10 (accepted (length (refused_line (number_of r))))

unfoldable pub refusal_buffer : ℕ → Refusal → List ℕ → List ℕ
refusal_buffer n r buffer = unless_refused (refusal_answer n r buffer) (copied (refused_line (number_of r)) buffer) buffer

pub record ListLaws (n : ℕ) : Type 0 where
  -- every list has room
  pub fits : (img : List ℕ) → length (list_of n img) ≤ room_for n
