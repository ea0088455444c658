-- What the entries on a page tell, over the page count n.
use Rattle.std.specs.Prelude.{ℕ, List, [], length, eqb}
use Rattle.base_types.specs.Outcome.{Outcome, accepted, judge, Done, done, unless_refused}
use Rattle.chip_memory.specs.Layout.{is_image, is_page}
use Rattle.chip_memory.specs.Image.{page_bytes}

-- what is asked of page p: 1, 3, or the answer
abbrev pub on_page : {A : Type 0} → ℕ → List ℕ → ℕ → Outcome A → Outcome A
on_page n img p answer = judge (is_image n img) 1 (judge (is_page n p) 3 answer)

unfoldable pub page_answer : ℕ → List ℕ → ℕ → Outcome Done
page_answer n img p = on_page n img p (accepted done)

unfoldable pub page_part : ℕ → List ℕ → ℕ → List ℕ
page_part n img p = unless_refused (page_answer n img p) (page_bytes img p) []

-- 1, 10, 3
unfoldable pub copy_answer : ℕ → List ℕ → ℕ → List ℕ → Outcome Done
copy_answer n img p buffer =
    judge (is_image n img) 1 (judge (eqb (length buffer) 32) 10 (judge (is_page n p) 3 (accepted done)))

unfoldable pub copy_buffer : ℕ → List ℕ → ℕ → List ℕ → List ℕ
copy_buffer n img p buffer = unless_refused (copy_answer n img p buffer) (page_bytes img p) buffer
