-- A whole update, over the page count n and the kind. Buffers that only callers in C have are judged after 1, with 10.
use Rattle.std.specs.Prelude.{ℕ, true, ◌&&◌, List}
use Rattle.base_types.specs.Outcome.{Outcome, Done, unless_refused, following, in_order}
use Rattle.chip_memory.specs.Layout.{is_image}
use Rattle.master_plan.specs.declared.kind.UpdateKind.{UpdateKind}
use Rattle.master_update.specs.Update.{update_answer, updated_image}
use Rattle.plug_answers.specs.Answers.{is_answer, is_number_buffer, eight_of}

-- 1, 10 for the answer's buffer and for the number
unfoldable pub update_judged : ℕ → List ℕ → List ℕ → List ℕ → Outcome Done
update_judged n img number answer = in_order (is_image n img) true (is_answer answer && is_number_buffer number)

-- then the update's own: 10, 3, 4, 5, 20, 9, 8, or L and T
unfoldable pub update_values : ℕ → UpdateKind → List ℕ → List ℕ → List ℕ → ℕ → List ℕ → Outcome (List ℕ)
update_values n kind img number new p answer = following (update_judged n img number answer) (update_answer n kind img new p)

-- the image, touched by nothing but an update
unfoldable pub update_image : ℕ → UpdateKind → List ℕ → List ℕ → List ℕ → ℕ → ℕ → List ℕ → List ℕ
update_image n kind img number new p events answer =
    unless_refused (update_judged n img number answer) (updated_image n kind (eight_of number) img new p events) img
