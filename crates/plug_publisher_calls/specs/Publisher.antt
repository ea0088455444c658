-- The publisher's entries, over the page count n and the kind of the update.
use Rattle.std.specs.Prelude.{ℕ, true, ◌&&◌, List, [], eqb, length}
use Rattle.base_types.specs.Outcome.{Outcome, accepted, Done, unless_refused, following, in_order}
use Rattle.master_plan.specs.declared.kind.UpdateKind.{UpdateKind}
use Rattle.chip_memory.specs.Layout.{is_image}
use Rattle.bus_scripts.specs.Next.{Next}
use Rattle.master_publisher.specs.Start.{publisher_answer, publisher_state}
use Rattle.master_publisher.specs.Call.{publisher_in_range, call_answer, call_state}
use Rattle.master_runs.specs.Calls.{are_replies, as_many, last_told, event_bytes}
use Rattle.plug_master_packing.specs.Publisher.{publisher_of, publisher_judged, publisher_buffer}
use Rattle.plug_answers.specs.Answers.{is_answer, answered, next_answered}
use Rattle.plug_answers.specs.Calls.{call_judged, whether}

-- ---- a whole run

-- 1; 2 for a byte that is no reply; 10 for the answer's buffer and for the events'; then the start's own: 10, 3, 4, 5, 20, 9, 8
unfoldable pub publisher_run_judged : ℕ → UpdateKind → List ℕ → List ℕ → ℕ → List ℕ → List ℕ → List ℕ → Outcome Done
publisher_run_judged n kind img new p replies events answer =
    following (in_order (is_image n img) (are_replies replies) (is_answer answer && as_many replies events)) (whether (publisher_answer n kind img new p))

-- what the last call told
unfoldable pub publisher_run_outcome : ℕ → UpdateKind → List ℕ → List ℕ → ℕ → List ℕ → List ℕ → List ℕ → Outcome Next
publisher_run_outcome n kind img new p replies events answer =
    last_told (call_state n) (call_answer n) (publisher_run_judged n kind img new p replies events answer) (publisher_state n kind img new p) replies

unfoldable pub publisher_run_told : ℕ → UpdateKind → List ℕ → List ℕ → ℕ → List ℕ → List ℕ → List ℕ → List ℕ
publisher_run_told n kind img new p replies events answer = next_answered (publisher_run_outcome n kind img new p replies events answer) answer

-- a byte for each call
unfoldable pub publisher_run_events : ℕ → UpdateKind → List ℕ → List ℕ → ℕ → List ℕ → List ℕ → List ℕ → List ℕ
publisher_run_events n kind img new p replies events answer =
    event_bytes (call_state n) (call_answer n) (publisher_run_judged n kind img new p replies events answer) (publisher_state n kind img new p) replies events

-- ---- step by step

-- 1; 10 for the answer's buffer and for the state's; then the start's own
unfoldable pub publisher_started : ℕ → UpdateKind → List ℕ → List ℕ → ℕ → List ℕ → List ℕ → Outcome Done
publisher_started n kind img new p state answer =
    following (in_order (is_image n img) true (is_answer answer && eqb (length state) 48)) (whether (publisher_answer n kind img new p))

unfoldable pub publisher_start_told : ℕ → UpdateKind → List ℕ → List ℕ → ℕ → List ℕ → List ℕ → List ℕ
publisher_start_told n kind img new p state answer = answered (following (publisher_started n kind img new p state answer) (accepted [])) answer

unfoldable pub publisher_start_state : ℕ → UpdateKind → List ℕ → List ℕ → ℕ → List ℕ → List ℕ → List ℕ
publisher_start_state n kind img new p state answer =
    unless_refused (publisher_started n kind img new p state answer) (publisher_buffer (publisher_state n kind img new p) state) state

-- a call on the state that bytes hold: 2 for bytes that are no state, for the state and for the reply, 10 for the answer's buffer
unfoldable pub publisher_call_judged : ℕ → List ℕ → ℕ → List ℕ → Outcome Done
publisher_call_judged n state reply answer = call_judged (publisher_judged state) (publisher_in_range n (publisher_of state)) reply answer

unfoldable pub publisher_call_outcome : ℕ → List ℕ → ℕ → List ℕ → Outcome Next
publisher_call_outcome n state reply answer =
    following (publisher_call_judged n state reply answer) (call_answer n (publisher_of state) (eqb reply 1))

unfoldable pub publisher_call_told : ℕ → List ℕ → ℕ → List ℕ → List ℕ
publisher_call_told n state reply answer = next_answered (publisher_call_outcome n state reply answer) answer

unfoldable pub publisher_call_state : ℕ → List ℕ → ℕ → List ℕ → List ℕ
publisher_call_state n state reply answer =
    unless_refused (publisher_call_judged n state reply answer) (publisher_buffer (call_state n (publisher_of state) (eqb reply 1)) state) state
