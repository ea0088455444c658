-- The page read's entries, over the page count n.
use Rattle.std.specs.Prelude.{ℕ, true, ◌&&◌, List, eqb, length}
use Rattle.base_types.specs.Outcome.{Outcome, accepted, judge, Done, done, unless_refused, following, in_order}
use Rattle.chip_memory.specs.Layout.{is_page}
use Rattle.bus_scripts.specs.Next.{Next}
use Rattle.master_page.specs.PageRead.{page_in_range, start_answer, start_state, read_answer, read_state, read_buffer}
use Rattle.master_page.specs.Held.{page_told, page_called, page_started}
use Rattle.master_runs.specs.Calls.{are_replies, as_many, fed_calls, last_told, event_bytes}
use Rattle.plug_master_packing.specs.Page.{page_read_of, page_judged, page_buffer}
use Rattle.plug_answers.specs.Answers.{is_answer, next_answered}
use Rattle.plug_answers.specs.Calls.{call_judged, whether}

-- ---- a whole run

-- 2 for a byte that is no reply; 10 for the answer's buffer, the events' and the page's; 3
unfoldable pub page_run_judged : ℕ → ℕ → List ℕ → List ℕ → List ℕ → List ℕ → Outcome Done
page_run_judged n p replies events buffer answer =
    following (in_order true (are_replies replies) (is_answer answer && (as_many replies events && eqb (length buffer) 32))) (whether (start_answer n p))

-- what the last call page_told
unfoldable pub page_run_outcome : ℕ → ℕ → List ℕ → List ℕ → List ℕ → List ℕ → Outcome Next
page_run_outcome n p replies events buffer answer =
    last_told (page_called n) (page_told n) (page_run_judged n p replies events buffer answer) (page_started n p buffer) replies

unfoldable pub page_run_told : ℕ → ℕ → List ℕ → List ℕ → List ℕ → List ℕ → List ℕ
page_run_told n p replies events buffer answer = next_answered (page_run_outcome n p replies events buffer answer) answer

-- a byte for each call
unfoldable pub page_run_events : ℕ → ℕ → List ℕ → List ℕ → List ℕ → List ℕ → List ℕ
page_run_events n p replies events buffer answer =
    event_bytes (page_called n) (page_told n) (page_run_judged n p replies events buffer answer) (page_started n p buffer) replies events

unfoldable pub page_run_buffer : ℕ → ℕ → List ℕ → List ℕ → List ℕ → List ℕ → List ℕ
page_run_buffer n p replies events buffer answer =
    unless_refused (page_run_judged n p replies events buffer answer) (fed_calls (page_called n) (page_told n) (page_started n p buffer) replies).buffer buffer

-- ---- step by step

-- 10 for the state's buffer, 3
unfoldable pub page_start_judged : ℕ → ℕ → List ℕ → Outcome Done
page_start_judged n p state = judge (eqb (length state) 48) 10 (judge (is_page n p) 3 (accepted done))

unfoldable pub page_start_state : ℕ → ℕ → List ℕ → List ℕ
page_start_state n p state = unless_refused (page_start_judged n p state) (page_buffer (start_state n p) state) state

-- a call on the state that bytes hold: 2 for bytes that are no state, for the state and for the reply, 10 for the answer's buffer
unfoldable pub page_call_judged : ℕ → List ℕ → ℕ → List ℕ → Outcome Done
page_call_judged n state reply answer = call_judged (page_judged state) (page_in_range n (page_read_of state)) reply answer

-- then the read's own, 10 for the page's buffer among them
unfoldable pub page_call_outcome : ℕ → List ℕ → ℕ → List ℕ → List ℕ → Outcome Next
page_call_outcome n state reply buffer answer =
    following (page_call_judged n state reply answer) (read_answer n (page_read_of state) (eqb reply 1) buffer)

unfoldable pub page_call_told : ℕ → List ℕ → ℕ → List ℕ → List ℕ → List ℕ
page_call_told n state reply buffer answer = next_answered (page_call_outcome n state reply buffer answer) answer

unfoldable pub page_call_state : ℕ → List ℕ → ℕ → List ℕ → List ℕ → List ℕ
page_call_state n state reply buffer answer =
    unless_refused (page_call_judged n state reply answer) (page_buffer (read_state n (page_read_of state) (eqb reply 1) buffer) state) state

unfoldable pub page_call_buffer : ℕ → List ℕ → ℕ → List ℕ → List ℕ → List ℕ
page_call_buffer n state reply buffer answer =
    unless_refused (page_call_judged n state reply answer) (read_buffer n (page_read_of state) (eqb reply 1) buffer) buffer
