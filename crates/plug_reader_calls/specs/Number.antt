-- The number read's entries.
use Rattle.std.specs.Prelude.{ℕ, true, ◌&&◌, List, eqb}
use Rattle.base_types.specs.Outcome.{Outcome, Done, unless_refused, following, in_order}
use Rattle.bus_scripts.specs.Next.{Next}
use Rattle.master_number.specs.NumberRead.{number_begun, number_in_range, number_answer, number_state}
use Rattle.master_runs.specs.Calls.{are_replies, as_many, last_told, event_bytes}
use Rattle.plug_master_packing.specs.Number.{number_read_of, number_judged, number_buffer}
use Rattle.plug_answers.specs.Answers.{is_answer, next_answered}
use Rattle.plug_answers.specs.Calls.{call_judged}

-- ---- a whole run

-- 2 for a byte that is no reply, 10 for the answer's buffer and for the events'
unfoldable pub number_run_judged : List ℕ → List ℕ → List ℕ → Outcome Done
number_run_judged replies events answer = in_order true (are_replies replies) (is_answer answer && as_many replies events)

-- what the last call told
unfoldable pub number_run_outcome : List ℕ → List ℕ → List ℕ → Outcome Next
number_run_outcome replies events answer = last_told number_state number_answer (number_run_judged replies events answer) number_begun replies

unfoldable pub number_run_told : List ℕ → List ℕ → List ℕ → List ℕ
number_run_told replies events answer = next_answered (number_run_outcome replies events answer) answer

-- a byte for each call
unfoldable pub number_run_events : List ℕ → List ℕ → List ℕ → List ℕ
number_run_events replies events answer = event_bytes number_state number_answer (number_run_judged replies events answer) number_begun replies events

-- ---- a call on the state that bytes hold

-- 2 for bytes that are no state, for the state and for the reply, 10 for the answer's buffer
unfoldable pub number_call_judged : List ℕ → ℕ → List ℕ → Outcome Done
number_call_judged state reply answer = call_judged (number_judged state) (number_in_range (number_read_of state)) reply answer

unfoldable pub number_call_outcome : List ℕ → ℕ → List ℕ → Outcome Next
number_call_outcome state reply answer = following (number_call_judged state reply answer) (number_answer (number_read_of state) (eqb reply 1))

unfoldable pub number_call_told : List ℕ → ℕ → List ℕ → List ℕ
number_call_told state reply answer = next_answered (number_call_outcome state reply answer) answer

unfoldable pub number_call_state : List ℕ → ℕ → List ℕ → List ℕ
number_call_state state reply answer =
    unless_refused (number_call_judged state reply answer) (number_buffer (number_state (number_read_of state) (eqb reply 1)) state) state
