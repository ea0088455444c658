-- The number read fed a list of replies.
use Rattle.std.specs.Prelude.{ℕ, List}
use Rattle.base_types.specs.Outcome.{Outcome, Done}
use Rattle.bus_scripts.specs.Next.{Next}
use Rattle.master_number.specs.declared.NumberRead.{NumberRead}
use Rattle.master_number.specs.NumberRead.{number_in_range, number_answer, number_state}
use Rattle.master_runs.specs.Calls.{as_many, fed_judged, last_told, last_state, event_bytes}

-- 2 for the state and for a byte that is no reply, 10 for the events' buffer
unfoldable pub number_fed_judged : NumberRead → List ℕ → List ℕ → Outcome Done
number_fed_judged s codes events = fed_judged (number_in_range s) codes (as_many codes events)

unfoldable pub number_fed_outcome : NumberRead → List ℕ → List ℕ → Outcome Next
number_fed_outcome s codes events = last_told number_state number_answer (number_fed_judged s codes events) s codes

unfoldable pub number_fed_state : NumberRead → List ℕ → List ℕ → NumberRead
number_fed_state s codes events = last_state number_state number_answer (number_fed_judged s codes events) s codes

unfoldable pub number_fed_events : NumberRead → List ℕ → List ℕ → List ℕ
number_fed_events s codes events = event_bytes number_state number_answer (number_fed_judged s codes events) s codes events
