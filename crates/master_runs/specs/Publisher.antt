-- The publisher's later calls fed a list of replies, over the page count n.
use Rattle.std.specs.Prelude.{ℕ, List}
use Rattle.base_types.specs.Outcome.{Outcome, Done}
use Rattle.bus_scripts.specs.Next.{Next}
use Rattle.master_publisher.specs.declared.Publisher.{Publisher}
use Rattle.master_publisher.specs.Call.{publisher_in_range, call_answer, call_state}
use Rattle.master_runs.specs.Calls.{as_many, fed_judged, last_told, last_state, event_bytes}

-- 2 for the state and for a byte that is no reply, 10 for the events' buffer
unfoldable pub publisher_fed_judged : ℕ → Publisher → List ℕ → List ℕ → Outcome Done
publisher_fed_judged n s codes events = fed_judged (publisher_in_range n s) codes (as_many codes events)

unfoldable pub publisher_fed_outcome : ℕ → Publisher → List ℕ → List ℕ → Outcome Next
publisher_fed_outcome n s codes events = last_told (call_state n) (call_answer n) (publisher_fed_judged n s codes events) s codes

unfoldable pub publisher_fed_state : ℕ → Publisher → List ℕ → List ℕ → Publisher
publisher_fed_state n s codes events = last_state (call_state n) (call_answer n) (publisher_fed_judged n s codes events) s codes

unfoldable pub publisher_fed_events : ℕ → Publisher → List ℕ → List ℕ → List ℕ
publisher_fed_events n s codes events = event_bytes (call_state n) (call_answer n) (publisher_fed_judged n s codes events) s codes events
