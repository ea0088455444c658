-- The page read fed a list of replies, over the page count n.
use Rattle.std.specs.Prelude.{ℕ, ◌&&◌, List, eqb, length}
use Rattle.base_types.specs.Outcome.{Outcome, Done}
use Rattle.bus_scripts.specs.Next.{Next}
use Rattle.master_page.specs.PageRead.{page_in_range}
use Rattle.master_page.specs.Held.{PageHeld, page_told, page_called}
use Rattle.master_runs.specs.Calls.{as_many, fed_judged, last_told, last_state, event_bytes}

-- 2 for the state and for a byte that is no reply, 10 for the events' buffer and for the page's
unfoldable pub page_fed_judged : ℕ → PageHeld → List ℕ → List ℕ → Outcome Done
page_fed_judged n h codes events = fed_judged (page_in_range n h.state) codes (as_many codes events && eqb (length h.buffer) 32)

unfoldable pub page_fed_outcome : ℕ → PageHeld → List ℕ → List ℕ → Outcome Next
page_fed_outcome n h codes events = last_told (page_called n) (page_told n) (page_fed_judged n h codes events) h codes

unfoldable pub page_fed : ℕ → PageHeld → List ℕ → List ℕ → PageHeld
page_fed n h codes events = last_state (page_called n) (page_told n) (page_fed_judged n h codes events) h codes

unfoldable pub page_fed_events : ℕ → PageHeld → List ℕ → List ℕ → List ℕ
page_fed_events n h codes events = event_bytes (page_called n) (page_told n) (page_fed_judged n h codes events) h codes events
