-- The page read's ranges, its start and its later calls, over the page count n. A call takes the reply to the last event
-- (specs/Code/PageSteps.antt) and tells what the state then reached shows.
use Rattle.std.specs.Prelude.{ℕ, Bool, true, false, cond, not, List, [], ◌∷◌, Result, Ok, Err, ⊤, ltb, eqb, length, replicate}
use Rattle.base_types.specs.declared.address.Page.{Page}
use Rattle.base_types.specs.declared.refusal.Refusal.{Refusal}
use Rattle.base_types.specs.Outcome.{Outcome, accepted, refusing, judge}
use Rattle.bus_events.specs.declared.Next.{Next as CodeNext}
use Rattle.chip_memory.specs.Layout.{is_page}
use Rattle.chip_memory.specs.Page.{copied}
use Rattle.bus_scripts.specs.Next.{Next, next_outcome}
use Rattle.master_page.specs.declared.Part.{Part}
use Rattle.master_page.specs.declared.Part.TheVariants.{Redirection, RedirectionCrc, Data, DataCrc}
use Rattle.master_page.specs.declared.Phase.{Phase}
use Rattle.master_page.specs.declared.Phase.TheVariants.{Begin, Presence, Command, Receive, Closing, Done, Stopped}
use Rattle.master_page.specs.declared.PageStop.{PageStop}
use Rattle.master_page.specs.declared.PageStop.TheVariants.{PageNumber, Loop, Outside, Crc16, NoPresence}
use Rattle.master_page.specs.declared.PageRead.{PageRead}
use Rattle.master_page.specs.Code.PageSteps.{page_next, page_phase_answer, finishes}

-- ---- ranges

abbrev pub part_in_range : Part → Bool
part_in_range Redirection = true
part_in_range (RedirectionCrc b) = true
part_in_range (Data k) = ltb k 32
part_in_range DataCrc = true

abbrev pub part_width : Part → ℕ
part_width Redirection = 8
part_width (RedirectionCrc b) = 16
part_width (Data k) = 8
part_width DataCrc = 16

unfoldable pub page_receive_in_range : Part → ℕ → Bool
page_receive_in_range part left = cond (ltb left 1) false (cond (ltb (part_width part) left) false (part_in_range part))

-- the number outside is that of no page
unfoldable pub page_stop_in_range : ℕ → PageStop → Bool
page_stop_in_range n PageNumber = true
page_stop_in_range n Loop = true
page_stop_in_range n (Outside x) = not (is_page n x)
page_stop_in_range n Crc16 = true
page_stop_in_range n NoPresence = true

unfoldable pub page_phase_in_range : ℕ → Phase → Bool
page_phase_in_range n Begin = true
page_phase_in_range n Presence = true
page_phase_in_range n (Command i) = ltb i 32
page_phase_in_range n (Receive part left v) = page_receive_in_range part left
page_phase_in_range n Closing = true
page_phase_in_range n Done = true
page_phase_in_range n (Stopped cause) = page_stop_in_range n cause

unfoldable pub page_in_range : ℕ → PageRead → Bool
page_in_range n s = cond (is_page n s.page.0) (cond (ltb s.hops n) (page_phase_in_range n s.phase) false) false

-- ---- the start

unfoldable pub page_begun : ℕ → PageRead
page_begun p = record { phase = Begin; page = record { 0 = p }; hops = 0; bytes = replicate 32 0 }

unfoldable pub refused_start : PageRead
refused_start = record { phase = Stopped PageNumber; page = record { 0 = 0 }; hops = 0; bytes = replicate 32 0 }

-- what the start tells: no values
abbrev pub start_outcome : Result ⊤ Refusal → Outcome (List ℕ)
start_outcome (Ok t) = accepted []
start_outcome (Err r) = refusing r

-- 3, or nothing but the state
unfoldable pub start_answer : ℕ → ℕ → Outcome (List ℕ)
start_answer n p = judge (is_page n p) 3 (accepted [])

unfoldable pub start_state : ℕ → ℕ → PageRead
start_state n p = cond (is_page n p) (page_begun p) refused_start

-- ---- the later calls

-- what an answer tells; the end tells the page and the hops
abbrev pub read_outcome : Result (CodeNext (Page × ℕ)) Refusal → Outcome Next
read_outcome = next_outcome (λ e. e.0.0 ∷ e.1 ∷ [])

-- what is told on the way into a state
abbrev pub page_shown : PageRead → Outcome Next
page_shown s = read_outcome (page_phase_answer s.phase s.page s.hops)

-- 2, 10, or what is told on the way into the state that the reply leads to
unfoldable pub read_answer : ℕ → PageRead → Bool → List ℕ → Outcome Next
read_answer n s reply buffer = judge (page_in_range n s) 2 (judge (eqb (length buffer) 32) 10 (page_shown (page_next n s reply)))

unfoldable pub read_state : ℕ → PageRead → Bool → List ℕ → PageRead
read_state n s reply buffer = cond (page_in_range n s) (cond (eqb (length buffer) 32) (page_next n s reply) s) s

-- the buffer is written in the one call that first tells Final, and in no other
unfoldable pub read_buffer : ℕ → PageRead → Bool → List ℕ → List ℕ
read_buffer n s reply buffer =
    cond (page_in_range n s) (cond (eqb (length buffer) 32) (cond (finishes s.phase reply) (copied s.bytes buffer) buffer) buffer) buffer
