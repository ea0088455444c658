-- The publisher's later calls, over the page count n.
use Rattle.std.specs.Prelude.{ℕ, Bool, true, false, not, cond, List, [], ◌∷◌, Result, leb}
use Rattle.base_types.specs.Outcome.{Outcome, judge}
use Rattle.base_types.specs.declared.address.Page.{Page}
use Rattle.base_types.specs.declared.refusal.Refusal.{Refusal}
use Rattle.base_types.specs.declared.write_mode.WriteMode.{WriteMode}
use Rattle.base_types.specs.declared.write_mode.WriteMode.TheVariants.{Ordinary, Quick}
use Rattle.chip_memory.specs.Layout.{is_page}
use Rattle.bus_events.specs.declared.Next.{Next as CodeNext}
use Rattle.bus_scripts.specs.Next.{Next, next_outcome}
use Rattle.master_plan.specs.declared.kind.UpdateKind.{UpdateKind}
use Rattle.master_plan.specs.Kind.{total_of}
use Rattle.master_publisher.specs.declared.PublisherStop.{PublisherStop}
use Rattle.master_publisher.specs.declared.PublisherStop.TheVariants.{ImageLength, PageNumber, Loop, Outside, Crc16, ReadBack, NoFreePage}
use Rattle.master_publisher.specs.declared.PublisherStop.TheVariants.{RedirectionProtected, BufferLength, NoPresence, DataProtected}
use Rattle.master_publisher.specs.declared.Stage.{Stage}
use Rattle.master_publisher.specs.declared.Stage.TheVariants.{Running, Done, Stopped}
use Rattle.master_publisher.specs.declared.Publisher.{Publisher}
use Rattle.master_publisher.specs.Code.Turn.{plan_in, total_in, turn_of}

-- ---- ranges

-- a mode in which CRCs are read
abbrev pub reads_crc : WriteMode → Bool
reads_crc Ordinary = true
reads_crc Quick = false

-- what a stopped state can hold: 5 with a number that is no page, 9 and 20 with a page, and 6 where CRCs are read
abbrev pub stop_in_range : WriteMode → ℕ → PublisherStop → Bool
stop_in_range mode n ImageLength = true
stop_in_range mode n PageNumber = true
stop_in_range mode n Loop = true
stop_in_range mode n (Outside x) = not (is_page n x)
stop_in_range mode n Crc16 = reads_crc mode
stop_in_range mode n ReadBack = true
stop_in_range mode n NoFreePage = true
stop_in_range mode n (RedirectionProtected l) = is_page n l.0
stop_in_range mode n BufferLength = true
stop_in_range mode n NoPresence = true
stop_in_range mode n (DataProtected l) = is_page n l.0

abbrev pub stage_in_range : UpdateKind → ℕ → Stage → Bool
stage_in_range kind n (Running k good) = leb k (total_of kind)
stage_in_range kind n Done = true
stage_in_range kind n (Stopped stop) = stop_in_range kind.mode n stop

unfoldable pub publisher_in_range : ℕ → Publisher → Bool
publisher_in_range n s =
    cond (is_page n s.superseded.0) (cond (is_page n s.target.0) (stage_in_range s.kind n s.stage) false) false

-- ---- the entry

-- the end tells L and T
abbrev pub turn_outcome : Result (CodeNext (Page × Page)) Refusal → Outcome Next
turn_outcome = next_outcome (λ pages. pages.0.0 ∷ pages.1.0 ∷ [])

-- 2, or the turn's answer
unfoldable pub call_answer : ℕ → Publisher → Bool → Outcome Next
call_answer n s reply = judge (publisher_in_range n s) 2 (turn_outcome (turn_of (total_in s) (plan_in s) s s.stage reply).answer)

unfoldable pub call_state : ℕ → Publisher → Bool → Publisher
call_state n s reply = cond (publisher_in_range n s) (turn_of (total_in s) (plan_in s) s s.stage reply).state s
