use Prim.Native.Nat.{ℕ, ◌-◌, ◌≤◌}
use mathlib.Core.List.{List}
use lib.ListN.{length}
use Rattle.chip_entries.specs.declared.event.State.{State}
use Rattle.chip_entries.specs.Run.{Chip}
use Rattle.master_page.specs.Held.{page_held}
use Rattle.master_page_laws.specs.Heard.{page_events_for}
use Rattle.master_reading.proofs.Turns.{UnderWay}
use Rattle.master_reading.proofs.join.Given as goal

abbrev pub chip_of : State → List ℕ → Chip
chip_of state image = record { state = state; image = image }

abbrev pub invariant-loop-e : goal.invariant-loop-e
invariant-loop-e l = UnderWay l.initial.image l.initial.buffer l.fn.page.0 l.events (page_held l.reader l.buffer) (chip_of l.chip l.image) l.reply
    × (length (page_events_for 64 l.initial.image l.fn.page.0) ≤ 3921)

abbrev pub decreases-loop-e : goal.decreases-loop-e
decreases-loop-e l = length (page_events_for 64 l.initial.image l.fn.page.0) - l.events
