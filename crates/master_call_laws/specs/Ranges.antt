-- The ranges of a publisher's state, as docs/RANGES.md lists them, in plain numbers, over the page count n.
use Rattle.std.specs.Prelude.{ℕ, ◌<◌, ◌≤◌, ◌≡◌, Bool, cond, [], ◌∷◌, eqb}
use Rattle.base_types.specs.declared.write_mode.WriteMode.{WriteMode}
use Rattle.base_types.specs.declared.write_mode.WriteMode.TheVariants.{Ordinary}
use Rattle.bus_scripts.specs.Ranges.{among}
use Rattle.master_plan.specs.declared.kind.UpdateKind.{UpdateKind}
use Rattle.master_plan.specs.Kind.{total_of}
use Rattle.master_publisher.specs.declared.PublisherStop.{PublisherStop}
use Rattle.master_publisher.specs.declared.PublisherStop.TheVariants.{ImageLength, PageNumber, Loop, Outside, Crc16, ReadBack, NoFreePage}
use Rattle.master_publisher.specs.declared.PublisherStop.TheVariants.{RedirectionProtected, BufferLength, NoPresence, DataProtected}
use Rattle.master_publisher.specs.declared.Stage.{Stage}
use Rattle.master_publisher.specs.declared.Stage.TheVariants.{Running, Done, Stopped}
use Rattle.master_publisher.specs.declared.Publisher.{Publisher}
use Rattle.master_publisher.specs.Call.{reads_crc}

-- the numbers of the refusals that an update can tell; 6 where CRCs are read alone
abbrev pub tells_number : WriteMode → ℕ → Bool
tells_number mode number = cond (eqb number 6) (reads_crc mode) (among number (1 ∷ 3 ∷ 4 ∷ 5 ∷ 7 ∷ 8 ∷ 9 ∷ 10 ∷ 13 ∷ 20 ∷ []))

-- what stopped an update: 5 has a number that is no page, 9 and 20 have a page, and 6 stops it in the ordinary mode alone
abbrev pub StopListed : WriteMode → ℕ → PublisherStop → Type 0
StopListed mode n ImageLength = Unit {0}
StopListed mode n PageNumber = Unit {0}
StopListed mode n Loop = Unit {0}
StopListed mode n (Outside x) = n ≤ x
StopListed mode n Crc16 = mode ≡ Ordinary
StopListed mode n ReadBack = Unit {0}
StopListed mode n NoFreePage = Unit {0}
StopListed mode n (RedirectionProtected l) = l.0 < n
StopListed mode n BufferLength = Unit {0}
StopListed mode n NoPresence = Unit {0}
StopListed mode n (DataProtected l) = l.0 < n

-- so many events can have been returned: 1,222 in an ordinary update, 678 in a quick one
abbrev pub StageListed : UpdateKind → ℕ → Stage → Type 0
StageListed kind n (Running k good) = k ≤ total_of kind
StageListed kind n Done = Unit {0}
StageListed kind n (Stopped stop) = StopListed kind.mode n stop

pub record PublisherListed (n : ℕ) (s : Publisher) : Type 0 where
  pub superseded_page : s.superseded.0 < n
  pub target_page : s.target.0 < n
  pub stage : StageListed s.kind n s.stage
