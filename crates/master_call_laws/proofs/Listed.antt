-- The test of a publisher's ranges is the list.
use Prim.Native.Nat.{ℕ}
use mathlib.Core.Bool.{true}
use mathlib.Core.Logic.{◌↔◌}
use mathlib.Core.Path.{◌≡◌, refl, sym, ◌∙◌}
use lib.Dec.{ltb}
use borrow.Author.Tests.{lt-ltb, le-leb, leb-true, ltb-true}
use Rattle.base_types.specs.declared.write_mode.WriteMode.{WriteMode}
use Rattle.base_types.specs.declared.write_mode.WriteMode.TheVariants.{Ordinary, Quick}
use Rattle.chip_memory.specs.Layout.{is_page}
use Rattle.base_types.proofs.Tests.{both, beyond}
use Rattle.master_plan.specs.declared.kind.UpdateKind.{UpdateKind}
use Rattle.master_plan.specs.Kind.{total_of}
use Rattle.master_publisher.specs.declared.PublisherStop.{PublisherStop}
use Rattle.master_publisher.specs.declared.PublisherStop.TheVariants.{ImageLength, PageNumber, Loop, Outside, Crc16, ReadBack, NoFreePage}
use Rattle.master_publisher.specs.declared.PublisherStop.TheVariants.{RedirectionProtected, BufferLength, NoPresence, DataProtected}
use Rattle.master_publisher.specs.declared.Stage.{Stage}
use Rattle.master_publisher.specs.declared.Stage.TheVariants.{Running, Done, Stopped}
use Rattle.master_publisher.specs.declared.Publisher.{Publisher}
use Rattle.master_publisher.specs.Call.{reads_crc, stop_in_range, stage_in_range, publisher_in_range}
use Rattle.master_call_laws.specs.Ranges.{StopListed, StageListed, PublisherListed}

reads_listed : (mode : WriteMode) → (reads_crc mode ≡ true) ↔ (mode ≡ Ordinary)
reads_listed Ordinary = (λ h. refl, λ e. refl)
reads_listed Quick = (λ h. cc, λ e. cc)

-- a test that holds, and nothing to list
open_stop : {A : Type 0} {x : A} → (x ≡ x) ↔ Unit {0}
open_stop = (λ h. tt, λ l. refl)

module _ (mode : WriteMode) (n : ℕ) where
  stop_listed : (stop : PublisherStop) → (stop_in_range mode n stop ≡ true) ↔ StopListed mode n stop
  unfolding is_page
  stop_listed ImageLength = open_stop
  stop_listed PageNumber = open_stop
  stop_listed Loop = open_stop
  stop_listed (Outside x) = (λ h. leb-true n x (sym (beyond n x) ∙ h), λ l. beyond n x ∙ le-leb n x l)
  stop_listed Crc16 = reads_listed mode
  stop_listed ReadBack = open_stop
  stop_listed NoFreePage = open_stop
  stop_listed (RedirectionProtected l) = (ltb-true l.0 n, lt-ltb l.0 n)
  stop_listed BufferLength = open_stop
  stop_listed NoPresence = open_stop
  stop_listed (DataProtected l) = (ltb-true l.0 n, lt-ltb l.0 n)

stage_listed : (kind : UpdateKind) (n : ℕ) (g : Stage) → (stage_in_range kind n g ≡ true) ↔ StageListed kind n g
stage_listed kind n (Running k good) = (leb-true k (total_of kind), le-leb k (total_of kind))
stage_listed kind n Done = open_stop
stage_listed kind n (Stopped stop) = stop_listed kind.mode n stop

pub publisher_listed : (n : ℕ) (s : Publisher) → (publisher_in_range n s ≡ true) ↔ PublisherListed n s
unfolding publisher_in_range is_page
publisher_listed n s = (
  λ h. let a = both (ltb s.superseded.0 n) _ h in let b = both (ltb s.target.0 n) _ a.1 in
      record {
        superseded_page = ltb-true s.superseded.0 n a.0;
        target_page = ltb-true s.target.0 n b.0;
        stage = (stage_listed s.kind n s.stage).0 b.1;
      },
  λ l. simp (lt-ltb s.superseded.0 n l.superseded_page, lt-ltb s.target.0 n l.target_page, (stage_listed s.kind n s.stage).1 l.stage),
)
