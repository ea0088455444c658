-- The laws of the publisher's later calls.
use Prim.Native.Nat.{ℕ, ◌<◌}
use mathlib.Core.Path.{refl}
use Rattle.bus_scripts.proofs.Scripts.{script_laws}
use Rattle.master_publisher.specs.Start.{choice_of}
use Rattle.master_publisher.specs.Call.{call_answer, call_state}
use Rattle.master_call_laws.specs.Calls.{CallLaws}
use Rattle.master_call_laws.proofs.Ranges.{start_fits, call_keeps, call_outside, call_numbers, call_never, call_no_crc}
use Rattle.master_call_laws.proofs.Listed.{publisher_listed}
use Rattle.master_call_laws.proofs.Plays.{started_plays, choice_plays, events_ordered}

pub call_laws : (n : ℕ) → 0 < n → CallLaws n
call_laws n some =
    record {
      starts = start_fits n some;
      keeps = call_keeps n;
      listed = publisher_listed n;
      outside = call_outside n;
      never_2 = call_never n;
      numbers = call_numbers n;
      no_crc = call_no_crc n;
      plays = λ kind img new p replies. choice_plays n kind img new p replies (choice_of n kind.placement img new p) refl (start_fits n some kind img new p);
      plays_started = started_plays n;
      ordered = events_ordered n;
      plays_on = λ react line s b replies st. script_laws.on_bus react line (call_state n) (call_answer n) (λ rs. started_plays n s rs st) b replies;
    }
