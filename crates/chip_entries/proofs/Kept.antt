-- Events keep a stage within its ranges and an image as long as it is; and what one event on such a chip does.
use Prim.Native.Nat.{ℕ, ◌%◌}
use mathlib.Core.Path.{◌≡◌, refl}
use mathlib.Core.Bool.{Bool, true}
use mathlib.Core.List.{List}
use lib.ListN.{length}
use Rattle.base_types.specs.Outcome.{accepted}
use Rattle.bus_events.specs.declared.Event.{Event}
use Rattle.bus_events.specs.declared.Event.TheVariants.{Reset, Slot, Pulse, PowerLoss}
use Rattle.chip_memory.specs.Layout.{is_image}
use Rattle.chip_memory.proofs.Gaps.{programmed_length}
use Rattle.chip_rom.specs.declared.RomStage.{RomStage}
use Rattle.chip_rom.specs.declared.RomOutcome.{RomOutcome}
use Rattle.chip_rom.specs.declared.RomOutcome.TheVariants.{Stays, Selected, Deselected}
use Rattle.chip_rom.specs.Rom.{rom_slot, rom_in_range}
use Rattle.chip_rom_laws.proofs.Sessions.{rom_laws}
use Rattle.chip_stage.specs.declared.stage.MemoryStage.TheVariants.{Silent, Receive, Send, Armed}
use Rattle.chip_stage.specs.Stages.{receiving}
use Rattle.chip_function.specs.Functions.{pulse_image}
use Rattle.chip_function.specs.Ranges.{memory_in_range, receiving_in_range, incoming_in_range}
use Rattle.chip_function_laws.proofs.Keeps.{range_laws}
use Rattle.chip_entries.specs.declared.event.Stage.{Stage}
use Rattle.chip_entries.specs.declared.event.Stage.TheVariants.{Rom, Memory}
use Rattle.chip_entries.specs.Event.{after_rom, stage_slot, pulse_image_of, stage_pulse, chip_in_range, reply_of, image_after, stage_after, event_answer, event_state, event_image}
use Rattle.chip_entries.specs.Run.{Chip, next, draws}

module _ (n : ℕ) (whole : n % 8 ≡ 0) where
  after_rom_kept : (o : RomOutcome) → ((s : RomStage) → o ≡ Stays s → rom_in_range s ≡ true) → chip_in_range n (after_rom o) ≡ true
  unfolding after_rom chip_in_range receiving memory_in_range receiving_in_range incoming_in_range
  after_rom_kept (Stays s) h = h s refl
  after_rom_kept Selected h = refl
  after_rom_kept Deselected h = refl

  slot_kept : (s : Stage) (bit : Bool) (number img : List ℕ) → chip_in_range n s ≡ true → chip_in_range n (stage_slot n s bit number img) ≡ true
  unfolding stage_slot chip_in_range
  slot_kept (Rom r) bit number img h = after_rom_kept (rom_slot r bit number) (λ s e. rom_laws.kept r s bit number h e)
  slot_kept (Memory m) bit number img h = (range_laws n whole).slot m bit img h

  pulse_kept : (s : Stage) (img : List ℕ) → chip_in_range n s ≡ true → chip_in_range n (stage_pulse n s img) ≡ true
  unfolding stage_pulse chip_in_range
  pulse_kept (Rom r) img h = h
  pulse_kept (Memory m) img h = (range_laws n whole).pulse m img h

  pub stage_kept : (s : Stage) (e : Event) (number img : List ℕ) → chip_in_range n s ≡ true → chip_in_range n (stage_after n s e number img) ≡ true
  unfolding stage_after
  stage_kept s Reset number img h = unfold chip_in_range rom_in_range in refl
  stage_kept s (Slot bit) number img h = slot_kept s bit number img h
  stage_kept s Pulse number img h = pulse_kept s img h
  stage_kept s PowerLoss number img h = unfold chip_in_range memory_in_range in refl

module _ (n : ℕ) where
  pulse_length : (s : Stage) (img : List ℕ) → length (pulse_image_of n s img) ≡ length img
  unfolding pulse_image_of pulse_image
  pulse_length (Rom r) img = refl
  pulse_length (Memory Silent) img = refl
  pulse_length (Memory (Receive i k register crc)) img = refl
  pulse_length (Memory (Send o left v crc)) img = refl
  pulse_length (Memory (Armed mode t byte)) img = programmed_length n img t byte

  pub image_length : (s : Stage) (e : Event) (img : List ℕ) → length (image_after n s e img) ≡ length img
  unfolding image_after
  image_length s Reset img = refl
  image_length s (Slot bit) img = refl
  image_length s Pulse img = pulse_length s img
  image_length s PowerLoss img = refl

-- ---- one event on a chip with an image of the right length and a stage within its ranges

abbrev pub after_event : ℕ → Chip → Event → Chip
after_event n c e =
    record {
      state = record {
        stage = stage_after n c.state.stage e c.state.number (image_after n c.state.stage e c.image);
        number = c.state.number;
      };
      image = image_after n c.state.stage e c.image;
    }

module _ (n : ℕ) (c : Chip) (sized : is_image n c.image ≡ true) (ranged : chip_in_range n c.state.stage ≡ true) where
  -- the event is accepted
  pub accepts : (e : Event) → draws n c e ≡ accepted (reply_of c.state.stage e c.state.number)
  unfolding event_answer
  accepts e = simp (sized, ranged)

  pub next_is : (e : Event) → next n c e ≡ after_event n c e
  unfolding event_state event_image
  next_is e = simp (accepts e)
