-- Events keep a chip within its ranges; what changes the image; armed and silent chips.
use Prim.Native.Nat.{ℕ, ◌%◌}
use mathlib.Core.Path.{◌≡◌, refl, sym, ap, ◌∙◌, subst}
use mathlib.Core.Bool.{Bool, true, false, ◌&&◌}
use mathlib.Core.List.{List, [], ◌∷◌}
use Rattle.base_types.specs.Outcome.{Outcome, refused, accepted, unless_refused}
use Rattle.base_types.specs.declared.address.Target.{Target}
use Rattle.base_types.specs.declared.write_mode.WriteMode.{WriteMode}
use Rattle.bus_events.specs.declared.Event.{Event}
use Rattle.bus_events.specs.declared.Event.TheVariants.{Reset, Slot, Pulse, PowerLoss}
use Rattle.bus_events.specs.Events.{slot, pulse, power_loss}
use Rattle.chip_memory.specs.Write.{programmed}
use Rattle.chip_stage.specs.declared.stage.MemoryStage.TheVariants.{Silent, Receive, Send, Armed}
use Rattle.chip_function.specs.Functions.{memory_slot, memory_bit, pulse_image, pulse_stage}
use Rattle.chip_function.specs.Ranges.{memory_in_range}
use Rattle.chip_entries.specs.declared.event.Stage.{Stage}
use Rattle.chip_entries.specs.declared.event.Stage.TheVariants.{Rom, Memory}
use Rattle.chip_entries.specs.declared.event.State.{State}
use Rattle.chip_entries.specs.Event.{silent, power_up, stage_slot, stage_bit, pulse_image_of, stage_pulse, chip_in_range, reply_of, image_after, stage_after, event_state, event_image}
use Rattle.chip_entries.proofs.Kept.{stage_kept, image_length, after_event}
use Rattle.chip_entries.specs.Run.{Chip, next, draws}
use Rattle.chip_session_laws.specs.Session.{Ready, ◌at◌, Reaches}
use Rattle.chip_session_laws.specs.Laws.{is_armed, is_pulse, is_reset, silent_reply, StateLaws}
use Rattle.chip_session_laws.proofs.Runs.{event, ready_next}

pub and_with_true : (b : Bool) → (b && true) ≡ b
and_with_true true = refl
and_with_true false = refl

-- ---- ranges

module _ (n : ℕ) (whole : n % 8 ≡ 0) where
  pub ready_after : (c : Chip) (e : Event) (ok : Ready n c) → Ready n (after_event n c e)
  ready_after c e ok =
      record {
        sized = image_length n c.state.stage e c.image ∙ ok.sized;
        ranged = stage_kept n whole c.state.stage e c.state.number (image_after n c.state.stage e c.image) ok.ranged;
        eight = ok.eight;
      }

  pub keeps : (c : Chip) (e : Event) → Ready n c → Ready n (next n c e)
  keeps c e ok = subst (Ready n) (sym (ready_next n c ok e)) (ready_after c e ok)

-- ---- what changes the image, and what the number

module _ (n : ℕ) where
  unarmed : (s : Stage) (img : List ℕ) → is_armed s ≡ false → pulse_image_of n s img ≡ img
  unfolding pulse_image_of pulse_image
  unarmed (Rom r) img h = refl
  unarmed (Memory Silent) img h = refl
  unarmed (Memory (Receive i k register crc)) img h = refl
  unarmed (Memory (Send o left v crc)) img h = refl
  unarmed (Memory (Armed mode t byte)) img h = cc

  same_image : (s : Stage) (e : Event) (img : List ℕ) → (is_pulse e && is_armed s) ≡ false → image_after n s e img ≡ img
  unfolding image_after
  same_image s Reset img h = refl
  same_image s (Slot bit) img h = refl
  same_image s Pulse img h = unarmed s img h
  same_image s PowerLoss img h = refl

  either_image : (t : Outcome Bool) (new old : List ℕ) → new ≡ old → unless_refused t new old ≡ old
  either_image (accepted r) new old e = e
  either_image (refused k vs) new old e = refl

  pub image_kept : (c : Chip) (e : Event) → (is_pulse e && is_armed c.state.stage) ≡ false → (next n c e).image ≡ c.image
  unfolding event_image
  image_kept c e h = either_image (draws n c e) _ _ (same_image c.state.stage e c.image h)

  either_number : (t : Outcome Bool) (new old : State) → new.number ≡ old.number → (unless_refused t new old).number ≡ old.number
  either_number (accepted r) new old e = e
  either_number (refused k vs) new old e = refl

  pub number_kept : (c : Chip) (e : Event) → (next n c e).state.number ≡ c.state.number
  unfolding event_state
  number_kept c e = either_number (draws n c e) _ c.state refl

  pub armed_pulse : (c : Chip) (mode : WriteMode) (t : Target) (byte : ℕ) → c.state.stage ≡ Memory (Armed mode t byte) → Ready n c
      → (next n c pulse).image ≡ programmed n c.image t byte
  armed_pulse c mode t byte e ok =
      ap (λ (d : Chip). d.image) (ready_next n c ok pulse)
      ∙ unfold image_after pulse_image_of pulse_image in ap (λ s. image_after n s pulse c.image) e

  -- ---- armed, idle and silent chips

  idle : (s : Stage) (img : List ℕ) → is_armed s ≡ false → stage_pulse n s img ≡ s
  unfolding stage_pulse pulse_stage
  idle (Rom r) img h = refl
  idle (Memory Silent) img h = refl
  idle (Memory (Receive i k register crc)) img h = refl
  idle (Memory (Send o left v crc)) img h = refl
  idle (Memory (Armed mode t byte)) img h = cc

  pub idle_pulse : (c : Chip) → Ready n c → is_armed c.state.stage ≡ false → Reaches n c (pulse ∷ []) (true ∷ []) c
  unfolding reply_of stage_after image_after
  idle_pulse c ok h = rw (unarmed c.state.stage c.image h, idle c.state.stage c.image h) at (event n c ok pulse)

  pub armed_slot : (c : Chip) (mode : WriteMode) (t : Target) (byte : ℕ) (bit : Bool) → Ready n (c at Memory (Armed mode t byte))
      → Reaches n (c at Memory (Armed mode t byte)) (slot bit ∷ []) (bit ∷ []) (c at silent)
  unfolding reply_of stage_bit memory_bit stage_after stage_slot memory_slot image_after
  armed_slot c mode t byte bit ok = rw (and_with_true bit) at (event n (c at Memory (Armed mode t byte)) ok (slot bit))

  pub silent_stays : (c : Chip) (e : Event) → Ready n (c at silent) → is_reset e ≡ false → Reaches n (c at silent) (e ∷ []) (silent_reply e ∷ []) (c at silent)
  unfolding reply_of stage_bit memory_bit stage_after stage_slot memory_slot image_after pulse_image_of pulse_image stage_pulse pulse_stage
  silent_stays c Reset ok h = cc
  silent_stays c (Slot bit) ok h = rw (and_with_true bit) at (event n (c at silent) ok (slot bit))
  silent_stays c Pulse ok h = event n (c at silent) ok pulse
  silent_stays c PowerLoss ok h = event n (c at silent) ok power_loss

  pub power_loss_law : (c : Chip) → Ready n c → Reaches n c (power_loss ∷ []) (true ∷ []) (c at silent)
  unfolding reply_of stage_after image_after
  power_loss_law c ok = event n c ok power_loss

pub state_laws : (n : ℕ) → n % 8 ≡ 0 → StateLaws n
unfolding power_up
state_laws n whole =
    record {
      power_up_law = λ number img s e. record { sized = s; ranged = unfold chip_in_range memory_in_range in refl; eight = e };
      keeps = keeps n whole;
      idle_pulse = idle_pulse n;
      image_kept = image_kept n;
      number_kept = number_kept n;
      armed_pulse = armed_pulse n;
      armed_slot = armed_slot n;
      silent_stays = silent_stays n;
      power_loss_law = power_loss_law n;
    }
