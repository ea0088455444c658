-- Events as bytes: a slot is its master bit, 2 a reset, 3 a program pulse, 4 a power loss.
use Rattle.std.specs.Prelude.{ℕ, ◌≡◌, Bool, true, false, cond, eqb, ltb}
use Rattle.base_types.specs.Bits.{one}
use Rattle.bus_events.specs.declared.Event.{Event}
use Rattle.bus_events.specs.declared.Event.TheVariants.{Reset, Slot, Pulse, PowerLoss}
use Rattle.bus_events.specs.Events.{reset, slot, pulse, power_loss}

abbrev pub code_of : Event → ℕ
code_of (Slot bit) = one bit
code_of Reset = 2
code_of Pulse = 3
code_of PowerLoss = 4

abbrev pub is_event : ℕ → Bool
is_event code = ltb code 5

-- a byte that is that of no event counts as a power loss
abbrev pub event_of : ℕ → Event
event_of code =
    cond (eqb code 0) (slot false)
    (cond (eqb code 1) (slot true)
    (cond (eqb code 2) reset
    (cond (eqb code 3) pulse
    power_loss)))

-- the byte of an event is that of an event, and of no other one
pub record CodeLaws : Type 0 where
  pub coded : (e : Event) → is_event (code_of e) ≡ true
  pub back : (e : Event) → event_of (code_of e) ≡ e
