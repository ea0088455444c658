-- The byte of an event says which event it is.
use mathlib.Core.Path.{◌≡◌, refl}
use mathlib.Core.Bool.{true, false}
use Rattle.bus_events.specs.declared.Event.{Event}
use Rattle.bus_events.specs.declared.Event.TheVariants.{Reset, Slot, Pulse, PowerLoss}
use Rattle.bus_events.specs.Codes.{code_of, is_event, event_of, CodeLaws}

coded : (e : Event) → is_event (code_of e) ≡ true
coded (Slot true) = refl
coded (Slot false) = refl
coded Reset = refl
coded Pulse = refl
coded PowerLoss = refl

event_back : (e : Event) → event_of (code_of e) ≡ e
event_back (Slot true) = refl
event_back (Slot false) = refl
event_back Reset = refl
event_back Pulse = refl
event_back PowerLoss = refl

pub code_laws : CodeLaws
code_laws = record { coded = coded; back = event_back }
