-- The events by name. Definitions and laws build events by these names, so that a further field of an event shows in few places.
use Rattle.std.specs.Prelude.{Bool, true}
use Rattle.bus_events.specs.declared.Event.{Event}
use Rattle.bus_events.specs.declared.Event.TheVariants.{Reset, Slot, Pulse, PowerLoss}

abbrev pub reset : Event
reset = Reset

-- a slot with this master bit
abbrev pub slot : Bool → Event
slot bit = Slot bit

abbrev pub read_slot : Event
read_slot = slot true

-- the program pulse
abbrev pub pulse : Event
pulse = Pulse

abbrev pub power_loss : Event
power_loss = PowerLoss
