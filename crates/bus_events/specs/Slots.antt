-- Slots one after the other, and the line that they see.
use Rattle.std.specs.Prelude.{ℕ, Bool, true, ◌&&◌, List, [], ◌∷◌, replicate}
use Rattle.base_types.specs.Bits.{bits_of_bytes}
use Rattle.base_types.specs.declared.write_mode.WriteMode.{WriteMode}
use Rattle.base_types.specs.declared.write_mode.WriteMode.TheVariants.{Ordinary, Quick}
use Rattle.bus_events.specs.declared.Event.{Event}
use Rattle.bus_events.specs.Events.{slot}

-- the slots with these master bits
abbrev pub slots : List Bool → List Event
slots [] = []
slots (b ∷ bs) = slot b ∷ slots bs

-- the slots that send bytes
abbrev pub sending : List ℕ → List Event
sending bytes = slots (bits_of_bytes bytes)

-- k read slots
abbrev pub ones : ℕ → List Bool
ones k = replicate k true

abbrev pub reading : ℕ → List Event
reading k = slots (ones k)

-- between a byte and its pulse: in the ordinary mode sixteen read slots for a CRC, and in the quick mode nothing
abbrev pub crc_events : WriteMode → List Event
crc_events Ordinary = reading 16
crc_events Quick = []

-- the line: master bit AND the chip's bit, slot by slot
abbrev pub lines : List Bool → List Bool → List Bool
lines [] bits = []
lines (m ∷ ms) [] = []
lines (m ∷ ms) (b ∷ bits) = (m && b) ∷ lines ms bits
