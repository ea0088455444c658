-- A whole write, as document 01 tells it, in the plain numbers of specs/Table.antt over the page count n: the image afterwards, byte for byte,
-- and what the events draw, whatever the master's bits in the slots in which the chip sends. No stage of the chip is named.
use Rattle.std.specs.Prelude.{ℕ, ◌+◌, ◌<◌, ◌≤◌, ◌≡◌, Bool, false, List, ◌∷◌, ◌++◌, map, length, get_or}
use Rattle.std.specs.Int.Bits.{bit_and}
use Rattle.base_types.specs.Bits.{bits_of_bytes}
use Rattle.base_types.specs.Outcome.{accepted}
use Rattle.base_types.specs.declared.address.Space.{Space}
use Rattle.base_types.specs.declared.address.Space.TheVariants.{Data, Status}
use Rattle.base_types.specs.declared.write_mode.WriteMode.{WriteMode}
use Rattle.base_types.specs.declared.write_mode.WriteMode.TheVariants.{Ordinary, Quick}
use Rattle.bus_events.specs.declared.Event.{Event}
use Rattle.bus_events.specs.Slots.{slots}
use Rattle.bus_events.specs.Events.{reset}
use Rattle.base_crc.specs.Crc.{crc16_of}
use Rattle.chip_function_laws.specs.Streams.{header}
use Rattle.chip_entries.specs.Run.{Chip, run, answers}
use Rattle.chip_session_laws.specs.Session.{Ready, Selection, WriteCycle, cycle_events, cycle_bytes, cycle_lines, byte_of}
use Rattle.chip_session_laws.specs.Table.{address_end, place_of, Writable, Unwritable}

-- The image after bytes were sent to the addresses from a on. The byte that guards another has a lower address, or is of the other memory, so
-- that it is written before or not at all: the rows are those of the image afterwards.
pub record Written (n : ℕ) (space : Space) (old new : List ℕ) (a : ℕ) (bytes : List ℕ) : Type 0 where
  pub written : (i : ℕ) → i < length bytes → Writable n new space (a + i)
      → get_or new (place_of n space (a + i)) 0 ≡ bit_and (get_or old (place_of n space (a + i)) 0) (get_or bytes i 0)
  pub left : (i : ℕ) → i < length bytes → Unwritable n new space (a + i) → get_or new (place_of n space (a + i)) 0 ≡ get_or old (place_of n space (a + i)) 0
  pub elsewhere : (j : ℕ) → ((i : ℕ) → i < length bytes → j ≡ place_of n space (a + i) → ⊥) → get_or new j 0 ≡ get_or old j 0
  pub as_long : length new ≡ length old

-- reset, the ROM command's bits, the command with its address, and for each byte its write cycle
abbrev pub session : {mode : WriteMode} → List Bool → ℕ → ℕ → List (WriteCycle mode) → List Event
session ms command a cycles = reset ∷ (slots (ms ++ bits_of_bytes (header command a)) ++ cycle_events cycles)

-- from any start address, any bytes that the memory has room for
pub record Writes (n : ℕ) (mode : WriteMode) (space : Space) (command : ℕ) : Type 0 where
  pub image : (c : Chip) {ms ls : List Bool} (a : ℕ) (cycles : List (WriteCycle mode)) → Ready n c → Selection c.state.number ms ls
      → 0 < length cycles → a + length cycles ≤ address_end n space
      → Written n space c.image (run n c (session ms command a cycles)).image a (cycle_bytes cycles)
  -- Presence, the ROM command's line, the command and the address as sent, and what the cycles draw. The first CRC is of command, address and
  -- byte. What is read back stands in the image afterwards, as no address is written twice.
  pub told : (c : Chip) {ms ls : List Bool} (a : ℕ) (cycles : List (WriteCycle mode)) → Ready n c → Selection c.state.number ms ls
      → 0 < length cycles → a + length cycles ≤ address_end n space
      → let new = (run n c (session ms command a cycles)).image in
      answers n c (session ms command a cycles)
      ≡ map accepted (false ∷ ((ls ++ bits_of_bytes (header command a)) ++ cycle_lines (byte_of n new space) a (crc16_of (header command a)) cycles))

pub record WrittenLaws (n : ℕ) : Type 0 where
  pub memory : Writes n Ordinary Data 0x0F
  pub status : Writes n Ordinary Status 0x55
  pub quick_memory : Writes n Quick Data 0xF3
  pub quick_status : Writes n Quick Status 0xF5
