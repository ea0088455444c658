-- A session with the chip: the events, what they draw, and where they lead. n is the page count.
use Rattle.std.specs.Prelude.{ℕ, zero, suc, ◌+◌, ◌<◌, ◌≡◌, Bool, true, cond, List, [], ◌∷◌, ◌++◌, map, ltb, length, get_or}
use Rattle.base_types.specs.Bits.{bits_of, bits_of_bytes}
use Rattle.base_types.specs.Outcome.{accepted}
use Rattle.base_types.specs.declared.address.Space.{Space}
use Rattle.base_types.specs.declared.address.Space.TheVariants.{Data, Status}
use Rattle.base_types.specs.declared.write_mode.WriteMode.{WriteMode}
use Rattle.base_types.specs.declared.write_mode.WriteMode.TheVariants.{Ordinary, Quick}
use Rattle.bus_events.specs.declared.Event.{Event}
use Rattle.bus_events.specs.Slots.{slots, reading, lines, crc_events}
use Rattle.bus_events.specs.Events.{pulse}
use Rattle.base_crc.specs.Crc.{crc16_from, crc16_word}
use Rattle.chip_memory.specs.Layout.{image_size}
use Rattle.chip_memory.specs.Image.{data_byte, status_byte, target_byte}
use Rattle.chip_memory.specs.Write.{programmed}
use Rattle.chip_rom_laws.specs.Rom.{Ask, search_bits, search_sent}
use Rattle.chip_stage.specs.declared.stage.Incoming.TheVariants.{Data as DataByte}
use Rattle.chip_stage.specs.Limits.{limit_of, target_at}
use Rattle.chip_stage.specs.Stages.{receiving}
use Rattle.chip_entries.specs.declared.event.Stage.{Stage}
use Rattle.chip_entries.specs.declared.event.Stage.TheVariants.{Memory}
use Rattle.chip_entries.specs.Event.{silent, chip_in_range}
use Rattle.chip_entries.specs.Run.{Chip, run, answers}

-- an image of the right length, a state within its ranges, a number of eight bytes
pub record Ready (n : ℕ) (c : Chip) : Type 0 where
  pub sized : length c.image ≡ image_size n
  pub ranged : chip_in_range n c.state.stage ≡ true
  pub eight : length c.state.number ≡ 8

-- the same chip at another stage, and with another image
infixl 25 ◌at◌
abbrev pub ◌at◌ : Chip → Stage → Chip
c at stage = record { state = record { stage = stage; number = c.state.number }; image = c.image }

infixl 25 ◌holding◌
abbrev pub ◌holding◌ : Chip → List ℕ → Chip
c holding img = record { state = c.state; image = img }

-- numbers that are bytes
abbrev pub Bytes : List ℕ → Type 0
Bytes l = (i : ℕ) → get_or l i 0 < 256

-- the events draw these replies, none of them refused, and take the chip c to the chip d
pub record Reaches (n : ℕ) (c : Chip) (es : List Event) (replies : List Bool) (d : Chip) : Type 0 where
  pub told : answers n c es ≡ map accepted replies
  pub there : run n c es ≡ d

-- ---- the ROM commands that succeed: the master's bits after the reset, and the line

pub data Selection (number : List ℕ) : List Bool → List Bool → Type 0 where
  skip : Selection number (bits_of 8 0xCC) (bits_of 8 0xCC)
  read : (ms : List Bool) → length ms ≡ 64 → Selection number (bits_of 8 0x33 ++ ms) (bits_of 8 0x33 ++ lines ms (bits_of_bytes number))
  matched : Selection number (bits_of 8 0x55 ++ bits_of_bytes number) (bits_of 8 0x55 ++ bits_of_bytes number)
  searched : (asks : List Ask) → length asks ≡ 64
      → Selection number (bits_of 8 0xF0 ++ search_bits number 0 asks) (bits_of 8 0xF0 ++ lines (search_bits number 0 asks) (search_sent number 0 64))

-- ---- what a read draws

-- the first k of these bits, followed by ones for ever
unfoldable pub then_ones : List Bool → ℕ → List Bool
then_ones bits zero = []
then_ones [] (suc k) = true ∷ then_ones [] k
then_ones (b ∷ bits) (suc k) = b ∷ then_ones bits k

-- ---- a write

-- what the read slots between a byte and its pulse draw: in the ordinary mode the CRC of these bytes, from this register on
abbrev pub crc_lines : WriteMode → ℕ → List ℕ → List Bool
crc_lines Ordinary register bytes = bits_of 16 (crc16_word (crc16_from register bytes))
crc_lines Quick register bytes = []

-- for each byte: its eight bits, the read slots for the CRC, the pulse, and eight read slots for the target
unfoldable pub byte_write_events : WriteMode → List ℕ → List Event
byte_write_events mode [] = []
byte_write_events mode (byte ∷ bytes) = (slots (bits_of 8 byte) ++ (crc_events mode ++ (pulse ∷ reading 8))) ++ byte_write_events mode bytes

-- What they draw, from address a of a memory on, where the CRC register holds so much before the first byte: the byte, the CRC of the
-- register and the byte, 1, and the target as it then is. For the next byte the register is loaded with the raised address.
unfoldable pub write_lines : ℕ → List ℕ → WriteMode → Space → ℕ → ℕ → List ℕ → List Bool
write_lines n img mode space a register [] = []
write_lines n img mode space a register (byte ∷ bytes) =
    let after = programmed n img (target_at space a) byte in
    (bits_of 8 byte ++ (crc_lines mode register (byte ∷ []) ++ (true ∷ bits_of 8 (target_byte n after (target_at space a)))))
    ++ write_lines n after mode space (a + 1) (a + 1) bytes

-- One byte of a write, with any master's bits in the slots in which the chip sends: those of the CRC, and those of the target read back.
abbrev pub crc_slots : WriteMode → ℕ
crc_slots Ordinary = 16
crc_slots Quick = 0

pub record WriteCycle (mode : WriteMode) : Type 0 where
  pub byte : ℕ
  pub crc : List Bool
  pub back : List Bool
  pub small : byte < 256
  pub crc_bits_law : length crc ≡ crc_slots mode
  pub back_bits : length back ≡ 8

unfoldable pub cycle_events : {mode : WriteMode} → List (WriteCycle mode) → List Event
cycle_events [] = []
cycle_events (t ∷ ts) = (slots (bits_of 8 t.byte) ++ (slots t.crc ++ (pulse ∷ slots t.back))) ++ cycle_events ts

abbrev pub cycle_bytes : {mode : WriteMode} → List (WriteCycle mode) → List ℕ
cycle_bytes [] = []
cycle_bytes (t ∷ ts) = t.byte ∷ cycle_bytes ts

-- the byte of an address of a memory; a gap reads FFh
abbrev pub byte_of : ℕ → List ℕ → Space → ℕ → ℕ
byte_of n img Data a = data_byte n img a
byte_of n img Status a = status_byte n img a

-- What the write cycles draw from address a on, where the CRC register holds so much before the first byte, and the target at address x is then
-- target x. In the slots in which the chip sends, the line is the master's bit AND the chip's. For each later byte the register is loaded with
-- the raised address.
unfoldable pub cycle_lines : {mode : WriteMode} → (ℕ → ℕ) → ℕ → ℕ → List (WriteCycle mode) → List Bool
cycle_lines target a register [] = []
cycle_lines {mode} target a register (t ∷ ts) =
    (bits_of 8 t.byte ++ (lines t.crc (crc_lines mode register (t.byte ∷ [])) ++ (true ∷ lines t.back (bits_of 8 (target a)))))
    ++ cycle_lines target (a + 1) (a + 1) ts

-- where the chip stands before the byte at address a, which is not the first; past the last address it is silent
unfoldable pub before_byte : ℕ → WriteMode → Space → ℕ → Stage
before_byte n mode space a = cond (ltb a (limit_of n space)) (Memory (receiving (DataByte mode (target_at space a)) a)) silent
