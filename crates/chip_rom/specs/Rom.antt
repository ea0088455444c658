-- The ROM functions, a slot at a time. The number is a list of eight bytes, its bits counted least significant first.
use Rattle.std.specs.Prelude.{ℕ, ◌+◌, ◌/◌, ◌%◌, Bool, true, false, not, cond, List, eqb, ltb, get_or}
use Rattle.base_types.specs.Bits.{bit_at, shift_in, same}
use Rattle.chip_rom.specs.declared.RomStep.{RomStep}
use Rattle.chip_rom.specs.declared.RomStep.TheVariants.{Read, Match, SearchBit, SearchComplement, SearchTake}
use Rattle.chip_rom.specs.declared.RomStage.{RomStage}
use Rattle.chip_rom.specs.declared.RomStage.TheVariants.{Command, Number}
use Rattle.chip_rom.specs.declared.RomOutcome.{RomOutcome}
use Rattle.chip_rom.specs.declared.RomOutcome.TheVariants.{Stays, Selected, Deselected}

-- bit i of the number
unfoldable pub number_bit : List ℕ → ℕ → Bool
number_bit number i = cond (ltb (i / 8) 8) (bit_at (get_or number (i / 8) 0) (i % 8)) false

-- ---- the command byte

-- 33h Read, 55h Match, F0h Search, CCh Skip; any other byte silences the chip
unfoldable pub rom_command : ℕ → RomOutcome
rom_command byte =
    cond (eqb byte 0x33) (Stays (Number Read 0))
    (cond (eqb byte 0x55) (Stays (Number Match 0))
    (cond (eqb byte 0xF0) (Stays (Number SearchBit 0))
    (cond (eqb byte 0xCC) Selected
    Deselected)))

-- after k bits one more, and the register then holds v
unfoldable pub rom_command_bit : ℕ → ℕ → RomOutcome
rom_command_bit k v = cond (ltb k 7) (Stays (Command (k + 1) v)) (rom_command v)

-- ---- the number

-- bit i is done
unfoldable pub next_of : RomStep → ℕ → RomOutcome
next_of step i = cond (ltb i 63) (Stays (Number step (i + 1))) Selected

-- on disagreement the chip is silent
unfoldable pub taken_of : Bool → RomStep → ℕ → RomOutcome
taken_of agrees step i = cond agrees (next_of step i) Deselected

-- Read sends a bit, whatever the master's; Match takes one; Search sends the bit, sends its complement and takes the master's
unfoldable pub number_slot : RomStep → ℕ → Bool → List ℕ → RomOutcome
number_slot Read i bit number = next_of Read i
number_slot Match i bit number = taken_of (same bit (number_bit number i)) Match i
number_slot SearchBit i bit number = Stays (Number SearchComplement i)
number_slot SearchComplement i bit number = Stays (Number SearchTake i)
number_slot SearchTake i bit number = taken_of (same bit (number_bit number i)) SearchBit i

-- the bit that the chip sends, where the number's is b
abbrev pub number_sent : RomStep → Bool → Bool
number_sent Read b = b
number_sent Match b = true
number_sent SearchBit b = b
number_sent SearchComplement b = not b
number_sent SearchTake b = true

-- ---- a slot

unfoldable pub rom_slot : RomStage → Bool → List ℕ → RomOutcome
rom_slot (Command k register) bit number = rom_command_bit k (shift_in register bit)
rom_slot (Number step i) bit number = number_slot step i bit number

-- the chip's bit, 1 where it is not sending
unfoldable pub rom_bit : RomStage → List ℕ → Bool
rom_bit (Command k register) number = true
rom_bit (Number step i) number = number_sent step (number_bit number i)

-- the ranges
unfoldable pub rom_in_range : RomStage → Bool
rom_in_range (Command k register) = ltb k 8
rom_in_range (Number step i) = ltb i 64
