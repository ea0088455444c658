-- What the ROM functions do over whole sessions, in the data sheet's terms.
use Rattle.std.specs.Prelude.{ℕ, zero, suc, ◌+◌, ◌<◌, ◌≡◌, Bool, true, not, List, [], ◌∷◌, ◌++◌, length}
use Rattle.base_types.specs.Bits.{bits_of, bits_of_bytes}
use Rattle.bus_events.specs.Slots.{ones}
use Rattle.chip_rom.specs.declared.RomStep.TheVariants.{Read, Match, SearchBit}
use Rattle.chip_rom.specs.declared.RomStage.{RomStage}
use Rattle.chip_rom.specs.declared.RomStage.TheVariants.{Command, Number}
use Rattle.chip_rom.specs.declared.RomOutcome.{RomOutcome}
use Rattle.chip_rom.specs.declared.RomOutcome.TheVariants.{Stays, Selected, Deselected}
use Rattle.chip_rom.specs.Rom.{number_bit, rom_command, rom_slot, rom_bit, rom_in_range}

-- From a stage the slots with these master bits meet these bits of the chip, and the last of them leads to the outcome.
pub data Roms (number : List ℕ) : RomStage → List Bool → List Bool → RomOutcome → Type 0 where
  last : {r : RomStage} {m b : Bool} {o : RomOutcome} → rom_bit r number ≡ b → rom_slot r m number ≡ o → Roms number r (m ∷ []) (b ∷ []) o
  more : {r s : RomStage} {m b : Bool} {ms bs : List Bool} {o : RomOutcome}
      → rom_bit r number ≡ b → rom_slot r m number ≡ Stays s → Roms number s ms bs o → Roms number r (m ∷ ms) (b ∷ bs) o

-- the k bits of the number from bit i on
unfoldable pub number_bits : List ℕ → ℕ → ℕ → List Bool
number_bits number i zero = []
number_bits number i (suc k) = number_bit number i ∷ number_bits number (i + 1) k

-- The master's bits of a search from bit i on: any two while the chip sends the bit and its complement, and then the number's own.
pub record Ask : Type 0 where
  pub first : Bool
  pub second : Bool

unfoldable pub search_bits : List ℕ → ℕ → List Ask → List Bool
search_bits number i [] = []
search_bits number i (a ∷ asks) = a.first ∷ a.second ∷ number_bit number i ∷ search_bits number (i + 1) asks

-- what the chip sends meanwhile: the bit, its complement, and nothing while it takes the master's bit
unfoldable pub search_sent : List ℕ → ℕ → ℕ → List Bool
search_sent number i zero = []
search_sent number i (suc k) = number_bit number i ∷ not (number_bit number i) ∷ true ∷ search_sent number (i + 1) k

-- The laws. A chip that is not sending has the bit 1.
pub record RomStageLaws : Type 0 where
  -- the eight bits of a command byte
  pub command : (number : List ℕ) (byte : ℕ) → byte < 256 → Roms number (Command 0 0) (bits_of 8 byte) (ones 8) (rom_command byte)
  -- Read sends the number, whatever the master's bits
  pub read : (number : List ℕ) (ms : List Bool) → length ms ≡ 64 → Roms number (Number Read 0) ms (number_bits number 0 64) Selected
  -- Match with the number succeeds ..
  pub matched : (number : List ℕ) → Roms number (Number Match 0) (number_bits number 0 64) (ones 64) Selected
  -- .. and with any other is silent from its first wrong bit, bit k
  pub mismatched : (number : List ℕ) (k : ℕ) → k < 64
      → Roms number (Number Match 0) (number_bits number 0 k ++ (not (number_bit number k) ∷ [])) (ones (k + 1)) Deselected
  -- Search sends each bit and its complement, and goes on where the master agrees ..
  pub searched : (number : List ℕ) (asks : List Ask) → length asks ≡ 64
      → Roms number (Number SearchBit 0) (search_bits number 0 asks) (search_sent number 0 64) Selected
  -- .. and is silent from the first disagreement, at bit k
  pub lost : (number : List ℕ) (k : ℕ) (asks : List Ask) (a : Ask) → k < 64 → length asks ≡ k
      → Roms number (Number SearchBit 0) (search_bits number 0 asks ++ (a.first ∷ a.second ∷ not (number_bit number k) ∷ [])) (search_sent number 0 (k + 1)) Deselected
  -- the number's bits are those of its eight bytes, least significant bit first
  pub number_bits_law : (number : List ℕ) → length number ≡ 8 → number_bits number 0 64 ≡ bits_of_bytes number
  -- a slot keeps a stage within its ranges
  pub kept : (r s : RomStage) (m : Bool) (number : List ℕ) → rom_in_range r ≡ true → rom_slot r m number ≡ Stays s → rom_in_range s ≡ true
