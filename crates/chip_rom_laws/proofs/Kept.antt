-- A slot keeps a stage within its ranges.
use Prim.Native.Nat.{ℕ, suc, ◌+◌}
use mathlib.Core.Path.{◌≡◌, refl, sym, ap, ◌∙◌}
use mathlib.Core.Bool.{Bool, true, false, cond}
use mathlib.Core.List.{List}
use native.Mathlib.Omega.{arith}
use lib.Dec.{eqb, ltb}
use borrow.Author.Tests.{lt-ltb, ltb-true}
use Rattle.base_types.specs.Bits.{same, shift_in}
use Rattle.chip_rom.specs.declared.RomStep.{RomStep}
use Rattle.chip_rom.specs.declared.RomStep.TheVariants.{Read, Match, SearchBit, SearchComplement, SearchTake}
use Rattle.chip_rom.specs.declared.RomStage.{RomStage}
use Rattle.chip_rom.specs.declared.RomStage.TheVariants.{Command, Number}
use Rattle.chip_rom.specs.declared.RomOutcome.{RomOutcome}
use Rattle.chip_rom.specs.declared.RomOutcome.TheVariants.{Stays, Selected, Deselected}
use Rattle.chip_rom.specs.Rom.{number_bit, rom_command, rom_command_bit, next_of, taken_of, number_slot, rom_slot, rom_in_range}

-- the stage of an outcome, if it has one, is within its ranges
abbrev outcome_in_range : RomOutcome → Bool
outcome_in_range (Stays s) = rom_in_range s
outcome_in_range Selected = true
outcome_in_range Deselected = true

-- a choice of two outcomes: the first has to be within the ranges only where the test says so
choice_kept : (t : Bool) (o p : RomOutcome) → (t ≡ true → outcome_in_range o ≡ true) → outcome_in_range p ≡ true → outcome_in_range (cond t o p) ≡ true
choice_kept true o p x y = x refl
choice_kept false o p x y = y

-- one more stays below one more
stays_below : (i n : ℕ) → ltb i n ≡ true → ltb (i + 1) (suc n) ≡ true
stays_below i n t = lt-ltb (i + 1) (suc n) (omega (arith, ltb-true i n t))

command_kept : (byte : ℕ) → outcome_in_range (rom_command byte) ≡ true
unfolding rom_command rom_in_range
command_kept byte =
    choice_kept (eqb byte 0x33) _ _ (λ t. refl)
    (choice_kept (eqb byte 0x55) _ _ (λ t. refl) (choice_kept (eqb byte 0xF0) _ _ (λ t. refl) (choice_kept (eqb byte 0xCC) _ _ (λ t. refl) refl)))

next_kept : (step : RomStep) (i : ℕ) → outcome_in_range (next_of step i) ≡ true
unfolding next_of rom_in_range
next_kept step i = choice_kept (ltb i 63) _ _ (stays_below i 63) refl

taken_kept : (agrees : Bool) (step : RomStep) (i : ℕ) → outcome_in_range (taken_of agrees step i) ≡ true
unfolding taken_of
taken_kept agrees step i = choice_kept agrees _ _ (λ t. next_kept step i) refl

slot_kept : (r : RomStage) (m : Bool) (number : List ℕ) → rom_in_range r ≡ true → outcome_in_range (rom_slot r m number) ≡ true
unfolding rom_slot rom_command_bit number_slot rom_in_range
slot_kept (Command k v) m number h = choice_kept (ltb k 7) _ _ (stays_below k 7) (command_kept (shift_in v m))
slot_kept (Number Read i) m number h = next_kept Read i
slot_kept (Number Match i) m number h = taken_kept (same m (number_bit number i)) Match i
slot_kept (Number SearchBit i) m number h = h
slot_kept (Number SearchComplement i) m number h = h
slot_kept (Number SearchTake i) m number h = taken_kept (same m (number_bit number i)) SearchBit i

pub kept : (r s : RomStage) (m : Bool) (number : List ℕ) → rom_in_range r ≡ true → rom_slot r m number ≡ Stays s → rom_in_range s ≡ true
kept r s m number h e = sym (ap outcome_in_range e) ∙ slot_kept r m number h
