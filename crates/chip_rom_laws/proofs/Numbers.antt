-- Read sends the number; Match takes it, and is silent from the first wrong bit.
use Prim.Native.Nat.{ℕ, zero, suc, ◌+◌, ◌<◌}
use mathlib.Core.Path.{◌≡◌, refl, subst}
use mathlib.Core.Bool.{Bool, not}
use mathlib.Core.List.{List, [], ◌∷◌, ◌++◌}
use native.Mathlib.Numerals.{add-one}
use native.Mathlib.Omega.{arith}
use lib.ListN.{length}
use Rattle.bus_events.specs.Slots.{ones}
use Rattle.chip_rom.specs.declared.RomStep.TheVariants.{Read, Match}
use Rattle.chip_rom.specs.declared.RomStage.TheVariants.{Number}
use Rattle.chip_rom.specs.declared.RomOutcome.TheVariants.{Selected, Deselected}
use Rattle.chip_rom.specs.Rom.{number_bit, number_slot, rom_slot, rom_bit}
use Rattle.chip_rom_laws.specs.Rom.{Roms, last, more, number_bits}
use Rattle.chip_rom_laws.proofs.Turns.{next_on, next_end, agrees_on, agrees_end, disagrees}

module _ (number : List ℕ) where
  -- from bit i on
  read_from_lem : (i : ℕ) (m : Bool) (ms : List Bool) → i + length ms ≡ 63
      → Roms number (Number Read i) (m ∷ ms) (number_bits number i (suc (length ms))) Selected
  unfolding number_bits rom_bit rom_slot number_slot
  read_from_lem i m [] e = last refl (next_end Read i (omega arith))
  read_from_lem i m (d ∷ ms) e = more refl (next_on Read i (omega arith)) (read_from_lem (i + 1) d ms (omega arith))

  pub read : (ms : List Bool) → length ms ≡ 64 → Roms number (Number Read 0) ms (number_bits number 0 64) Selected
  read [] e = let z : ⊥ = omega arith in absurd z
  read (m ∷ ms) e = subst (λ k. Roms number (Number Read 0) (m ∷ ms) (number_bits number 0 k) Selected) e (read_from_lem 0 m ms (omega arith))

  matched_from : (i k : ℕ) → i + k ≡ 63 → Roms number (Number Match i) (number_bits number i (suc k)) (ones (suc k)) Selected
  unfolding number_bits rom_bit rom_slot number_slot
  matched_from i zero e = last refl (agrees_end (number_bit number i) Match i (omega arith))
  matched_from i (suc k) e = more refl (agrees_on (number_bit number i) Match i (omega arith)) (matched_from (i + 1) k (omega arith))

  pub matched : Roms number (Number Match 0) (number_bits number 0 64) (ones 64) Selected
  matched = matched_from 0 63 refl

  -- k bits agree, and bit j does not
  mismatched_from : (i k j : ℕ) → i + k ≡ j → j < 64
      → Roms number (Number Match i) (number_bits number i k ++ (not (number_bit number j) ∷ [])) (ones (suc k)) Deselected
  unfolding number_bits rom_bit rom_slot number_slot
  mismatched_from i zero j e h =
      let s : j ≡ i = omega arith in
      rw s (last refl (disagrees (number_bit number i) Match i))
  mismatched_from i (suc k) j e h =
      more refl (agrees_on (number_bit number i) Match i (omega arith)) (mismatched_from (i + 1) k j (omega arith) h)

  pub mismatched : (k : ℕ) → k < 64 → Roms number (Number Match 0) (number_bits number 0 k ++ (not (number_bit number k) ∷ [])) (ones (k + 1)) Deselected
  mismatched k h = rw add-one (mismatched_from 0 k k (omega arith) h)
