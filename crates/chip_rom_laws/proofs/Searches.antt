-- Search sends each bit and its complement, and goes on while the master agrees.
use Prim.Native.Nat.{ℕ, suc, ◌+◌, ◌<◌}
use mathlib.Core.Path.{◌≡◌, refl, subst}
use mathlib.Core.Bool.{Bool, not}
use mathlib.Core.List.{List, [], ◌∷◌, ◌++◌}
use native.Mathlib.Numerals.{add-one}
use native.Mathlib.Omega.{arith}
use lib.ListN.{length}
use Rattle.chip_rom.specs.declared.RomStep.TheVariants.{SearchBit, SearchTake}
use Rattle.chip_rom.specs.declared.RomStage.TheVariants.{Number}
use Rattle.chip_rom.specs.declared.RomOutcome.{RomOutcome}
use Rattle.chip_rom.specs.declared.RomOutcome.TheVariants.{Selected, Deselected}
use Rattle.chip_rom.specs.Rom.{number_bit, number_slot, rom_slot, rom_bit}
use Rattle.chip_rom_laws.specs.Rom.{Roms, last, more, Ask, search_bits, search_sent}
use Rattle.chip_rom_laws.proofs.Turns.{agrees_on, agrees_end, disagrees}

module _ (number : List ℕ) where
  -- the chip sends the bit and its complement
  sent : (i : ℕ) (a : Ask) {ms bs : List Bool} {o : RomOutcome} → Roms number (Number SearchTake i) ms bs o
      → Roms number (Number SearchBit i) (a.first ∷ a.second ∷ ms) (number_bit number i ∷ not (number_bit number i) ∷ bs) o
  unfolding rom_bit rom_slot number_slot
  sent i a r = more refl refl (more refl refl r)

  -- from bit i on
  searched_from : (i : ℕ) (a : Ask) (asks : List Ask) → i + length asks ≡ 63
      → Roms number (Number SearchBit i) (search_bits number i (a ∷ asks)) (search_sent number i (suc (length asks))) Selected
  unfolding search_bits search_sent rom_bit rom_slot number_slot
  searched_from i a [] e = sent i a (last refl (agrees_end (number_bit number i) SearchBit i (omega arith)))
  searched_from i a (d ∷ asks) e =
      sent i a (more refl (agrees_on (number_bit number i) SearchBit i (omega arith)) (searched_from (i + 1) d asks (omega arith)))

  pub searched : (asks : List Ask) → length asks ≡ 64 → Roms number (Number SearchBit 0) (search_bits number 0 asks) (search_sent number 0 64) Selected
  searched [] e = let z : ⊥ = omega arith in absurd z
  searched (a ∷ asks) e =
      subst (λ k. Roms number (Number SearchBit 0) (search_bits number 0 (a ∷ asks)) (search_sent number 0 k) Selected) e
      (searched_from 0 a asks (omega arith))

  -- the master agrees for as many bits as it asks, and then not, at bit j
  lost_from : (i j : ℕ) (asks : List Ask) (a : Ask) → i + length asks ≡ j → j < 64
      → Roms number (Number SearchBit i) (search_bits number i asks ++ (a.first ∷ a.second ∷ not (number_bit number j) ∷ []))
      (search_sent number i (suc (length asks))) Deselected
  unfolding search_bits search_sent rom_bit rom_slot number_slot
  lost_from i j [] a e h =
      let s : j ≡ i = omega arith in
      rw s (sent i a (last refl (disagrees (number_bit number i) SearchBit i)))
  lost_from i j (d ∷ asks) a e h =
      sent i d (more refl (agrees_on (number_bit number i) SearchBit i (omega arith)) (lost_from (i + 1) j asks a (omega arith) h))

  pub lost : (k : ℕ) (asks : List Ask) (a : Ask) → k < 64 → length asks ≡ k
      → Roms number (Number SearchBit 0) (search_bits number 0 asks ++ (a.first ∷ a.second ∷ not (number_bit number k) ∷ []))
      (search_sent number 0 (k + 1)) Deselected
  lost k asks a h e = rw (add-one, ← e) (lost_from 0 (length asks) asks a (omega arith) (omega arith))
