-- How a slot ends a bit of the number: the next bit, the memory functions or silence.
use Prim.Native.Nat.{ℕ, ◌+◌, ◌<◌, ◌≤◌}
use mathlib.Core.Path.{◌≡◌, refl, ◌∙◌}
use mathlib.Core.Bool.{Bool, true, false, not}
use borrow.Author.Tests.{lt-ltb, le-ltb}
use Rattle.base_types.specs.Bits.{same}
use Rattle.chip_rom.specs.declared.RomStep.{RomStep}
use Rattle.chip_rom.specs.declared.RomStage.TheVariants.{Number}
use Rattle.chip_rom.specs.declared.RomOutcome.TheVariants.{Stays, Selected, Deselected}
use Rattle.chip_rom.specs.Rom.{next_of, taken_of}

pub next_on : (step : RomStep) (i : ℕ) → i < 63 → next_of step i ≡ Stays (Number step (i + 1))
unfolding next_of
next_on step i h = simp (lt-ltb _ _ h)

pub next_end : (step : RomStep) (i : ℕ) → 63 ≤ i → next_of step i ≡ Selected
unfolding next_of
next_end step i h = simp (le-ltb _ _ h)

-- the master's bit is the number's, bit b ..
agrees : (b : Bool) (step : RomStep) (i : ℕ) → taken_of (same b b) step i ≡ next_of step i
unfolding taken_of
agrees true step i = refl
agrees false step i = refl

pub agrees_on : (b : Bool) (step : RomStep) (i : ℕ) → i < 63 → taken_of (same b b) step i ≡ Stays (Number step (i + 1))
agrees_on b step i h = agrees b step i ∙ next_on step i h

pub agrees_end : (b : Bool) (step : RomStep) (i : ℕ) → 63 ≤ i → taken_of (same b b) step i ≡ Selected
agrees_end b step i h = agrees b step i ∙ next_end step i h

-- .. or it is not
pub disagrees : (b : Bool) (step : RomStep) (i : ℕ) → taken_of (same (not b) b) step i ≡ Deselected
unfolding taken_of
disagrees true step i = refl
disagrees false step i = refl
