-- The memory functions keep a stage within its ranges, over the page count n, a multiple of 8.
use Rattle.std.specs.Prelude.{ℕ, ◌≡◌, Bool, true, List}
use Rattle.chip_stage.specs.declared.stage.MemoryStage.{MemoryStage}
use Rattle.chip_function.specs.Functions.{memory_slot, pulse_stage}
use Rattle.chip_function.specs.Ranges.{memory_in_range}

pub record RangeLaws (n : ℕ) : Type 0 where
  pub slot : (m : MemoryStage) (bit : Bool) (img : List ℕ) → memory_in_range n m ≡ true → memory_in_range n (memory_slot n m bit img) ≡ true
  pub pulse : (m : MemoryStage) (img : List ℕ) → memory_in_range n m ≡ true → memory_in_range n (pulse_stage n m img) ≡ true
