-- The three commands that read, over whole sessions: what follows the command and its address.
use Rattle.std.specs.Prelude.{ℕ, ◌<◌, ◌≡◌, Bool, List, [], ◌∷◌}
use Rattle.base_crc.specs.Crc.{crc16_of}
use Rattle.chip_memory.specs.Layout.{data_size, status_size}
use Rattle.chip_stage.specs.declared.stage.MemoryStage.{MemoryStage}
use Rattle.chip_stage.specs.declared.stage.MemoryStage.TheVariants.{Silent}
use Rattle.chip_function.specs.Functions.{memory_slot, memory_bit}
use Rattle.chip_stage.specs.Reads.{start_memory, start_status, start_extended}
use Rattle.chip_function_laws.specs.Streams.{header, memory_stream, status_stream, extended_stream}

-- From a stage, slots with any master bits meet these bits of the chip, one after the other, and lead to another stage.
pub data Sends (n : ℕ) (img : List ℕ) : MemoryStage → List Bool → MemoryStage → Type 0 where
  none : {m : MemoryStage} → Sends n img m [] m
  next : {m s : MemoryStage} {e : MemoryStage} {b : Bool} {bs : List Bool}
      → memory_bit m ≡ b → ((bit : Bool) → memory_slot n m bit img ≡ s) → Sends n img s bs e → Sends n img m (b ∷ bs) e

-- The laws, for every image and every address in range. Where a stream ends the chip is silent: ones until reset.
pub record StreamLaws (n : ℕ) : Type 0 where
  pub memory : (img : List ℕ) (a : ℕ) → a < data_size n
      → Sends n img (start_memory n a (crc16_of (header 0xF0 a)) img) (memory_stream n img a) Silent
  pub status : (img : List ℕ) (a : ℕ) → a < status_size n
      → Sends n img (start_status n a (crc16_of (header 0xAA a)) img) (status_stream n img a) Silent
  pub extended : (img : List ℕ) (a : ℕ) → a < data_size n
      → Sends n img (start_extended n a (crc16_of (header 0xA5 a)) img) (extended_stream n img a) Silent
