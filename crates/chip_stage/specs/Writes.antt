-- The commands that write, over the page count n: two in the ordinary mode, two in the quick one.
use Rattle.std.specs.Prelude.{ℕ, ◌+◌, cond, List, ltb}
use Rattle.base_types.specs.declared.address.Space.{Space}
use Rattle.base_types.specs.declared.address.Space.TheVariants.{Data, Status}
use Rattle.base_types.specs.declared.address.Target.{Target}
use Rattle.base_types.specs.declared.address.Target.TheVariants.{Data as DataTarget, Status as StatusTarget}
use Rattle.base_types.specs.declared.write_mode.WriteMode.{WriteMode}
use Rattle.base_types.specs.declared.write_mode.WriteMode.TheVariants.{Ordinary, Quick}
use Rattle.base_crc.specs.Crc.{crc16_byte, crc16_load}
use Rattle.chip_memory.specs.Image.{target_byte}
use Rattle.chip_stage.specs.declared.stage.Incoming.TheVariants.{Data as DataByte}
use Rattle.chip_stage.specs.declared.stage.Outgoing.TheVariants.{WriteCrc, ReadBack}
use Rattle.chip_stage.specs.declared.stage.MemoryStage.{MemoryStage}
use Rattle.chip_stage.specs.declared.stage.MemoryStage.TheVariants.{Silent, Armed}
use Rattle.chip_stage.specs.Limits.{limit_of, is_address, target_at}
use Rattle.chip_stage.specs.Stages.{receiving, sending_byte, sending_crc}

-- an address is in, as the chip keeps it; one that the memory does not have silences the chip
unfoldable pub start_write : ℕ → WriteMode → Space → ℕ → ℕ → MemoryStage
start_write n mode space a crc = cond (is_address n space a) (receiving (DataByte mode (target_at space a)) crc) Silent

-- a whole byte is in: its CRC is sent before the pulse; in the quick mode none is, and the chip is armed
unfoldable pub data_in : WriteMode → Target → ℕ → ℕ → MemoryStage
data_in Ordinary t byte crc = sending_crc (WriteCrc t byte) (crc16_byte crc byte)
data_in Quick t byte crc = Armed Quick t byte

-- the address rises by one, and the next byte's CRC starts with the register loaded with it; after the last address: silent
unfoldable pub raised : ℕ → WriteMode → Space → ℕ → MemoryStage
raised n mode space a = cond (ltb (a + 1) (limit_of n space)) (receiving (DataByte mode (target_at space (a + 1))) (crc16_load (a + 1))) Silent

unfoldable pub next_write : ℕ → WriteMode → Target → MemoryStage
next_write n mode (DataTarget a) = raised n mode Data a.0
next_write n mode (StatusTarget a) = raised n mode Status a.0

-- eight bits of the target follow a pulse
unfoldable pub reading_back : ℕ → WriteMode → Target → List ℕ → MemoryStage
reading_back n mode t img = sending_byte (ReadBack mode t) (target_byte n img t) 0
