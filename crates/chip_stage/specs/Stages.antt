-- The stages that the memory functions enter.
use Rattle.std.specs.Prelude.{ℕ}
use Rattle.base_crc.specs.Crc.{crc16_byte, crc16_word}
use Rattle.chip_stage.specs.declared.stage.Incoming.{Incoming}
use Rattle.chip_stage.specs.declared.stage.Outgoing.{Outgoing}
use Rattle.chip_stage.specs.declared.stage.MemoryStage.{MemoryStage}
use Rattle.chip_stage.specs.declared.stage.MemoryStage.TheVariants.{Receive, Send}

-- before the first bit of a byte that comes in
unfoldable pub receiving : Incoming → ℕ → MemoryStage
receiving i crc = Receive i 0 0 crc

-- before the first bit of a byte that goes out, which the CRC takes in
unfoldable pub sending_byte : Outgoing → ℕ → ℕ → MemoryStage
sending_byte o v crc = Send o 8 v (crc16_byte crc v)

-- before the first bit of a CRC, complemented
unfoldable pub sending_crc : Outgoing → ℕ → MemoryStage
sending_crc o crc = Send o 16 (crc16_word crc) crc
