-- The memory functions: what follows a whole byte that came in, bits that went out, a slot and a pulse. n is the page count.
use Rattle.std.specs.Prelude.{ℕ, ◌+◌, ◌-◌, ◌*◌, ◌/◌, Bool, true, cond, List, eqb, ltb}
use Rattle.base_types.specs.Bits.{odd, shift_in}
use Rattle.base_types.specs.declared.address.Space.TheVariants.{Data, Status}
use Rattle.base_types.specs.declared.write_mode.WriteMode.TheVariants.{Ordinary, Quick}
use Rattle.base_crc.specs.Crc.{crc16_byte}
use Rattle.chip_memory.specs.Write.{programmed}
use Rattle.chip_stage.specs.declared.stage.Command.{Command}
use Rattle.chip_stage.specs.declared.stage.Command.TheVariants.{ReadMemory, ReadStatus, ExtendedRead, Write}
use Rattle.chip_stage.specs.declared.stage.Incoming.{Incoming}
use Rattle.chip_stage.specs.declared.stage.Incoming.TheVariants.{Command as CommandByte, AddressLow, AddressHigh, Data as DataByte}
use Rattle.chip_stage.specs.declared.stage.Outgoing.{Outgoing}
use Rattle.chip_stage.specs.declared.stage.Outgoing.TheVariants.{MemoryData, MemoryCrc, StatusData, StatusCrc, RedirectionByte, RedirectionCrc, PageData, PageCrc, WriteCrc, ReadBack}
use Rattle.chip_stage.specs.declared.stage.MemoryStage.{MemoryStage}
use Rattle.chip_stage.specs.declared.stage.MemoryStage.TheVariants.{Silent, Receive, Send, Armed}
use Rattle.chip_stage.specs.Limits.{kept_address}
use Rattle.chip_stage.specs.Stages.{receiving, sending_crc}
use Rattle.chip_stage.specs.Reads.{start_memory, start_status, start_extended, page_from, after_memory, after_status, next_status, after_page, next_page}
use Rattle.chip_stage.specs.Writes.{start_write, data_in, next_write, reading_back}

-- ---- a byte has come in

-- the CRC starts with the command byte, from a cleared register
unfoldable pub beginning : Command → ℕ → MemoryStage
beginning c byte = receiving (AddressLow c) (crc16_byte 0 byte)

-- F0h Read Memory, AAh Read Status, A5h Extended Read, 0Fh Write Memory, 55h Write Status, F3h Speed Write Memory, F5h Speed Write
-- Status; any other byte silences the chip
unfoldable pub memory_command : ℕ → MemoryStage
memory_command byte =
    cond (eqb byte 0xF0) (beginning ReadMemory 0xF0)
    (cond (eqb byte 0xAA) (beginning ReadStatus 0xAA)
    (cond (eqb byte 0xA5) (beginning ExtendedRead 0xA5)
    (cond (eqb byte 0x0F) (beginning (Write Ordinary Data) 0x0F)
    (cond (eqb byte 0x55) (beginning (Write Ordinary Status) 0x55)
    (cond (eqb byte 0xF3) (beginning (Write Quick Data) 0xF3)
    (cond (eqb byte 0xF5) (beginning (Write Quick Status) 0xF5)
    Silent))))))

unfoldable pub addressed : ℕ → Command → ℕ → ℕ → List ℕ → MemoryStage
addressed n ReadMemory a crc img = start_memory n a crc img
addressed n ReadStatus a crc img = start_status n a crc img
addressed n ExtendedRead a crc img = start_extended n a crc img
addressed n (Write mode space) a crc img = start_write n mode space a crc

-- a command starts at the address as the chip keeps it, and the CRC takes in the high byte as kept, not as sent
unfoldable pub started_at : ℕ → Command → ℕ → ℕ → List ℕ → MemoryStage
started_at n c a crc img = addressed n c (kept_address n a) (crc16_byte crc (kept_address n a / 256)) img

unfoldable pub received : ℕ → Incoming → ℕ → ℕ → List ℕ → MemoryStage
received n CommandByte byte crc img = memory_command byte
received n (AddressLow c) byte crc img = receiving (AddressHigh c byte) (crc16_byte crc byte)
received n (AddressHigh c low) byte crc img = started_at n c (low + 256 * byte) crc img
received n (DataByte mode t) byte crc img = data_in mode t byte crc

-- after k bits one more, and the register then holds v
unfoldable pub receive_bit : ℕ → Incoming → ℕ → ℕ → ℕ → List ℕ → MemoryStage
receive_bit n i k v crc img = cond (ltb k 7) (Receive i (k + 1) v crc) (received n i v crc img)

-- ---- all bits of something have gone out

unfoldable pub sent : ℕ → Outgoing → ℕ → List ℕ → MemoryStage
sent n (MemoryData a) crc img = after_memory n a crc img
sent n MemoryCrc crc img = Silent
sent n (StatusData a) crc img = after_status n a crc img
sent n (StatusCrc a) crc img = next_status n a img
sent n (RedirectionByte a) crc img = sending_crc (RedirectionCrc a) crc
sent n (RedirectionCrc a) crc img = page_from n a 0 img
sent n (PageData a) crc img = after_page n a crc img
sent n (PageCrc a) crc img = next_page n a img
sent n (WriteCrc t byte) crc img = Armed Ordinary t byte
sent n (ReadBack mode t) crc img = next_write n mode t

unfoldable pub send_bit : ℕ → Outgoing → ℕ → ℕ → ℕ → List ℕ → MemoryStage
send_bit n o left v crc img = cond (ltb 1 left) (Send o (left - 1) (v / 2) crc) (sent n o crc img)

-- ---- a slot; one on an armed chip silences it

unfoldable pub memory_slot : ℕ → MemoryStage → Bool → List ℕ → MemoryStage
memory_slot n Silent bit img = Silent
memory_slot n (Receive i k register crc) bit img = receive_bit n i k (shift_in register bit) crc img
memory_slot n (Send o left v crc) bit img = send_bit n o left v crc img
memory_slot n (Armed mode t byte) bit img = Silent

-- the chip's bit, 1 where it is not sending
unfoldable pub memory_bit : MemoryStage → Bool
memory_bit Silent = true
memory_bit (Receive i k register crc) = true
memory_bit (Send o left v crc) = odd v
memory_bit (Armed mode t byte) = true

-- ---- a pulse; where the chip is not armed it changes nothing

unfoldable pub pulse_image : ℕ → MemoryStage → List ℕ → List ℕ
pulse_image n Silent img = img
pulse_image n (Receive i k register crc) img = img
pulse_image n (Send o left v crc) img = img
pulse_image n (Armed mode t byte) img = programmed n img t byte

-- on the image after the pulse
unfoldable pub pulse_stage : ℕ → MemoryStage → List ℕ → MemoryStage
pulse_stage n Silent img = Silent
pulse_stage n (Receive i k register crc) img = Receive i k register crc
pulse_stage n (Send o left v crc) img = Send o left v crc
pulse_stage n (Armed mode t byte) img = reading_back n mode t img
