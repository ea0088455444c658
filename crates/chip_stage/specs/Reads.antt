-- The three commands that read, over the page count n: what is sent next.
use Rattle.std.specs.Prelude.{ℕ, ◌+◌, ◌/◌, ◌%◌, cond, List, ltb}
use Rattle.base_types.specs.declared.address.DataAddress.{DataAddress}
use Rattle.base_types.specs.declared.address.StatusAddress.{StatusAddress}
use Rattle.base_types.specs.declared.address.Space.TheVariants.{Data, Status}
use Rattle.chip_memory.specs.Layout.{data_size, status_size}
use Rattle.chip_memory.specs.Image.{data_byte, status_byte, redirection_of}
use Rattle.chip_stage.specs.declared.stage.Outgoing.TheVariants.{MemoryData, MemoryCrc, StatusData, StatusCrc, RedirectionByte, PageData, PageCrc}
use Rattle.chip_stage.specs.declared.stage.MemoryStage.{MemoryStage}
use Rattle.chip_stage.specs.declared.stage.MemoryStage.TheVariants.{Silent}
use Rattle.chip_stage.specs.Limits.{is_address}
use Rattle.chip_stage.specs.Stages.{sending_byte, sending_crc}

-- ---- the next byte to send

unfoldable pub memory_from : ℕ → DataAddress → ℕ → List ℕ → MemoryStage
memory_from n a crc img = sending_byte (MemoryData a) (data_byte n img a.0) crc

unfoldable pub status_from : ℕ → StatusAddress → ℕ → List ℕ → MemoryStage
status_from n a crc img = sending_byte (StatusData a) (status_byte n img a.0) crc

-- the redirection byte of the page that the address lies in
unfoldable pub redirection_from : ℕ → DataAddress → ℕ → List ℕ → MemoryStage
redirection_from n a crc img = sending_byte (RedirectionByte a) (redirection_of n img (a.0 / 32 % 256)) crc

unfoldable pub page_from : ℕ → DataAddress → ℕ → List ℕ → MemoryStage
page_from n a crc img = sending_byte (PageData a) (data_byte n img a.0) crc

-- ---- an address is in, as the chip keeps it; one that the memory does not have silences the chip

unfoldable pub start_memory : ℕ → ℕ → ℕ → List ℕ → MemoryStage
start_memory n a crc img = cond (is_address n Data a) (memory_from n (record { 0 = a }) crc img) Silent

unfoldable pub start_status : ℕ → ℕ → ℕ → List ℕ → MemoryStage
start_status n a crc img = cond (is_address n Status a) (status_from n (record { 0 = a }) crc img) Silent

unfoldable pub start_extended : ℕ → ℕ → ℕ → List ℕ → MemoryStage
start_extended n a crc img = cond (is_address n Data a) (redirection_from n (record { 0 = a }) crc img) Silent

-- ---- a byte or a CRC has gone out

-- Read Memory goes on to the end of the data, and then to the CRC
unfoldable pub after_memory : ℕ → DataAddress → ℕ → List ℕ → MemoryStage
after_memory n a crc img =
    cond (ltb (a.0 + 1) (data_size n)) (memory_from n (record { 0 = a.0 + 1 }) crc img) (sending_crc MemoryCrc crc)

-- Read Status goes on to the end of an 8-byte page, and then to the CRC ..
unfoldable pub after_status : ℕ → StatusAddress → ℕ → List ℕ → MemoryStage
after_status n a crc img =
    cond (ltb (a.0 % 8) 7) (status_from n (record { 0 = a.0 + 1 }) crc img) (sending_crc (StatusCrc a) crc)

-- .. and from there to the next page, whose CRC starts anew
unfoldable pub next_status : ℕ → StatusAddress → List ℕ → MemoryStage
next_status n a img = cond (ltb (a.0 + 1) (status_size n)) (status_from n (record { 0 = a.0 + 1 }) 0 img) Silent

-- Extended Read goes on to the end of a 32-byte page, and then to the CRC ..
unfoldable pub after_page : ℕ → DataAddress → ℕ → List ℕ → MemoryStage
after_page n a crc img =
    cond (ltb (a.0 % 32) 31) (page_from n (record { 0 = a.0 + 1 }) crc img) (sending_crc (PageCrc a) crc)

-- .. and from there to the next page's redirection byte
unfoldable pub next_page : ℕ → DataAddress → List ℕ → MemoryStage
next_page n a img = cond (ltb (a.0 + 1) (data_size n)) (redirection_from n (record { 0 = a.0 + 1 }) 0 img) Silent
