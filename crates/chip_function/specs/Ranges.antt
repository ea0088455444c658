-- The ranges of the fields of a stage, over the page count n. Registers and the byte of an armed chip may hold anything.
use Rattle.std.specs.Prelude.{ℕ, Bool, true, false, cond, ltb}
use Rattle.base_types.specs.declared.address.Space.TheVariants.{Data, Status}
use Rattle.chip_stage.specs.declared.stage.Incoming.{Incoming}
use Rattle.chip_stage.specs.declared.stage.Incoming.TheVariants.{Command as CommandByte, AddressLow, AddressHigh, Data as DataByte}
use Rattle.chip_stage.specs.declared.stage.Outgoing.{Outgoing}
use Rattle.chip_stage.specs.declared.stage.Outgoing.TheVariants.{MemoryData, MemoryCrc, StatusData, StatusCrc, RedirectionByte, RedirectionCrc, PageData, PageCrc, WriteCrc, ReadBack}
use Rattle.chip_stage.specs.declared.stage.MemoryStage.{MemoryStage}
use Rattle.chip_stage.specs.declared.stage.MemoryStage.TheVariants.{Silent, Receive, Send, Armed}
use Rattle.chip_stage.specs.Limits.{is_address, target_in_range}

unfoldable pub incoming_in_range : ℕ → Incoming → Bool
incoming_in_range n CommandByte = true
incoming_in_range n (AddressLow c) = true
incoming_in_range n (AddressHigh c low) = true
incoming_in_range n (DataByte mode t) = target_in_range n t

unfoldable pub outgoing_in_range : ℕ → Outgoing → Bool
outgoing_in_range n (MemoryData a) = is_address n Data a.0
outgoing_in_range n MemoryCrc = true
outgoing_in_range n (StatusData a) = is_address n Status a.0
outgoing_in_range n (StatusCrc a) = is_address n Status a.0
outgoing_in_range n (RedirectionByte a) = is_address n Data a.0
outgoing_in_range n (RedirectionCrc a) = is_address n Data a.0
outgoing_in_range n (PageData a) = is_address n Data a.0
outgoing_in_range n (PageCrc a) = is_address n Data a.0
outgoing_in_range n (WriteCrc t byte) = target_in_range n t
outgoing_in_range n (ReadBack mode t) = target_in_range n t

-- how many bits it has
abbrev pub outgoing_width : Outgoing → ℕ
outgoing_width (MemoryData a) = 8
outgoing_width MemoryCrc = 16
outgoing_width (StatusData a) = 8
outgoing_width (StatusCrc a) = 16
outgoing_width (RedirectionByte a) = 8
outgoing_width (RedirectionCrc a) = 16
outgoing_width (PageData a) = 8
outgoing_width (PageCrc a) = 16
outgoing_width (WriteCrc t byte) = 16
outgoing_width (ReadBack mode t) = 8

-- 0 to 7 bits are in
unfoldable pub receiving_in_range : ℕ → Incoming → ℕ → Bool
receiving_in_range n i k = cond (ltb k 8) (incoming_in_range n i) false

-- 1 to all bits are left
unfoldable pub send_in_range : ℕ → Outgoing → ℕ → Bool
send_in_range n o left = cond (ltb left 1) false (cond (ltb (outgoing_width o) left) false (outgoing_in_range n o))

unfoldable pub memory_in_range : ℕ → MemoryStage → Bool
memory_in_range n Silent = true
memory_in_range n (Receive i k register crc) = receiving_in_range n i k
memory_in_range n (Send o left v crc) = send_in_range n o left
memory_in_range n (Armed mode t byte) = target_in_range n t
