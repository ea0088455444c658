-- The chip's state as 24 bytes: the stage in twelve bytes, four zero bytes, and the registration number.
use Rattle.std.specs.Prelude.{ℕ, ◌+◌, Bool, cond, List, [], ◌∷◌, ◌++◌, eqb, length, get_or, replicate}
use Rattle.base_types.specs.Outcome.{Outcome, Done}
use Rattle.base_types.specs.declared.address.Space.{Space}
use Rattle.base_types.specs.declared.address.Space.TheVariants.{Data as DataSpace, Status as StatusSpace}
use Rattle.base_types.specs.declared.address.Target.{Target}
use Rattle.base_types.specs.declared.address.Target.TheVariants.{Data, Status}
use Rattle.base_types.specs.declared.write_mode.WriteMode.{WriteMode}
use Rattle.base_types.specs.declared.write_mode.WriteMode.TheVariants.{Ordinary, Quick}
use Rattle.chip_rom.specs.declared.RomStep.{RomStep}
use Rattle.chip_rom.specs.declared.RomStep.TheVariants.{Read, Match, SearchBit, SearchComplement, SearchTake}
use Rattle.chip_rom.specs.declared.RomStage.{RomStage}
use Rattle.chip_rom.specs.declared.RomStage.TheVariants.{Command as RomCommand, Number}
use Rattle.chip_stage.specs.declared.stage.Command.{Command}
use Rattle.chip_stage.specs.declared.stage.Command.TheVariants.{ReadMemory, ReadStatus, ExtendedRead, Write}
use Rattle.chip_stage.specs.declared.stage.Incoming.{Incoming}
use Rattle.chip_stage.specs.declared.stage.Incoming.TheVariants.{Command as CommandByte, AddressLow, AddressHigh, Data as DataByte}
use Rattle.chip_stage.specs.declared.stage.Outgoing.{Outgoing}
use Rattle.chip_stage.specs.declared.stage.Outgoing.TheVariants.{MemoryData, MemoryCrc, StatusData, StatusCrc, RedirectionByte, RedirectionCrc}
use Rattle.chip_stage.specs.declared.stage.Outgoing.TheVariants.{PageData, PageCrc, WriteCrc, ReadBack}
use Rattle.chip_stage.specs.declared.stage.MemoryStage.{MemoryStage}
use Rattle.chip_stage.specs.declared.stage.MemoryStage.TheVariants.{Silent, Receive, Send, Armed}
use Rattle.chip_entries.specs.declared.event.Stage.{Stage}
use Rattle.chip_entries.specs.declared.event.Stage.TheVariants.{Rom, Memory}
use Rattle.chip_entries.specs.declared.event.State.{State}
use Rattle.plug_fields.specs.Fields.{word, joined, front, rest_at, is_copy, Inverse, judged_by, buffer_outcome, buffer_after, mode_byte, mode_of}

-- ---- the layout

unfoldable pub write_tag : WriteMode → Space → ℕ
write_tag Ordinary DataSpace = 3
write_tag Ordinary StatusSpace = 4
write_tag Quick DataSpace = 5
write_tag Quick StatusSpace = 6

unfoldable pub command_tag : Command → ℕ
command_tag ReadMemory = 0
command_tag ReadStatus = 1
command_tag ExtendedRead = 2
command_tag (Write mode space) = write_tag mode space

unfoldable pub step_tag : RomStep → ℕ
step_tag Read = 0
step_tag Match = 1
step_tag SearchBit = 2
step_tag SearchComplement = 3
step_tag SearchTake = 4

unfoldable pub target_tag : Target → ℕ
target_tag (Data a) = 0
target_tag (Status a) = 1

unfoldable pub target_address : Target → ℕ
target_address (Data a) = a.0
target_address (Status a) = a.0

abbrev pub target_bytes : Target → List ℕ
target_bytes t = target_tag t ∷ word (target_address t)

unfoldable pub incoming_bytes : Incoming → List ℕ
incoming_bytes CommandByte = 0 ∷ []
incoming_bytes (AddressLow command) = 1 ∷ command_tag command ∷ []
incoming_bytes (AddressHigh command low) = 2 ∷ command_tag command ∷ low ∷ []
incoming_bytes (DataByte mode target) = 3 ∷ mode_byte mode ∷ target_bytes target

unfoldable pub outgoing_bytes : Outgoing → List ℕ
outgoing_bytes (MemoryData a) = 0 ∷ word a.0
outgoing_bytes MemoryCrc = 1 ∷ []
outgoing_bytes (StatusData a) = 2 ∷ word a.0
outgoing_bytes (StatusCrc a) = 3 ∷ word a.0
outgoing_bytes (RedirectionByte a) = 4 ∷ word a.0
outgoing_bytes (RedirectionCrc a) = 5 ∷ word a.0
outgoing_bytes (PageData a) = 6 ∷ word a.0
outgoing_bytes (PageCrc a) = 7 ∷ word a.0
outgoing_bytes (WriteCrc target byte) = 8 ∷ byte ∷ target_bytes target
outgoing_bytes (ReadBack mode target) = 9 ∷ mode_byte mode ∷ target_bytes target

unfoldable pub rom_bytes : RomStage → List ℕ
rom_bytes (RomCommand count register) = 1 ∷ count ∷ register ∷ []
rom_bytes (Number step i) = 2 ∷ step_tag step ∷ i ∷ []

unfoldable pub memory_bytes : MemoryStage → List ℕ
memory_bytes Silent = 0 ∷ []
memory_bytes (Receive incoming count register crc) = 3 ∷ count ∷ register ∷ word crc ++ incoming_bytes incoming
memory_bytes (Send outgoing left bits crc) = 4 ∷ left ∷ word bits ++ word crc ++ outgoing_bytes outgoing
memory_bytes (Armed mode target byte) = 5 ∷ byte ∷ mode_byte mode ∷ target_bytes target

unfoldable pub chip_stage_bytes : Stage → List ℕ
chip_stage_bytes (Rom r) = rom_bytes r
chip_stage_bytes (Memory m) = memory_bytes m

unfoldable pub chip_bytes : State → List ℕ
chip_bytes s = front 12 (chip_stage_bytes s.stage) [] ++ s.number

-- ---- the state of any bytes; a tag that is that of none counts as another one

unfoldable pub command_of : ℕ → Command
command_of number =
    cond (eqb number 0) ReadMemory
    (cond (eqb number 1) ReadStatus
    (cond (eqb number 2) ExtendedRead
    (cond (eqb number 3) (Write Ordinary DataSpace)
    (cond (eqb number 4) (Write Ordinary StatusSpace)
    (cond (eqb number 5) (Write Quick DataSpace)
    (Write Quick StatusSpace))))))

unfoldable pub rom_step_of : ℕ → RomStep
rom_step_of number =
    cond (eqb number 0) Read
    (cond (eqb number 1) Match
    (cond (eqb number 2) SearchBit
    (cond (eqb number 3) SearchComplement
    SearchTake)))

unfoldable pub target_of : ℕ → ℕ → Target
target_of number address = cond (eqb number 0) (Data (record { 0 = address })) (Status (record { 0 = address }))

-- a 16-bit number and a target, from a place on
abbrev pub word_at : List ℕ → ℕ → ℕ
word_at b i = joined (get_or b i 0) (get_or b (i + 1) 0)

abbrev pub target_at : List ℕ → ℕ → Target
target_at b i = target_of (get_or b i 0) (word_at b (i + 1))

unfoldable pub incoming_of : List ℕ → Incoming
incoming_of b =
    cond (eqb (get_or b 5 0) 1) (AddressLow (command_of (get_or b 6 0)))
    (cond (eqb (get_or b 5 0) 2) (AddressHigh (command_of (get_or b 6 0)) (get_or b 7 0))
    (cond (eqb (get_or b 5 0) 3) (DataByte (mode_of (get_or b 6 0)) (target_at b 7))
    CommandByte))

-- what is sent and has an address alone; MemoryCrc has none, and stands for every other tag
unfoldable pub addressed_of : ℕ → ℕ → Outgoing
addressed_of number address =
    cond (eqb number 0) (MemoryData (record { 0 = address }))
    (cond (eqb number 2) (StatusData (record { 0 = address }))
    (cond (eqb number 3) (StatusCrc (record { 0 = address }))
    (cond (eqb number 4) (RedirectionByte (record { 0 = address }))
    (cond (eqb number 5) (RedirectionCrc (record { 0 = address }))
    (cond (eqb number 6) (PageData (record { 0 = address }))
    (cond (eqb number 7) (PageCrc (record { 0 = address }))
    MemoryCrc))))))

unfoldable pub outgoing_of : List ℕ → Outgoing
outgoing_of b =
    cond (eqb (get_or b 6 0) 8) (WriteCrc (target_at b 8) (get_or b 7 0))
    (cond (eqb (get_or b 6 0) 9) (ReadBack (mode_of (get_or b 7 0)) (target_at b 8))
    (addressed_of (get_or b 6 0) (word_at b 7)))

unfoldable pub memory_of : List ℕ → MemoryStage
memory_of b =
    cond (eqb (get_or b 0 0) 3) (Receive (incoming_of b) (get_or b 1 0) (get_or b 2 0) (word_at b 3))
    (cond (eqb (get_or b 0 0) 4) (Send (outgoing_of b) (get_or b 1 0) (word_at b 2) (word_at b 4))
    (cond (eqb (get_or b 0 0) 5) (Armed (mode_of (get_or b 2 0)) (target_at b 3) (get_or b 1 0))
    Silent))

unfoldable pub chip_stage_of : List ℕ → Stage
chip_stage_of b =
    cond (eqb (get_or b 0 0) 1) (Rom (RomCommand (get_or b 1 0) (get_or b 2 0)))
    (cond (eqb (get_or b 0 0) 2) (Rom (Number (rom_step_of (get_or b 1 0)) (get_or b 2 0)))
    (Memory (memory_of b)))

abbrev pub chip_at : List ℕ → Stage → State
chip_at b stage = record { stage = stage; number = rest_at 8 b }

-- of bytes of another length
abbrev pub chip_none : State
chip_none = record { stage = Memory Silent; number = replicate 8 0 }

unfoldable pub chip_state_of : List ℕ → State
chip_state_of b = cond (eqb (length b) 24) (chip_at b (chip_stage_of b)) chip_none

-- the bytes are those of a state
unfoldable pub is_chip_state : List ℕ → Bool
is_chip_state b = is_copy 24 (chip_bytes (chip_state_of b)) b

-- 2, or accepted
unfoldable pub chip_judged : List ℕ → Outcome Done
chip_judged b = judged_by (is_chip_state b)

-- a state into a buffer of 24 bytes: 10, or accepted; a refusal leaves the buffer
unfoldable pub chip_packed : List ℕ → Outcome Done
chip_packed buffer = buffer_outcome 24 buffer

unfoldable pub chip_buffer : State → List ℕ → List ℕ
chip_buffer s buffer = buffer_after 24 (chip_bytes s) buffer

-- packing and unpacking are inverse
abbrev pub ChipPacking : Type 0
ChipPacking = Inverse 8 chip_bytes (λ s. s.number) chip_state_of is_chip_state
