-- The chip, driven by bus events, over the page count n.
use Rattle.std.specs.Prelude.{ℕ, Bool, true, false, ◌&&◌, List}
use Rattle.base_types.specs.Outcome.{Outcome, accepted, judge, unless_refused}
use Rattle.bus_events.specs.declared.Event.{Event}
use Rattle.bus_events.specs.declared.Event.TheVariants.{Reset, Slot, Pulse, PowerLoss}
use Rattle.chip_rom.specs.declared.RomStage.TheVariants.{Command as RomCommand}
use Rattle.chip_rom.specs.declared.RomOutcome.{RomOutcome}
use Rattle.chip_rom.specs.declared.RomOutcome.TheVariants.{Stays, Selected, Deselected}
use Rattle.chip_rom.specs.Rom.{rom_slot, rom_bit, rom_in_range}
use Rattle.chip_memory.specs.Layout.{is_image}
use Rattle.chip_stage.specs.declared.stage.Incoming.TheVariants.{Command as CommandByte}
use Rattle.chip_stage.specs.declared.stage.MemoryStage.TheVariants.{Silent}
use Rattle.chip_stage.specs.Stages.{receiving}
use Rattle.chip_function.specs.Functions.{memory_slot, memory_bit, pulse_image, pulse_stage}
use Rattle.chip_function.specs.Ranges.{memory_in_range}
use Rattle.chip_entries.specs.declared.event.Stage.{Stage}
use Rattle.chip_entries.specs.declared.event.Stage.TheVariants.{Rom, Memory}
use Rattle.chip_entries.specs.declared.event.State.{State}

-- silent until reset
abbrev pub silent : Stage
silent = Memory Silent

-- before the first bit of a ROM command
abbrev pub awaiting_rom : Stage
awaiting_rom = Rom (RomCommand 0 0)

-- before the first bit of a memory command
abbrev pub awaiting_memory : Stage
awaiting_memory = Memory (receiving CommandByte 0)

-- a chip at power-up
unfoldable pub power_up : List ℕ → State
power_up number = record { stage = silent; number = number }

-- ---- a slot and a pulse

-- the stage after a slot of a ROM function: after success a memory command
unfoldable pub after_rom : RomOutcome → Stage
after_rom (Stays r) = Rom r
after_rom Selected = awaiting_memory
after_rom Deselected = silent

unfoldable pub stage_slot : ℕ → Stage → Bool → List ℕ → List ℕ → Stage
stage_slot n (Rom r) bit number img = after_rom (rom_slot r bit number)
stage_slot n (Memory m) bit number img = Memory (memory_slot n m bit img)

-- the chip's bit, 1 where it is not sending
unfoldable pub stage_bit : Stage → List ℕ → Bool
stage_bit (Rom r) number = rom_bit r number
stage_bit (Memory m) number = memory_bit m

unfoldable pub pulse_image_of : ℕ → Stage → List ℕ → List ℕ
pulse_image_of n (Rom r) img = img
pulse_image_of n (Memory m) img = pulse_image n m img

-- on the image after the pulse
unfoldable pub stage_pulse : ℕ → Stage → List ℕ → Stage
stage_pulse n (Rom r) img = Rom r
stage_pulse n (Memory m) img = Memory (pulse_stage n m img)

-- ---- an event

-- Reset replies 0, a pulse and power loss 1, and a slot the line: the master's bit AND the chip's
unfoldable pub reply_of : Stage → Event → List ℕ → Bool
reply_of stage Reset number = false
reply_of stage (Slot bit) number = bit && stage_bit stage number
reply_of stage Pulse number = true
reply_of stage PowerLoss number = true

unfoldable pub image_after : ℕ → Stage → Event → List ℕ → List ℕ
image_after n stage Reset img = img
image_after n stage (Slot bit) img = img
image_after n stage Pulse img = pulse_image_of n stage img
image_after n stage PowerLoss img = img

-- on the image after the event
unfoldable pub stage_after : ℕ → Stage → Event → List ℕ → List ℕ → Stage
stage_after n stage Reset number img = awaiting_rom
stage_after n stage (Slot bit) number img = stage_slot n stage bit number img
stage_after n stage Pulse number img = stage_pulse n stage img
stage_after n stage PowerLoss number img = silent

-- ---- the entry

-- the ranges of a stage; the number may be any eight bytes
unfoldable pub chip_in_range : ℕ → Stage → Bool
chip_in_range n (Rom r) = rom_in_range r
chip_in_range n (Memory m) = memory_in_range n m

-- 1, 2, or the reply
unfoldable pub event_answer : ℕ → State → Event → List ℕ → Outcome Bool
event_answer n s e img = judge (is_image n img) 1 (judge (chip_in_range n s.stage) 2 (accepted (reply_of s.stage e s.number)))

-- a refused event leaves the state ..
unfoldable pub event_state : ℕ → State → Event → List ℕ → State
event_state n s e img =
    unless_refused (event_answer n s e img)
    (record { stage = stage_after n s.stage e s.number (image_after n s.stage e img); number = s.number })
    s

-- .. and the image as they were
unfoldable pub event_image : ℕ → State → Event → List ℕ → List ℕ
event_image n s e img = unless_refused (event_answer n s e img) (image_after n s.stage e img) img
