-- The plan of an update: its events in order, each with what its reply has to be. It goes by the kind of the update.
use Rattle.std.specs.Prelude.{ℕ, zero, suc, ◌+◌, ◌/◌, Bool, List, [], ◌∷◌, ◌++◌}
use Rattle.std.specs.Int.Bits.{bit_and}
use Rattle.base_types.specs.Bits.{odd}
use Rattle.base_types.specs.declared.address.Target.{Target}
use Rattle.base_types.specs.declared.address.Target.TheVariants.{Data, Status}
use Rattle.base_types.specs.declared.write_mode.WriteMode.{WriteMode}
use Rattle.base_types.specs.declared.write_mode.WriteMode.TheVariants.{Ordinary, Quick}
use Rattle.bus_events.specs.declared.Event.{Event}
use Rattle.bus_events.specs.Events.{reset, read_slot, pulse}
use Rattle.bus_events.specs.Slots.{sending}
use Rattle.base_crc.specs.Crc.{crc16_byte, crc16_of, crc16_load, crc16_word}
use Rattle.master_plan.specs.declared.Wanted.{Wanted}
use Rattle.master_plan.specs.declared.Wanted.TheVariants.{Anything, Presence, Bit, LastCrcBit, LastBackBit}
use Rattle.master_plan.specs.declared.Step.{Step}
use Rattle.master_plan.specs.declared.kind.UpdateKind.{UpdateKind}
use Rattle.master_plan.specs.Kind.{selecting}
use Rattle.master_plan.specs.Places.{bitmap_address, clearing, page_address, redirection_address, naming, address_of, head_of}

abbrev pub step : Event → Wanted → Step
step e wanted = record { event = e; wanted = wanted }

-- ---- parts of a plan

-- a reset, whose reply has to be presence
abbrev pub reset_step : Step
reset_step = step reset Presence

abbrev pub pulse_step : Step
pulse_step = step pulse Anything

-- events whose replies are not looked at
abbrev pub freely : List Event → List Step
freely [] = []
freely (e ∷ es) = step e Anything ∷ freely es

-- the slots that send bytes
unfoldable pub send_steps : List ℕ → List Step
send_steps bytes = freely (sending bytes)

-- the read slots that draw the k low bits of v, judged at the last one
unfoldable pub read_steps : (Bool → Wanted) → ℕ → ℕ → List Step
read_steps last zero v = []
read_steps last (suc zero) v = step read_slot (last (odd v)) ∷ []
read_steps last (suc (suc k)) v = step read_slot (Bit (odd v)) ∷ read_steps last (suc k) (v / 2)

-- a CRC is read in the ordinary mode only
unfoldable pub crc_steps : WriteMode → ℕ → List Step
crc_steps Ordinary crc = read_steps LastCrcBit 16 crc
crc_steps Quick crc = []

-- the byte read back equals the old byte AND the sent one
unfoldable pub back_steps : ℕ → ℕ → List Step
back_steps old byte = read_steps LastBackBit 8 (bit_and old byte)

-- a byte, its CRC from this register, and only then its pulse
unfoldable pub byte_steps : WriteMode → ℕ → ℕ → ℕ → List Step
byte_steps mode register old byte = send_steps (byte ∷ []) ++ (crc_steps mode (crc16_word (crc16_byte register byte)) ++ (pulse_step ∷ back_steps old byte))

-- bytes from address a on, all over the same old byte; before each but the first the register is loaded with its address
unfoldable pub bytes_steps : WriteMode → ℕ → ℕ → ℕ → List ℕ → List Step
bytes_steps mode a register old [] = []
bytes_steps mode a register old (byte ∷ bytes) = byte_steps mode register old byte ++ bytes_steps mode (a + 1) (crc16_load (a + 1)) old bytes

-- a reset, the bytes that select the chip, the command and the address
unfoldable pub head_steps : UpdateKind → Target → List Step
head_steps kind target = reset_step ∷ send_steps (selecting kind.selection ++ head_of kind.mode target)

-- a write of bytes from a target on, all over the same old byte; the first CRC is that of command, address and byte
unfoldable pub write_steps : UpdateKind → Target → ℕ → List ℕ → List Step
write_steps kind target old bytes =
    head_steps kind target ++ bytes_steps kind.mode (address_of target) (crc16_of (head_of kind.mode target)) old bytes

-- ---- the plan: clear t's bitmap bit, used being t's bitmap byte as found; write the new bytes into page t; write the redirection byte of
-- l, so that it names t; closing reset

unfoldable pub plan_of : UpdateKind → ℕ → ℕ → ℕ → List ℕ → List Step
plan_of kind l t used new =
    write_steps kind (Status (bitmap_address t)) used (clearing t ∷ [])
    ++ (write_steps kind (Data (page_address t)) 255 new
    ++ (write_steps kind (Status (redirection_address l)) 255 ((naming t).0 ∷ [])
    ++ (reset_step ∷ [])))

-- the events of a plan
unfoldable pub step_events : List Step → List Event
step_events [] = []
step_events (s ∷ ss) = s.event ∷ step_events ss
