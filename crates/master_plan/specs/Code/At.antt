-- The step of a plan at a position, by tests on the position, as the code finds it. proofs/At.antt shows that these are the elements of
-- the plan's list.
use Rattle.std.specs.Prelude.{ℕ, ◌+◌, ◌-◌, ◌/◌, ◌%◌, cond, List, ◌++◌, ltb, get_or}
use Rattle.std.specs.Int.Bits.{bit_and}
use Rattle.base_types.specs.Bits.{bit_at}
use Rattle.base_types.specs.declared.address.Target.{Target}
use Rattle.base_types.specs.declared.write_mode.WriteMode.{WriteMode}
use Rattle.bus_events.specs.Events.{slot, read_slot}
use Rattle.base_crc.specs.Crc.{crc16_byte, crc16_of, crc16_load, crc16_word}
use Rattle.master_plan.specs.declared.Wanted.{Wanted}
use Rattle.master_plan.specs.declared.Wanted.TheVariants.{Anything, Bit, LastCrcBit, LastBackBit}
use Rattle.master_plan.specs.declared.Part.{Part}
use Rattle.master_plan.specs.declared.Part.TheVariants.{Bitmap, NewPage, Link, Closing}
use Rattle.master_plan.specs.declared.Step.{Step}
use Rattle.master_plan.specs.declared.kind.UpdateKind.{UpdateKind}
use Rattle.master_plan.specs.Kind.{selecting, head_count, crc_count, byte_count, write_count}
use Rattle.master_plan.specs.Places.{address_of, head_of}
use Rattle.master_plan.specs.Plan.{step, reset_step, pulse_step}

unfoldable pub send_at : ℕ → ℕ → Step
send_at b i = step (slot (bit_at b (i % 8))) Anything

-- bit i of a number that is read, or, from its last bit on, what is judged
unfoldable pub read_at : ℕ → ℕ → ℕ → Wanted → Step
read_at v i last judged = cond (ltb i last) (step read_slot (Bit (bit_at v (i % 16)))) (step read_slot judged)

unfoldable pub byte_at : WriteMode → ℕ → ℕ → ℕ → ℕ → Step
byte_at mode register old byte i =
    cond (ltb i 8) (send_at byte i)
    (cond (ltb (i - 8) (crc_count mode)) (read_at (crc16_word (crc16_byte register byte)) (i - 8) 15 (LastCrcBit (bit_at (crc16_word (crc16_byte register byte)) 15)))
    (cond (ltb (i - 8 - crc_count mode) 1) pulse_step (read_at (bit_and old byte) (i - 8 - crc_count mode - 1) 7 (LastBackBit (bit_at (bit_and old byte) 7)))))

-- byte number j of those that select the chip and those of command and address
unfoldable pub head_byte : UpdateKind → Target → ℕ → ℕ
head_byte kind target j = get_or (selecting kind.selection ++ head_of kind.mode target) j 0

unfoldable pub head_at : UpdateKind → Target → ℕ → Step
head_at kind target i = cond (ltb i 1) reset_step (send_at (head_byte kind target ((i - 1) / 8)) (i - 1))

-- the register before byte number j of a write from address a on, crc being that of command and address
unfoldable pub register_at : ℕ → ℕ → ℕ → ℕ
register_at a crc j = cond (ltb j 1) crc (crc16_load (a + j))

-- the number of the byte to which event i of a write belongs
abbrev pub number_at : UpdateKind → ℕ → ℕ
number_at kind i = (i - head_count kind) / byte_count kind.mode

unfoldable pub write_at : UpdateKind → Target → ℕ → List ℕ → ℕ → Step
write_at kind target old bytes i =
    cond (ltb i (head_count kind)) (head_at kind target i)
    (byte_at kind.mode (register_at (address_of target) (crc16_of (head_of kind.mode target)) (number_at kind i)) old (get_or bytes (number_at kind i) 0)
    ((i - head_count kind) % byte_count kind.mode))

-- to which part of the plan event k belongs, and which it is of that part
unfoldable pub part_at : UpdateKind → ℕ → Part
part_at kind k =
    cond (ltb k (write_count kind 1)) (Bitmap k)
    (cond (ltb (k - write_count kind 1) (write_count kind 32)) (NewPage (k - write_count kind 1))
    (cond (ltb (k - write_count kind 1 - write_count kind 32) (write_count kind 1)) (Link (k - write_count kind 1 - write_count kind 32))
    Closing))
