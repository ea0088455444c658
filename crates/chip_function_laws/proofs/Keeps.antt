-- A slot and a pulse keep a stage of the memory functions within its ranges.
use Prim.Native.Nat.{ℕ, ◌+◌, ◌-◌, ◌%◌}
use mathlib.Core.Path.{◌≡◌, refl}
use mathlib.Core.Bool.{Bool, true, false, cond}
use mathlib.Core.List.{List}
use native.Mathlib.Omega.{arith}
use lib.Dec.{eqb, ltb}
use borrow.Author.Tests.{lt-ltb, le-ltb, ltb-true, ltb-false}
use Rattle.base_types.specs.Bits.{shift_in}
use Rattle.base_types.specs.declared.address.Space.{Space}
use Rattle.base_types.specs.declared.address.Space.TheVariants.{Data, Status}
use Rattle.base_types.specs.declared.address.Target.{Target}
use Rattle.base_types.specs.declared.address.Target.TheVariants.{Data as DataTarget, Status as StatusTarget}
use Rattle.base_types.specs.declared.write_mode.WriteMode.{WriteMode}
use Rattle.base_types.specs.declared.write_mode.WriteMode.TheVariants.{Ordinary, Quick}
use Rattle.base_types.proofs.Tests.{cond_true, cond_right, cond_left}
use Rattle.base_crc.specs.Crc.{crc16_byte}
use Rattle.chip_memory.specs.Layout.{data_size, status_size}
use Rattle.chip_stage.specs.declared.stage.Command.{Command}
use Rattle.chip_stage.specs.declared.stage.Command.TheVariants.{ReadMemory, ReadStatus, ExtendedRead, Write}
use Rattle.chip_stage.specs.declared.stage.Incoming.{Incoming}
use Rattle.chip_stage.specs.declared.stage.Incoming.TheVariants.{Command as CommandByte, AddressLow, AddressHigh, Data as DataByte}
use Rattle.chip_stage.specs.declared.stage.Outgoing.{Outgoing}
use Rattle.chip_stage.specs.declared.stage.Outgoing.TheVariants.{MemoryData, MemoryCrc, StatusData, StatusCrc, RedirectionByte, RedirectionCrc, PageData, PageCrc, WriteCrc, ReadBack}
use Rattle.chip_stage.specs.declared.stage.MemoryStage.{MemoryStage}
use Rattle.chip_stage.specs.declared.stage.MemoryStage.TheVariants.{Silent, Receive, Send, Armed}
use Rattle.chip_stage.specs.Limits.{limit_of, is_address, target_at, target_in_range}
use Rattle.chip_stage.specs.Stages.{receiving, sending_byte, sending_crc}
use Rattle.chip_stage.specs.Reads.{memory_from, status_from, redirection_from, page_from, start_memory, start_status, start_extended, after_memory, after_status, next_status, after_page, next_page}
use Rattle.chip_stage.specs.Writes.{start_write, data_in, raised, next_write, reading_back}
use Rattle.chip_function.specs.Functions.{beginning, memory_command, addressed, started_at, received, receive_bit, sent, send_bit, memory_slot, pulse_stage}
use Rattle.chip_function.specs.Ranges.{incoming_in_range, outgoing_in_range, outgoing_width, receiving_in_range, send_in_range, memory_in_range}
use Rattle.chip_function_laws.specs.Ranges.{RangeLaws}

-- ---- before the last address of a page, the next one is an address too

-- the status memory is whole pages of 8 bytes, as n is a multiple of 8
status_up : (n a : ℕ) → n % 8 ≡ 0 → ltb (a % 8) 7 ≡ true → is_address n Status a ≡ true → is_address n Status (a + 1) ≡ true
unfolding is_address limit_of
status_up n a whole t h = lt-ltb (a + 1) (status_size n) (omega (arith, ltb-true (a % 8) 7 t, ltb-true a (status_size n) h))

-- the data are whole pages of 32 bytes
data_up : (n a : ℕ) → ltb (a % 32) 31 ≡ true → is_address n Data a ≡ true → is_address n Data (a + 1) ≡ true
unfolding is_address limit_of
data_up n a t h = lt-ltb (a + 1) (data_size n) (omega (arith, ltb-true (a % 32) 31 t, ltb-true a (data_size n) h))

-- a stage is within its ranges
abbrev Kept : ℕ → MemoryStage → Type 0
Kept n m = memory_in_range n m ≡ true

module _ (n : ℕ) where
  -- of two stages, the first needs to be within its ranges only where the test chooses it
  tested : (t : Bool) (x y : MemoryStage) → (t ≡ true → Kept n x) → Kept n y → Kept n (cond t x y)
  tested true x y f k = f refl
  tested false x y f k = k

  -- ---- the stages that the memory functions enter

  silent_kept : Kept n Silent
  unfolding memory_in_range
  silent_kept = refl

  receiving_kept : (i : Incoming) (crc : ℕ) → incoming_in_range n i ≡ true → Kept n (receiving i crc)
  unfolding receiving memory_in_range receiving_in_range
  receiving_kept i crc h = h

  sending_byte_kept : (o : Outgoing) (v crc : ℕ) → outgoing_width o ≡ 8 → outgoing_in_range n o ≡ true → Kept n (sending_byte o v crc)
  unfolding sending_byte memory_in_range send_in_range
  sending_byte_kept o v crc w h = simp w h

  sending_crc_kept : (o : Outgoing) (crc : ℕ) → outgoing_width o ≡ 16 → outgoing_in_range n o ≡ true → Kept n (sending_crc o crc)
  unfolding sending_crc memory_in_range send_in_range
  sending_crc_kept o crc w h = simp w h

  -- ---- a byte has come in

  beginning_kept : (c : Command) (byte : ℕ) → Kept n (beginning c byte)
  unfolding beginning incoming_in_range
  beginning_kept c byte = receiving_kept (AddressLow c) (crc16_byte 0 byte) refl

  command_kept : (byte : ℕ) → Kept n (memory_command byte)
  unfolding memory_command
  command_kept byte =
      tested (eqb byte 0xF0) _ _ (λ _. beginning_kept ReadMemory 0xF0)
      (tested (eqb byte 0xAA) _ _ (λ _. beginning_kept ReadStatus 0xAA)
      (tested (eqb byte 0xA5) _ _ (λ _. beginning_kept ExtendedRead 0xA5)
      (tested (eqb byte 0x0F) _ _ (λ _. beginning_kept (Write Ordinary Data) 0x0F)
      (tested (eqb byte 0x55) _ _ (λ _. beginning_kept (Write Ordinary Status) 0x55)
      (tested (eqb byte 0xF3) _ _ (λ _. beginning_kept (Write Quick Data) 0xF3)
      (tested (eqb byte 0xF5) _ _ (λ _. beginning_kept (Write Quick Status) 0xF5)
      silent_kept))))))

  target_kept : (space : Space) (a : ℕ) → is_address n space a ≡ true → target_in_range n (target_at space a) ≡ true
  unfolding target_at target_in_range
  target_kept Data a h = h
  target_kept Status a h = h

  write_kept : (mode : WriteMode) (space : Space) (a crc : ℕ) → is_address n space a ≡ true → Kept n (receiving (DataByte mode (target_at space a)) crc)
  unfolding incoming_in_range
  write_kept mode space a crc h = receiving_kept (DataByte mode (target_at space a)) crc (target_kept space a h)

  addressed_kept : (c : Command) (a crc : ℕ) (img : List ℕ) → Kept n (addressed n c a crc img)
  unfolding addressed start_memory start_status start_extended start_write memory_from status_from redirection_from outgoing_in_range
  addressed_kept ReadMemory a crc img = tested (is_address n Data a) _ _ (sending_byte_kept _ _ _ refl) silent_kept
  addressed_kept ReadStatus a crc img = tested (is_address n Status a) _ _ (sending_byte_kept _ _ _ refl) silent_kept
  addressed_kept ExtendedRead a crc img = tested (is_address n Data a) _ _ (sending_byte_kept _ _ _ refl) silent_kept
  addressed_kept (Write mode space) a crc img = tested (is_address n space a) _ _ (write_kept mode space a crc) silent_kept

  data_kept : (mode : WriteMode) (t : Target) (byte crc : ℕ) → target_in_range n t ≡ true → Kept n (data_in mode t byte crc)
  unfolding data_in outgoing_in_range memory_in_range
  data_kept Ordinary t byte crc h = sending_crc_kept _ _ refl h
  data_kept Quick t byte crc h = h

  received_kept : (i : Incoming) (byte crc : ℕ) (img : List ℕ) → incoming_in_range n i ≡ true → Kept n (received n i byte crc img)
  unfolding received started_at incoming_in_range
  received_kept CommandByte byte crc img h = command_kept byte
  received_kept (AddressLow c) byte crc img h = receiving_kept _ _ refl
  received_kept (AddressHigh c low) byte crc img h = addressed_kept c _ _ img
  received_kept (DataByte mode t) byte crc img h = data_kept mode t byte crc h

  -- ---- all bits of something have gone out

  raised_kept : (mode : WriteMode) (space : Space) (a : ℕ) → Kept n (raised n mode space a)
  unfolding raised is_address
  raised_kept mode space a = tested (ltb (a + 1) (limit_of n space)) _ _ (write_kept mode space (a + 1) (a + 1)) silent_kept

  next_write_kept : (mode : WriteMode) (t : Target) → Kept n (next_write n mode t)
  unfolding next_write
  next_write_kept mode (DataTarget a) = raised_kept mode Data a.0
  next_write_kept mode (StatusTarget a) = raised_kept mode Status a.0

  -- the pages of the status memory are whole
  module _ (whole : n % 8 ≡ 0) where
    sent_kept : (o : Outgoing) (crc : ℕ) (img : List ℕ) → outgoing_in_range n o ≡ true → Kept n (sent n o crc img)
    unfolding sent after_memory after_status next_status after_page next_page memory_from status_from redirection_from page_from outgoing_in_range is_address
        limit_of
    sent_kept (MemoryData a) crc img h = tested (ltb (a.0 + 1) (data_size n)) _ _ (sending_byte_kept _ _ _ refl) (sending_crc_kept _ _ refl refl)
    sent_kept MemoryCrc crc img h = silent_kept
    sent_kept (StatusData a) crc img h =
        tested (ltb (a.0 % 8) 7) _ _ (λ t. sending_byte_kept _ _ _ refl (status_up n a.0 whole t h)) (sending_crc_kept _ _ refl h)
    sent_kept (StatusCrc a) crc img h = tested (ltb (a.0 + 1) (status_size n)) _ _ (sending_byte_kept _ _ _ refl) silent_kept
    sent_kept (RedirectionByte a) crc img h = sending_crc_kept _ _ refl h
    sent_kept (RedirectionCrc a) crc img h = sending_byte_kept _ _ _ refl h
    sent_kept (PageData a) crc img h =
        tested (ltb (a.0 % 32) 31) _ _ (λ t. sending_byte_kept _ _ _ refl (data_up n a.0 t h)) (sending_crc_kept _ _ refl h)
    sent_kept (PageCrc a) crc img h = tested (ltb (a.0 + 1) (data_size n)) _ _ (sending_byte_kept _ _ _ refl) silent_kept
    sent_kept (WriteCrc t byte) crc img h = unfold memory_in_range in h
    sent_kept (ReadBack mode t) crc img h = next_write_kept mode t

    -- ---- a slot

    receive_bit_kept : (i : Incoming) (k v crc : ℕ) (img : List ℕ) → receiving_in_range n i k ≡ true → Kept n (receive_bit n i k v crc img)
    unfolding receive_bit memory_in_range receiving_in_range
    receive_bit_kept i k v crc img h =
        let r : incoming_in_range n i ≡ true = cond_true (ltb k 8) (incoming_in_range n i) h in
        tested (ltb k 7) _ _ (λ t. simp (lt-ltb (k + 1) 8 (omega (arith, ltb-true k 7 t))) r) (received_kept i v crc img r)

    send_bit_kept : (o : Outgoing) (left v crc : ℕ) (img : List ℕ) → send_in_range n o left ≡ true → Kept n (send_bit n o left v crc img)
    unfolding send_bit memory_in_range send_in_range
    send_bit_kept o left v crc img h =
        let rest = cond_right (ltb left 1) _ h in
        let w = ltb-false (outgoing_width o) left (cond_left (ltb (outgoing_width o) left) _ rest) in
        let r : outgoing_in_range n o ≡ true = cond_right (ltb (outgoing_width o) left) _ rest in
        tested (ltb 1 left) _ _
        (λ t. simp (le-ltb (left - 1) 1 (omega (arith, ltb-true 1 left t)), le-ltb (outgoing_width o) (left - 1) (omega (arith, w))) r)
        (sent_kept o crc img r)

    slot_kept : (m : MemoryStage) (bit : Bool) (img : List ℕ) → Kept n m → Kept n (memory_slot n m bit img)
    unfolding memory_slot memory_in_range
    slot_kept Silent bit img h = refl
    slot_kept (Receive i k register crc) bit img h = receive_bit_kept i k (shift_in register bit) crc img h
    slot_kept (Send o left v crc) bit img h = send_bit_kept o left v crc img h
    slot_kept (Armed mode t byte) bit img h = refl

  -- ---- a pulse

  pulse_kept : (m : MemoryStage) (img : List ℕ) → Kept n m → Kept n (pulse_stage n m img)
  unfolding pulse_stage reading_back memory_in_range outgoing_in_range
  pulse_kept Silent img h = h
  pulse_kept (Receive i k register crc) img h = h
  pulse_kept (Send o left v crc) img h = h
  pulse_kept (Armed mode t byte) img h = sending_byte_kept _ _ _ refl h

pub range_laws : (n : ℕ) → n % 8 ≡ 0 → RangeLaws n
range_laws n whole = record { slot = slot_kept n whole; pulse = pulse_kept n }
