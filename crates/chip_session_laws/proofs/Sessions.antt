-- ROM commands and the commands that read, over whole sessions.
use Prim.Native.Nat.{ℕ, zero, suc, ◌+◌, ◌*◌, ◌/◌, ◌%◌, ◌<◌, ◌≤◌}
use mathlib.Core.Path.{◌≡◌, refl, ap, ◌∙◌}
use mathlib.Core.Bool.{Bool, true, false, not, cond}
use mathlib.Core.List.{List, [], ◌∷◌, ◌++◌, append-nil}
use native.Mathlib.Omega.{arith}
use lib.Dec.{eqb, lit<}
use lib.ListN.{length, length-append}
use borrow.Author.Tests.{le-ltb, ltb-true}
use Rattle.base_types.proofs.Words.{bits_length}
use Rattle.base_types.specs.Bits.{bits_of, bits_of_bytes}
use Rattle.base_types.specs.declared.address.Space.{Space}
use Rattle.base_types.specs.declared.address.Space.TheVariants.{Data, Status}
use Rattle.base_types.specs.declared.write_mode.WriteMode.{WriteMode}
use Rattle.base_types.specs.declared.write_mode.WriteMode.TheVariants.{Ordinary, Quick}
use Rattle.base_types.specs.WriteMode.{write_command}
use Rattle.bus_events.specs.Slots.{slots, lines}
use Rattle.bus_events.proofs.Slots.{slots_append}
use Rattle.bus_events.specs.Events.{reset}
use Rattle.base_crc.specs.Crc.{crc_bytes, crc16_byte, crc16_of}
use Rattle.chip_rom.specs.declared.RomStage.{RomStage}
use Rattle.chip_rom.specs.declared.RomOutcome.{RomOutcome}
use Rattle.chip_rom.specs.Rom.{number_bit, rom_command}
use Rattle.chip_rom_laws.specs.Rom.{Roms, Ask, number_bits, search_bits, search_sent}
use Rattle.chip_rom_laws.proofs.Sessions.{rom_laws}
use Rattle.chip_stage.specs.declared.stage.Command.{Command}
use Rattle.chip_stage.specs.declared.stage.Command.TheVariants.{ReadMemory, ReadStatus, ExtendedRead, Write}
use Rattle.chip_stage.specs.declared.stage.Incoming.TheVariants.{Command as CommandByte, AddressLow, AddressHigh}
use Rattle.chip_stage.specs.declared.stage.MemoryStage.{MemoryStage}
use Rattle.chip_stage.specs.declared.stage.MemoryStage.TheVariants.{Silent}
use Rattle.chip_stage.specs.Limits.{limit_of, is_address, kept_address}
use Rattle.chip_stage.specs.Reads.{start_memory, start_status, start_extended}
use Rattle.chip_stage.specs.Writes.{start_write}
use Rattle.chip_function.specs.Functions.{beginning, memory_command, addressed, started_at, received}
use Rattle.chip_function_laws.specs.Streams.{header}
use Rattle.chip_function_laws.specs.Reads.{Sends, none}
use Rattle.chip_function_laws.proofs.Addresses.{kept_low}
use Rattle.chip_function_laws.proofs.Sessions.{read_laws}
use Rattle.chip_entries.specs.declared.event.Stage.TheVariants.{Rom, Memory}
use Rattle.chip_entries.specs.Event.{silent, awaiting_rom, awaiting_memory, after_rom, reply_of, image_after, stage_after}
use Rattle.chip_entries.specs.Run.{Chip}
use Rattle.chip_session_laws.specs.Session.{Ready, ◌at◌, Reaches, Selection, skip, read, matched, searched, then_ones}
use Rattle.chip_session_laws.specs.Laws.{RomSessionLaws, Draws, ReadSessionLaws, Silenced, SilenceLaws}
use Rattle.chip_session_laws.proofs.Runs.{◌then◌, further, event}
use Rattle.chip_session_laws.proofs.Slots.{lines_ones, ready, over_rom, draws_stream, byte_in_lem}

module _ (n : ℕ) (whole : n % 8 ≡ 0) where
  pub resets : (c : Chip) → Ready n c → Reaches n c (reset ∷ []) (false ∷ []) (c at awaiting_rom)
  unfolding reply_of stage_after image_after
  resets c ok = event n c ok reset

  -- ---- ROM commands

  -- the command byte
  rom_byte : (c : Chip) (byte : ℕ) → byte < 256 → Ready n c → Reaches n c (reset ∷ slots (bits_of 8 byte)) (false ∷ bits_of 8 byte) (c at after_rom (rom_command byte))
  rom_byte c byte lt ok =
      let first = resets c ok in
      first then rw (lines_ones (bits_of 8 byte) 8 (bits_length 8 byte)) at (over_rom n whole c (rom_laws.command c.state.number byte lt) (ready n whole ok first))

  -- the command byte and the bits that follow it
  rom_bits : (c : Chip) (byte : ℕ) {r : RomStage} {ms bs : List Bool} {o : RomOutcome} → byte < 256 → after_rom (rom_command byte) ≡ Rom r
      → Roms c.state.number r ms bs o → Ready n c
      → Reaches n c (reset ∷ slots (bits_of 8 byte ++ ms)) (false ∷ (bits_of 8 byte ++ lines ms bs)) (c at after_rom o)
  rom_bits c byte {ms = ms} lt e p ok =
      let first = rw e at (rom_byte c byte lt ok) in
      rw (slots_append (bits_of 8 byte) ms) (first then over_rom n whole c p (ready n whole ok first))

  number_length : (number : List ℕ) (i k : ℕ) → length (number_bits number i k) ≡ k
  unfolding number_bits
  number_length number i zero = refl
  number_length number i (suc k) = ap suc (number_length number (i + 1) k)

  the_number : (c : Chip) → Ready n c → number_bits c.state.number 0 64 ≡ bits_of_bytes c.state.number
  the_number c ok = rom_laws.number_bits_law c.state.number ok.eight

  pub selects : (c : Chip) {ms ls : List Bool} → Ready n c → Selection c.state.number ms ls → Reaches n c (reset ∷ slots ms) (false ∷ ls) (c at awaiting_memory)
  unfolding rom_command after_rom
  selects c ok skip = rom_byte c 0xCC (lit< tt) ok
  selects c ok (read ms l) = rw (← (the_number c ok)) (rom_bits c 0x33 (lit< tt) refl (rom_laws.read c.state.number ms l) ok)
  selects c ok matched =
      rw (← (the_number c ok))
      (rw (lines_ones (number_bits c.state.number 0 64) 64 (number_length c.state.number 0 64)) at
      (rom_bits c 0x55 (lit< tt) refl (rom_laws.matched c.state.number) ok))
  selects c ok (searched asks l) = rom_bits c 0xF0 (lit< tt) refl (rom_laws.searched c.state.number asks l) ok

  mismatched : (c : Chip) (k : ℕ) → Ready n c → k < 64
      → let number = c.state.number in
      let ms = bits_of 8 0x55 ++ (number_bits number 0 k ++ (not (number_bit number k) ∷ [])) in
      Reaches n c (reset ∷ slots ms) (false ∷ ms) (c at silent)
  unfolding rom_command after_rom
  mismatched c k ok lt =
      let number = c.state.number in
      let ms = number_bits number 0 k ++ (not (number_bit number k) ∷ []) in
      let l : length (number_bits number 0 k ++ (not (number_bit number k) ∷ [])) ≡ k + 1 =
      length-append (number_bits number 0 k) (not (number_bit number k) ∷ []) ∙ ap (λ x. x + 1) (number_length number 0 k) in
      rw (lines_ones ms (k + 1) l) at (rom_bits c 0x55 (lit< tt) refl (rom_laws.mismatched number k lt) ok)

  lost : (c : Chip) (k : ℕ) (asks : List Ask) (a : Ask) → Ready n c → k < 64 → length asks ≡ k
      → let number = c.state.number in
      let ms = search_bits number 0 asks ++ (a.first ∷ a.second ∷ not (number_bit number k) ∷ []) in
      Reaches n c (reset ∷ slots (bits_of 8 0xF0 ++ ms)) (false ∷ (bits_of 8 0xF0 ++ lines ms (search_sent number 0 (k + 1)))) (c at silent)
  unfolding rom_command after_rom
  lost c k asks a ok lt l = rom_bits c 0xF0 (lit< tt) refl (rom_laws.lost c.state.number k asks a lt l) ok

  unknown_rom : (c : Chip) (byte : ℕ) → Ready n c → byte < 256 → eqb byte 0x33 ≡ false → eqb byte 0x55 ≡ false → eqb byte 0xF0 ≡ false → eqb byte 0xCC ≡ false
      → Reaches n c (reset ∷ slots (bits_of 8 byte)) (false ∷ bits_of 8 byte) (c at silent)
  unknown_rom c byte ok lt h₁ h₂ h₃ h₄ =
      let e : after_rom (rom_command byte) ≡ silent = unfold rom_command after_rom in simp (h₁, h₂, h₃, h₄) in
      rw e at (rom_byte c byte lt ok)

  -- ---- a memory command with its address

  parts : (a : ℕ) → a % 256 + 256 * (a / 256) ≡ a
  parts a = omega arith

  -- the CRC has taken in the low byte as sent, which is the kept address's own, and then the high byte as kept
  pub header_in : (c : Chip) (command : Command) (byte a : ℕ) → byte < 256 → memory_command byte ≡ beginning command byte → a < 65536 → Ready n (c at awaiting_memory)
      → Reaches n (c at awaiting_memory) (slots (bits_of_bytes (header byte a))) (bits_of_bytes (header byte a))
      (c at Memory (addressed n command (kept_address n a) (crc16_of (header byte (kept_address n a))) c.image))
  unfolding bits_of_bytes received started_at beginning crc_bytes
  header_in c command byte a lt e la ok =
      let first = rw e at (byte_in_lem n whole c CommandByte 0 byte lt ok) in
      let ok₁ = ready n whole ok first in
      let second = byte_in_lem n whole c (AddressLow command) (crc16_byte 0 byte) (a % 256) (omega arith) ok₁ in
      let ok₂ = ready n whole ok₁ second in
      let third = rw (parts a) at (byte_in_lem n whole c (AddressHigh command (a % 256)) (crc16_byte (crc16_byte 0 byte) (a % 256)) (a / 256) (omega arith) ok₂) in
      rw (kept_low n a) (simp (append-nil, slots_append) (first then second then third))

  -- ---- a session up to the address

  pub up_to_address : (c : Chip) {ms ls : List Bool} (command : Command) (byte a : ℕ) → Ready n c → Selection c.state.number ms ls
      → byte < 256 → memory_command byte ≡ beginning command byte → a < 65536
      → Reaches n c (reset ∷ slots (ms ++ bits_of_bytes (header byte a))) (false ∷ (ls ++ bits_of_bytes (header byte a)))
      (c at Memory (addressed n command (kept_address n a) (crc16_of (header byte (kept_address n a))) c.image))
  up_to_address c {ms} command byte a ok sel lt e la =
      let first = selects c ok sel in
      rw (slots_append ms (bits_of_bytes (header byte a))) (first then header_in c command byte a lt e la (ready n whole ok first))

  -- the command bytes of the writes
  pub write_begins : (mode : WriteMode) (space : Space) → memory_command (write_command mode space) ≡ beginning (Write mode space) (write_command mode space)
  unfolding memory_command
  write_begins Ordinary Data = refl
  write_begins Ordinary Status = refl
  write_begins Quick Data = refl
  write_begins Quick Status = refl

  pub write_byte_lem : (mode : WriteMode) (space : Space) → write_command mode space < 256
  write_byte_lem Ordinary Data = lit< tt
  write_byte_lem Ordinary Status = lit< tt
  write_byte_lem Quick Data = lit< tt
  write_byte_lem Quick Status = lit< tt

  -- ---- the commands that read

  draws : (c : Chip) {ms ls : List Bool} (command : Command) (byte a : ℕ) {stream : List Bool} → Ready n c → Selection c.state.number ms ls
      → byte < 256 → memory_command byte ≡ beginning command byte → a < 65536
      → Sends n c.image (addressed n command (kept_address n a) (crc16_of (header byte (kept_address n a))) c.image) stream Silent
      → Draws n c ms ls (header byte a) stream
  draws c {ms} {ls} command byte a {stream} ok sel lt e la sends rs =
      let sent = bits_of_bytes (header byte a) in
      let line = lines rs (then_ones stream (length rs)) in
      let first = selects c ok sel in
      let ok₁ = ready n whole ok first in
      let second = header_in c command byte a lt e la ok₁ in
      rw (slots_append ms (sent ++ rs), slots_append sent rs)
      (further (slots sent ++ slots rs) (sent ++ line) first (further (slots rs) line second (draws_stream n whole c rs sends (ready n whole ok₁ second))))

  -- a stream from an address of the memory, and silence from any other
  from_address : {img : List ℕ} {m : MemoryStage} {stream : List Bool} (t : Bool) → (t ≡ true → Sends n img m stream Silent) → (t ≡ false → m ≡ Silent)
      → Sends n img m (cond t stream []) Silent
  from_address true f z = f refl
  from_address {img} false f z = rw (z refl) none

  -- what the test says
  is_in : (space : Space) (a : ℕ) → is_address n space a ≡ true → a < limit_of n space
  unfolding is_address
  is_in space a t = ltb-true a (limit_of n space) t

  pub read_sessions : n ≤ 256 → ReadSessionLaws n
  unfolding memory_command addressed start_memory start_status start_extended limit_of
  read_sessions low =
      record {
        memory = λ c a ok sel lt. draws c ReadMemory 0xF0 a ok sel (lit< tt) refl lt
            (from_address (is_address n Data (kept_address n a)) (λ t. (read_laws n whole low).memory c.image (kept_address n a) (is_in Data _ t)) (λ t. simp t));
        status = λ c a ok sel lt. draws c ReadStatus 0xAA a ok sel (lit< tt) refl lt
            (from_address (is_address n Status (kept_address n a)) (λ t. (read_laws n whole low).status c.image (kept_address n a) (is_in Status _ t)) (λ t. simp t));
        extended = λ c a ok sel lt. draws c ExtendedRead 0xA5 a ok sel (lit< tt) refl lt
            (from_address (is_address n Data (kept_address n a)) (λ t. (read_laws n whole low).extended c.image (kept_address n a) (is_in Data _ t)) (λ t. simp t));
      }

  -- ---- what silences the chip

  no_address : (space : Space) (a : ℕ) → limit_of n space ≤ a → is_address n space a ≡ false
  unfolding is_address
  no_address space a le = le-ltb a (limit_of n space) le

  too_high : (c : Chip) {ms ls : List Bool} (command : Command) (byte a : ℕ) → Ready n c → Selection c.state.number ms ls
      → byte < 256 → memory_command byte ≡ beginning command byte → a < 65536
      → addressed n command (kept_address n a) (crc16_of (header byte (kept_address n a))) c.image ≡ Silent
      → Silenced n c ms ls byte a
  too_high c command byte a ok sel lt e la z = rw z at (up_to_address c command byte a ok sel lt e la)

  write_too_high : (c : Chip) {ms ls : List Bool} (a : ℕ) → Ready n c → Selection c.state.number ms ls → a < 65536
      → (mode : WriteMode) (space : Space) → limit_of n space ≤ kept_address n a → Silenced n c ms ls (write_command mode space) a
  unfolding addressed start_write
  write_too_high c a ok sel la mode space le =
      too_high c (Write mode space) (write_command mode space) a ok sel (write_byte_lem mode space) (write_begins mode space) la (simp (no_address space (kept_address n a) le))

  pub silences : SilenceLaws n
  unfolding memory_command addressed start_memory start_status start_extended received
  silences =
      record {
        unknown = λ c {ms} {ls} byte ok sel lt h₁ h₂ h₃ h₄ h₅ h₆ h₇.
            let first = selects c ok sel in
            let e : memory_command byte ≡ Silent = simp (h₁, h₂, h₃, h₄, h₅, h₆, h₇) in
            rw (slots_append ms (bits_of 8 byte)) (first then rw e at (byte_in_lem n whole c CommandByte 0 byte lt (ready n whole ok first)));
        too_high = λ c {ms} {ls} a ok sel la. (
          (λ le. (
            too_high c ReadMemory 0xF0 a ok sel (lit< tt) refl la (simp (no_address Data (kept_address n a) le)),
            too_high c ExtendedRead 0xA5 a ok sel (lit< tt) refl la (simp (no_address Data (kept_address n a) le)),
          )),
          (λ le. too_high c ReadStatus 0xAA a ok sel (lit< tt) refl la (simp (no_address Status (kept_address n a) le))),
          write_too_high c a ok sel la,
        );
      }

pub rom_sessions : (n : ℕ) → n % 8 ≡ 0 → RomSessionLaws n
rom_sessions n whole =
    record { selects = selects n whole; mismatched = mismatched n whole; lost = lost n whole; unknown = unknown_rom n whole }
