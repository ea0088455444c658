-- The commands that write, over whole sessions.
use Prim.Native.Nat.{ℕ, suc, ◌+◌, ◌%◌, ◌<◌, ◌≤◌}
use mathlib.Core.Path.{◌≡◌, refl, sym, ap, ap₂, ◌∙◌, subst}
use mathlib.Core.Bool.{Bool, true, false, cond}
use mathlib.Core.List.{List, [], ◌∷◌, ◌++◌, append-nil, append_assoc}
use native.Mathlib.Omega.{arith}
use lib.Dec.{ltb}
use lib.ListN.{length, get_or}
use borrow.Author.Tests.{lt-ltb}
use Rattle.base_types.proofs.Words.{bits_length}
use Rattle.base_types.specs.Bits.{bits_of, bits_of_bytes}
use Rattle.base_types.specs.declared.address.Space.{Space}
use Rattle.base_types.specs.declared.address.Space.TheVariants.{Data, Status}
use Rattle.base_types.specs.declared.address.Target.{Target}
use Rattle.base_types.specs.declared.write_mode.WriteMode.{WriteMode}
use Rattle.base_types.specs.declared.write_mode.WriteMode.TheVariants.{Ordinary, Quick}
use Rattle.base_types.specs.WriteMode.{write_command}
use Rattle.bus_events.specs.declared.Event.{Event}
use Rattle.bus_events.specs.Slots.{slots, ones, reading, lines, crc_events}
use Rattle.bus_events.specs.Events.{reset, pulse}
use Rattle.base_crc.specs.Crc.{crc_bytes, crc16_byte, crc16_of, crc16_word}
use Rattle.chip_memory.specs.Image.{target_byte}
use Rattle.chip_memory.specs.Write.{programmed}
use Rattle.chip_stage.specs.declared.stage.Command.TheVariants.{Write}
use Rattle.chip_stage.specs.declared.stage.Incoming.TheVariants.{Data as DataByte}
use Rattle.chip_stage.specs.declared.stage.Outgoing.TheVariants.{WriteCrc, ReadBack}
use Rattle.chip_stage.specs.declared.stage.MemoryStage.{MemoryStage}
use Rattle.chip_stage.specs.declared.stage.MemoryStage.TheVariants.{Armed}
use Rattle.chip_stage.specs.Limits.{limit_of, is_address, kept_address, target_at}
use Rattle.chip_stage.proofs.Addresses.{limit_fits}
use Rattle.chip_stage.specs.Stages.{receiving}
use Rattle.chip_stage.specs.Writes.{start_write, data_in, raised, next_write, reading_back}
use Rattle.chip_function.specs.Functions.{received, sent, addressed, pulse_image, pulse_stage}
use Rattle.chip_function_laws.specs.Streams.{header}
use Rattle.chip_function_laws.specs.Writes.{written_from}
use Rattle.chip_function_laws.proofs.Addresses.{address_laws}
use Rattle.chip_function_laws.proofs.Sending.{byte_out, crc_out}
use Rattle.chip_entries.specs.declared.event.Stage.TheVariants.{Memory}
use Rattle.chip_entries.specs.Event.{reply_of, image_after, stage_after, pulse_image_of, stage_pulse}
use Rattle.chip_entries.specs.Run.{Chip, run}
use Rattle.chip_session_laws.specs.Session.{Ready, ◌at◌, ◌holding◌, Reaches, Selection, crc_lines, crc_slots, byte_write_events, write_lines, WriteCycle}
use Rattle.chip_session_laws.specs.Session.{cycle_events, cycle_bytes, cycle_lines, byte_of, before_byte}
use Rattle.chip_session_laws.specs.Laws.{is_armed, WriteLaws}
use Rattle.chip_session_laws.proofs.Runs.{run_append, stays, ◌then◌, event}
use Rattle.chip_session_laws.proofs.Slots.{lines_read, ready, over_memory, byte_in_lem, bits_unarmed}
use Rattle.chip_session_laws.proofs.Places.{byte_is, stays_read}
use Rattle.chip_session_laws.proofs.Sessions.{write_begins, write_byte_lem, up_to_address}

module _ (n : ℕ) (whole : n % 8 ≡ 0) where
  -- ---- one byte

  abbrev pub after : Chip → Target → ℕ → List ℕ
  after c t byte = programmed n c.image t byte

  -- in the ordinary mode the CRC, whatever the master's bits, and in the quick mode nothing
  pub crc_slots_lem : (c : Chip) (mode : WriteMode) (t : Target) (byte crc : ℕ) (ms : List Bool) → length ms ≡ crc_slots mode → Ready n (c at Memory (data_in mode t byte crc))
      → Reaches n (c at Memory (data_in mode t byte crc)) (slots ms) (lines ms (crc_lines mode crc (byte ∷ []))) (c at Memory (Armed mode t byte))
  unfolding data_in sent crc_bytes
  crc_slots_lem c Ordinary t byte crc ms l ok =
      over_memory n whole c ms (crc_out n c.image (WriteCrc t byte) (crc16_byte crc byte)) (l ∙ sym (bits_length 16 (crc16_word (crc16_byte crc byte)))) ok
  crc_slots_lem c Quick t byte crc [] l ok = stays
  crc_slots_lem c Quick t byte crc (m ∷ ms) l ok = absurd (omega arith)

  pub crc_read : (c : Chip) (mode : WriteMode) (t : Target) (byte crc : ℕ) → Ready n (c at Memory (data_in mode t byte crc))
      → Reaches n (c at Memory (data_in mode t byte crc)) (crc_events mode) (crc_lines mode crc (byte ∷ [])) (c at Memory (Armed mode t byte))
  crc_read c Ordinary t byte crc ok =
      rw (lines_read 16 (crc_lines Ordinary crc (byte ∷ [])) (bits_length 16 _)) at (crc_slots_lem c Ordinary t byte crc (ones 16) refl ok)
  crc_read c Quick t byte crc ok = crc_slots_lem c Quick t byte crc [] refl ok

  -- the byte and its CRC
  arms : (c : Chip) (mode : WriteMode) (t : Target) (byte crc : ℕ) (ms : List Bool) → length ms ≡ crc_slots mode → byte < 256
      → Ready n (c at Memory (receiving (DataByte mode t) crc))
      → Reaches n (c at Memory (receiving (DataByte mode t) crc)) (slots (bits_of 8 byte) ++ slots ms) (bits_of 8 byte ++ lines ms (crc_lines mode crc (byte ∷ [])))
      (c at Memory (Armed mode t byte))
  unfolding received
  arms c mode t byte crc ms l lt ok =
      let first = byte_in_lem n whole c (DataByte mode t) crc byte lt ok in
      first then crc_slots_lem c mode t byte crc ms l (ready n whole ok first)

  pub fires : (c : Chip) (mode : WriteMode) (t : Target) (byte : ℕ) → Ready n (c at Memory (Armed mode t byte))
      → Reaches n (c at Memory (Armed mode t byte)) (pulse ∷ []) (true ∷ []) ((c at Memory (reading_back n mode t (after c t byte))) holding after c t byte)
  unfolding reply_of image_after stage_after pulse_image_of pulse_image stage_pulse pulse_stage
  fires c mode t byte ok = event n (c at Memory (Armed mode t byte)) ok pulse

  pub back_slots : (c : Chip) (mode : WriteMode) (t : Target) (ms : List Bool) → length ms ≡ 8 → Ready n (c at Memory (reading_back n mode t c.image))
      → Reaches n (c at Memory (reading_back n mode t c.image)) (slots ms) (lines ms (bits_of 8 (target_byte n c.image t))) (c at Memory (next_write n mode t))
  unfolding reading_back sent
  back_slots c mode t ms l ok =
      over_memory n whole c ms (byte_out n c.image (ReadBack mode t) (target_byte n c.image t) 0) (l ∙ sym (bits_length 8 (target_byte n c.image t))) ok

  pub back_read : (c : Chip) (mode : WriteMode) (t : Target) → Ready n (c at Memory (reading_back n mode t c.image))
      → Reaches n (c at Memory (reading_back n mode t c.image)) (reading 8) (bits_of 8 (target_byte n c.image t)) (c at Memory (next_write n mode t))
  back_read c mode t ok =
      rw (lines_read 8 (bits_of 8 (target_byte n c.image t)) (bits_length 8 (target_byte n c.image t))) at (back_slots c mode t (ones 8) refl ok)

  one_byte : (c : Chip) {mode : WriteMode} (t : Target) (crc : ℕ) (u : WriteCycle mode) → Ready n (c at Memory (receiving (DataByte mode t) crc))
      → Reaches n (c at Memory (receiving (DataByte mode t) crc)) (slots (bits_of 8 u.byte) ++ (slots u.crc ++ (pulse ∷ slots u.back)))
      (bits_of 8 u.byte ++ (lines u.crc (crc_lines mode crc (u.byte ∷ [])) ++ (true ∷ lines u.back (bits_of 8 (target_byte n (after c t u.byte) t)))))
      ((c at Memory (next_write n mode t)) holding after c t u.byte)
  one_byte c {mode} t crc u ok =
      let first = arms c mode t u.byte crc u.crc u.crc_bits_law u.small ok in
      let ok₁ = ready n whole ok first in
      let second = fires c mode t u.byte ok₁ in
      simp append_assoc at (first then second then back_slots (c holding after c t u.byte) mode t u.back u.back_bits (ready n whole ok₁ second))

  -- ---- one byte after the other

  pub next_target : (mode : WriteMode) (space : Space) (a : ℕ) → next_write n mode (target_at space a) ≡ raised n mode space a
  unfolding next_write target_at
  next_target mode Data a = refl
  next_target mode Status a = refl

  memory_cond : (t : Bool) (x y : MemoryStage) → Memory (cond t x y) ≡ cond t (Memory x) (Memory y)
  memory_cond true x y = refl
  memory_cond false x y = refl

  next_byte : (mode : WriteMode) (space : Space) (a : ℕ) → Memory (next_write n mode (target_at space a)) ≡ before_byte n mode space (a + 1)
  unfolding raised before_byte
  next_byte mode space a = ap Memory (next_target mode space a) ∙ memory_cond (ltb (a + 1) (limit_of n space)) _ _

  before_is : (mode : WriteMode) (space : Space) (a : ℕ) → a < limit_of n space → before_byte n mode space a ≡ Memory (receiving (DataByte mode (target_at space a)) a)
  unfolding before_byte
  before_is mode space a lt = simp (lt-ltb a (limit_of n space) lt)

  write_cycles : {mode : WriteMode} (c : Chip) (space : Space) (a crc : ℕ) (u : WriteCycle mode) (us : List (WriteCycle mode)) → a + suc (length us) ≤ limit_of n space
      → Ready n (c at Memory (receiving (DataByte mode (target_at space a)) crc))
      → let new = written_from n c.image space a (cycle_bytes (u ∷ us)) in
      Reaches n (c at Memory (receiving (DataByte mode (target_at space a)) crc)) (cycle_events (u ∷ us)) (cycle_lines (byte_of n new space) a crc (u ∷ us))
      ((c at before_byte n mode space (a + suc (length us))) holding new)
  unfolding cycle_events cycle_lines written_from
  write_cycles {mode} c space a crc u [] le ok =
      simp append-nil (rw (next_byte mode space a, ← (byte_is n (after c (target_at space a) u.byte) space a)) at (one_byte c (target_at space a) crc u ok))
  write_cycles {mode} c space a crc u (v ∷ us) le ok =
      let img = after c (target_at space a) u.byte in
      let first = rw (next_byte mode space a, before_is mode space (a + 1) (omega arith)) at (one_byte c (target_at space a) crc u ok) in
      let rest = write_cycles (c holding img) space (a + 1) (a + 1) v us (omega arith) (ready n whole ok first) in
      let last : a + 1 + suc (length us) ≡ a + suc (suc (length us)) = omega arith in
      rw (← (stays_read n space img a (cycle_bytes (v ∷ us)))) at first then rw last at rest

  -- the command and its address, which is one of the memory as the chip keeps it
  pub starts : (mode : WriteMode) (space : Space) (a : ℕ) (c : Chip) {ms ls : List Bool} → Ready n c → Selection c.state.number ms ls → a < 65536 → kept_address n a < limit_of n space
      → Reaches n c (reset ∷ slots (ms ++ bits_of_bytes (header (write_command mode space) a))) (false ∷ (ls ++ bits_of_bytes (header (write_command mode space) a)))
      (c at Memory (receiving (DataByte mode (target_at space (kept_address n a))) (crc16_of (header (write_command mode space) (kept_address n a)))))
  unfolding addressed start_write is_address
  starts mode space a c ok sel la lt =
      rw (lt-ltb (kept_address n a) (limit_of n space) lt) at
      (up_to_address n whole c (Write mode space) (write_command mode space) a ok sel (write_byte_lem n whole mode space) (write_begins n whole mode space) la)

  -- an address of the memory is kept as it is
  pub is_write : n ≤ 256 → (mode : WriteMode) (space : Space) (a : ℕ) (c : Chip) {ms ls : List Bool} → Ready n c → Selection c.state.number ms ls → a < limit_of n space
      → Reaches n c (reset ∷ slots (ms ++ bits_of_bytes (header (write_command mode space) a))) (false ∷ (ls ++ bits_of_bytes (header (write_command mode space) a)))
      (c at Memory (receiving (DataByte mode (target_at space a)) (crc16_of (header (write_command mode space) a))))
  is_write low mode space a c ok sel lt =
      let own = (address_laws n low).own space a lt in
      rw own at (starts mode space a c ok sel (omega (arith, limit_fits n space low)) (rw own lt))

  pub slots_arm : (c : Chip) {ms ls : List Bool} (mode : WriteMode) (space : Space) (a byte : ℕ) (crc : List Bool) → Ready n c → Selection c.state.number ms ls
      → a < 65536 → kept_address n a < limit_of n space → byte < 256 → length crc ≡ crc_slots mode
      → Reaches n c
      (reset ∷ (slots (ms ++ bits_of_bytes (header (write_command mode space) a)) ++ (slots (bits_of 8 byte) ++ slots crc)))
      (false ∷ ((ls ++ bits_of_bytes (header (write_command mode space) a)) ++ (bits_of 8 byte ++ lines crc (crc_lines mode (crc16_of (header (write_command mode space) (kept_address n a))) (byte ∷ [])))))
      (c at Memory (Armed mode (target_at space (kept_address n a)) byte))
  slots_arm c mode space a byte crc ok sel la lt small l =
      let first = starts mode space a c ok sel la lt in
      first then arms c mode (target_at space (kept_address n a)) byte (crc16_of (header (write_command mode space) (kept_address n a))) crc l small (ready n whole ok first)

  pub byte_arms : (c : Chip) {ms ls : List Bool} (mode : WriteMode) (space : Space) (a byte : ℕ) → Ready n c → Selection c.state.number ms ls
      → a < 65536 → kept_address n a < limit_of n space → byte < 256
      → Reaches n c
      (reset ∷ (slots (ms ++ bits_of_bytes (header (write_command mode space) a)) ++ (slots (bits_of 8 byte) ++ crc_events mode)))
      (false ∷ ((ls ++ bits_of_bytes (header (write_command mode space) a)) ++ (bits_of 8 byte ++ crc_lines mode (crc16_of (header (write_command mode space) (kept_address n a))) (byte ∷ []))))
      (c at Memory (Armed mode (target_at space (kept_address n a)) byte))
  byte_arms c Ordinary space a byte ok sel la lt small =
      rw (lines_read 16 (crc_lines Ordinary (crc16_of (header (write_command Ordinary space) (kept_address n a))) (byte ∷ [])) (bits_length 16 _)) at
      (slots_arm c Ordinary space a byte (ones 16) ok sel la lt small refl)
  byte_arms c Quick space a byte ok sel la lt small = slots_arm c Quick space a byte [] ok sel la lt small refl

  bits_short : (c : Chip) {ms ls : List Bool} (mode : WriteMode) (space : Space) (a : ℕ) (bits : List Bool) → Ready n c → Selection c.state.number ms ls
      → a < 65536 → kept_address n a < limit_of n space → length bits < 8
      → is_armed (run n c (reset ∷ (slots (ms ++ bits_of_bytes (header (write_command mode space) a)) ++ slots bits))).state.stage ≡ false
  unfolding receiving
  bits_short c {ms} mode space a bits ok sel la lt few =
      let first = starts mode space a c ok sel la lt in
      subst (λ (d : Chip). is_armed d.state.stage ≡ false)
      (sym (run_append n c (reset ∷ slots (ms ++ bits_of_bytes (header (write_command mode space) a))) (slots bits) ∙ ap (λ d. run n d (slots bits)) first.there))
      (bits_unarmed n whole c (DataByte mode (target_at space (kept_address n a))) (crc16_of (header (write_command mode space) (kept_address n a))) bits 0 0 (omega arith) (ready n whole ok first))

  pub cycles_written : (c : Chip) {ms ls : List Bool} (mode : WriteMode) (space : Space) (a : ℕ) (cycles : List (WriteCycle mode)) → Ready n c → Selection c.state.number ms ls
      → a < 65536 → let k = kept_address n a in let new = written_from n c.image space k (cycle_bytes cycles) in
      k + length cycles ≤ limit_of n space → 0 < length cycles
      → Reaches n c
      (reset ∷ (slots (ms ++ bits_of_bytes (header (write_command mode space) a)) ++ cycle_events cycles))
      (false ∷ ((ls ++ bits_of_bytes (header (write_command mode space) a)) ++ cycle_lines (byte_of n new space) k (crc16_of (header (write_command mode space) k)) cycles))
      ((c at before_byte n mode space (k + length cycles)) holding new)
  cycles_written c mode space a [] ok sel la le some = absurd (omega arith)
  cycles_written c mode space a (u ∷ us) ok sel la le some =
      let first = starts mode space a c ok sel la (omega arith) in
      first then write_cycles c space (kept_address n a) (crc16_of (header (write_command mode space) (kept_address n a))) u us le (ready n whole ok first)

  -- ---- with read slots

  abbrev crc_ones : WriteMode → List Bool
  crc_ones Ordinary = ones 16
  crc_ones Quick = []

  crc_ones_lem : (mode : WriteMode) → length (crc_ones mode) ≡ crc_slots mode
  crc_ones_lem Ordinary = refl
  crc_ones_lem Quick = refl

  read_cycles : (mode : WriteMode) (bytes : List ℕ) → ((i : ℕ) → i < length bytes → get_or bytes i 0 < 256) → List (WriteCycle mode)
  read_cycles mode [] small = []
  read_cycles mode (b ∷ bs) small =
      record { byte = b; crc = crc_ones mode; back = ones 8; small = small 0 (omega arith); crc_bits_law = crc_ones_lem mode; back_bits = refl }
      ∷ read_cycles mode bs (λ i lt. small (suc i) (omega arith))

  read_bytes_lem : (mode : WriteMode) (bytes : List ℕ) (small : (i : ℕ) → i < length bytes → get_or bytes i 0 < 256) → cycle_bytes (read_cycles mode bytes small) ≡ bytes
  unfolding read_cycles
  read_bytes_lem mode [] small = refl
  read_bytes_lem mode (b ∷ bs) small = ap (λ l. b ∷ l) (read_bytes_lem mode bs (λ i lt. small (suc i) (omega arith)))

  read_length : (mode : WriteMode) (bytes : List ℕ) (small : (i : ℕ) → i < length bytes → get_or bytes i 0 < 256) → length (read_cycles mode bytes small) ≡ length bytes
  unfolding read_cycles
  read_length mode [] small = refl
  read_length mode (b ∷ bs) small = ap suc (read_length mode bs (λ i lt. small (suc i) (omega arith)))

  read_crc_lem : (mode : WriteMode) → slots (crc_ones mode) ≡ crc_events mode
  read_crc_lem Ordinary = refl
  read_crc_lem Quick = refl

  read_crc_lines : (mode : WriteMode) (register : ℕ) (bytes : List ℕ) → lines (crc_ones mode) (crc_lines mode register bytes) ≡ crc_lines mode register bytes
  read_crc_lines Ordinary register bytes = lines_read 16 (crc_lines Ordinary register bytes) (bits_length 16 _)
  read_crc_lines Quick register bytes = refl

  read_events : (mode : WriteMode) (bytes : List ℕ) (small : (i : ℕ) → i < length bytes → get_or bytes i 0 < 256) → cycle_events (read_cycles mode bytes small) ≡ byte_write_events mode bytes
  unfolding read_cycles cycle_events byte_write_events
  read_events mode [] small = refl
  read_events mode (b ∷ bs) small =
      ap₂ (λ (x y : List Event). (slots (bits_of 8 b) ++ (x ++ (pulse ∷ reading 8))) ++ y) (read_crc_lem mode) (read_events mode bs (λ i lt. small (suc i) (omega arith)))

  read_lines : (mode : WriteMode) (space : Space) (bytes : List ℕ) (small : (i : ℕ) → i < length bytes → get_or bytes i 0 < 256) (img : List ℕ) (a register : ℕ)
      → cycle_lines (byte_of n (written_from n img space a bytes) space) a register (read_cycles mode bytes small) ≡ write_lines n img mode space a register bytes
  unfolding read_cycles cycle_lines write_lines written_from
  read_lines mode space [] small img a register = refl
  read_lines mode space (b ∷ bs) small img a register =
      let new = programmed n img (target_at space a) b in
      let last = bits_of 8 (target_byte n new (target_at space a)) in
      let rest = read_lines mode space bs (λ i lt. small (suc i) (omega arith)) new (a + 1) (a + 1) in
      rw (stays_read n space new a bs, read_crc_lines mode register (b ∷ []), lines_read 8 last (bits_length 8 _), rest)

  writes : (c : Chip) {ms ls : List Bool} (mode : WriteMode) (space : Space) (a : ℕ) (bytes : List ℕ) → Ready n c → Selection c.state.number ms ls
      → a < 65536 → let k = kept_address n a in
      k + length bytes ≤ limit_of n space → ((i : ℕ) → i < length bytes → get_or bytes i 0 < 256) → 0 < length bytes
      → Reaches n c
      (reset ∷ (slots (ms ++ bits_of_bytes (header (write_command mode space) a)) ++ byte_write_events mode bytes))
      (false ∷ ((ls ++ bits_of_bytes (header (write_command mode space) a)) ++ write_lines n c.image mode space k (crc16_of (header (write_command mode space) k)) bytes))
      ((c at before_byte n mode space (k + length bytes)) holding written_from n c.image space k bytes)
  writes c mode space a bytes ok sel la le small some =
      let k = kept_address n a in
      let same = read_length mode bytes small in
      rw (read_events mode bytes small, read_bytes_lem mode bytes small, read_lines mode space bytes small c.image k (crc16_of (header (write_command mode space) k)), same) at
      (cycles_written c mode space a (read_cycles mode bytes small) ok sel la (rw same le) (rw same some))

pub write_sessions : (n : ℕ) → n % 8 ≡ 0 → WriteLaws n
write_sessions n whole = record { write = writes n whole; any_bits = cycles_written n whole; arms = byte_arms n whole; unarmed = bits_short n whole }
