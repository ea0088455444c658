-- What the chip does over whole sessions, in the data sheet's terms, over the page count n.
use Rattle.std.specs.Prelude.{ℕ, ◌+◌, ◌-◌, ◌*◌, ◌/◌, ◌%◌, ◌^◌, ◌<◌, ◌≤◌, ◌≡◌, Bool, true, false, not, cond, ◌&&◌, List, [], ◌∷◌, ◌++◌, map, length, get_or, eqb}
use Rattle.base_types.specs.Bits.{bits_of, bits_of_bytes}
use Rattle.base_types.specs.Outcome.{accepted}
use Rattle.base_types.specs.declared.address.Space.{Space}
use Rattle.base_types.specs.declared.address.Space.TheVariants.{Data, Status}
use Rattle.base_types.specs.declared.address.Target.{Target}
use Rattle.base_types.specs.declared.write_mode.WriteMode.{WriteMode}
use Rattle.base_types.specs.declared.write_mode.WriteMode.TheVariants.{Ordinary}
use Rattle.base_types.specs.WriteMode.{write_command}
use Rattle.base_types.specs.Scan.{values_from}
use Rattle.bus_events.specs.declared.Event.{Event}
use Rattle.bus_events.specs.declared.Event.TheVariants.{Reset, Slot, Pulse, PowerLoss}
use Rattle.bus_events.specs.Slots.{slots, ones, reading, lines, crc_events}
use Rattle.bus_events.specs.Events.{reset, slot, pulse, power_loss}
use Rattle.base_crc.specs.Crc.{crc16_of}
use Rattle.chip_memory.specs.Layout.{image_size}
use Rattle.chip_memory.specs.Image.{data_byte, status_byte, redirection_of}
use Rattle.chip_memory.specs.Write.{programmed}
use Rattle.chip_stage.specs.declared.stage.MemoryStage.TheVariants.{Silent, Receive, Send, Armed}
use Rattle.chip_stage.specs.Limits.{limit_of, is_address, address_bits, kept_address, target_at}
use Rattle.chip_rom.specs.Rom.{number_bit}
use Rattle.chip_rom_laws.specs.Rom.{Ask, number_bits, search_bits, search_sent}
use Rattle.chip_function_laws.specs.Streams.{crc_of, header, memory_stream, status_stream, extended_stream}
use Rattle.chip_function_laws.specs.Writes.{written_from}
use Rattle.chip_entries.specs.declared.event.Stage.{Stage}
use Rattle.chip_entries.specs.declared.event.Stage.TheVariants.{Rom, Memory}
use Rattle.chip_entries.specs.Event.{silent, awaiting_memory, power_up}
use Rattle.chip_entries.specs.Run.{Chip, next, run, answers}
use Rattle.chip_session_laws.specs.Session.{Ready, ◌at◌, ◌holding◌, Reaches, Selection, then_ones, crc_lines, byte_write_events, write_lines, WriteCycle}
use Rattle.chip_session_laws.specs.Session.{cycle_events, cycle_bytes, cycle_lines, byte_of, before_byte}

-- ---- states and images

abbrev pub is_armed : Stage → Bool
is_armed (Rom r) = false
is_armed (Memory Silent) = false
is_armed (Memory (Receive i k register crc)) = false
is_armed (Memory (Send o left v crc)) = false
is_armed (Memory (Armed mode t byte)) = true

abbrev pub is_pulse : Event → Bool
is_pulse Reset = false
is_pulse (Slot bit) = false
is_pulse Pulse = true
is_pulse PowerLoss = false

-- what a silent chip draws: the master's bit in a slot
abbrev pub silent_reply : Event → Bool
silent_reply Reset = false
silent_reply (Slot bit) = bit
silent_reply Pulse = true
silent_reply PowerLoss = true

abbrev pub is_reset : Event → Bool
is_reset Reset = true
is_reset (Slot bit) = false
is_reset Pulse = false
is_reset PowerLoss = false

pub record StateLaws (n : ℕ) : Type 0 where
  -- a chip at power-up, with an image of the right length and a number of eight bytes, is within its ranges; an event keeps it there
  pub power_up_law : (number img : List ℕ) → length img ≡ image_size n → length number ≡ 8 → Ready n (record { state = power_up number; image = img })
  pub keeps : (c : Chip) (e : Event) → Ready n c → Ready n (next n c e)
  -- a pulse on a chip that is not armed draws 1 and changes neither state nor image
  pub idle_pulse : (c : Chip) → Ready n c → is_armed c.state.stage ≡ false → Reaches n c (pulse ∷ []) (true ∷ []) c
  -- no event but a pulse on an armed chip changes the image, and none the number, whatever the state and the image
  pub image_kept : (c : Chip) (e : Event) → (is_pulse e && is_armed c.state.stage) ≡ false → (next n c e).image ≡ c.image
  pub number_kept : (c : Chip) (e : Event) → (next n c e).state.number ≡ c.state.number
  -- a pulse on an armed chip ANDs the byte into the target, unless that is protected or a gap
  pub armed_pulse : (c : Chip) (mode : WriteMode) (t : Target) (byte : ℕ) → c.state.stage ≡ Memory (Armed mode t byte) → Ready n c
      → (next n c pulse).image ≡ programmed n c.image t byte
  -- a slot when armed silences the chip
  pub armed_slot : (c : Chip) (mode : WriteMode) (t : Target) (byte : ℕ) (bit : Bool) → Ready n (c at Memory (Armed mode t byte))
      → Reaches n (c at Memory (Armed mode t byte)) (slot bit ∷ []) (bit ∷ []) (c at silent)
  -- a silent chip stays so until reset, replying with the master's bit
  pub silent_stays : (c : Chip) (e : Event) → Ready n (c at silent) → is_reset e ≡ false → Reaches n (c at silent) (e ∷ []) (silent_reply e ∷ []) (c at silent)
  -- power loss keeps the image and makes the chip silent
  pub power_loss_law : (c : Chip) → Ready n c → Reaches n c (power_loss ∷ []) (true ∷ []) (c at silent)

-- ---- ROM commands

pub record RomSessionLaws (n : ℕ) : Type 0 where
  -- reset is answered by presence, and each ROM command that succeeds opens the memory commands
  pub selects : (c : Chip) {ms ls : List Bool} → Ready n c → Selection c.state.number ms ls → Reaches n c (reset ∷ slots ms) (false ∷ ls) (c at awaiting_memory)
  -- Match is silent from its first wrong bit, bit k, on
  pub mismatched : (c : Chip) (k : ℕ) → Ready n c → k < 64
      → let number = c.state.number in
      let ms = bits_of 8 0x55 ++ (number_bits number 0 k ++ (not (number_bit number k) ∷ [])) in
      Reaches n c (reset ∷ slots ms) (false ∷ ms) (c at silent)
  -- Search is silent from the first disagreement, at bit k, on
  pub lost : (c : Chip) (k : ℕ) (asks : List Ask) (a : Ask) → Ready n c → k < 64 → length asks ≡ k
      → let number = c.state.number in
      let ms = search_bits number 0 asks ++ (a.first ∷ a.second ∷ not (number_bit number k) ∷ []) in
      Reaches n c (reset ∷ slots (bits_of 8 0xF0 ++ ms)) (false ∷ (bits_of 8 0xF0 ++ lines ms (search_sent number 0 (k + 1)))) (c at silent)
  -- any other ROM byte silences the chip
  pub unknown : (c : Chip) (byte : ℕ) → Ready n c → byte < 256 → (eqb byte 0x33 ≡ false) → (eqb byte 0x55 ≡ false) → (eqb byte 0xF0 ≡ false) → (eqb byte 0xCC ≡ false)
      → Reaches n c (reset ∷ slots (bits_of 8 byte)) (false ∷ bits_of 8 byte) (c at silent)

-- ---- memory commands, after a reset and a ROM command that succeeds

-- what a command that reads draws with any further master bits rs: its stream and then ones for ever
abbrev pub Draws : ℕ → Chip → List Bool → List Bool → List ℕ → List Bool → Type 0
Draws n c ms ls sent stream = (rs : List Bool)
    → answers n c (reset ∷ slots (ms ++ (bits_of_bytes sent ++ rs))) ≡ map accepted (false ∷ (ls ++ (bits_of_bytes sent ++ lines rs (then_ones stream (length rs)))))

-- what is sent from a start address: a stream from the address as the chip keeps it, or nothing where the memory does not have that
abbrev pub starting_at : ℕ → Space → ℕ → (ℕ → List Bool) → List Bool
starting_at n space a stream = cond (is_address n space (kept_address n a)) (stream (kept_address n a)) []

-- for every start address of sixteen bits
pub record ReadSessionLaws (n : ℕ) : Type 0 where
  pub memory : (c : Chip) {ms ls : List Bool} (a : ℕ) → Ready n c → Selection c.state.number ms ls → a < 65536
      → Draws n c ms ls (header 0xF0 a) (starting_at n Data a (memory_stream n c.image))
  pub status : (c : Chip) {ms ls : List Bool} (a : ℕ) → Ready n c → Selection c.state.number ms ls → a < 65536
      → Draws n c ms ls (header 0xAA a) (starting_at n Status a (status_stream n c.image))
  pub extended : (c : Chip) {ms ls : List Bool} (a : ℕ) → Ready n c → Selection c.state.number ms ls → a < 65536
      → Draws n c ms ls (header 0xA5 a) (starting_at n Data a (extended_stream n c.image))

-- in both modes
pub record WriteLaws (n : ℕ) : Type 0 where
  -- bytes from a start address of sixteen bits on, of either memory: they go to the address as kept, over which the first CRC is too
  pub write : (c : Chip) {ms ls : List Bool} (mode : WriteMode) (space : Space) (a : ℕ) (bytes : List ℕ) → Ready n c → Selection c.state.number ms ls
      → a < 65536 → let k = kept_address n a in
      k + length bytes ≤ limit_of n space → ((i : ℕ) → i < length bytes → get_or bytes i 0 < 256) → 0 < length bytes
      → Reaches n c
      (reset ∷ (slots (ms ++ bits_of_bytes (header (write_command mode space) a)) ++ byte_write_events mode bytes))
      (false ∷ ((ls ++ bits_of_bytes (header (write_command mode space) a)) ++ write_lines n c.image mode space k (crc16_of (header (write_command mode space) k)) bytes))
      ((c at before_byte n mode space (k + length bytes)) holding written_from n c.image space k bytes)
  -- the same with any master's bits in the slots in which the chip sends; what is read back stands in the image afterwards, as no address is written twice
  pub any_bits : (c : Chip) {ms ls : List Bool} (mode : WriteMode) (space : Space) (a : ℕ) (cycles : List (WriteCycle mode)) → Ready n c → Selection c.state.number ms ls
      → a < 65536 → let k = kept_address n a in let new = written_from n c.image space k (cycle_bytes cycles) in
      k + length cycles ≤ limit_of n space → 0 < length cycles
      → Reaches n c
      (reset ∷ (slots (ms ++ bits_of_bytes (header (write_command mode space) a)) ++ cycle_events cycles))
      (false ∷ ((ls ++ bits_of_bytes (header (write_command mode space) a)) ++ cycle_lines (byte_of n new space) k (crc16_of (header (write_command mode space) k)) cycles))
      ((c at before_byte n mode space (k + length cycles)) holding new)
  -- the chip is armed after the eighth bit of a byte and, in the ordinary mode, the last bit of its CRC ..
  pub arms : (c : Chip) {ms ls : List Bool} (mode : WriteMode) (space : Space) (a byte : ℕ) → Ready n c → Selection c.state.number ms ls
      → a < 65536 → kept_address n a < limit_of n space → byte < 256
      → Reaches n c
      (reset ∷ (slots (ms ++ bits_of_bytes (header (write_command mode space) a)) ++ (slots (bits_of 8 byte) ++ crc_events mode)))
      (false ∷ ((ls ++ bits_of_bytes (header (write_command mode space) a)) ++ (bits_of 8 byte ++ crc_lines mode (crc16_of (header (write_command mode space) (kept_address n a))) (byte ∷ []))))
      (c at Memory (Armed mode (target_at space (kept_address n a)) byte))
  -- .. and not after fewer than eight bits, whatever they are
  pub unarmed : (c : Chip) {ms ls : List Bool} (mode : WriteMode) (space : Space) (a : ℕ) (bits : List Bool) → Ready n c → Selection c.state.number ms ls
      → a < 65536 → kept_address n a < limit_of n space → length bits < 8
      → is_armed (run n c (reset ∷ (slots (ms ++ bits_of_bytes (header (write_command mode space) a)) ++ slots bits))).state.stage ≡ false

-- ---- what silences the chip

-- a command with its address silences the chip as the last bit arrives
abbrev pub Silenced : ℕ → Chip → List Bool → List Bool → ℕ → ℕ → Type 0
Silenced n c ms ls command a =
    Reaches n c (reset ∷ slots (ms ++ bits_of_bytes (header command a))) (false ∷ (ls ++ bits_of_bytes (header command a))) (c at silent)

pub record SilenceLaws (n : ℕ) : Type 0 where
  -- a memory command byte that is none of the seven
  pub unknown : (c : Chip) {ms ls : List Bool} (byte : ℕ) → Ready n c → Selection c.state.number ms ls → byte < 256
      → (eqb byte 0xF0 ≡ false) → (eqb byte 0xAA ≡ false) → (eqb byte 0xA5 ≡ false)
      → (eqb byte 0x0F ≡ false) → (eqb byte 0x55 ≡ false) → (eqb byte 0xF3 ≡ false) → (eqb byte 0xF5 ≡ false)
      → Reaches n c (reset ∷ slots (ms ++ bits_of 8 byte)) (false ∷ (ls ++ bits_of 8 byte)) (c at silent)
  -- a start address of sixteen bits that, as kept, the memory does not have
  pub too_high : (c : Chip) {ms ls : List Bool} (a : ℕ) → Ready n c → Selection c.state.number ms ls → a < 65536
      → (limit_of n Data ≤ kept_address n a → Silenced n c ms ls 0xF0 a × Silenced n c ms ls 0xA5 a)
      × (limit_of n Status ≤ kept_address n a → Silenced n c ms ls 0xAA a)
      × ((mode : WriteMode) (space : Space) → limit_of n space ≤ kept_address n a → Silenced n c ms ls (write_command mode space) a)

-- ---- what a master sees of a start address

-- A master sent a command with its address, and then read these bytes and sixteen bits more, which are the CRC of all that it sent and read.
abbrev pub HeardWithCrc : ℕ → Chip → List Bool → List Bool → ℕ → ℕ → List ℕ → Type 0
HeardWithCrc n c ms ls command a bytes =
    answers n c (reset ∷ slots (ms ++ (bits_of_bytes (header command a) ++ ones (8 * length bytes + 16))))
    ≡ map accepted (false ∷ (ls ++ (bits_of_bytes (header command a) ++ (bits_of_bytes bytes ++ crc_of (header command a ++ bytes)))))

-- The same of the first byte of a write in the ordinary mode, which the master sent. In the quick mode no CRC is sent.
abbrev pub WriteFits : ℕ → Chip → List Bool → List Bool → Space → ℕ → ℕ → Type 0
WriteFits n c ms ls space a byte =
    let sent = bits_of_bytes (header (write_command Ordinary space) a) in
    answers n c (reset ∷ (slots (ms ++ sent) ++ (slots (bits_of 8 byte) ++ reading 16)))
    ≡ map accepted (false ∷ ((ls ++ sent) ++ (bits_of 8 byte ++ crc_of (header (write_command Ordinary space) a ++ (byte ∷ [])))))

-- Where the chip sends a CRC, and the master has read all that stands before it, a CRC that fits says that no bit of the address was dropped;
-- and where none was, the CRC fits. (Where the status memory does not have the kept address, the chip is silent and sends none.)
pub record NoticeLaws (n : ℕ) : Type 0 where
  pub memory : (c : Chip) {ms ls : List Bool} (a : ℕ) (bytes : List ℕ) → Ready n c → Selection c.state.number ms ls → a < 65536
      → kept_address n a < limit_of n Data → length bytes ≡ limit_of n Data - kept_address n a → HeardWithCrc n c ms ls 0xF0 a bytes → a < 2 ^ address_bits n
  pub status : (c : Chip) {ms ls : List Bool} (a : ℕ) (bytes : List ℕ) → Ready n c → Selection c.state.number ms ls → a < 65536
      → kept_address n a < limit_of n Status → length bytes ≡ 8 - kept_address n a % 8 → HeardWithCrc n c ms ls 0xAA a bytes → a < 2 ^ address_bits n
  pub extended : (c : Chip) {ms ls : List Bool} (a byte : ℕ) → Ready n c → Selection c.state.number ms ls → a < 65536
      → kept_address n a < limit_of n Data → HeardWithCrc n c ms ls 0xA5 a (byte ∷ []) → a < 2 ^ address_bits n
  pub write : (c : Chip) {ms ls : List Bool} (space : Space) (a byte : ℕ) → Ready n c → Selection c.state.number ms ls → a < 65536
      → kept_address n a < limit_of n space → byte < 256 → WriteFits n c ms ls space a byte → a < 2 ^ address_bits n
  pub memory_fits : (c : Chip) {ms ls : List Bool} (a : ℕ) → Ready n c → Selection c.state.number ms ls → a < limit_of n Data
      → HeardWithCrc n c ms ls 0xF0 a (values_from (data_byte n c.image) a (limit_of n Data - a))
  pub status_fits : (c : Chip) {ms ls : List Bool} (a : ℕ) → Ready n c → Selection c.state.number ms ls → a < limit_of n Status
      → HeardWithCrc n c ms ls 0xAA a (values_from (status_byte n c.image) a (8 - a % 8))
  pub extended_fits : (c : Chip) {ms ls : List Bool} (a : ℕ) → Ready n c → Selection c.state.number ms ls → a < limit_of n Data
      → HeardWithCrc n c ms ls 0xA5 a (redirection_of n c.image (a / 32) ∷ [])
  pub write_fits : (c : Chip) {ms ls : List Bool} (space : Space) (a byte : ℕ) → Ready n c → Selection c.state.number ms ls → a < limit_of n space → byte < 256
      → WriteFits n c ms ls space a byte

-- ---- the DS2505's own numbers

-- Start addresses keep their low eleven bits. From a data address the chip always sends; from a status address where that is at most 13Fh.
pub record Ds2505Starts : Type 0 where
  pub kept : (a : ℕ) → kept_address 64 a ≡ a % 0x800
  pub memory : (c : Chip) {ms ls : List Bool} (a : ℕ) → Ready 64 c → Selection c.state.number ms ls → a < 65536
      → Draws 64 c ms ls (header 0xF0 a) (memory_stream 64 c.image (a % 0x800))
  pub extended : (c : Chip) {ms ls : List Bool} (a : ℕ) → Ready 64 c → Selection c.state.number ms ls → a < 65536
      → Draws 64 c ms ls (header 0xA5 a) (extended_stream 64 c.image (a % 0x800))
  pub status : (c : Chip) {ms ls : List Bool} (a : ℕ) → Ready 64 c → Selection c.state.number ms ls → a < 65536 → a % 0x800 < 0x140
      → Draws 64 c ms ls (header 0xAA a) (status_stream 64 c.image (a % 0x800))
  pub silent_status : (c : Chip) {ms ls : List Bool} (a : ℕ) → Ready 64 c → Selection c.state.number ms ls → a < 65536 → 0x140 ≤ a % 0x800
      → Draws 64 c ms ls (header 0xAA a) []
