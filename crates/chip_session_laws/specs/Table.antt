-- Document 01's table of the chip's memory, in plain numbers over the page count n: which byte a write changes and which bit of the image
-- guards it, what a pulse does, what is read, and the gaps. An image is 32 * n bytes of data and then the status bytes from address 000h on.
-- The rows are stated without the definitions of layout, protection and write on which the chip's own definition rests.
use Rattle.std.specs.Prelude.{ℕ, ◌+◌, ◌*◌, ◌/◌, ◌%◌, ◌^◌, ◌<◌, ◌≤◌, ◌≡◌, ◌⊎◌, List, length, get_or}
use Rattle.std.specs.Int.Bits.{bit_and}
use Rattle.base_types.specs.declared.address.Space.{Space}
use Rattle.base_types.specs.declared.address.Space.TheVariants.{Data, Status}
use Rattle.base_types.specs.declared.address.Target.TheVariants.{Data as DataTarget, Status as StatusTarget}
use Rattle.base_types.specs.declared.write_mode.WriteMode.{WriteMode}
use Rattle.bus_events.specs.declared.Event.{Event}
use Rattle.bus_events.specs.Events.{pulse}
use Rattle.chip_memory.specs.Image.{data_byte, status_byte, target_byte, redirection_of}
use Rattle.chip_stage.specs.declared.stage.MemoryStage.TheVariants.{Armed}
use Rattle.chip_entries.specs.declared.event.Stage.TheVariants.{Memory}
use Rattle.chip_entries.specs.declared.event.State.{State}
use Rattle.chip_entries.specs.Run.{Chip, next, run, answers}
use Rattle.chip_session_laws.specs.Session.{◌at◌}

-- ---- addresses, bytes and bits of an image

-- the addresses of a memory end before this one
abbrev pub address_end : ℕ → Space → ℕ
address_end n Data = 32 * n
address_end n Status = 0x100 + n

-- where the byte of an address stands in the image
abbrev pub place_of : ℕ → Space → ℕ → ℕ
place_of n Data a = a
place_of n Status a = 32 * n + a

-- bit k of the byte at place i
abbrev pub bit : List ℕ → ℕ → ℕ → ℕ
bit img i k = get_or img i 0 / 2 ^ k % 2

-- ---- the rows

-- the status address a is in no row of the table: 008h-01Fh, 028h-03Fh and 048h-0FFh for 64 pages
pub data Gap (n : ℕ) : ℕ → Type 0 where
  after_data : {a : ℕ} → n / 8 ≤ a → a < 0x020 → Gap n a
  after_redirection_law : {a : ℕ} → 0x020 + n / 8 ≤ a → a < 0x040 → Gap n a
  after_used : {a : ℕ} → 0x040 + n / 8 ≤ a → a < 0x100 → Gap n a

-- The bytes that a write changes: the data of page a / 32 and the redirection byte of page p where their bit is 1, and the three fields of
-- bits. The bit of page p in a field is bit p modulo 8 of byte p divided by 8.
pub data Writable (n : ℕ) (img : List ℕ) : Space → ℕ → Type 0 where
  data_open : {a : ℕ} → bit img (32 * n + (0x000 + a / 32 / 8)) (a / 32 % 8) ≡ 1 → Writable n img Data a
  redirection_open : {a : ℕ} (p : ℕ) → p < n → a ≡ 0x100 + p → bit img (32 * n + (0x020 + p / 8)) (p % 8) ≡ 1 → Writable n img Status a
  data_field : {a : ℕ} → a < n / 8 → Writable n img Status a
  redirection_field : {a : ℕ} → 0x020 ≤ a → a < 0x020 + n / 8 → Writable n img Status a
  used_field : {a : ℕ} → 0x040 ≤ a → a < 0x040 + n / 8 → Writable n img Status a

-- The bytes that it leaves: the protected ones, and the gaps.
pub data Unwritable (n : ℕ) (img : List ℕ) : Space → ℕ → Type 0 where
  data_closed : {a : ℕ} → bit img (32 * n + (0x000 + a / 32 / 8)) (a / 32 % 8) ≡ 0 → Unwritable n img Data a
  redirection_closed : {a : ℕ} (p : ℕ) → p < n → a ≡ 0x100 + p → bit img (32 * n + (0x020 + p / 8)) (p % 8) ≡ 0 → Unwritable n img Status a
  in_gap : {a : ℕ} → Gap n a → Unwritable n img Status a

-- ---- what a pulse does

-- the byte at place i is the old one AND the byte sent, every other one is the old one, and there are as many
pub record Anded (old new : List ℕ) (i byte : ℕ) : Type 0 where
  pub there : get_or new i 0 ≡ bit_and (get_or old i 0) byte
  pub elsewhere : (j : ℕ) → (j ≡ i → ⊥) → get_or new j 0 ≡ get_or old j 0
  pub as_long : length new ≡ length old

-- with a byte for an address
pub record Rule (n : ℕ) (space : Space) (old new : List ℕ) (a byte : ℕ) : Type 0 where
  pub written : Writable n old space a → Anded old new (place_of n space a) byte
  pub left : Unwritable n old space a → new ≡ old

abbrev pub armed_with : Chip → WriteMode → Space → ℕ → ℕ → Chip
armed_with c mode Data a byte = c at Memory (Armed mode (DataTarget (record { 0 = a })) byte)
armed_with c mode Status a byte = c at Memory (Armed mode (StatusTarget (record { 0 = a })) byte)

pub record PulseLaws (n : ℕ) : Type 0 where
  -- every address is in a row
  pub every : (img : List ℕ) (space : Space) (a : ℕ) → a < address_end n space → Writable n img space a ⊎ Unwritable n img space a
  -- a pulse on an armed chip, of whatever number, goes by the rows
  pub pulse : (c : Chip) (mode : WriteMode) (space : Space) (a byte : ℕ) → length c.image ≡ 32 * n + (0x100 + n) → a < address_end n space
      → Rule n space c.image (next n (armed_with c mode space a byte) pulse).image a byte

-- ---- what is read

-- the bytes of which the laws of the commands that read and of those that write speak, by their places; a gap reads FFh
pub record ByteLaws (n : ℕ) : Type 0 where
  pub memory : (img : List ℕ) (a : ℕ) → a < 32 * n → data_byte n img a ≡ get_or img a 0
  pub status : (img : List ℕ) (a : ℕ) → a < 0x100 + n → (Gap n a → ⊥) → status_byte n img a ≡ get_or img (32 * n + a) 0
  pub gap : (img : List ℕ) (a : ℕ) → Gap n a → status_byte n img a ≡ 0xFF
  pub redirection : (img : List ℕ) (p : ℕ) → redirection_of n img p ≡ get_or img (32 * n + (0x100 + p)) 0
  -- what is read back of a write is the byte of the address that it went to
  pub target_data : (img : List ℕ) (a : ℕ) → target_byte n img (DataTarget (record { 0 = a })) ≡ data_byte n img a
  pub target_status : (img : List ℕ) (a : ℕ) → target_byte n img (StatusTarget (record { 0 = a })) ≡ status_byte n img a

-- ---- the gaps are neither read nor altered

-- two images that agree at every place that is not a gap's
abbrev pub Alike : ℕ → List ℕ → List ℕ → Type 0
Alike n x y = (i : ℕ) → ((a : ℕ) → Gap n a → i ≡ 32 * n + a → ⊥) → get_or x i 0 ≡ get_or y i 0

infixl 25 ◌over◌
abbrev pub ◌over◌ : State → List ℕ → Chip
s over img = record { state = s; image = img }

pub record GapLaws (n : ℕ) : Type 0 where
  -- from any state, the same events draw the same from two such images, and leave the same state and two such images
  pub told : (s : State) (x y : List ℕ) → length x ≡ length y → Alike n x y → (es : List Event) → answers n (s over x) es ≡ answers n (s over y) es
  pub state : (s : State) (x y : List ℕ) → length x ≡ length y → Alike n x y → (es : List Event) → (run n (s over x) es).state ≡ (run n (s over y) es).state
  pub image : (s : State) (x y : List ℕ) → length x ≡ length y → Alike n x y → (es : List Event) → Alike n (run n (s over x) es).image (run n (s over y) es).image
  -- whatever the state and the image
  pub kept : (c : Chip) (es : List Event) (a : ℕ) → Gap n a → get_or (run n c es).image (32 * n + a) 0 ≡ get_or c.image (32 * n + a) 0

-- ---- the DS2505's own numbers: 2,048 bytes of data, status addresses 000h to 13Fh

pub record Ds2505Rows (img : List ℕ) : Type 0 where
  pub page_data : (a : ℕ) → bit img (2048 + a / 32 / 8) (a / 32 % 8) ≡ 1 → Writable 64 img Data a
  pub page_protected : (a : ℕ) → bit img (2048 + a / 32 / 8) (a / 32 % 8) ≡ 0 → Unwritable 64 img Data a
  pub redirection : (p : ℕ) → p ≤ 63 → bit img (2048 + (0x020 + p / 8)) (p % 8) ≡ 1 → Writable 64 img Status (0x100 + p)
  pub redirection_protected : (p : ℕ) → p ≤ 63 → bit img (2048 + (0x020 + p / 8)) (p % 8) ≡ 0 → Unwritable 64 img Status (0x100 + p)
  pub data_bits_law : (a : ℕ) → a ≤ 0x007 → Writable 64 img Status a
  pub redirection_bits : (a : ℕ) → 0x020 ≤ a → a ≤ 0x027 → Writable 64 img Status a
  pub used_bits : (a : ℕ) → 0x040 ≤ a → a ≤ 0x047 → Writable 64 img Status a
  pub first_gap : (a : ℕ) → 0x008 ≤ a → a ≤ 0x01F → Gap 64 a
  pub second_gap : (a : ℕ) → 0x028 ≤ a → a ≤ 0x03F → Gap 64 a
  pub third_gap : (a : ℕ) → 0x048 ≤ a → a ≤ 0x0FF → Gap 64 a
