-- What an update does on the bus, in document 01's words, by the kind of the update.
use Rattle.std.specs.Prelude.{ℕ, ◌+◌, List, [], ◌∷◌, ◌++◌, Ok, Err}
use Rattle.std.specs.Int.Bits.{bit_and}
use Rattle.base_types.specs.Refusal.{number_of, values_of}
use Rattle.base_types.specs.declared.address.Target.{Target}
use Rattle.base_types.specs.declared.address.Target.TheVariants.{Data, Status}
use Rattle.base_types.specs.declared.write_mode.WriteMode.{WriteMode}
use Rattle.base_types.specs.declared.write_mode.WriteMode.TheVariants.{Ordinary, Quick}
use Rattle.base_crc.specs.Crc.{crc16_of, crc16_loaded, crc16_word}
use Rattle.bus_events.specs.Events.{pulse}
use Rattle.bus_scripts.specs.Script.{Script, stops, gives, ◌>>◌, reset, send_event, send_bytes, read_crc, read_back}
use Rattle.master_plan.specs.declared.kind.UpdateKind.{UpdateKind}
use Rattle.master_plan.specs.Kind.{selecting}
use Rattle.master_plan.specs.Places.{bitmap_address, clearing, page_address, redirection_address, naming, address_of, head_of}
use Rattle.master_publisher.specs.Stop.{publisher_refusal}
use Rattle.master_publisher.specs.Start.{Choice, bitmap_byte}

-- a CRC is read and checked in the ordinary mode only
abbrev pub check_crc : WriteMode → ℕ → Script → Script
check_crc Ordinary crc on = read_crc crc on
check_crc Quick crc on = on

-- a byte over an old one; register is that of the CRC after the byte
abbrev pub write_byte : WriteMode → ℕ → ℕ → ℕ → Script → Script
write_byte mode register old byte on = do
  send_bytes (byte ∷ [])
  check_crc mode (crc16_word register)
  send_event pulse
  read_back (bit_and old byte)
  on

-- bytes from address a on, all over the same old byte; crc_of is the CRC's register after the first, and before each further one the
-- register is loaded with its address
unfoldable pub write_bytes : WriteMode → (ℕ → ℕ) → ℕ → ℕ → List ℕ → Script → Script
write_bytes mode crc_of a old [] on = on
write_bytes mode crc_of a old (byte ∷ bytes) on = do
  write_byte mode (crc_of byte) old byte
  write_bytes mode (λ next. crc16_loaded (a + 1) (next ∷ [])) (a + 1) old bytes
  on

-- a write of bytes from a target on: the bytes that select the chip, command and address; the first CRC is that of command, address and byte
unfoldable pub write : UpdateKind → Target → ℕ → List ℕ → Script → Script
write kind target old bytes on = do
  reset
  send_bytes (selecting kind.selection ++ head_of kind.mode target)
  write_bytes kind.mode (λ byte. crc16_of (head_of kind.mode target ++ (byte ∷ []))) (address_of target) old bytes
  on

-- clear t's bitmap bit, used being its bitmap byte as found; write the new bytes into page t; write the redirection byte of l, so that it
-- names t; closing reset; l and t
unfoldable pub update_script : UpdateKind → ℕ → ℕ → ℕ → List ℕ → Script
update_script kind l t used new = do
  write kind (Status (bitmap_address t)) used (clearing t ∷ [])
  write kind (Data (page_address t)) 0xFF new
  write kind (Status (redirection_address l)) 0xFF ((naming t).0 ∷ [])
  reset
  gives (l ∷ t ∷ []) []

-- a publisher after its start: the update, or the start's refusal
abbrev pub publisher_script : ℕ → UpdateKind → List ℕ → List ℕ → Choice → Script
publisher_script n kind img new (Err stop) = stops (number_of (publisher_refusal stop)) (values_of (publisher_refusal stop))
publisher_script n kind img new (Ok pages) = update_script kind pages.0.0 pages.1.0 (bitmap_byte n img pages.1.0) new
