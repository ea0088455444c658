-- The page read in document 01's words, over the page count n.
use Rattle.std.specs.Prelude.{ℕ, zero, suc, ◌+◌, ◌-◌, ◌*◌, ◌/◌, ◌%◌, cond, List, [], ◌∷◌, ◌++◌, eqb, ltb}
use Rattle.base_crc.specs.Crc.{crc16_of, crc16_word}
use Rattle.bus_scripts.specs.Script.{Script, stops, gives, ◌>>◌, ◌>>=◌, reset, send_bytes, read_byte, read_bytes, read_crc, check, check_with}

-- Extended Read and the address 32p, low byte first
abbrev pub read_command : ℕ → List ℕ
read_command p = 0xA5 ∷ 32 * p % 256 ∷ 32 * p / 256 % 256 ∷ []

-- the CRC-16 of bytes, as it is sent
abbrev pub crc_word : List ℕ → ℕ
crc_word bytes = crc16_word (crc16_of bytes)

-- the visit of page p: its redirection byte, with the CRC of command, address and byte
unfoldable pub visit_script : ℕ → (ℕ → Script) → Script
visit_script p on = do
  reset
  send_bytes (0xCC ∷ read_command p)
  byte ← read_byte
  read_crc (crc_word (read_command p ++ (byte ∷ [])))
  on byte

-- page p is valid: its data and their CRC, the closing reset, and Final
unfoldable pub final_script : ℕ → ℕ → Script
final_script p hops = do
  bytes ← read_bytes 32
  read_crc (crc_word bytes)
  reset
  gives (p ∷ hops ∷ []) bytes

-- by page p's redirection byte: FFh, the page is valid; a page above the last, Outside at once; any other page, onward
abbrev pub by_byte : ℕ → ℕ → ℕ → (ℕ → Script) → ℕ → Script
by_byte n p hops onward byte =
    let named : ℕ = 255 - byte in
    cond (eqb byte 0xFF) (final_script p hops) (check_with (ltb named n) 5 (named ∷ []) (onward named))

-- on to the page named, as often as more says; once more would be the n-th redirection byte that is not FFh, and means Loop
unfoldable pub walk_script : ℕ → ℕ → ℕ → ℕ → Script
walk_script n zero p hops = do
  byte ← visit_script p
  by_byte n p hops (λ named. stops 4 []) byte
walk_script n (suc more) p hops = do
  byte ← visit_script p
  by_byte n p hops (λ named. walk_script n more named (hops + 1)) byte

-- from the start with page p on
unfoldable pub page_script : ℕ → ℕ → Script
page_script n p = do
  check (ltb p n) 3
  walk_script n (n - 1) p 0
