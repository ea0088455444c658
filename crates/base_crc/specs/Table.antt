-- A table of the CRCs of single bytes, and a step of the register by such a table. p is the polynomial.
use Rattle.std.specs.Prelude.{ℕ, ◌*◌, ◌/◌, ◌%◌, ◌<◌, ◌≡◌, List, get_or}
use Rattle.std.specs.Int.Bits.{bit_xor}
use Rattle.base_types.specs.Scan.{values_from}
use Rattle.base_crc.specs.Crc.{crc_byte}

-- the register that a byte makes of a cleared one, for n bytes: 0, d, 2 d and so on
unfoldable pub entries_of : ℕ → ℕ → ℕ → List ℕ
entries_of p n d = values_from (λ (k : ℕ). crc_byte p 0 (k * d)) 0 n

-- the table: every byte
abbrev pub table_of : ℕ → List ℕ
table_of p = entries_of p 256 1

-- its entries at the bytes whose high nibble is 0, and at those whose low nibble is 0
abbrev pub low_nibbles_of : ℕ → List ℕ
low_nibbles_of p = entries_of p 16 1

abbrev pub high_nibbles_of : ℕ → List ℕ
high_nibbles_of p = entries_of p 16 16

-- the place in the table: the low byte of the register, which is shifted out, xored with the byte that comes
abbrev pub entry_index : ℕ → ℕ → ℕ
entry_index reg byte = bit_xor reg byte % 256

-- the register after one more byte, by the table: it shifts right by eight bits, and the entry is xored into it
unfoldable pub step_by : List ℕ → ℕ → ℕ → ℕ
step_by table reg byte = bit_xor (reg / 256) (get_or table (entry_index reg byte) 0)

-- the same by the entries of the two nibbles of the place
unfoldable pub step_by_nibbles : List ℕ → List ℕ → ℕ → ℕ → ℕ
step_by_nibbles low high reg byte =
    bit_xor (reg / 256) (bit_xor (get_or low (entry_index reg byte % 16) 0) (get_or high (entry_index reg byte / 16) 0))

pub record TableLaws (p : ℕ) : Type 0 where
  -- what stands in the table
  pub entry : (k : ℕ) → k < 256 → get_or (table_of p) k 0 ≡ crc_byte p 0 k
  -- on every register and byte, one step by the table is the byte's eight bit steps
  pub step : (reg byte : ℕ) → step_by (table_of p) reg byte ≡ crc_byte p reg byte
  -- and so is one step by the nibbles' entries
  pub nibbles : (reg byte : ℕ) → step_by_nibbles (low_nibbles_of p) (high_nibbles_of p) reg byte ≡ crc_byte p reg byte
