-- What an image holds, over the page count n.
use Rattle.std.specs.Prelude.{ℕ, ◌+◌, ◌*◌, ◌/◌, ◌%◌, Bool, cond, List, ltb, get_or, take, drop}
use Rattle.base_types.specs.declared.address.Target.{Target}
use Rattle.base_types.specs.declared.address.Target.TheVariants.{Data, Status}
use Rattle.base_types.specs.Bits.{bit_at}
use Rattle.chip_memory.specs.declared.layout.Field.{Field}
use Rattle.chip_memory.specs.Layout.{first_address, data_size, status_index, redirection_bytes, is_held}

-- the byte of a data address
unfoldable pub data_byte : ℕ → List ℕ → ℕ → ℕ
data_byte n img a = cond (ltb a (data_size n)) (get_or img a 0) 0xFF

-- the byte of a status address; a gap reads FFh, whatever the image holds there
unfoldable pub status_byte : ℕ → List ℕ → ℕ → ℕ
status_byte n img a = cond (is_held n a) (get_or img (status_index n a) 0) 0xFF

unfoldable pub target_byte : ℕ → List ℕ → Target → ℕ
target_byte n img (Data a) = data_byte n img a.0
target_byte n img (Status a) = status_byte n img a.0

-- the bit of page p in a field of bits: bit p modulo 8 of byte p divided by 8
unfoldable pub page_bit : ℕ → Field → List ℕ → ℕ → Bool
page_bit n field img p = bit_at (get_or img (status_index n (first_address field + p / 8)) 0) (p % 8)

-- the redirection byte of page p
unfoldable pub redirection_of : ℕ → List ℕ → ℕ → ℕ
redirection_of n img p = get_or img (status_index n (redirection_bytes + p)) 0

-- the 32 bytes of page p
unfoldable pub page_bytes : List ℕ → ℕ → List ℕ
page_bytes img p = take 32 (drop (32 * p) img)
