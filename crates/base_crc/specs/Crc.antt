-- The CRC register of Application Note 27: it shifts right, a bit at a time, least significant bit first. p is the polynomial.
use Rattle.std.specs.Prelude.{ℕ, ◌+◌, ◌-◌, ◌*◌, ◌/◌, ◌%◌, Bool, List, [], ◌∷◌}
use Rattle.std.specs.Int.Bits.{bit_xor}
use Rattle.base_types.specs.Bits.{one, bits_of}
use Rattle.base_crc.specs.Polynomial.{crc16_polynomial, crc8_polynomial}
use Rattle.base_crc.specs.declared.crc16.SentBytes.{SentBytes}

-- One bit: the register shifts right, and where the bit that leaves it differs from the bit that comes, p is xored into it.
unfoldable pub crc_bit : ℕ → ℕ → Bool → ℕ
crc_bit p reg bit = bit_xor (reg / 2) ((reg + one bit) % 2 * p)

-- bits, one after the other
unfoldable pub crc_bits : ℕ → ℕ → List Bool → ℕ
crc_bits p reg [] = reg
crc_bits p reg (b ∷ bs) = crc_bits p (crc_bit p reg b) bs

-- a byte, as its eight bits
unfoldable pub crc_byte : ℕ → ℕ → ℕ → ℕ
crc_byte p reg byte = crc_bits p reg (bits_of 8 byte)

-- bytes, one after the other
unfoldable pub crc_bytes : ℕ → ℕ → List ℕ → ℕ
crc_bytes p reg [] = reg
crc_bytes p reg (b ∷ bs) = crc_bytes p (crc_byte p reg b) bs

-- ---- CRC-16

abbrev pub crc16_byte : ℕ → ℕ → ℕ
crc16_byte = crc_byte crc16_polynomial

abbrev pub crc16_from : ℕ → List ℕ → ℕ
crc16_from = crc_bytes crc16_polynomial

-- from a cleared register
abbrev pub crc16_of : List ℕ → ℕ
crc16_of = crc16_from 0

-- A register loaded with an address: the address as a number, its low byte at the end that is shifted out first.
abbrev pub crc16_load : ℕ → ℕ
crc16_load address = address

-- from a register so loaded
abbrev pub crc16_loaded : ℕ → List ℕ → ℕ
crc16_loaded address = crc16_from (crc16_load address)

-- what is sent of a register: its complement, as a number
abbrev pub crc16_word : ℕ → ℕ
crc16_word reg = 0xFFFF - reg

-- the same as two bytes, low byte first
abbrev pub crc16_sent : ℕ → SentBytes
crc16_sent reg = record { 0 = crc16_word reg % 256; 1 = crc16_word reg / 256 }

-- ---- CRC-8

abbrev pub crc8_bit : ℕ → Bool → ℕ
crc8_bit = crc_bit crc8_polynomial

abbrev pub crc8_byte : ℕ → ℕ → ℕ
crc8_byte = crc_byte crc8_polynomial

abbrev pub crc8_from : ℕ → List ℕ → ℕ
crc8_from = crc_bytes crc8_polynomial

-- from a cleared register
abbrev pub crc8_of : List ℕ → ℕ
crc8_of = crc8_from 0
