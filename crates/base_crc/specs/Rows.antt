-- Values of the CRCs that are known from outside. One statement covers them. The row of document 01 is among those of the crate `chip_chain`.
use Rattle.std.specs.Prelude.{ℕ, refl, List, [], ◌∷◌}
use Rattle.base_types.specs.Bits.{bits_of}
use Rattle.base_types.specs.Rows.{Row, ◌gives◌, Hold}
use Rattle.base_crc.specs.Crc.{crc_bit, crc_bits, crc_byte, crc_bytes, crc16_from, crc8_of}

pub crc_rows : List (Row ℕ)
crc_rows =
    -- Application Note 27: the worked example of each CRC
    (crc16_from 0x90F1 (0x75 ∷ []) gives 0x6390)
    ∷ (crc8_of (0x02 ∷ 0x1C ∷ 0xB8 ∷ 0x01 ∷ 0x00 ∷ 0x00 ∷ 0x00 ∷ []) gives 0xA2)
    -- the CRC-8 of a whole registration number, its own CRC last, is 0
    ∷ (crc8_of (0x02 ∷ 0x1C ∷ 0xB8 ∷ 0x01 ∷ 0x00 ∷ 0x00 ∷ 0x00 ∷ 0xA2 ∷ []) gives 0x00)
    -- the check value of this CRC-16, of the digits 1 to 9
    ∷ (crc16_from 0 (0x31 ∷ 0x32 ∷ 0x33 ∷ 0x34 ∷ 0x35 ∷ 0x36 ∷ 0x37 ∷ 0x38 ∷ 0x39 ∷ []) gives 0xBB3D)
    ∷ []

pub crc_rows_hold : Hold crc_rows
unfolding crc_rows crc_bytes crc_byte crc_bits crc_bit bits_of
crc_rows_hold = refl
