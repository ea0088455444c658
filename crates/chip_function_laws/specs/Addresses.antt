-- What the chip keeps of a start address, and what a master can tell of it. n is the page count.
use Rattle.std.specs.Prelude.{ℕ, ◌^◌, ◌<◌, ◌≤◌, ◌≡◌, List, [], ◌∷◌, ◌++◌}
use Rattle.base_types.specs.Bits.{bits_of}
use Rattle.base_types.specs.declared.address.Space.{Space}
use Rattle.base_crc.specs.Crc.{crc16_loaded, crc16_word}
use Rattle.chip_stage.specs.Limits.{limit_of, address_bits, kept_address}
use Rattle.chip_function_laws.specs.Streams.{crc_of, header}

pub record AddressLaws (n : ℕ) : Type 0 where
  -- an address of either memory is kept as it is, and so is any that has no bit above the kept ones
  pub own : (space : Space) (a : ℕ) → a < limit_of n space → kept_address n a ≡ a
  pub low : (a : ℕ) → a < 2 ^ address_bits n → kept_address n a ≡ a
  -- The CRC of a command, its address as kept and any bytes, against the CRC of the address as sent and the same bytes. The two agree
  -- exactly where no bit that was sent is dropped, whatever the command and the bytes.
  pub agrees : (command a : ℕ) (bytes : List ℕ) → a < 2 ^ address_bits n
      → crc_of (header command (kept_address n a) ++ bytes) ≡ crc_of (header command a ++ bytes)
  pub differs : (command a : ℕ) (bytes : List ℕ) → 2 ^ address_bits n ≤ a → a < 65536
      → crc_of (header command (kept_address n a) ++ bytes) ≡ crc_of (header command a ++ bytes) → ⊥
  -- the CRC of a later byte of a write, before which the register was loaded with the raised address, tells every two addresses apart
  pub loaded : (x y byte : ℕ) → x < 65536 → y < 65536
      → bits_of 16 (crc16_word (crc16_loaded x (byte ∷ []))) ≡ bits_of 16 (crc16_word (crc16_loaded y (byte ∷ []))) → x ≡ y
