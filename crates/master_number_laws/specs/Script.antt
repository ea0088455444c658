-- The number read in document 01's words: reset, 33h, 64 slots, closing reset. The number is judged when its 64th bit is in, 14 before 15.
use Rattle.std.specs.Prelude.{ℕ, Bool, List, [], ◌∷◌, eqb, get_or, take}
use Rattle.base_crc.specs.Crc.{crc8_of}
use Rattle.bus_scripts.specs.Script.{Script, gives, ◌>>◌, ◌>>=◌, reset, send_bytes, read_bytes, check}

-- the eighth byte is the CRC-8 of the seven before it
abbrev pub crc8_agrees : List ℕ → Bool
crc8_agrees number = eqb (get_or number 7 0) (crc8_of (take 7 number))

-- the first byte is the family of the DS2505
abbrev pub family_agrees : List ℕ → Bool
family_agrees number = eqb (get_or number 0 0) 0x0B

unfoldable pub number_script : Script
number_script = do
  reset
  send_bytes (0x33 ∷ [])
  number ← read_bytes 8
  check (crc8_agrees number) 14
  check (family_agrees number) 15
  reset
  gives number []
