-- What a number read accepts, and what can stop it.
use Rattle.std.specs.Prelude.{ℕ, Bool, List, eqb, get_or, take}
use Rattle.base_types.specs.declared.refusal.Refusal.{Refusal}
use Rattle.base_types.specs.declared.refusal.Refusal.TheVariants as refusal
use Rattle.base_crc.specs.Crc.{crc8_of}
use Rattle.master_number.specs.declared.NumberStop.{NumberStop}
use Rattle.master_number.specs.declared.NumberStop.TheVariants.{NoPresence, Crc8, Family}

-- the eighth byte is the CRC-8 of the seven before it
abbrev pub crc_fits : List ℕ → Bool
crc_fits number = eqb (get_or number 7 0) (crc8_of (take 7 number))

-- the first byte is the family of the DS2505
abbrev pub family_fits : List ℕ → Bool
family_fits number = eqb (get_or number 0 0) 0x0B

-- what can stop a read, by its refusal: 13, 14, 15
abbrev pub number_stop : NumberStop → Refusal
number_stop NoPresence = refusal.NoPresence
number_stop Crc8 = refusal.Crc8
number_stop Family = refusal.Family
