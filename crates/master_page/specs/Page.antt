-- What a page read sends, the CRCs that answer it, and what can stop it.
use Rattle.std.specs.Prelude.{ℕ, ◌*◌, ◌/◌, ◌%◌, List, [], ◌∷◌}
use Rattle.base_types.specs.declared.refusal.Refusal.{Refusal}
use Rattle.base_types.specs.declared.refusal.Refusal.TheVariants as refusal
use Rattle.base_crc.specs.Crc.{crc16_of, crc16_word}
use Rattle.master_page.specs.declared.PageStop.{PageStop}
use Rattle.master_page.specs.declared.PageStop.TheVariants.{PageNumber, Loop, Outside, Crc16, NoPresence}

-- the low and the high byte of an address
abbrev pub address_low : ℕ → ℕ
address_low a = a % 256

abbrev pub address_high : ℕ → ℕ
address_high a = a / 256 % 256

-- Extended Read and the address 32p, low byte first
abbrev pub command_bytes : ℕ → List ℕ
command_bytes p = 0xA5 ∷ address_low (32 * p) ∷ address_high (32 * p) ∷ []

-- the CRC-16 of bytes, as it is sent
abbrev pub crc_sent : List ℕ → ℕ
crc_sent bytes = crc16_word (crc16_of bytes)

-- what can stop a read, by its refusal: 3, 4, 5 with the number outside, 6, 13
abbrev pub page_stop : PageStop → Refusal
page_stop PageNumber = refusal.PageNumber
page_stop Loop = refusal.Loop
page_stop (Outside x) = refusal.Outside x
page_stop Crc16 = refusal.Crc16
page_stop NoPresence = refusal.NoPresence
