-- Where an update writes, and what: each address and the redirection byte in a type of its own.
use Rattle.std.specs.Prelude.{ℕ, ◌+◌, ◌-◌, ◌*◌, ◌/◌, ◌%◌, ◌^◌, List, [], ◌∷◌}
use Rattle.base_types.specs.declared.address.DataAddress.{DataAddress}
use Rattle.base_types.specs.declared.address.StatusAddress.{StatusAddress}
use Rattle.base_types.specs.declared.address.Redirection.{Redirection}
pub use Rattle.base_types.specs.Address.{space_of, address_of}
use Rattle.base_types.specs.declared.address.Target.{Target}
use Rattle.base_types.specs.declared.write_mode.WriteMode.{WriteMode}
use Rattle.base_types.specs.WriteMode.{write_command}
use Rattle.chip_memory.specs.declared.layout.Field.TheVariants.{UsedPages}
use Rattle.chip_memory.specs.Layout.{first_address, redirection_bytes}

-- the byte with the bitmap bit of page t, and the byte sent there: it clears that bit, every other bit being 1
abbrev pub bitmap_address : ℕ → StatusAddress
bitmap_address t = record { 0 = first_address UsedPages + t / 8 }

abbrev pub clearing : ℕ → ℕ
clearing t = 255 - 2 ^ (t % 8)

-- the first byte of page t
abbrev pub page_address : ℕ → DataAddress
page_address t = record { 0 = 32 * t }

-- the redirection byte of page l, and the one that names page t
abbrev pub redirection_address : ℕ → StatusAddress
redirection_address l = record { 0 = redirection_bytes + l }

abbrev pub naming : ℕ → Redirection
naming t = record { 0 = 255 - t }

-- ---- a target

-- the bytes of command and address that begin a write there
abbrev pub head_of : WriteMode → Target → List ℕ
head_of mode target = write_command mode (space_of target) ∷ address_of target % 256 ∷ address_of target / 256 ∷ []
