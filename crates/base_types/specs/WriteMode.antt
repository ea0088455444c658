-- The command bytes of the writes.
use Rattle.std.specs.Prelude.{ℕ}
use Rattle.base_types.specs.declared.address.Space.{Space}
use Rattle.base_types.specs.declared.address.Space.TheVariants.{Data, Status}
use Rattle.base_types.specs.declared.write_mode.WriteMode.{WriteMode}
use Rattle.base_types.specs.declared.write_mode.WriteMode.TheVariants.{Ordinary, Quick}

-- Write Memory, Write Status, Speed Write Memory, Speed Write Status
abbrev pub write_command : WriteMode → Space → ℕ
write_command Ordinary Data = 0x0F
write_command Ordinary Status = 0x55
write_command Quick Data = 0xF3
write_command Quick Status = 0xF5
