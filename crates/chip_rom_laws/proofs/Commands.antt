-- Eight slots take in a command byte, least significant bit first.
use Prim.Native.Nat.{ℕ, ◌<◌}
use mathlib.Core.Path.{refl, ap}
use mathlib.Core.List.{List}
use Rattle.base_types.specs.Bits.{bits_of}
use Rattle.base_types.proofs.Collect.{collected}
use Rattle.bus_events.specs.Slots.{ones}
use Rattle.chip_rom.specs.declared.RomStage.TheVariants.{Command}
use Rattle.chip_rom.specs.Rom.{rom_command, rom_command_bit, rom_slot, rom_bit}
use Rattle.chip_rom_laws.specs.Rom.{Roms, last, more}

pub command : (number : List ℕ) (byte : ℕ) → byte < 256 → Roms number (Command 0 0) (bits_of 8 byte) (ones 8) (rom_command byte)
unfolding bits_of rom_bit rom_slot rom_command_bit
command number byte h =
    more refl refl (more refl refl (more refl refl (more refl refl
    (more refl refl (more refl refl (more refl refl (last refl (ap rom_command (collected byte h)))))))))
