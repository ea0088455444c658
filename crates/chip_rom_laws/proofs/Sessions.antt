-- The laws of the ROM functions over whole sessions.
use Rattle.chip_rom_laws.specs.Rom.{RomStageLaws}
use Rattle.chip_rom_laws.proofs.Commands.{command}
use Rattle.chip_rom_laws.proofs.Numbers.{read, matched, mismatched}
use Rattle.chip_rom_laws.proofs.Searches.{searched, lost}
use Rattle.chip_rom_laws.proofs.NumberBits.{number_bits_law}
use Rattle.chip_rom_laws.proofs.Kept.{kept}

pub rom_laws : RomStageLaws
rom_laws =
    record {
      command = command;
      read = read;
      matched = matched;
      mismatched = mismatched;
      searched = searched;
      lost = lost;
      number_bits_law = number_bits_law;
      kept = kept;
    }
