-- `base_crc::crc16::low_nibbles` meets its contract: every entry is computed anew and compared.
use mathlib.Core.Path.{refl}
use Rattle.base_types.specs.Bits.{bits_of}
use Rattle.base_types.specs.Scan.{values_from}
use Rattle.base_crc.specs.Crc.{crc_bit, crc_bits, crc_byte}
use Rattle.base_crc.specs.Table.{entries_of}
use Rattle.base_crc.proofs.crc16.low_nibbles.Goals as goal

pub returns : goal.returns
unfolding entries_of values_from crc_byte crc_bits crc_bit bits_of
returns c = refl
