-- `base_crc::crc8::byte` meets its contract: what is left of the byte goes into the register as the whole byte does at the start.
use mathlib.Core.Path.{◌≡◌}
use Prim.Native.Nat.{◌-◌}
use Rattle.base_types.specs.Bits.{bits_of}
use Rattle.base_crc.specs.Polynomial.{crc8_polynomial}
use Rattle.base_crc.specs.Crc.{crc_bits, crc8_byte}
use Rattle.base_crc.proofs.crc8.byte.Given as goal

abbrev pub invariant-loop : goal.invariant-loop
invariant-loop l = crc_bits crc8_polynomial l.r (bits_of (8 - l.counter) l.b) ≡ crc8_byte l.reg l.byte
