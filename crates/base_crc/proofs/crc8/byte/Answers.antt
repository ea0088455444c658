-- `base_crc::crc8::byte` meets its contract: what is left of the byte goes into the register as the whole byte does at the start.
use Prim.Native.Nat.{◌-◌}
use mathlib.Core.Path.{refl, ◌∙◌}
use borrow.Author.Rules.{rules}
use Rattle.base_crc.specs.Polynomial.{crc8_polynomial}
use Rattle.base_crc.specs.Crc.{crc_byte}
use Rattle.base_crc.proofs.Steps.{next_bit, done}
use Rattle.base_crc.proofs.crc8.byte.Goals as goal

pub loop-init : goal.loop-init
unfolding crc_byte
loop-init c = refl

pub loop-preserved : goal.loop-preserved
loop-preserved c = next_bit crc8_polynomial c.loop.r c.loop.b 8 c.loop.counter (search rules) c.bit-r.ensures ∙ c.loop.invariant

pub returns : goal.returns
returns c = done crc8_polynomial c.loop.r c.loop.b (8 - c.loop.counter) (search rules) ∙ c.loop.invariant
