-- `base_crc::crc8::bit` meets its contract, by the step's law at this polynomial.
use Rattle.base_crc.specs.Polynomial.{crc8_polynomial}
use Rattle.base_crc.proofs.Steps.{same, differs}
use Rattle.base_crc.proofs.crc8.bit.Goals as goal

pub returns-then-reg-bit : goal.returns-then-reg-bit
returns-then-reg-bit c = same crc8_polynomial c.args.reg c.args.bit c.if-reg-bit.true

pub returns-else-reg-bit : goal.returns-else-reg-bit
returns-else-reg-bit c = differs crc8_polynomial c.args.reg c.args.bit c.if-reg-bit.false
