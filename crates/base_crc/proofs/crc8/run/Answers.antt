use Rattle.std.proofs.Common.{rules, ◌≡◌, ◌∙◌}
use Rattle.std.specs.List.{fold}
use Rattle.base_crc.specs.Crc.{crc8_byte}
use Rattle.base_crc.specs.Polynomial.{crc8_polynomial}
use Rattle.base_crc.proofs.Steps.{bytes_folded}
use Rattle.base_crc.proofs.crc8.run.Goals as goal

pub returns : goal.returns
returns c = let e : c.fold.result ≡ fold crc8_byte c.args.reg c.args.bytes.now = search rules in
    e ∙ bytes_folded crc8_polynomial c.args.reg c.args.bytes.now
