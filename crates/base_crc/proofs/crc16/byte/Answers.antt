-- `base_crc::crc16::byte` meets its contract, by the law of the nibbles' entries.
use mathlib.Core.Path.{ap₂, ◌∙◌}
use mathlib.Core.List.{List}
use Prim.Native.Nat.{ℕ}
use Rattle.base_crc.specs.Polynomial.{crc16_polynomial}
use Rattle.base_crc.specs.Table.{step_by_nibbles}
use Rattle.base_crc.proofs.Table.{table_laws}
use Rattle.base_crc.proofs.crc16.byte.Goals as goal

pub returns : goal.returns
returns c = let args = c.args in
    c.step_by_nibbles.ensures
    ∙ ap₂ (λ (l h : List ℕ). step_by_nibbles l h args.reg args.byte) c.low_nibbles-low.ensures c.high_nibbles-high.ensures
    ∙ (table_laws crc16_polynomial).nibbles args.reg args.byte
