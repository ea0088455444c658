use mathlib.Core.Path.{refl}
use native.Mathlib.Omega.{arith}
use Rattle.plug_sheet.proofs.Puts.{put_back}
use Rattle.plug_sheet.proofs.list.Text.put.Goals as goal

pub returns : goal.returns
returns c = let text = c.args.self.now in
    record { same = refl; size = omega (arith, c.min-n.ensures); buffer = put_back text.size c.args.text.now text.buffer.now _ c.copy.ensures }
