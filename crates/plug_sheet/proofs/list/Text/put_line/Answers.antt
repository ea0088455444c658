use Rattle.plug_sheet.specs.List.{verdict_line}
use Rattle.plug_sheet.proofs.Puts.{gains_then}
use Rattle.plug_sheet.proofs.list.Text.put_line.Goals as goal

pub returns : goal.returns
unfolding verdict_line
returns c = search gains_then
