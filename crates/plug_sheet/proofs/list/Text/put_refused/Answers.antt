use Rattle.plug_sheet.specs.List.{refused_line}
use Rattle.plug_sheet.proofs.Puts.{gains_then}
use Rattle.plug_sheet.proofs.list.Text.put_refused.Goals as goal

pub returns : goal.returns
unfolding refused_line
returns c = search gains_then
