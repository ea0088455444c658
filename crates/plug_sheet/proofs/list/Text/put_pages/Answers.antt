use Rattle.plug_sheet.specs.List.{pages_line}
use Rattle.plug_sheet.proofs.Puts.{gains_then}
use Rattle.plug_sheet.proofs.list.Text.put_pages.Goals as goal

pub returns : goal.returns
unfolding pages_line
returns c = rw c.page_count.ensures at (gains_then c.put.ensures (gains_then c.put_decimal.ensures c.put-2.ensures))
