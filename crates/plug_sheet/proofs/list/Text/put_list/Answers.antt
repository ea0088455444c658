use Rattle.plug_sheet.specs.List.{list_of}
use Rattle.plug_sheet.proofs.Puts.{gains_then}
use Rattle.plug_sheet.proofs.list.Text.put_list.Goals as goal

pub returns : goal.returns
unfolding list_of
returns c = gains_then c.put_pages.ensures (gains_then c.put_lines.ensures c.put_counts.ensures)
