use Rattle.plug_sheet.specs.List.{counts_line}
use Rattle.plug_sheet.proofs.Puts.{gains_then}
use Rattle.plug_sheet.proofs.list.Text.put_counts.Goals as goal

pub returns : goal.returns
unfolding counts_line
returns c =
    rw (c.redirected_count.ensures, c.free_count.ensures) at
    (gains_then c.put.ensures (gains_then c.put_decimal.ensures (gains_then c.put-2.ensures (gains_then c.put_decimal-2.ensures c.put-3.ensures))))
