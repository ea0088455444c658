use mathlib.Core.Path.{◌≡◌}
use native.Mathlib.Omega.{arith}
use Rattle.plug_sheet.specs.List.{page_lines}
use Rattle.plug_sheet.proofs.Puts.{gains_nothing, gains_line}
use Rattle.plug_sheet.proofs.list.Text.put_lines.Goals as goal

pub loop-p-init : goal.loop-p-init
unfolding page_lines
loop-p-init c = gains_nothing _

pub loop-p-preserved : goal.loop-p-preserved
loop-p-preserved c = gains_line _ _ _ c.loop-p.invariant c.put_page.ensures

pub returns-2 : goal.returns-2
returns-2 c = let e : c.loop-p.p ≡ c.args.memory.now.last.0 = omega arith in rw e at (gains_line _ _ _ c.loop-p.invariant c.put_page.ensures)
