use Rattle.plug_sheet.specs.List.{final_text, outside_text, verdict_text}
use Rattle.plug_sheet.proofs.Puts.{gains_then}
use Rattle.plug_sheet.proofs.list.Text.put_verdict.Goals as goal

pub returns-in-Final : goal.returns-in-Final
unfolding verdict_text final_text
returns-in-Final c = simp c.in-Final.is (search gains_then)

pub returns-in-Outside : goal.returns-in-Outside
unfolding verdict_text outside_text
returns-in-Outside c = simp c.in-Outside.is (search gains_then)
