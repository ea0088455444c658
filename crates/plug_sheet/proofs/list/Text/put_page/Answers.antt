use mathlib.Core.Path.{sym, ◌∙◌}
use borrow.Author.Tests.{eq-eqb}
use Rattle.plug_sheet.specs.List.{page_line}
use Rattle.plug_sheet.proofs.Puts.{gains_nothing}
use Rattle.plug_sheet.proofs.list.Text.put_page.Goals as goal

pub returns-else-redirection_of : goal.returns-else-redirection_of
unfolding page_line
returns-else-redirection_of c = simp (eq-eqb _ _ (sym c.redirection_of.ensures ∙ c.if-redirection_of.false)) (gains_nothing _)
