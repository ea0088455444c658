use mathlib.Core.Path.{refl, ◌∙◌}
use native.Mathlib.Omega.{arith}
use lib.Dec.{ltb}
use borrow.Author.Tests.{tests}
use Rattle.std.proofs.Common.{rules}
use Rattle.std.proofs.lemmas.Iterator.{YieldsList-from_range}
use Rattle.std.proofs.lemmas.Iterator.Search.{all_from_yields_List}
use Rattle.plug_lookup.specs.Header.{rows_of, row_page, pages_right}
use Rattle.plug_lookup.proofs.Rows.{all_is_every}
use Rattle.plug_lookup.proofs.header.are_pages_right.Goals as goal

pub returns : goal.returns
unfolding pages_right
returns c =
    all_from_yields_List (λ i. ltb (row_page c.args.header.now i) c.args.pages) _ _ _ c.all.ensures.ran
    (YieldsList-from_range 0 c.rows.result (rows_of c.args.header.now) refl (omega (arith, c.rows.ensures)))
    (λ x b q k. search (rules, tests))
    ∙ all_is_every _ _ _
