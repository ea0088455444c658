use mathlib.Core.Path.{refl, ap, ◌∙◌}
use native.Mathlib.Omega.{arith}
use borrow.Author.Tests.{tests}
use Rattle.std.proofs.Common.{rules}
use Rattle.std.proofs.lemmas.Iterator.{YieldsList-from_range}
use Rattle.std.proofs.lemmas.Iterator.Search.{find_from_yields_List}
use Rattle.base_types.specs.Outcome.{outcome_of}
use Rattle.plug_lookup.specs.Header.{rows_of, covers}
use Rattle.plug_lookup.proofs.Rows.{first_is_row}
use Rattle.plug_lookup.proofs.header.find_row.Goals as goal

pub returns : goal.returns
returns c =
    ap outcome_of c.ok_or.ensures.value
    ∙ first_is_row c.args.header.now c.args.latitude (rows_of c.args.header.now) 0 c.find.result
    (find_from_yields_List (covers c.args.header.now c.args.latitude) _ _ c.find.result c.find.ensures.ran
    (YieldsList-from_range 0 c.rows.result (rows_of c.args.header.now) refl (omega (arith, c.rows.ensures)))
    (λ x b q k. search (rules, tests)))
