use Prim.Native.Nat.{◌+◌, ◌-◌}
use mathlib.Core.Path.{refl, ◌∙◌}
use lib.Dec.{eqb}
use lib.ListN.{get_or}
use borrow.Author.Tests.{tests}
use Rattle.std.proofs.Common.{rules}
use Rattle.std.proofs.lemmas.Iterator.{YieldsList-from_range}
use Rattle.std.proofs.lemmas.Iterator.Search.{all_from_yields_List}
use Rattle.plug_lookup.specs.Header.{rows_of, rest_blank}
use Rattle.plug_lookup.proofs.Rows.{all_is_every}
use Rattle.plug_lookup.proofs.header.is_rest_blank.Goals as goal

pub returns : goal.returns
unfolding rest_blank
returns c =
    let h = c.args.header.now in
    all_from_yields_List (λ k. eqb (get_or h k 0) 0xFF) _ _ _ c.all.ensures.ran
    (YieldsList-from_range (10 + rows_of h) 32 (32 - (10 + rows_of h)) (cc c.rows.ensures) refl)
    (λ x b q k. search (rules, tests))
    ∙ all_is_every _ _ _
