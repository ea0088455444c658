use Prim.Native.Nat.{◌-◌, min}
use lib.Dec.{eqb}
use lib.ListN.{length, get_or}
use mathlib.Core.Path.{refl, ◌∙◌}
use borrow.Author.Tests.{tests}
use native.Mathlib.Omega.{arith}
use Rattle.std.proofs.Common.{rules}
use Rattle.std.proofs.lemmas.Iterator.{YieldsList-from_range}
use Rattle.std.proofs.lemmas.Iterator.Search.{all_from_yields_List}
use Rattle.plug_fields.proofs.Laws.{zeros_are}
use Rattle.plug_fields.proofs.zeros.Goals as goal

pub returns : goal.returns
returns c =
    all_from_yields_List (λ k. eqb (get_or c.args.b.now k 0) 0) _ _ _ c.all.ensures.ran
    (YieldsList-from_range c.args.from c.min.result (min c.args.to (length c.args.b.now) - c.args.from) refl (omega (arith, c.min.ensures)))
    (λ x b q k. search (rules, tests))
    ∙ zeros_are c.args.from c.args.to c.args.b.now
