use Prim.Native.Nat.{ℕ}
use lib.Dec.{eqb}
use mathlib.Core.Path.{◌∙◌}
use borrow.Author.Rules.{rules}
use Rattle.std.proofs.lemmas.Iterator.{YieldsList-from_slice}
use Rattle.std.proofs.lemmas.Iterator.Search.{all_from_yields_List}
use Rattle.chip_memory.proofs.Pages.{all_blank}
use Rattle.chip_memory.proofs.page.is_blank.Goals as goal

pub returns : goal.returns
returns c =
    all_from_yields_List (λ (b : ℕ). eqb b 255) _ _ _ c.all.ensures.ran (YieldsList-from_slice c.args.page.now cc) (λ x b q k. search rules)
    ∙ all_blank c.args.page.now
