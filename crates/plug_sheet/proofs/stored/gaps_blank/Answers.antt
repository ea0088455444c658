use mathlib.Core.Bool.{◌||◌}
use mathlib.Core.Path.{refl, ◌∙◌}
use lib.Dec.{eqb}
use lib.ListN.{get_or}
use borrow.Author.Tests.{tests}
use Rattle.std.proofs.Common.{rules}
use Rattle.std.proofs.lemmas.Iterator.{YieldsList-from_range}
use Rattle.std.proofs.lemmas.Iterator.Search.{all_from_yields_List}
use native.Mathlib.Omega.{arith}
use Rattle.chip_memory.specs.Layout.{page_count, status_size, status_index, is_held}
use Rattle.plug_sheet.specs.Stored.{gaps_blank}
use Rattle.plug_sheet.proofs.Sheets.{all_is_every}
use Rattle.plug_sheet.proofs.stored.gaps_blank.Goals as goal

pub returns : goal.returns
unfolding gaps_blank
returns c =
    all_from_yields_List (λ a. is_held (page_count c.args.memory.now.last) a || eqb (get_or c.args.memory.now.image.now (status_index (page_count c.args.memory.now.last) a) 0) 0xFF) _ _ _ c.all.ensures.ran
    (YieldsList-from_range 0 c.status_size.result (status_size (page_count c.args.memory.now.last)) refl (omega (arith, c.status_size.ensures)))
    (λ x b q k. search (rules, tests))
    ∙ all_is_every _ _ _
