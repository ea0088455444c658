use Prim.Native.Nat.{◌+◌}
use mathlib.Core.Path.{◌∙◌}
use borrow.Author.Rules.{rules}
use Rattle.std.proofs.lemmas.Iterator.Consumers.{YieldsList-at, YieldsList-from_filter, count_from_yields_List}
use Rattle.chip_chain.specs.Free.{is_free}
use Rattle.chip_chain.proofs.Pages.{all_pages, filtered_count}
use Rattle.chip_chain.proofs.count.free_count.Goals as goal

pub returns : goal.returns
returns c = let last = c.args.memory.now.last.0 in
    let t = is_free (last + 1) c.args.memory.now.image.now in
    count_from_yields_List c.filter.result c.count.result c.count.ensures.ran
    (YieldsList-from_filter _ t (YieldsList-at c.filter.ensures.source (all_pages last c.new.ensures.start c.new.ensures.end c.new.ensures.exhausted))
    c.filter.ensures.closure (λ x b q k. search rules))
    ∙ filtered_count t (last + 1) 0
