use Prim.Native.Nat.{ℕ, ◌+◌}
use mathlib.Core.Path.{sym, ◌∙◌}
use borrow.Author.Rules.{rules}
use Rattle.std.proofs.lemmas.Iterator.{YieldsList-from_map}
use Rattle.std.proofs.lemmas.Iterator.Adapters.{option_map_id}
use Rattle.std.proofs.lemmas.Iterator.Consumers.{YieldsList-at}
use Rattle.std.proofs.lemmas.Iterator.Search.{find_from_yields_List}
use Rattle.base_types.specs.declared.address.Page.{Page}
use Rattle.chip_chain.specs.Free.{is_free_other, lowest_free}
use Rattle.chip_chain.proofs.Pages.{all_pages, found_first}
use Rattle.chip_chain.proofs.free.lowest_free.Goals as goal

pub returns : goal.returns
unfolding lowest_free
returns c = let a = c.args in
    let last = a.memory.now.last.0 in
    let t = is_free_other (last + 1) a.memory.now.image.now a.other.0 in
    sym (option_map_id c.find.result)
    ∙ find_from_yields_List (λ (p : Page). t p.0) _ _ c.find.result c.find.ensures.ran
    (YieldsList-from_map _ (λ (q : ℕ). record { 0 = q }) (YieldsList-at c.map.ensures.source (all_pages last c.new.ensures.start c.new.ensures.end c.new.ensures.exhausted))
    c.map.ensures.closure (λ x r q k. search rules)) (λ x b q k. search rules)
    ∙ found_first t (last + 1) 0
