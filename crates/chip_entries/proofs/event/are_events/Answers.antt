use mathlib.Core.Path.{◌∙◌}
use borrow.Author.Rules.{rules}
use borrow.Author.Tests.{tests}
use Rattle.std.proofs.lemmas.Iterator.{YieldsList-from_slice}
use Rattle.std.proofs.lemmas.Iterator.Search.{all_from_yields_List}
use Rattle.bus_events.specs.Codes.{is_event}
use Rattle.chip_entries.proofs.Runs.{are_events_lem}
use Rattle.chip_entries.proofs.event.are_events.Goals as goal

pub returns : goal.returns
returns c =
    all_from_yields_List is_event _ _ _ c.all.ensures.ran (YieldsList-from_slice c.args.codes.now cc) (λ x b q k. search (rules, tests))
    ∙ are_events_lem c.args.codes.now
