use mathlib.Core.Path.{sym, ap, ◌∙◌}
use native.Mathlib.Omega.{arith}
use Rattle.std.proofs.Common.{rules}
use Rattle.master_publisher.specs.Start.{start_outcome}
use Rattle.master_update.proofs.Joins.{kept_refused, ends_ready}
use Rattle.master_update.proofs.update.Goals as goal

pub returns-in_err-started-clause-image : goal.returns-in_err-started-clause-image
returns-in_err-started-clause-image c = let a = c.args in
    kept_refused a.kind a.number a.image.now a.new.now a.page.0 a.events (omega arith) (λ i. (c.type_inv.new i).fits)
    c.in_err-started.field-0.0 (ap start_outcome (sym c.in_err-started.was) ∙ c.start-started.ensures.answer)

pub returns : goal.returns
returns c = let a = c.args in
    let proved = ends_ready a.kind a.number a.image.now a.new.now a.page.0 a.events (omega arith) (λ i. (c.type_inv.new i).fits)
    c.start-started.result.state c.power_up.result c.run.new.image
    (ap start_outcome (sym c.in_ok-started.was) ∙ c.start-started.ensures.answer)
    c.start-started.ensures.state c.power_up.ensures c.run.ensures in
    record { answer = proved.0; image = search rules; reads = proved.1 }
