use mathlib.Core.Path.{refl, ap, ◌∙◌}
use native.Mathlib.Omega.{arith}
use lib.ListN.{length-set}
use Rattle.base_types.specs.Bits.{one}
use Rattle.chip_entries.proofs.Runs.{midway, arrived_chip, arrived_replies}
use Rattle.chip_entries.proofs.event.run_within.Goals as goal

pub loop-i-preserved : goal.loop-i-preserved
loop-i-preserved c = let l = c.loop-i in record {
  long = length-set l.replies l.i _ ∙ l.invariant.long;
  midway =
      midway 64 refl _ _ _ _ _ (omega arith) (omega (arith, l.invariant.long)) l.invariant.midway
      _ _ _ _ c.from-e.ensures c.advance-stage.ensures.image c.advance-stage.ensures.stage (c.from.ensures ∙ ap one c.reply.ensures);
}

pub returns-clause-chip : goal.returns-clause-chip
returns-clause-chip c = arrived_chip _ _ _ _ _ _ c.loop-i.invariant.midway (omega arith)

pub returns-clause-replies : goal.returns-clause-replies
returns-clause-replies c = arrived_replies _ _ _ _ _ _ c.loop-i.invariant.midway (omega arith) (omega (arith, c.loop-i.invariant.long))
