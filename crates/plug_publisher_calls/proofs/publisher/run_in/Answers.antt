use Rattle.std.proofs.Common.{arith, sym, ◌∙◌}
use Rattle.std.proofs.lemmas.Grind.{common_steps}
use Rattle.master_runs.specs.Publisher.{publisher_fed_judged}
use Rattle.plug_answers.specs.Answers.{is_answer}
use Rattle.plug_answers.proofs.Judged.{refused_first}
use Rattle.plug_publisher_calls.specs.Publisher.{publisher_run_judged, publisher_run_outcome, publisher_run_events}
use Rattle.plug_publisher_calls.proofs.Starts.{starts}
use Rattle.plug_publisher_calls.proofs.publisher.run_in.Goals as goal

pub returns-in_err-judge-clause-told : goal.returns-in_err-judge-clause-told
unfolding publisher_fed_judged publisher_run_judged publisher_run_outcome
returns-in_err-judge-clause-told c = grind (arith, common_steps, starts)

pub returns-in_err-judge-clause-events : goal.returns-in_err-judge-clause-events
unfolding publisher_fed_judged publisher_run_judged publisher_run_events
returns-in_err-judge-clause-events c =
    simp (sym c.is_image.ensures ∙ c.if-not-is_image.false, refused_first _ _ (is_answer c.args.answer.now) (simp (c.start-started.ensures.state, starts) at c.in_err-judge.ensures))
