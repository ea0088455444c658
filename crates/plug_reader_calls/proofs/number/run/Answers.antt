use Rattle.std.proofs.Common.{arith}
use Rattle.std.proofs.lemmas.Grind.{common_steps}
use Rattle.master_number.specs.NumberRead.{number_phase_in_range}
use Rattle.master_runs.specs.Number.{number_fed_judged}
use Rattle.plug_answers.specs.Answers.{is_answer}
use Rattle.plug_answers.proofs.Judged.{refused_first}
use Rattle.plug_reader_calls.specs.Number.{number_run_judged, number_run_outcome, number_run_events}
use Rattle.plug_reader_calls.proofs.number.run.Goals as goal

pub returns-in_err-judge-clause-told : goal.returns-in_err-judge-clause-told
unfolding number_phase_in_range number_fed_judged number_run_judged number_run_outcome
returns-in_err-judge-clause-told c = grind (arith, common_steps)

pub returns-in_err-judge-clause-events : goal.returns-in_err-judge-clause-events
unfolding number_phase_in_range number_fed_judged number_run_judged number_run_events
returns-in_err-judge-clause-events c = simp (refused_first _ _ (is_answer c.args.answer.now) (simp c.start-start.ensures at c.in_err-judge.ensures))
