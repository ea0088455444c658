use Rattle.std.proofs.Common.{arith}
use Rattle.std.proofs.lemmas.Grind.{common_steps}
use Rattle.master_runs.specs.Page.{page_fed_judged}
use Rattle.plug_answers.specs.Answers.{is_answer}
use Rattle.plug_answers.proofs.Judged.{refused_first}
use Rattle.plug_reader_calls.specs.Page.{page_run_judged, page_run_outcome, page_run_events, page_run_buffer}
use Rattle.plug_reader_calls.proofs.Pages.{starts}
use Rattle.plug_reader_calls.proofs.page.run.Goals as goal

pub returns-in_err-judge-clause-told : goal.returns-in_err-judge-clause-told
unfolding page_fed_judged page_run_judged page_run_outcome
returns-in_err-judge-clause-told c = grind (arith, common_steps, starts)

pub returns-in_err-judge-clause-events : goal.returns-in_err-judge-clause-events
unfolding page_fed_judged page_run_judged page_run_events
returns-in_err-judge-clause-events c = simp (refused_first _ _ (is_answer c.args.answer.now) (simp (c.start-started.ensures.state, starts) at c.in_err-judge.ensures))

pub returns-in_err-judge-clause-buffer : goal.returns-in_err-judge-clause-buffer
unfolding page_fed_judged page_run_judged page_run_buffer
returns-in_err-judge-clause-buffer c = simp (refused_first _ _ (is_answer c.args.answer.now) (simp (c.start-started.ensures.state, starts) at c.in_err-judge.ensures))
