-- The judgement of a run as its definition has it: what the run judges, and the answer's buffer.
use Prim.Native.Nat.{ℕ}
use mathlib.Core.Path.{◌≡◌, refl, ◌∙◌}
use mathlib.Core.Bool.{true}
use mathlib.Core.List.{List}
use Rattle.base_types.specs.Outcome.{Outcome, refused, accepted, Done, done, following}
use Rattle.master_number.specs.NumberRead as number
use Rattle.master_runs.specs.Calls.{are_replies, as_many}
use Rattle.master_runs.specs.Number.{number_fed_judged}
use Rattle.plug_answers.specs.Answers.{is_answer}
use Rattle.plug_answers.specs.Calls.{answer_judged}
use Rattle.plug_answers.proofs.Judged.{answer_judged_lem}
use Rattle.plug_reader_calls.specs.Number.{number_run_judged}

module _ (replies events answer : List ℕ) where
  pub number_judged_lem : following (number_fed_judged number.number_begun replies events) (answer_judged answer (accepted done)) ≡ number_run_judged replies events answer
  unfolding number_fed_judged number_run_judged number.number_phase_in_range
  number_judged_lem = answer_judged_lem true (are_replies replies) (as_many replies events) (is_answer answer) (accepted done) ∙ whole _
    where
      whole : (j : Outcome Done) → following j (accepted done) ≡ j
      whole (accepted done) = refl
      whole (refused n vs) = refl
