-- The number read's ranges, its start and its later calls. A call takes the reply to the last event (specs/Code/NumberSteps.antt) and tells
-- what the state then reached shows.
use Rattle.std.specs.Prelude.{ℕ, Bool, true, false, cond, List, Result, ltb, replicate}
use Rattle.base_types.specs.declared.refusal.Refusal.{Refusal}
use Rattle.base_types.specs.declared.stepped.Stepped.{Stepped}
use Rattle.base_types.specs.Outcome.{Outcome, judge}
use Rattle.bus_events.specs.declared.Next.{Next as CodeNext}
use Rattle.bus_scripts.specs.Next.{Next, next_outcome}
use Rattle.master_number.specs.declared.Phase.{Phase}
use Rattle.master_number.specs.declared.Phase.TheVariants.{Begin, Presence, Command, Receive, Closing, Done, Stopped}
use Rattle.master_number.specs.declared.NumberRead.{NumberRead}
use Rattle.master_number.specs.Number.{crc_fits, family_fits}
use Rattle.master_number.specs.Code.NumberSteps.{number_next, number_phase_answer}

-- ---- ranges

unfoldable pub number_receive_in_range : ℕ → ℕ → Bool
number_receive_in_range k left = cond (ltb left 1) false (cond (ltb 8 left) false (ltb k 8))

-- the bytes are a number that the read accepts
unfoldable pub is_number : List ℕ → Bool
is_number bytes = cond (crc_fits bytes) (family_fits bytes) false

unfoldable pub number_phase_in_range : Phase → List ℕ → Bool
number_phase_in_range Begin bytes = true
number_phase_in_range Presence bytes = true
number_phase_in_range (Command i) bytes = ltb i 8
number_phase_in_range (Receive k left v) bytes = number_receive_in_range k left
number_phase_in_range Closing bytes = is_number bytes
number_phase_in_range Done bytes = is_number bytes
number_phase_in_range (Stopped cause) bytes = true

abbrev pub number_in_range : NumberRead → Bool
number_in_range s = number_phase_in_range s.phase s.bytes

-- ---- the calls

abbrev pub number_begun : NumberRead
number_begun = record { phase = Begin; bytes = replicate 8 0 }

-- what an answer tells; the end tells the number's eight bytes
abbrev pub answer_outcome : Result (CodeNext (List ℕ)) Refusal → Outcome Next
answer_outcome = next_outcome (λ bytes. bytes)

abbrev pub number_outcome : Stepped (Result (CodeNext (List ℕ)) Refusal) NumberRead → Outcome Next
number_outcome r = answer_outcome r.answer

-- 2, or what is told on the way into the state that the reply leads to
unfoldable pub number_answer : NumberRead → Bool → Outcome Next
number_answer s reply = judge (number_in_range s) 2 (answer_outcome (number_phase_answer (number_next s reply).phase (number_next s reply).bytes))

unfoldable pub number_state : NumberRead → Bool → NumberRead
number_state s reply = cond (number_in_range s) (number_next s reply) s
