-- The chip's entries, over the page count n.
use Rattle.std.specs.Prelude.{ℕ, cond, ◌&&◌, List, eqb, length}
use Rattle.base_types.specs.Outcome.{Outcome, judge, Done, unless_refused, following, in_order}
use Rattle.chip_memory.specs.Layout.{is_image}
use Rattle.chip_entries.specs.declared.event.State.{State}
use Rattle.chip_entries.specs.Event.{power_up}
use Rattle.chip_entries.specs.Run.{are_events, run_answer, ran_chip, ran_replies}
use Rattle.plug_chip_packing.specs.Chip.{chip_state_of, chip_judged, chip_packed, chip_buffer}
use Rattle.plug_answers.specs.Answers.{is_number_buffer, eight_of}

-- ---- a whole run from power-up

-- 1; 2 for a byte that is that of no event; 10 for the number and for a buffer that has not a byte for each event
unfoldable pub whole_answer : ℕ → List ℕ → List ℕ → List ℕ → List ℕ → Outcome Done
whole_answer n number codes img replies =
    in_order (is_image n img) (are_events codes) (is_number_buffer number && eqb (length replies) (length codes))

unfoldable pub whole_image : ℕ → List ℕ → List ℕ → List ℕ → List ℕ → List ℕ
whole_image n number codes img replies = cond (is_number_buffer number) (ran_chip n (power_up (eight_of number)) codes img replies).image img

unfoldable pub whole_replies : ℕ → List ℕ → List ℕ → List ℕ → List ℕ → List ℕ
whole_replies n number codes img replies = cond (is_number_buffer number) (ran_replies n (power_up (eight_of number)) codes img replies) replies

-- ---- step by step

-- 10 for the number and for the state's buffer
unfoldable pub power_answer : List ℕ → List ℕ → Outcome Done
power_answer number state = judge (is_number_buffer number) 10 (chip_packed state)

unfoldable pub power_state : List ℕ → List ℕ → List ℕ
power_state number state = cond (is_number_buffer number) (chip_buffer (power_up (eight_of number)) state) state

-- events on the state that bytes hold: 2 for bytes that are no state; then 1, 2 and 10 as the chip's own; a refusal changes nothing
unfoldable pub events_answer : ℕ → List ℕ → List ℕ → List ℕ → List ℕ → Outcome Done
events_answer n state codes img replies =
    judge (is_image n img) 1 (following (chip_judged state) (run_answer n (chip_state_of state) codes img replies))

unfoldable pub chip_left : ℕ → State → List ℕ → List ℕ → List ℕ → List ℕ → List ℕ
chip_left n s codes img replies state =
    unless_refused (run_answer n s codes img replies) (chip_buffer (ran_chip n s codes img replies).state state) state

unfoldable pub events_state : ℕ → List ℕ → List ℕ → List ℕ → List ℕ → List ℕ
events_state n state codes img replies =
    cond (is_image n img) (unless_refused (chip_judged state) (chip_left n (chip_state_of state) codes img replies state) state) state

unfoldable pub events_image : ℕ → List ℕ → List ℕ → List ℕ → List ℕ → List ℕ
events_image n state codes img replies =
    cond (is_image n img) (unless_refused (chip_judged state) (ran_chip n (chip_state_of state) codes img replies).image img) img

unfoldable pub events_replies : ℕ → List ℕ → List ℕ → List ℕ → List ℕ → List ℕ
events_replies n state codes img replies =
    cond (is_image n img) (unless_refused (chip_judged state) (ran_replies n (chip_state_of state) codes img replies) replies) replies
