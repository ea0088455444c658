-- What the chip's entries judge: the state at power-up is within its ranges, and bytes that hold a state have room for one.
use Prim.Native.Nat.{ℕ}
use mathlib.Core.Path.{◌≡◌}
use mathlib.Core.Bool.{true}
use mathlib.Core.List.{List}
use native.Mathlib.Omega.{arith}
use Rattle.base_types.specs.Outcome.{accepted, done}
use Rattle.chip_function.specs.Ranges.{memory_in_range}
use Rattle.chip_entries.specs.Event.{power_up, chip_in_range}
use Rattle.chip_entries.specs.Run.{run_answer}
use Rattle.plug_fields.specs.Fields.{is_copy, buffer_outcome}
use Rattle.plug_chip_packing.specs.Chip.{is_chip_state, chip_packed}
use Rattle.plug_answers.specs.Answers.{is_number_buffer, eight_of}
use Rattle.plug_chip_calls.specs.Chip.{whole_answer}

pub whole_judged : (number codes img replies : List ℕ) → is_number_buffer number ≡ true
    → run_answer 64 (power_up (eight_of number)) codes img replies ≡ whole_answer 64 number codes img replies
unfolding run_answer whole_answer power_up chip_in_range memory_in_range
whole_judged number codes img replies e = simp e

pub packed_back : (bytes : List ℕ) → is_chip_state bytes ≡ true → chip_packed bytes ≡ accepted done
unfolding is_chip_state is_copy chip_packed buffer_outcome
packed_back bytes e = grind (arith, e)
