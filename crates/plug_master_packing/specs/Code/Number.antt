-- The bytes from a place of a number read's state to the end of the enum's are those of what stands there.
use Rattle.std.specs.Prelude.{List, Bool, ℕ}
use Rattle.master_number.specs.Number.{number_stop}
use Rattle.plug_fields.specs.Fields.{padded, same, is_refusal}
use Rattle.plug_master_packing.specs.Number.{phase_bytes, phase_of, number_stop_of}

unfoldable pub phase_own : List ℕ → Bool
phase_own b = same 0 (padded 8 (phase_bytes (phase_of b))) b

-- a number and a value are those of the refusal of what stopped it
unfoldable pub stop_own : ℕ → ℕ → Bool
stop_own number value = is_refusal (number_stop (number_stop_of number)) number value
