-- The number read's state as 24 bytes: the phase in eight bytes, eight zero bytes, and the eight bytes that have come in.
use Rattle.std.specs.Prelude.{ℕ, Bool, cond, List, [], ◌∷◌, ◌++◌, eqb, length, get_or, replicate}
use Rattle.base_types.specs.Outcome.{Outcome, Done}
use Rattle.master_number.specs.declared.Phase.{Phase}
use Rattle.master_number.specs.declared.Phase.TheVariants.{Begin, Presence, Command, Receive, Closing, Done as Ended, Stopped}
use Rattle.master_number.specs.declared.NumberRead.{NumberRead}
use Rattle.master_number.specs.declared.NumberStop.{NumberStop}
use Rattle.master_number.specs.declared.NumberStop.TheVariants.{NoPresence, Crc8, Family}
use Rattle.master_number.specs.Number.{number_stop}
use Rattle.plug_fields.specs.Fields.{front, rest_at, is_copy, Inverse, judged_by, buffer_outcome, buffer_after, refusal_bytes}

-- ---- the layout

unfoldable pub phase_bytes : Phase → List ℕ
phase_bytes Begin = 0 ∷ []
phase_bytes Presence = 1 ∷ []
phase_bytes (Command i) = 2 ∷ i ∷ []
phase_bytes (Receive k left register) = 3 ∷ k ∷ left ∷ register ∷ []
phase_bytes Closing = 4 ∷ []
phase_bytes Ended = 5 ∷ []
phase_bytes (Stopped cause) = 6 ∷ refusal_bytes (number_stop cause)

unfoldable pub number_bytes : NumberRead → List ℕ
number_bytes s = front 8 (phase_bytes s.phase) [] ++ s.bytes

-- ---- the state of any bytes; a tag that is that of none counts as another one

unfoldable pub number_stop_of : ℕ → NumberStop
number_stop_of number = cond (eqb number 14) Crc8 (cond (eqb number 15) Family NoPresence)

unfoldable pub phase_of : List ℕ → Phase
phase_of b =
    cond (eqb (get_or b 0 0) 1) Presence
    (cond (eqb (get_or b 0 0) 2) (Command (get_or b 1 0))
    (cond (eqb (get_or b 0 0) 3) (Receive (get_or b 1 0) (get_or b 2 0) (get_or b 3 0))
    (cond (eqb (get_or b 0 0) 4) Closing
    (cond (eqb (get_or b 0 0) 5) Ended
    (cond (eqb (get_or b 0 0) 6) (Stopped (number_stop_of (get_or b 1 0)))
    Begin)))))

abbrev pub number_at : List ℕ → Phase → NumberRead
number_at b phase = record { phase = phase; bytes = rest_at 8 b }

-- of bytes of another length
abbrev pub number_none : NumberRead
number_none = record { phase = Begin; bytes = replicate 8 0 }

unfoldable pub number_read_of : List ℕ → NumberRead
number_read_of b = cond (eqb (length b) 24) (number_at b (phase_of b)) number_none

-- the bytes are those of a state
unfoldable pub is_number_state : List ℕ → Bool
is_number_state b = is_copy 24 (number_bytes (number_read_of b)) b

-- 2, or accepted
unfoldable pub number_judged : List ℕ → Outcome Done
number_judged b = judged_by (is_number_state b)

-- a state into a buffer of 24 bytes: 10, or accepted; a refusal leaves the buffer
unfoldable pub number_packed : List ℕ → Outcome Done
number_packed buffer = buffer_outcome 24 buffer

unfoldable pub number_buffer : NumberRead → List ℕ → List ℕ
number_buffer s buffer = buffer_after 24 (number_bytes s) buffer

-- packing and unpacking are inverse
abbrev pub NumberPacking : Type 0
NumberPacking = Inverse 8 number_bytes (λ s. s.bytes) number_read_of is_number_state
