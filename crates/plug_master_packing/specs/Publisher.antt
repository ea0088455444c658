-- The publisher's state as 48 bytes: the stage in eight bytes, L, T, T's bitmap byte as found, the mode of the kind (there is one kind for
-- each mode), four zero bytes, and the 32 new bytes.
use Rattle.std.specs.Prelude.{ℕ, Bool, cond, List, [], ◌∷◌, ◌++◌, eqb, length, get_or, replicate}
use Rattle.base_types.specs.Outcome.{Outcome, Done}
use Rattle.base_types.specs.Bits.{one}
use Rattle.master_publisher.specs.declared.Stage.{Stage}
use Rattle.master_publisher.specs.declared.Stage.TheVariants.{Running, Done as Ended, Stopped}
use Rattle.master_publisher.specs.declared.Publisher.{Publisher}
use Rattle.master_plan.specs.Kind.{kind_of, ordinary}
use Rattle.master_publisher.specs.Stop.{publisher_refusal}
use Rattle.master_publisher.specs.declared.PublisherStop.{PublisherStop}
use Rattle.master_publisher.specs.declared.PublisherStop.TheVariants.{ImageLength, PageNumber, Loop, Outside, Crc16, ReadBack, NoFreePage}
use Rattle.master_publisher.specs.declared.PublisherStop.TheVariants.{RedirectionProtected, BufferLength, NoPresence, DataProtected}
use Rattle.plug_fields.specs.Fields.{word, joined, front, rest_at, is_copy, Inverse, judged_by, buffer_outcome, buffer_after, mode_byte, mode_of}
use Rattle.plug_fields.specs.Fields.{refusal_bytes}

-- ---- the layout

unfoldable pub stage_bytes : Stage → List ℕ
stage_bytes (Running k good) = 0 ∷ word k ++ one good ∷ []
stage_bytes Ended = 1 ∷ []
stage_bytes (Stopped stop) = 2 ∷ refusal_bytes (publisher_refusal stop)

unfoldable pub publisher_bytes : Publisher → List ℕ
publisher_bytes s = front 8 (stage_bytes s.stage) (s.superseded.0 ∷ s.target.0 ∷ s.used ∷ mode_byte s.kind.mode ∷ []) ++ s.new

-- ---- the state of any bytes; a tag that is that of none counts as another one

-- what stopped an update, of a refusal's number and value
unfoldable pub stop_of : ℕ → ℕ → PublisherStop
stop_of number value =
    cond (eqb number 3) PageNumber
    (cond (eqb number 4) Loop
    (cond (eqb number 5) (Outside value)
    (cond (eqb number 6) Crc16
    (cond (eqb number 7) ReadBack
    (cond (eqb number 8) NoFreePage
    (cond (eqb number 9) (RedirectionProtected (record { 0 = value }))
    (cond (eqb number 10) BufferLength
    (cond (eqb number 13) NoPresence
    (cond (eqb number 20) (DataProtected (record { 0 = value }))
    ImageLength)))))))))

unfoldable pub stage_of : List ℕ → Stage
stage_of b =
    cond (eqb (get_or b 0 0) 0) (Running (joined (get_or b 1 0) (get_or b 2 0)) (eqb (get_or b 3 0) 1))
    (cond (eqb (get_or b 0 0) 2) (Stopped (stop_of (get_or b 1 0) (get_or b 2 0)))
    Ended)

abbrev pub publisher_at : List ℕ → Stage → Publisher
publisher_at b stage =
    record {
      kind = kind_of (mode_of (get_or b 11 0));
      stage = stage;
      superseded = record { 0 = get_or b 8 0 };
      target = record { 0 = get_or b 9 0 };
      used = get_or b 10 0;
      new = rest_at 32 b;
    }

-- of bytes of another length
abbrev pub publisher_none : Publisher
publisher_none = record { kind = ordinary; stage = Ended; superseded = record { 0 = 0 }; target = record { 0 = 0 }; used = 0; new = replicate 32 0 }

unfoldable pub publisher_of : List ℕ → Publisher
publisher_of b = cond (eqb (length b) 48) (publisher_at b (stage_of b)) publisher_none

-- the bytes are those of a state
unfoldable pub is_publisher_state : List ℕ → Bool
is_publisher_state b = is_copy 48 (publisher_bytes (publisher_of b)) b

-- 2, or accepted
unfoldable pub publisher_judged : List ℕ → Outcome Done
publisher_judged b = judged_by (is_publisher_state b)

-- a state into a buffer of 48 bytes: 10, or accepted; a refusal leaves the buffer
unfoldable pub publisher_packed : List ℕ → Outcome Done
publisher_packed buffer = buffer_outcome 48 buffer

unfoldable pub publisher_buffer : Publisher → List ℕ → List ℕ
publisher_buffer s buffer = buffer_after 48 (publisher_bytes s) buffer

-- packing and unpacking are inverse
abbrev pub PublisherPacking : Type 0
PublisherPacking = Inverse 32 publisher_bytes (λ s. s.new) publisher_of is_publisher_state
