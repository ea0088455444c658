-- The page read's state as 48 bytes: the phase in eight bytes, the page, the hops, six zero bytes, and the 32 bytes of the page that have
-- come in.
use Rattle.std.specs.Prelude.{ℕ, Bool, cond, List, [], ◌∷◌, ◌++◌, eqb, length, get_or, replicate}
use Rattle.base_types.specs.Outcome.{Outcome, Done}
use Rattle.master_page.specs.declared.Part.{Part}
use Rattle.master_page.specs.declared.Part.TheVariants.{Redirection, RedirectionCrc, Data, DataCrc}
use Rattle.master_page.specs.declared.Phase.{Phase}
use Rattle.master_page.specs.declared.Phase.TheVariants.{Begin, Presence, Command, Receive, Closing, Done as Ended, Stopped}
use Rattle.master_page.specs.declared.PageRead.{PageRead}
use Rattle.master_page.specs.declared.PageStop.{PageStop}
use Rattle.master_page.specs.declared.PageStop.TheVariants.{PageNumber, Loop, Outside, Crc16, NoPresence}
use Rattle.master_page.specs.Page.{page_stop}
use Rattle.plug_fields.specs.Fields.{word, joined, front, rest_at, is_copy, Inverse, judged_by, buffer_outcome, buffer_after, refusal_bytes}

-- ---- the layout

unfoldable pub part_bytes : Part → List ℕ
part_bytes Redirection = 0 ∷ []
part_bytes (RedirectionCrc b) = 1 ∷ b.0 ∷ []
part_bytes (Data k) = 2 ∷ k ∷ []
part_bytes DataCrc = 3 ∷ []

unfoldable pub phase_bytes : Phase → List ℕ
phase_bytes Begin = 0 ∷ []
phase_bytes Presence = 1 ∷ []
phase_bytes (Command i) = 2 ∷ i ∷ []
phase_bytes (Receive part left register) = 3 ∷ left ∷ word register ++ part_bytes part
phase_bytes Closing = 4 ∷ []
phase_bytes Ended = 5 ∷ []
phase_bytes (Stopped cause) = 6 ∷ refusal_bytes (page_stop cause)

unfoldable pub page_read_bytes : PageRead → List ℕ
page_read_bytes s = front 8 (phase_bytes s.phase) (s.page.0 ∷ s.hops ∷ []) ++ s.bytes

-- ---- the state of any bytes; a tag that is that of none counts as another one

unfoldable pub part_of : List ℕ → Part
part_of b =
    cond (eqb (get_or b 4 0) 0) Redirection
    (cond (eqb (get_or b 4 0) 1) (RedirectionCrc (record { 0 = get_or b 5 0 }))
    (cond (eqb (get_or b 4 0) 2) (Data (get_or b 5 0))
    DataCrc))

unfoldable pub page_stop_of : ℕ → ℕ → PageStop
page_stop_of number value =
    cond (eqb number 3) PageNumber
    (cond (eqb number 4) Loop
    (cond (eqb number 5) (Outside value)
    (cond (eqb number 6) Crc16
    NoPresence)))

unfoldable pub phase_of : List ℕ → Phase
phase_of b =
    cond (eqb (get_or b 0 0) 1) Presence
    (cond (eqb (get_or b 0 0) 2) (Command (get_or b 1 0))
    (cond (eqb (get_or b 0 0) 3) (Receive (part_of b) (get_or b 1 0) (joined (get_or b 2 0) (get_or b 3 0)))
    (cond (eqb (get_or b 0 0) 4) Closing
    (cond (eqb (get_or b 0 0) 5) Ended
    (cond (eqb (get_or b 0 0) 6) (Stopped (page_stop_of (get_or b 1 0) (get_or b 2 0)))
    Begin)))))

abbrev pub page_at : List ℕ → Phase → PageRead
page_at b phase = record { phase = phase; page = record { 0 = get_or b 8 0 }; hops = get_or b 9 0; bytes = rest_at 32 b }

-- of bytes of another length
abbrev pub page_none : PageRead
page_none = record { phase = Begin; page = record { 0 = 0 }; hops = 0; bytes = replicate 32 0 }

unfoldable pub page_read_of : List ℕ → PageRead
page_read_of b = cond (eqb (length b) 48) (page_at b (phase_of b)) page_none

-- the bytes are those of a state
unfoldable pub is_page_state : List ℕ → Bool
is_page_state b = is_copy 48 (page_read_bytes (page_read_of b)) b

-- 2, or accepted
unfoldable pub page_judged : List ℕ → Outcome Done
page_judged b = judged_by (is_page_state b)

-- a state into a buffer of 48 bytes: 10, or accepted; a refusal leaves the buffer
unfoldable pub page_packed : List ℕ → Outcome Done
page_packed buffer = buffer_outcome 48 buffer

unfoldable pub page_buffer : PageRead → List ℕ → List ℕ
page_buffer s buffer = buffer_after 48 (page_read_bytes s) buffer

-- packing and unpacking are inverse
abbrev pub PagePacking : Type 0
PagePacking = Inverse 32 page_read_bytes (λ s. s.bytes) page_read_of is_page_state
