-- Several events one after the other, each on the state and the image that the last one left.
use Rattle.std.specs.Prelude.{ℕ, Bool, true, ◌&&◌, List, [], ◌∷◌, map, eqb, length}
use Rattle.base_types.specs.Bits.{one}
use Rattle.base_types.specs.Outcome.{Outcome, refused, accepted, judge, Done, done, unless_refused}
use Rattle.bus_events.specs.declared.Event.{Event}
use Rattle.bus_events.specs.Codes.{is_event, event_of}
use Rattle.chip_memory.specs.Layout.{is_image}
use Rattle.chip_entries.specs.declared.event.Stage.{Stage}
use Rattle.chip_entries.specs.declared.event.State.{State}
use Rattle.chip_entries.specs.Event.{chip_in_range, event_answer, event_state, event_image}

-- a chip with its memory
pub record Chip : Type 0 where
  pub state : State
  pub image : List ℕ

abbrev pub chip_with : Stage → List ℕ → List ℕ → Chip
chip_with stage number img = record { state = record { stage = stage; number = number }; image = img }

-- the chip after an event, and what the event draws
abbrev pub next : ℕ → Chip → Event → Chip
next n c e = record { state = event_state n c.state e c.image; image = event_image n c.state e c.image }

abbrev pub draws : ℕ → Chip → Event → Outcome Bool
draws n c e = event_answer n c.state e c.image

-- the line that an event draws; a refused event draws none, and the line is then 1
abbrev pub line_of : Outcome Bool → Bool
line_of (accepted reply) = reply
line_of (refused k values) = true

abbrev pub line_at : ℕ → Chip → Event → Bool
line_at n c e = line_of (draws n c e)

-- the chip after events, and what they draw
unfoldable pub run : ℕ → Chip → List Event → Chip
run n c [] = c
run n c (e ∷ es) = run n (next n c e) es

unfoldable pub answers : ℕ → Chip → List Event → List (Outcome Bool)
answers n c [] = []
answers n c (e ∷ es) = draws n c e ∷ answers n (next n c e) es

-- ---- events and replies as bytes

-- the bytes are those of events
unfoldable pub are_events : List ℕ → Bool
are_events [] = true
are_events (c ∷ cs) = is_event c && are_events cs

abbrev pub events_at : List ℕ → List Event
events_at codes = map event_of codes

-- the line after each event
unfoldable pub reply_bytes : ℕ → Chip → List ℕ → List ℕ
reply_bytes n c codes = map (λ (a : Outcome Bool). one (line_of a)) (answers n c (events_at codes))

-- 1; 2 for the state and for a byte that is that of no event; 10 for a buffer that has not a byte for each event
unfoldable pub run_answer : ℕ → State → List ℕ → List ℕ → List ℕ → Outcome Done
run_answer n s codes img replies =
    judge (is_image n img) 1
    (judge (chip_in_range n s.stage && are_events codes) 2
    (judge (eqb (length replies) (length codes)) 10 (accepted done)))

-- the chip after the events, each as the entry for one event has it
unfoldable pub ran_chip : ℕ → State → List ℕ → List ℕ → List ℕ → Chip
ran_chip n s codes img replies =
    unless_refused (run_answer n s codes img replies)
    (run n (record { state = s; image = img }) (events_at codes))
    (record { state = s; image = img })

unfoldable pub ran_replies : ℕ → State → List ℕ → List ℕ → List ℕ → List ℕ
ran_replies n s codes img replies =
    unless_refused (run_answer n s codes img replies) (reply_bytes n (record { state = s; image = img }) codes) replies
