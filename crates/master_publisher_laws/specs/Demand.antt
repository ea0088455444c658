-- Demand 3: one claim about a whole run. It speaks of the definitions to which the contracts of the chip's event entry (event_answer,
-- event_state, event_image, in `next` and `run`), the publisher's start (publisher_answer, publisher_state) and its later calls (call_answer,
-- call_state, in `update_answers`) equate their answers, and of the update's events (`events_in`), which are those that its script sends. It is stated once for every kind
-- of publisher: n is the page count, and the kind says how many events an update has (`total_of`: 1,222 or 678) and which of them is the
-- visible one (`shown_of`: 1,213 or 669).
use Rattle.std.specs.Prelude.{ℕ, ◌+◌, ◌-◌, ◌<◌, ◌≤◌, ◌≡◌, Bool, true, false, cond, List, [], ◌∷◌, ◌++◌, map, ltb, length, get_or, take, replicate}
use Rattle.base_types.specs.Outcome.{accepted, refused}
use Rattle.bus_events.specs.declared.Event.{Event}
use Rattle.bus_events.specs.Events.{reset, pulse, power_loss}
use Rattle.base_types.specs.Verdict.{final}
use Rattle.chip_chain.specs.Walk.{walk_of}
use Rattle.chip_chain_laws.specs.Update.{PageReading, read_of, moved}
use Rattle.bus_scripts.specs.Next.{send, tells, out_of, events_of}
use Rattle.bus_scripts.specs.Joint.{Begins, Good}
use Rattle.master_publisher.specs.declared.Publisher.{Publisher}
use Rattle.master_publisher.specs.Start.{publisher_answer, publisher_state}
use Rattle.chip_entries.specs.Run.{Chip, next, line_at, run}
use Rattle.chip_session_laws.specs.Session.{Ready, Bytes}
use Rattle.master_plan.specs.declared.kind.UpdateKind.{UpdateKind}
use Rattle.master_plan.specs.Kind.{total_of, shown_of}
use Rattle.bus_scripts.specs.Script.{play_on}
use Rattle.master_call_laws.specs.Calls.{update_answers, script_in, events_in}

-- the events that the later calls returned
abbrev pub returned : ℕ → Publisher → List Bool → List Event
returned n s replies = events_of (update_answers n s replies)

-- those that reach the chip: the first m of them and, where there is a cut, one power loss after them
abbrev pub reaching : List Event → ℕ → Bool → List Event
reaching events m false = take m events
reaching events m true = take m events ++ (power_loss ∷ [])

-- what page q reads as on the image then left
abbrev pub read_after : ℕ → Chip → List Event → ℕ → Bool → ℕ → PageReading
read_after n c events m cut q = read_of n (run n c (reaching events m cut)).image q

-- An update of page p of a kind that the start accepted, lent the image of the chip c and the bytes new, with the state s; later calls
-- get the replies. L is s.superseded and T is s.target.
pub record Update (n : ℕ) (kind : UpdateKind) (c : Chip) (new : List ℕ) (p : ℕ) (s : Publisher) (replies : List Bool) : Type 0 where
  -- p ends at L, and is not T
  pub hops : ℕ
  pub asked : walk_of n c.image p ≡ final s.superseded.0 hops
  pub apart : p ≡ s.target.0 → ⊥
  -- whatever the replies and wherever the cut: every page but T reads as at the start while fewer events than the visible one have
  -- reached the chip; from it on each page that ended at L reads Final T, one hop more, and the new bytes, and every other page but T
  -- as at the start
  pub reads : (m : ℕ) (cut : Bool) → m ≤ length (returned n s replies) → (q : ℕ) → q < n → (q ≡ s.target.0 → ⊥)
      → read_after n c (returned n s replies) m cut q
      ≡ cond (ltb m (shown_of kind)) (read_of n c.image q) (moved s.superseded.0 s.target.0 new (read_of n c.image q))
  -- so the page asked for: wholly old, and then wholly new
  pub old : (m : ℕ) (cut : Bool) → m ≤ length (returned n s replies) → m < shown_of kind → read_after n c (returned n s replies) m cut p ≡ read_of n c.image p
  pub changed : (m : ℕ) (cut : Bool) → m ≤ length (returned n s replies) → shown_of kind ≤ m
      → read_after n c (returned n s replies) m cut p ≡ record { verdict = final s.target.0 (hops + 1); bytes = new }
  -- the events returned are the first of the update's, which are so many; the visible one is a pulse
  pub ordered : Begins (events_in s) (returned n s replies)
  pub counted : length (events_in s) ≡ total_of kind
  -- and are those that the update's script sends on this chip, where it ends with L and T
  pub scripted : play_on (next n) (line_at n) (script_in s) c
      ≡ record { events = events_in s; told = accepted (tells (s.superseded.0 ∷ s.target.0 ∷ [])); bytes = [] }
  pub shows : get_or (events_in s) (shown_of kind - 1) reset ≡ pulse
  -- with good replies, and more later calls than events, they return every event of the update, and then L and T
  pub ends : Good (next n) (line_at n) out_of c (update_answers n s replies) replies → total_of kind < length replies
      → update_answers n s replies
      ≡ map (λ (e : Event). accepted (send e)) (events_in s) ++ replicate (length replies - total_of kind) (accepted (tells (s.superseded.0 ∷ s.target.0 ∷ [])))

pub record Demand3 (n : ℕ) (kind : UpdateKind) (c : Chip) (new : List ℕ) (p : ℕ) (replies : List Bool) : Type 0 where
  pub update : publisher_answer n kind c.image new p ≡ accepted [] → Update n kind c new p (publisher_state n kind c.image new p) replies
  -- after a start that refuses, every later call repeats the refusal, and no event is returned
  pub refusal : (k : ℕ) (values : List ℕ) → publisher_answer n kind c.image new p ≡ refused k values
      → update_answers n (publisher_state n kind c.image new p) replies ≡ replicate (length replies) (refused k values)

-- Demand 3 of every chip with n pages that is within its ranges, whatever the kind, the new bytes, the page and the replies. It is
-- proved of every multiple of 8 up to 256, and cited at 64.
abbrev pub Demand3Of : ℕ → Type 0
Demand3Of n = (kind : UpdateKind) (c : Chip) (new : List ℕ) (p : ℕ) (replies : List Bool) → Ready n c → Bytes new → Demand3 n kind c new p replies
