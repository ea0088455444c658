-- A whole update on an image: the publisher joined to a chip, and what the image then reads as. n is the page count.
use Rattle.std.specs.Prelude.{ℕ, ◌<◌, ◌≤◌, ◌≡◌, Bool, true, false, cond, List, [], ◌∷◌, Result, Ok, Err, ltb}
use Rattle.base_types.specs.Outcome.{Outcome, accepted, refusing}
use Rattle.base_types.specs.declared.address.Page.{Page}
use Rattle.base_types.specs.declared.refusal.Refusal.{Refusal}
use Rattle.master_plan.specs.declared.kind.UpdateKind.{UpdateKind}
use Rattle.bus_scripts.specs.Next.{Next, out_of}
use Rattle.bus_scripts.specs.Joint.{reached, drew, drawn_replies}
use Rattle.chip_chain_laws.specs.Update.{read_of, moved}
use Rattle.master_publisher.specs.declared.Publisher.{Publisher}
use Rattle.master_publisher.specs.declared.Stage.{Stage}
use Rattle.master_publisher.specs.declared.Stage.TheVariants.{Running, Done, Stopped}
use Rattle.master_publisher.specs.Stop.{publisher_refusal}
use Rattle.master_publisher.specs.Start.{Choice, choice_of, publisher_state}
use Rattle.master_publisher.specs.Call.{call_answer, call_state}
use Rattle.chip_entries.specs.Event.{power_up}
use Rattle.chip_entries.specs.Run.{Chip, next, line_at, run}
use Rattle.master_plan.specs.Kind.{total_of, shown_of}
use Rattle.master_plan_laws.specs.Plan.{image_left}
use Rattle.master_publisher_laws.specs.Demand.{returned}
use Rattle.master_update.specs.declared.Joined.{Joined}

-- the chip of a joined pair, with its memory
abbrev pub chip_of : Joined → List ℕ → Chip
chip_of j img = record { state = j.chip; image = img }

-- what a call told is handed on: an event reaches the chip
unfoldable pub handed_on : ℕ → Joined → Outcome Next → List ℕ → Joined
handed_on n j answer img =
    record {
      publisher = j.publisher;
      chip = (reached (next n) (line_at n) (out_of answer) (chip_of j img)).state;
      reply = drew (next n) (line_at n) (out_of answer) (chip_of j img) j.reply;
    }

unfoldable pub handed_image : ℕ → Joined → Outcome Next → List ℕ → List ℕ
handed_image n j answer img = (reached (next n) (line_at n) (out_of answer) (chip_of j img)).image

-- one later call, with the reply that the last event drew
abbrev pub calling : ℕ → Joined → Joined
calling n j = record { publisher = call_state n j.publisher j.reply; chip = j.chip; reply = j.reply }

unfoldable pub called : ℕ → Joined → List ℕ → Joined
called n j img = handed_on n (calling n j) (call_answer n j.publisher j.reply) img

unfoldable pub image_called : ℕ → Joined → List ℕ → List ℕ
image_called n j img = handed_image n (calling n j) (call_answer n j.publisher j.reply) img

-- a publisher that has not ended
unfoldable pub is_running : Stage → Bool
is_running (Running k good) = true
is_running Done = false
is_running (Stopped r) = false

-- the replies that so many later calls get, and the image after the events that they return
abbrev pub replies_for : ℕ → ℕ → Joined → List ℕ → List Bool
replies_for n k j img = drawn_replies (next n) (line_at n) out_of (call_state n) (call_answer n) k j.publisher (chip_of j img) j.reply

unfoldable pub run_for : ℕ → ℕ → Joined → List ℕ → List ℕ
run_for n k j img = (run n (chip_of j img) (returned n j.publisher (replies_for n k j img))).image

-- before the first call: the start's state, and a chip at power-up; the first reply is not looked at
abbrev pub opened : Publisher → List ℕ → Joined
opened s number = record { publisher = s; chip = power_up number; reply = true }

-- ---- the whole update

abbrev pub update_outcome : Result (Page × Page) Refusal → Outcome (List ℕ)
update_outcome (Ok pages) = accepted (pages.0.0 ∷ pages.1.0 ∷ [])
update_outcome (Err r) = refusing r

abbrev pub choice_answer : Choice → Outcome (List ℕ)
choice_answer (Ok pages) = accepted (pages.0.0 ∷ pages.1.0 ∷ [])
choice_answer (Err stop) = refusing (publisher_refusal stop)

-- 1, 10, 3, 4, 5, 20, 9, 8, or L and T
abbrev pub update_answer : ℕ → UpdateKind → List ℕ → List ℕ → ℕ → Outcome (List ℕ)
update_answer n kind img new p = choice_answer (choice_of n kind.placement img new p)

-- a start that refuses has a state that returns no event
abbrev pub updated_image : ℕ → UpdateKind → List ℕ → List ℕ → List ℕ → ℕ → ℕ → List ℕ
updated_image n kind number img new p events = run_for n events (opened (publisher_state n kind img new p) number) img

-- What the image then reads as: after a refusal it is the image as it was; else every page but T reads as at the start while fewer events
-- than the visible one have been let through, and from it on as demand 3 says; and where all have been let through, it is the image that a
-- whole update leaves, which is the same in every kind.
pub record ReadsAs (n : ℕ) (kind : UpdateKind) (img new : List ℕ) (p events : ℕ) (after : List ℕ) : Type 0 where
  pub refused : (k : ℕ) (values : List ℕ) → update_answer n kind img new p ≡ Rattle.base_types.specs.Outcome.refused k values → after ≡ img
  pub reads : (l t : Page) → choice_of n kind.placement img new p ≡ Ok (l, t) → (q : ℕ) → q < n → (q ≡ t.0 → ⊥)
      → read_of n after q ≡ cond (ltb events (shown_of kind)) (read_of n img q) (moved l.0 t.0 new (read_of n img q))
  pub whole : (l t : Page) → choice_of n kind.placement img new p ≡ Ok (l, t) → total_of kind ≤ events → after ≡ image_left n img new l t
