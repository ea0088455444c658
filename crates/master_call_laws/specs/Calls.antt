-- The publisher's later calls one after the other, over the page count n.
use Rattle.std.specs.Prelude.{ℕ, ◌≡◌, Bool, true, false, List, [], ◌↔◌, length}
use Rattle.base_types.specs.Outcome.{Outcome, refused}
use Rattle.base_types.specs.declared.write_mode.WriteMode.TheVariants.{Quick}
use Rattle.bus_events.specs.declared.Event.{Event}
use Rattle.bus_scripts.specs.Next.{Next, out_of, events_of}
use Rattle.bus_scripts.specs.Joint as joint
use Rattle.bus_scripts.specs.Joint.{Begins, Good}
use Rattle.bus_scripts.specs.Script.{Script, play, played_telling}
use Rattle.master_plan.specs.declared.kind.UpdateKind.{UpdateKind}
use Rattle.master_plan.specs.Plan.{plan_of, step_events}
use Rattle.master_publisher.specs.declared.Stage.TheVariants.{Running}
use Rattle.master_publisher.specs.declared.Publisher.{Publisher}
use Rattle.master_publisher.specs.Start.{choice_of, publisher_state}
use Rattle.master_publisher.specs.Call.{publisher_in_range, call_answer, call_state}
use Rattle.master_call_laws.specs.Ranges.{tells_number, PublisherListed}
use Rattle.master_call_laws.specs.Script.{update_script, publisher_script}

-- the answers to calls, one for each reply, each on the state last handed back
abbrev pub update_answers : ℕ → Publisher → List Bool → List (Outcome Next)
update_answers n s replies = joint.answers (call_state n) (call_answer n) s replies

-- a state that a start hands back which accepts: nothing has been sent yet
pub record Started (n : ℕ) (s : Publisher) : Type 0 where
  pub stage : s.stage ≡ Running 0 true
  pub ranged : publisher_in_range n s ≡ true
  pub long : length s.new ≡ 32

-- the update of such a state, and its events
abbrev pub script_in : Publisher → Script
script_in s = update_script s.kind s.superseded.0 s.target.0 s.used s.new

abbrev pub events_in : Publisher → List Event
events_in s = step_events (plan_of s.kind s.superseded.0 s.target.0 s.used s.new)

pub record CallLaws (n : ℕ) : Type 1 where
  -- every start and every call keep to the ranges
  pub starts : (kind : UpdateKind) (img new : List ℕ) (p : ℕ) → publisher_in_range n (publisher_state n kind img new p) ≡ true
  pub keeps : (s : Publisher) (reply : Bool) → publisher_in_range n s ≡ true → publisher_in_range n (call_state n s reply) ≡ true
  -- the ranges are those listed; 2 is told of a state outside them, which comes back the same, and of no other
  pub listed : (s : Publisher) → (publisher_in_range n s ≡ true) ↔ PublisherListed n s
  pub outside : (s : Publisher) (reply : Bool) → publisher_in_range n s ≡ false → (call_answer n s reply ≡ refused 2 []) × (call_state n s reply ≡ s)
  pub never_2 : (s : Publisher) (reply : Bool) (values : List ℕ) → publisher_in_range n s ≡ true → call_answer n s reply ≡ refused 2 values → ⊥
  -- what else is told by a refusal has one of these numbers
  pub numbers : (s : Publisher) (reply : Bool) (number : ℕ) (values : List ℕ) → publisher_in_range n s ≡ true → call_answer n s reply ≡ refused number values
      → tells_number s.kind.mode number ≡ true
  -- in the quick mode 6 is never told, whatever the state and the reply
  pub no_crc : (s : Publisher) (reply : Bool) (values : List ℕ) → s.kind.mode ≡ Quick → call_answer n s reply ≡ refused 6 values → ⊥
  -- from every start, refused ones too, whatever the replies, the calls tell what the script does
  pub plays : (kind : UpdateKind) (img new : List ℕ) (p : ℕ) (replies : List Bool)
      → update_answers n (publisher_state n kind img new p) replies ≡ play (publisher_script n kind img new (choice_of n kind.placement img new p)) replies
  -- and so from every state as an accepting start hands it back, whatever pages and bytes it holds
  pub plays_started : (s : Publisher) (replies : List Bool) → Started n s → update_answers n s replies ≡ play (script_in s) replies
  -- whatever the replies, the events are the first of the update's
  pub ordered : (s : Publisher) (replies : List Bool) → Started n s → Begins (events_in s) (events_of (update_answers n s replies))
  -- joined to any bus, it does what the script does there
  pub plays_on : {B : Type 0} (react : B → Event → B) (line : B → Event → Bool) (s : Publisher) (b : B) (replies : List Bool) → Started n s
      → Good react line out_of b (update_answers n s replies) replies
      → update_answers n s replies ≡ played_telling react line (script_in s) b (length replies)
