-- The number read over whole runs: whatever the replies, and joined to a chip.
use Rattle.std.specs.Prelude.{ℕ, ◌≡◌, Bool, true, false, cond, ◌&&◌, List, [], ◌∷◌, ◌++◌, ◌↔◌, length}
use Rattle.base_types.specs.Bits.{bits_of_bytes}
use Rattle.base_types.specs.Outcome.{Outcome, refused, accepted, judge}
use Rattle.bus_events.specs.declared.Event.{Event}
use Rattle.bus_events.specs.Events.{reset}
use Rattle.bus_events.specs.Slots.{sending, reading}
use Rattle.bus_scripts.specs.Next.{Next, tells, out_of, events_of}
use Rattle.bus_scripts.specs.Joint.{Begins, Good}
use Rattle.bus_scripts.specs.Joint as joint
use Rattle.bus_scripts.specs.Script.{play, telling, played_telling}
use Rattle.master_number.specs.declared.NumberRead.{NumberRead}
use Rattle.master_number.specs.NumberRead.{number_in_range, number_begun, number_answer, number_state}
use Rattle.chip_entries.specs.Run.{Chip, next, run, line_at}
use Rattle.chip_session_laws.specs.Session.{Ready, Bytes}
use Rattle.master_number_laws.specs.Ranges.{NumberListed}
use Rattle.master_number_laws.specs.Script.{crc8_agrees, family_agrees}
use Rattle.master_number_laws.specs.Script.{number_script}

-- the answers to calls, each with its reply, from a state on
abbrev pub number_answers_to : NumberRead → List Bool → List (Outcome Next)
number_answers_to s replies = joint.answers number_state number_answer s replies

-- reset, 33h, 64 read slots; and the closing reset, where the number is accepted
abbrev pub number_slots : List Event
number_slots = (reset ∷ sending (0x33 ∷ [])) ++ reading 64

abbrev pub number_events : List Event
number_events = number_slots ++ (reset ∷ [])

-- The replies of a run that told these bytes: one that is not looked at, presence, eight that are not looked at, the bytes, presence;
-- and the bytes agree with their CRC-8 and are of the family.
pub record NumberAgreed (replies : List Bool) (bytes : List ℕ) : Type 0 where
  pub first : Bool
  pub ignored : List Bool
  pub rest : List Bool
  pub is : replies ≡ first ∷ ((false ∷ (ignored ++ (bits_of_bytes bytes ++ (false ∷ [])))) ++ rest)
  pub command : length ignored ≡ 8
  pub eight : length bytes ≡ 8
  pub small : Bytes bytes
  pub crc : crc8_agrees bytes ≡ true
  pub family : family_agrees bytes ≡ true

-- what the read of a number tells: 14, 15, or the number; and the events that it sends
abbrev pub number_verdict : List ℕ → Outcome Next
number_verdict number = judge (crc8_agrees number) 14 (judge (family_agrees number) 15 (accepted (tells number)))

abbrev pub number_events_for : List ℕ → List Event
number_events_for number = cond (crc8_agrees number && family_agrees number) number_events number_slots

pub record NumberLaws (n : ℕ) : Type 1 where
  -- the start and every call keep to the ranges
  pub starts : number_in_range number_begun ≡ true
  pub keeps : (s : NumberRead) (reply : Bool) → number_in_range s ≡ true → number_in_range (number_state s reply) ≡ true
  -- the ranges are those listed; 2 is told of a state outside them, which comes back the same, and of no other
  pub listed : (s : NumberRead) → (number_in_range s ≡ true) ↔ NumberListed s.phase s.bytes
  pub outside : (s : NumberRead) (reply : Bool) → number_in_range s ≡ false → (number_answer s reply ≡ refused 2 []) × (number_state s reply ≡ s)
  pub never_2 : (s : NumberRead) (reply : Bool) (values : List ℕ) → number_in_range s ≡ true → number_answer s reply ≡ refused 2 values → ⊥
  -- whatever the replies, the calls tell what the script does
  pub plays : (replies : List Bool) → number_answers_to number_begun replies ≡ play number_script replies
  -- so, whatever the replies, the events are the first of the 74 ..
  pub counted : length number_events ≡ 74
  pub ordered : (replies : List Bool) → Begins number_events (events_of (number_answers_to number_begun replies))
  -- .. a number is told only where the replies agree with it ..
  pub agreed : (replies : List Bool) (before later : List (Outcome Next)) (bytes : List ℕ)
      → number_answers_to number_begun replies ≡ before ++ (accepted (tells bytes) ∷ later) → NumberAgreed replies bytes
  -- .. and no image changes that the events reach
  pub image_stays : (c : Chip) (replies : List Bool) → (run n c (events_of (number_answers_to number_begun replies))).image ≡ c.image
  -- joined to any bus, it does what the script does there
  pub plays_on : {B : Type 0} (react : B → Event → B) (line : B → Event → Bool) (b : B) (replies : List Bool)
      → Good react line out_of b (number_answers_to number_begun replies) replies → number_answers_to number_begun replies ≡ played_telling react line number_script b (length replies)
  -- joined to a chip: all its answers, which are the events and then what the chip's number says, again and again
  pub joined : (c : Chip) (replies : List Bool) → Ready n c → Bytes c.state.number → Good (next n) (line_at n) out_of c (number_answers_to number_begun replies) replies
      → number_answers_to number_begun replies ≡ telling (number_events_for c.state.number) (number_verdict c.state.number) (length replies)
