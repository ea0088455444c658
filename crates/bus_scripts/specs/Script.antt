-- What a master does, as a tree: it stops with a refusal, it gives its result, or it sends an event and goes on by the reply.
-- The combinators are written for `do`: each is handed what follows.
use Rattle.std.specs.Prelude.{ℕ, zero, suc, ◌+◌, ◌*◌, ◌≡◌, Bool, true, false, not, List, [], ◌∷◌, eqb, length}
use Rattle.base_types.specs.Bits.{one, bits_of_bytes}
use Rattle.base_types.specs.Outcome.{Outcome, refused, accepted}
use Rattle.bus_events.specs.declared.Event.{Event}
use Rattle.bus_events.specs.Events as bus
use Rattle.bus_scripts.specs.Joint.{answers, Good, drawn_replies}
use Rattle.bus_scripts.specs.Next.{Next, send, tells, out_of}

pub data Script : Type 0 where
  -- a refusal, by document 01's number, with the values given back
  stops : (number : ℕ) → (values : List ℕ) → Script
  -- the values told at the end, and the bytes for the caller's buffer, none where it lends no buffer
  gives : (values bytes : List ℕ) → Script
  sends : Event → (Bool → Script) → Script

-- ---- what scripts are made of; on is what follows

infixr 10 ◌>>◌
abbrev pub ◌>>◌ : (Script → Script) → Script → Script
part >> on = part on

infixr 10 ◌>>=◌
abbrev pub ◌>>=◌ : {A : Type 0} → ((A → Script) → Script) → (A → Script) → Script
part >>= on = part on

-- a test, and where it fails the refusal of that number, with these values
abbrev pub check_with : Bool → ℕ → List ℕ → Script → Script
check_with true number values on = on
check_with false number values on = stops number values

abbrev pub check : Bool → ℕ → Script → Script
check test number on = check_with test number [] on

-- a reset; its reply has to be 0, presence, or 13
abbrev pub reset : Script → Script
reset on = sends bus.reset (λ reply. check (not reply) 13 on)

-- an event whose reply is not looked at
abbrev pub send_event : Event → Script → Script
send_event event on = sends event (λ reply. on)

-- slots with these bits, and with those of bytes, least significant bit first; the replies are not looked at
unfoldable pub send_bits : List Bool → Script → Script
send_bits [] on = on
send_bits (bit ∷ bits) on = sends (bus.slot bit) (λ reply. send_bits bits on)

abbrev pub send_bytes : List ℕ → Script → Script
send_bytes bytes on = send_bits (bits_of_bytes bytes) on

-- the number that k read slots read, least significant bit first
unfoldable pub read_bits : ℕ → (ℕ → Script) → Script
read_bits zero on = on 0
read_bits (suc k) on = sends bus.read_slot (λ reply. read_bits k (λ rest. on (one reply + 2 * rest)))

abbrev pub read_byte : (ℕ → Script) → Script
read_byte on = read_bits 8 on

unfoldable pub read_bytes : ℕ → (List ℕ → Script) → Script
read_bytes zero on = on []
read_bytes (suc k) on = read_byte (λ byte. read_bytes k (λ bytes. on (byte ∷ bytes)))

-- a CRC-16 is read, and has to be this one, or 6
abbrev pub read_crc : ℕ → Script → Script
read_crc crc on = read_bits 16 (λ got. check (eqb got crc) 6 on)

-- a byte is read back, and has to be this one, or 7
abbrev pub read_back : ℕ → Script → Script
read_back byte on = read_byte (λ got. check (eqb got byte) 7 on)

-- ---- a script played with replies

-- what the call tells that comes to this point, and the bytes that it puts into the caller's buffer
abbrev pub outcome_at : Script → Outcome Next
outcome_at (stops number values) = refused number values
outcome_at (gives values bytes) = accepted (tells values)
outcome_at (sends event on) = accepted (send event)

abbrev pub handed_at : Script → List ℕ
handed_at (stops number values) = []
handed_at (gives values bytes) = bytes
handed_at (sends event on) = []

-- where the next reply leads: an end is repeated for ever, but its bytes are handed over once
abbrev pub follow : Script → Bool → Script
follow (stops number values) reply = stops number values
follow (gives values bytes) reply = gives values []
follow (sends event on) reply = on reply

-- what calls with these replies tell, where on is the script by the reply of the first of them
abbrev pub play_from : (Bool → Script) → List Bool → List (Outcome Next)
play_from on replies = answers (λ (k : Bool → Script) (reply : Bool). follow (k reply)) (λ (k : Bool → Script) (reply : Bool). outcome_at (k reply)) on replies

-- from the start on: the reply given with the first call is not looked at
abbrev pub play : Script → List Bool → List (Outcome Next)
play script replies = play_from (λ first. script) replies

-- what a call leaves in a buffer: the bytes handed over, if there are any
abbrev pub left_in : List ℕ → List ℕ → List ℕ
left_in [] lent = lent
left_in (b ∷ bs) lent = b ∷ bs

-- the buffer after calls with these replies that were all lent it, each as the last one left it
abbrev pub left_by : (Bool → Script) → List Bool → List ℕ → List ℕ
left_by on [] lent = lent
left_by on (r ∷ rs) lent = left_by (follow (on r)) rs (left_in (handed_at (on r)) lent)

-- ---- a script played on a bus

pub record Played : Type 0 where
  pub events : List Event
  pub told : Outcome Next
  pub bytes : List ℕ

-- what so many calls tell that send these events: one each, and then the end, again and again
unfoldable pub telling : List Event → Outcome Next → ℕ → List (Outcome Next)
telling events end zero = []
telling [] end (suc k) = end ∷ telling [] end k
telling (e ∷ es) end (suc k) = accepted (send e) ∷ telling es end k

-- and what they leave in a buffer: the call after the last event hands the bytes over
unfoldable pub leaving : List Event → List ℕ → ℕ → List ℕ → List ℕ
leaving events bytes zero lent = lent
leaving [] bytes (suc k) lent = left_in bytes lent
leaving (e ∷ es) bytes (suc k) lent = leaving es bytes k lent

module _ {B : Type 0} (react : B → Event → B) (line : B → Event → Bool) where
  -- all its events, each followed by the reply that it draws, what is told in the end, and the bytes handed over with it
  unfoldable pub play_on : Script → B → Played
  play_on (stops number values) b = record { events = []; told = refused number values; bytes = [] }
  play_on (gives values bytes) b = record { events = []; told = accepted (tells values); bytes = bytes }
  play_on (sends event on) b =
      let rest = play_on (on (line b event)) (react b event) in
      record { events = event ∷ rest.events; told = rest.told; bytes = rest.bytes }

  -- what so many calls tell, joined to the bus in state b
  abbrev pub played_telling : Script → B → ℕ → List (Outcome Next)
  played_telling script b k = telling (play_on script b).events (play_on script b).told k

-- A master with these calls. If its answers to every list of replies are those of playing a script, then joined to any bus it does what
-- the script does there. Joined: the replies are good. There are such, as many as one likes: the drawn ones.
pub record ScriptLaws : Type 1 where
  pub on_bus : {B S : Type 0} (react : B → Event → B) (line : B → Event → Bool) (call : S → Bool → S) (told : S → Bool → Outcome Next) {s : S} {script : Script}
      → ((replies : List Bool) → answers call told s replies ≡ play script replies)
      → (b : B) (replies : List Bool) → Good react line out_of b (answers call told s replies) replies
      → answers call told s replies ≡ played_telling react line script b (length replies)
  pub drawn : {B S : Type 0} (react : B → Event → B) (line : B → Event → Bool) (call : S → Bool → S) (told : S → Bool → Outcome Next) (s : S) (b : B) (first : Bool) (k : ℕ)
      → length (drawn_replies react line out_of call told k s b first) ≡ k
      × Good react line out_of b (answers call told s (drawn_replies react line out_of call told k s b first)) (drawn_replies react line out_of call told k s b first)
