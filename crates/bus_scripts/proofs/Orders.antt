-- The order of a script's events, whatever the replies.
use Prim.Native.Nat.{ℕ, zero, suc, ◌+◌, ◌-◌, ◌*◌, ◌≤◌}
use mathlib.Core.Bool.{Bool, true, false, not}
use mathlib.Core.List.{List, [], ◌∷◌, ◌++◌, map}
use mathlib.Core.Path.{◌≡◌, refl, ap, ◌∙◌}
use native.Mathlib.Nat.{le_of_suc-le-suc, not-suc-le-zero}
use native.Mathlib.Omega.{arith}
use lib.ListN.{length, take, replicate}
use lib.Seq.{take-nil}
use Rattle.base_types.specs.Bits.{one}
use Rattle.base_types.specs.Outcome.{Outcome, refused, accepted}
use Rattle.bus_events.specs.declared.Event.{Event}
use Rattle.bus_events.specs.Events as bus
use Rattle.bus_events.specs.Slots.{slots, reading}
use Rattle.bus_scripts.specs.Joint.{Begins}
use Rattle.bus_scripts.specs.Next.{Next, send, tells, events_of}
use Rattle.bus_scripts.specs.Script.{Script, stops, gives, sends, check_with, reset, send_event, send_bits, read_bits, read_bytes, outcome_at, follow, play_from, play, telling, play_on}
use Rattle.bus_scripts.proofs.Ended.{end_repeats}

-- whatever the replies, the events are the first of these, and all of them where it gives its result
pub data Keeps : Script → List Event → Type 0 where
  stopping : {number : ℕ} {values : List ℕ} {es : List Event} → Keeps (stops number values) es
  giving : {values bytes : List ℕ} → Keeps (gives values bytes) []
  sending : {event : Event} {on : Bool → Script} {es : List Event} → ((reply : Bool) → Keeps (on reply) es) → Keeps (sends event on) (event ∷ es)

module _ (rs : List Bool) (more : (on : Bool → Script) (es : List Event) → ((reply : Bool) → Keeps (on reply) es) → Begins es (events_of (play_from on rs))) where
  order_at : {x : Script} {es : List Event} → Keeps x es → Begins es (events_of (outcome_at x ∷ play_from (follow x) rs))
  unfolding events_of
  order_at (stopping {number} {values} {es}) = more (follow (stops number values)) es (λ reply. stopping)
  order_at (giving {values} {bytes}) = more (follow (gives values bytes)) [] (λ reply. giving)
  order_at (sending {event} {on} {es} h) = let b = more on es h in record { rest = b.rest; is = ap (λ (l : List Event). event ∷ l) b.is }

order_from : (rs : List Bool) (on : Bool → Script) (es : List Event) → ((reply : Bool) → Keeps (on reply) es) → Begins es (events_of (play_from on rs))
unfolding events_of
order_from [] on es h = record { rest = es; is = refl }
order_from (r ∷ rs) on es h = order_at rs (order_from rs) (h r)

pub ordered : {script : Script} {es : List Event} → Keeps script es → (replies : List Bool) → Begins es (events_of (play script replies))
ordered {script} {es} h replies = order_from replies (λ first. script) es (λ first. h)

-- on a bus where it gives its result, it sends them all
pub all_sent : {B : Type 0} (react : B → Event → B) (line : B → Event → Bool) {script : Script} {es : List Event} → Keeps script es → (b : B) (values : List ℕ)
    → (play_on react line script b).told ≡ accepted (tells values) → (play_on react line script b).events ≡ es
unfolding play_on
all_sent react line stopping b values e = cc
all_sent react line giving b values e = refl
all_sent react line (sending {event} h) b values e =
    ap (λ (l : List Event). event ∷ l) (all_sent react line (h (line b event)) (react b event) values e)

-- ---- the combinators

pub check_keeps : (test : Bool) (number : ℕ) (values : List ℕ) {on : Script} {es : List Event} → Keeps on es → Keeps (check_with test number values on) es
check_keeps true number values h = h
check_keeps false number values h = stopping

pub reset_keeps : {on : Script} {es : List Event} → Keeps on es → Keeps (reset on) (bus.reset ∷ es)
reset_keeps h = sending (λ reply. check_keeps (not reply) 13 [] h)

pub event_keeps : (event : Event) {on : Script} {es : List Event} → Keeps on es → Keeps (send_event event on) (event ∷ es)
event_keeps event h = sending (λ reply. h)

pub bits_keeps : (bits : List Bool) {on : Script} {es : List Event} → Keeps on es → Keeps (send_bits bits on) (slots bits ++ es)
unfolding send_bits
bits_keeps [] h = h
bits_keeps (bit ∷ bits) h = sending (λ reply. bits_keeps bits h)

pub read_keeps : (k : ℕ) {on : ℕ → Script} {es : List Event} → ((v : ℕ) → Keeps (on v) es) → Keeps (read_bits k on) (reading k ++ es)
unfolding read_bits
read_keeps zero h = h 0
read_keeps (suc k) h = sending (λ reply. read_keeps k (λ v. h (one reply + 2 * v)))

-- the read slots of so many bytes
abbrev pub byte_slots : ℕ → List Event
byte_slots zero = []
byte_slots (suc k) = reading 8 ++ byte_slots k

pub bytes_keeps : (k : ℕ) {on : List ℕ → Script} {es : List Event} → ((bytes : List ℕ) → Keeps (on bytes) es) → Keeps (read_bytes k on) (byte_slots k ++ es)
unfolding read_bytes
bytes_keeps zero h = h []
bytes_keeps (suc k) h = read_keeps 8 (λ byte. bytes_keeps k (λ bytes. h (byte ∷ bytes)))

-- ---- what calls tell that send these events

pub telling_all : (es : List Event) (end : Outcome Next) (k : ℕ) → length es ≤ k
    → telling es end k ≡ map (λ (e : Event). accepted (send e)) es ++ replicate (k - length es) end
unfolding telling
telling_all [] end zero le = refl
telling_all [] end (suc k) le =
    let q : suc k - 0 ≡ suc (k - 0) = omega arith in
    rw q (ap (λ (l : List (Outcome Next)). end ∷ l) (telling_all [] end k (omega arith)))
telling_all (e ∷ es) end zero le = absurd (not-suc-le-zero le)
telling_all (e ∷ es) end (suc k) le =
    let q : suc k - suc (length es) ≡ k - length es = omega arith in
    rw q (ap (λ (l : List (Outcome Next)). accepted (send e) ∷ l) (telling_all es end k (le_of_suc-le-suc le)))

pub telling_events : (es : List Event) (values : List ℕ) (k : ℕ) → events_of (telling es (accepted (tells values)) k) ≡ take k es
unfolding telling events_of
telling_events [] values zero = refl
telling_events [] values (suc k) = telling_events [] values k ∙ take-nil k
telling_events (e ∷ es) values zero = refl
telling_events (e ∷ es) values (suc k) = ap (λ (l : List Event). e ∷ l) (telling_events es values k)

-- a script that has stopped
pub stopped_told : (number : ℕ) (values : List ℕ) (rs : List Bool) → play (stops number values) rs ≡ replicate (length rs) (refused number values)
stopped_told number values [] = refl
stopped_told number values (r ∷ rs) = end_repeats (stops number values) refl r rs
