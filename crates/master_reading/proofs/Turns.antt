-- The page read joined to a chip, one call after the other: what the calls that are left tell says what this one tells.
use Prim.Native.Nat.{ℕ, suc, ◌+◌, ◌<◌, ◌≤◌}
use mathlib.Core.Path.{◌≡◌, refl, ap, ◌∙◌}
use mathlib.Core.Bool.{Bool, true}
use mathlib.Core.List.{List, [], ◌∷◌}
use native.Mathlib.Omega.{arith}
use lib.ListN.{length}
use Rattle.base_types.specs.Outcome.{Outcome, accepted}
use Rattle.bus_events.specs.declared.Event.{Event}
use Rattle.bus_scripts.specs.Next.{Next, send, out_of, events_of}
use Rattle.bus_scripts.specs.Joint.{event, quiet, drawn_replies}
use Rattle.bus_scripts.specs.Script.{left_in, telling, leaving}
use Rattle.bus_scripts.proofs.Scripts.{script_laws}
use Rattle.chip_chain.specs.Walk.{walk_of}
use Rattle.chip_entries.specs.declared.event.State.{State}
use Rattle.chip_entries.specs.Event.{power_up}
use Rattle.chip_entries.specs.Run.{Chip, next, line_at, run}
use Rattle.chip_memory.specs.Layout.{image_size}
use Rattle.chip_session_laws.specs.Session.{Bytes}
use Rattle.chip_session_laws.proofs.Ds2505.{states}
use Rattle.master_page.specs.declared.PageRead.{PageRead}
use Rattle.master_page.specs.PageRead.{start_state}
use Rattle.master_page_laws.specs.Heard.{page_events_for}
use Rattle.master_page.specs.Held.{PageHeld, page_told, page_called, page_started}
use Rattle.master_page_laws.specs.Laws.{PageJoined, page_answers_to, page_after, verdict_outcome, verdict_bytes}
use Rattle.master_page_laws.proofs.Derived.{quiet_verdict}
use Rattle.master_page_laws.proofs.Ds2505.{page_read}

-- the replies that so many further calls get
abbrev drawn_for : ℕ → PageHeld → Chip → Bool → List Bool
drawn_for m h c r = drawn_replies (next 64) (line_at 64) out_of (page_called 64) (page_told 64) m h c r

-- what a read of page p tells and hands over in the end
abbrev told_at_end : List ℕ → ℕ → Outcome Next
told_at_end img p = verdict_outcome (walk_of 64 img p)

abbrev bytes_at_end : List ℕ → ℕ → List ℕ
bytes_at_end img p = verdict_bytes (walk_of 64 img p) img

no_event : (a : Outcome Next) (f : Event) → out_of a ≡ quiet → a ≡ accepted (send f) → ⊥
no_event a f silent is = let e : out_of a ≡ event f = ap out_of is in cc

-- The read of page p into a buffer, with so many events sent: these are left. Further calls send them and then tell the end, hand the
-- bytes over with it, and leave the image.
pub record UnderWay (img lent : List ℕ) (p sent : ℕ) (h : PageHeld) (c : Chip) (r : Bool) : Type 0 where
  pub left : List Event
  pub counted : sent + length left ≡ length (page_events_for 64 img p)
  pub telled : (m : ℕ) → page_answers_to 64 h (drawn_for m h c r) ≡ telling left (told_at_end img p) m
  pub leaves : (m : ℕ) → (page_after 64 h (drawn_for m h c r)).buffer ≡ leaving left (bytes_at_end img p) m lent
  pub keeps : (m : ℕ) → (run 64 c (events_of (page_answers_to 64 h (drawn_for m h c r)))).image ≡ img

-- the read has ended
pub record AtEnd (img lent : List ℕ) (p sent : ℕ) (answer : Outcome Next) (buffer image : List ℕ) : Type 0 where
  pub ends : answer ≡ told_at_end img p
  pub all : sent ≡ length (page_events_for 64 img p)
  pub handed : buffer ≡ left_in (bytes_at_end img p) lent
  pub kept : image ≡ img

pub below : (img lent : List ℕ) (p sent : ℕ) (h : PageHeld) (c : Chip) (r : Bool) → UnderWay img lent p sent h c r → sent ≤ length (page_events_for 64 img p)
below img lent p sent h c r w = let n = w.counted in omega (arith, n)

module _ (img lent : List ℕ) (p sent : ℕ) (h : PageHeld) (c : Chip) (r : Bool) where
  -- an event was told, and reaches the chip
  goes_on : UnderWay img lent p sent h c r → (e : Event) → page_told 64 h r ≡ accepted (send e)
      → UnderWay img lent p (sent + 1) (page_called 64 h r) (next 64 c e) (line_at 64 c e)
  unfolding drawn_replies telling leaving events_of run
  goes_on w e is = go w.left w.counted w.telled w.leaves
    where
      go : (left : List Event) → sent + length left ≡ length (page_events_for 64 img p)
          → ((m : ℕ) → page_answers_to 64 h (drawn_for m h c r) ≡ telling left (told_at_end img p) m)
          → ((m : ℕ) → (page_after 64 h (drawn_for m h c r)).buffer ≡ leaving left (bytes_at_end img p) m lent)
          → UnderWay img lent p (sent + 1) (page_called 64 h r) (next 64 c e) (line_at 64 c e)
      go [] n t l = let first = t 1 in absurd (no_event (told_at_end img p) e (quiet_verdict (walk_of 64 img p)) cc)
      go (f ∷ left) n t l =
          record {
            left = left;
            counted = omega (arith, n);
            telled = λ m. let all = rw is at (t (suc m)) in cc;
            leaves = λ m. rw is at (l (suc m));
            keeps = λ m. rw is at (w.keeps (suc m));
          }

  -- the same, with what the code holds then
  pub turned : UnderWay img lent p sent h c r → (e : Event) → page_told 64 h r ≡ accepted (send e)
      → (later : PageHeld) (chip : Chip) (drawn : Bool) → later ≡ page_called 64 h r → chip ≡ next 64 c e → drawn ≡ line_at 64 c e
      → UnderWay img lent p (sent + 1) later chip drawn
  turned w e is later chip drawn eh ec ed = rw (eh, ec, ed) (goes_on w e is)

  pub more : UnderWay img lent p sent h c r → (e : Event) → page_told 64 h r ≡ accepted (send e) → sent + 1 ≤ length (page_events_for 64 img p)
  more w e is = below img lent p (sent + 1) (page_called 64 h r) (next 64 c e) (line_at 64 c e) (goes_on w e is)

  -- an end was told
  pub ended : UnderWay img lent p sent h c r → (a : Outcome Next) → page_told 64 h r ≡ a → out_of a ≡ quiet
      → AtEnd img lent p sent a (page_called 64 h r).buffer c.image
  unfolding drawn_replies telling leaving events_of run
  ended w a is silent = go w.left w.counted w.telled w.leaves
    where
      go : (left : List Event) → sent + length left ≡ length (page_events_for 64 img p)
          → ((m : ℕ) → page_answers_to 64 h (drawn_for m h c r) ≡ telling left (told_at_end img p) m)
          → ((m : ℕ) → (page_after 64 h (drawn_for m h c r)).buffer ≡ leaving left (bytes_at_end img p) m lent)
          → AtEnd img lent p sent a (page_called 64 h r).buffer c.image
      go [] n t l = let first = t 1 in record { ends = cc; all = omega (arith, n); handed = l 1; kept = w.keeps 0 }
      go (f ∷ left) n t l = let first = t 1 in absurd (no_event a f silent cc)

-- ---- the start

all_events : (es : List Event) (end : Outcome Next) → events_of (telling es end (length es)) ≡ es
unfolding telling events_of
all_events [] end = refl
all_events (e ∷ es) end = ap (λ (l : List Event). e ∷ l) (all_events es end)

module _ (number img lent : List ℕ) (p : ℕ) (sized : length img ≡ image_size 64) (small : Bytes img) (eight : length number ≡ 8) (inside : p < 64)
    (room : length lent ≡ 32) where
  abbrev chip : Chip
  chip = record { state = power_up number; image = img }

  abbrev drawn : ℕ → List Bool
  drawn m = drawn_for m (page_started 64 p lent) chip true

  -- the drawn replies are good, and are as many as asked for
  joins : (m : ℕ) → PageJoined 64 chip p lent (drawn m)
  joins m =
      page_read.joined chip p lent (drawn m) (states.power_up_law number img sized eight) small inside room
      (script_laws.drawn (next 64) (line_at 64) (page_called 64) (page_told 64) (page_started 64 p lent) chip true m).1

  as_many_lem : (m : ℕ) → length (drawn m) ≡ m
  as_many_lem m = (script_laws.drawn (next 64) (line_at 64) (page_called 64) (page_told 64) (page_started 64 p lent) chip true m).0

  tells_all : (m : ℕ) → page_answers_to 64 (page_started 64 p lent) (drawn m) ≡ telling (page_events_for 64 img p) (told_at_end img p) m
  tells_all m = (joins m).answers ∙ ap (telling (page_events_for 64 img p) (told_at_end img p)) (as_many_lem m)

  begins : UnderWay img lent p 0 (page_started 64 p lent) chip true
  begins =
      record {
        left = page_events_for 64 img p;
        counted = omega arith;
        telled = tells_all;
        leaves = λ m. (joins m).buffer ∙ ap (λ (k : ℕ). leaving (page_events_for 64 img p) (bytes_at_end img p) k lent) (as_many_lem m);
        keeps = λ m. page_read.image_stays chip p lent (drawn m) room;
      }

  pub begins_as : (s : PageRead) (cs : State) → s ≡ start_state 64 p → cs ≡ power_up number
      → UnderWay img lent p 0 (record { state = s; buffer = lent }) (record { state = cs; image = img }) true
  begins_as s cs es ec = rw (es, ec) begins

  pub at_most : length (page_events_for 64 img p) ≤ 3921
  at_most =
      let all = length (page_events_for 64 img p) in
      let e : events_of (page_answers_to 64 (page_started 64 p lent) (drawn all)) ≡ page_events_for 64 img p =
      ap events_of (tells_all all) ∙ all_events (page_events_for 64 img p) (told_at_end img p) in
      rw e at (page_read.at_most p lent (drawn all) room)
