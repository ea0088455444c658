-- The page read over whole runs: whatever the replies, and joined to a chip. n is the page count.
use Rattle.std.specs.Prelude.{ℕ, ◌+◌, ◌*◌, ◌<◌, ◌≤◌, ◌≡◌, Bool, true, false, cond, List, [], ◌∷◌, ◌++◌, ◌↔◌, eqb, length}
use Rattle.base_types.specs.Outcome.{Outcome, refused, accepted}
use Rattle.base_types.specs.declared.verdict.Verdict.{Verdict}
use Rattle.base_types.specs.declared.verdict.Verdict.TheVariants.{Final, Loop, Outside}
use Rattle.bus_events.specs.declared.Event.{Event}
use Rattle.chip_memory.specs.Image.{page_bytes}
use Rattle.chip_chain.specs.Walk.{walk_of}
use Rattle.bus_scripts.specs.Next.{Next, tells, out_of, events_of}
use Rattle.bus_scripts.specs.Joint.{Good}
use Rattle.bus_scripts.specs.Joint as joint
use Rattle.bus_scripts.specs.Script.{Script, outcome_at, handed_at, left_in, follow, play, left_by, telling, leaving, played_telling}
use Rattle.master_page.specs.declared.PageRead.{PageRead}
use Rattle.master_page.specs.Held.{PageHeld, page_told, page_called, page_started}
use Rattle.master_page.specs.PageRead.{page_in_range, start_answer, start_state, read_answer, read_state, read_buffer}
use Rattle.chip_entries.specs.Run.{Chip, next, run, line_at}
use Rattle.chip_session_laws.specs.Session.{Ready, Bytes}
use Rattle.master_page_laws.specs.Heard.{Heard, visit_events, data_events, page_events_for}
use Rattle.master_page_laws.specs.Ranges.{PageListed}
use Rattle.master_page_laws.specs.Script.{page_script}

-- ---- calls one after the other, all lent one buffer

-- the answers to calls, each with its reply; and what is held after them
abbrev pub page_answers_to : ℕ → PageHeld → List Bool → List (Outcome Next)
page_answers_to n h replies = joint.answers (page_called n) (page_told n) h replies

abbrev pub page_after : ℕ → PageHeld → List Bool → PageHeld
page_after n h replies = joint.calls (page_called n) (page_told n) h replies

-- ---- calls that are each lent a buffer of their own

-- what a call is given: the reply and a buffer; and what it gives back: its answer and the buffer after it
pub record PageCall : Type 0 where
  pub reply : Bool
  pub buffer : List ℕ

pub record PageGiven : Type 0 where
  pub answer : Outcome Next
  pub buffer : List ℕ

abbrev pub page_state_after : ℕ → PageRead → PageCall → PageRead
page_state_after n s c = read_state n s c.reply c.buffer

abbrev pub page_given_back : ℕ → PageRead → PageCall → PageGiven
page_given_back n s c = record { answer = read_answer n s c.reply c.buffer; buffer = read_buffer n s c.reply c.buffer }

abbrev pub page_given_to : ℕ → PageRead → List PageCall → List PageGiven
page_given_to n s calls = joint.answers (page_state_after n) (page_given_back n) s calls

-- A call with another buffer than one of 32 bytes is refused, 10, and nothing changes. Else it comes to the script's next point; it leaves
-- the bytes handed over there in the buffer, or the buffer as it was.
abbrev pub script_after : (Bool → Script) → PageCall → Bool → Script
script_after on c = cond (eqb (length c.buffer) 32) (follow (on c.reply)) on

abbrev pub script_back : (Bool → Script) → PageCall → PageGiven
script_back on c =
    cond (eqb (length c.buffer) 32) (record { answer = outcome_at (on c.reply); buffer = left_in (handed_at (on c.reply)) c.buffer })
    (record { answer = refused 10 []; buffer = c.buffer })

abbrev pub play_lent : Script → List PageCall → List PageGiven
play_lent script calls = joint.answers script_after script_back (λ first. script) calls

-- ---- what a verdict tells, and the bytes that come with it

abbrev pub verdict_outcome : Verdict → Outcome Next
verdict_outcome (Final p hops) = accepted (tells (p.0 ∷ hops ∷ []))
verdict_outcome Loop = refused 4 []
verdict_outcome (Outside k) = refused 5 (k ∷ [])

abbrev pub verdict_bytes : Verdict → List ℕ → List ℕ
verdict_bytes (Final p hops) img = page_bytes img p.0
verdict_bytes Loop img = []
verdict_bytes (Outside k) img = []

-- ---- whatever the replies

-- the replies after the first begin with those of Heard for the verdict; the events of the run are its events, and the buffer holds its page
pub record PageAgreed (n p : ℕ) (v : Verdict) (lent : List ℕ) (replies : List Bool) (answers : List (Outcome Next)) (end : List ℕ) : Type 0 where
  pub used : List Bool
  pub rest : List Bool
  pub events : List Event
  pub page : List ℕ
  pub is : replies ≡ used ++ rest
  pub heard : Heard n p 0 used events v page
  pub sent : events_of answers ≡ events
  pub buffer : end ≡ left_in page lent

-- ---- joined to a chip

-- With good replies: all the answers, which are the events along the chain and then the walk's verdict, again and again; and the buffer,
-- which is untouched up to the call that first tells Final, and from it on holds that page of the image.
pub record PageJoined (n : ℕ) (c : Chip) (p : ℕ) (lent : List ℕ) (replies : List Bool) : Type 0 where
  pub answers : page_answers_to n (page_started n p lent) replies ≡ telling (page_events_for n c.image p) (verdict_outcome (walk_of n c.image p)) (length replies)
  pub buffer : (page_after n (page_started n p lent) replies).buffer ≡ leaving (page_events_for n c.image p) (verdict_bytes (walk_of n c.image p) c.image) (length replies) lent

-- as many events as a read can take: 57 for each page, 272, and the closing reset
abbrev pub most_events : ℕ → ℕ
most_events n = 57 * n + 273

pub record PageLaws (n : ℕ) : Type 1 where
  -- the start tells nothing of a page of the chip, and 3 of another number
  pub start_ready : (p : ℕ) → p < n → start_answer n p ≡ accepted []
  pub start_refused : (p : ℕ) → n ≤ p → start_answer n p ≡ refused 3 []
  -- every start and every call keep to the ranges
  pub starts : (p : ℕ) → page_in_range n (start_state n p) ≡ true
  pub keeps : (s : PageRead) (reply : Bool) (buffer : List ℕ) → page_in_range n s ≡ true → page_in_range n (read_state n s reply buffer) ≡ true
  -- the ranges are those listed; 2 is told of a state outside them, whatever buffer is lent with it, both come back the same; and of no other
  pub listed : (s : PageRead) → (page_in_range n s ≡ true) ↔ PageListed n s
  pub outside : (s : PageRead) (reply : Bool) (buffer : List ℕ) → page_in_range n s ≡ false
      → (read_answer n s reply buffer ≡ refused 2 []) × (read_state n s reply buffer ≡ s) × (read_buffer n s reply buffer ≡ buffer)
  -- 10 is told of another buffer than one of 32 bytes, and nothing changes
  pub other_buffer : (s : PageRead) (reply : Bool) (buffer : List ℕ) → page_in_range n s ≡ true → (length buffer ≡ 32 → ⊥)
      → (read_answer n s reply buffer ≡ refused 10 []) × (read_state n s reply buffer ≡ s) × (read_buffer n s reply buffer ≡ buffer)
  pub never_2 : (s : PageRead) (reply : Bool) (buffer values : List ℕ) → page_in_range n s ≡ true → read_answer n s reply buffer ≡ refused 2 values → ⊥
  -- whatever the page asked for, the replies and the buffers lent, the calls give back what the script gives
  pub plays_lent : (p : ℕ) (calls : List PageCall) → page_given_to n (start_state n p) calls ≡ play_lent (page_script n p) calls
  -- with one buffer of 32 bytes: the answers, and the buffer after them
  pub plays : (p : ℕ) (lent : List ℕ) (replies : List Bool) → length lent ≡ 32 → page_answers_to n (page_started n p lent) replies ≡ play (page_script n p) replies
  pub leaves : (p : ℕ) (lent : List ℕ) (replies : List Bool) → length lent ≡ 32 → (page_after n (page_started n p lent) replies).buffer ≡ left_by (λ first. page_script n p) replies lent
  -- so, whatever the replies, never more events than 57 for each page and 273, 3,921 with 64 pages ..
  pub visit_counted : (p : ℕ) → length (visit_events p) ≡ 57
  pub page_counted : length data_events ≡ 273
  pub at_most : (p : ℕ) (lent : List ℕ) (replies : List Bool) → length lent ≡ 32 → length (events_of (page_answers_to n (page_started n p lent) replies)) ≤ most_events n
  -- .. a verdict is told only where the replies agree with it ..
  pub agreed : (p : ℕ) (lent : List ℕ) (first : Bool) (replies : List Bool) (v : Verdict) (before later : List (Outcome Next)) → p < n → length lent ≡ 32
      → page_answers_to n (page_started n p lent) (first ∷ replies) ≡ before ++ (verdict_outcome v ∷ later)
      → PageAgreed n p v lent replies (page_answers_to n (page_started n p lent) (first ∷ replies)) (page_after n (page_started n p lent) (first ∷ replies)).buffer
  -- .. and no image changes that the events reach
  pub image_stays : (c : Chip) (p : ℕ) (lent : List ℕ) (replies : List Bool) → length lent ≡ 32
      → (run n c (events_of (page_answers_to n (page_started n p lent) replies))).image ≡ c.image
  -- joined to any bus, it does what the script does there
  pub plays_on : {B : Type 0} (react : B → Event → B) (line : B → Event → Bool) (p : ℕ) (lent : List ℕ) (b : B) (replies : List Bool) → length lent ≡ 32
      → Good react line out_of b (page_answers_to n (page_started n p lent) replies) replies
      → page_answers_to n (page_started n p lent) replies ≡ played_telling react line (page_script n p) b (length replies)
  -- joined to a chip, it tells the verdict of the redirection chain
  pub joined : (c : Chip) (p : ℕ) (lent : List ℕ) (replies : List Bool) → Ready n c → Bytes c.image → p < n → length lent ≡ 32
      → Good (next n) (line_at n) out_of c (page_answers_to n (page_started n p lent) replies) replies → PageJoined n c p lent replies
