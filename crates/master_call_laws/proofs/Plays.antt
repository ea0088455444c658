-- From every start, whatever the replies, the calls tell what the update's script does.
use Prim.Native.Nat.{ℕ, zero, suc, ◌+◌, ◌-◌, ◌<◌}
use mathlib.Core.Bool.{Bool, true, false}
use mathlib.Core.List.{List, [], ◌∷◌}
use mathlib.Core.Path.{◌≡◌, refl, sym, ◌∙◌, ap, subst}
use native.Mathlib.Omega.{arith}
use native.Mathlib.Numerals.{add-one}
use lib.ListN.{length, drop, replicate, drop_of_length-le}
use lib.Seq.{drop-cons}
use borrow.Author.Tests.{lt-ltb, le-ltb, ne_eqb}
use Rattle.std.specs.Prelude.{Ok, Err}
use Rattle.base_types.specs.Bits.{same}
use Rattle.base_types.specs.Outcome.{Outcome, accepted}
use Rattle.base_types.specs.declared.address.Page.{Page}
use Rattle.chip_memory.specs.Page.{copied}
use Rattle.chip_memory.proofs.Pages.{copied_same}
use Rattle.bus_events.specs.declared.Next.TheVariants.{End}
use Rattle.bus_scripts.specs.Next.{Next, tells, events_of}
use Rattle.bus_scripts.specs.Joint.{Begins}
use Rattle.bus_scripts.specs.Script.{Script, gives, play, play_on, Played}
use Rattle.bus_scripts.proofs.Follows.{Follows, sending as sent, stopping, giving, plays_from}
use Rattle.bus_scripts.proofs.Orders.{Keeps, giving as given, stopping as stopped, sending, ordered}
use Rattle.master_plan.specs.declared.Wanted.{Wanted}
use Rattle.master_plan.specs.declared.Wanted.TheVariants.{Anything, Presence, Bit, LastCrcBit, LastBackBit}
use Rattle.master_plan.specs.declared.Step.{Step}
use Rattle.master_plan.specs.declared.kind.UpdateKind.{UpdateKind}
use Rattle.master_plan.specs.Plan.{reset_step, step_events}
use Rattle.master_plan.proofs.Lengths.{plan_length}
use Rattle.master_publisher.specs.declared.Stage.{Stage}
use Rattle.master_publisher.specs.declared.Stage.TheVariants.{Running}
use Rattle.master_publisher.specs.declared.Publisher.{Publisher}
use Rattle.master_publisher.specs.Start.{Choice, choice_of, ready, stopped_by, choice_state, bitmap_byte}
use Rattle.master_publisher.specs.Code.Turn.{Judged, Turn, plan_in, total_in, judged_last, judged_of, step_of, wanted_of, at_stage, gone_on, judged_turn, turn_of}
use Rattle.master_publisher.specs.Call.{publisher_in_range, turn_outcome, call_answer, call_state}
use Rattle.chip_entries.specs.Run.{Chip, next, line_at}
use Rattle.master_plan_laws.specs.Plan.{Meets, Fits}
use Rattle.master_plan_laws.proofs.Starts.{chosen_means}
use Rattle.master_call_laws.specs.Script.{update_script, publisher_script}
use Rattle.master_call_laws.specs.Calls.{update_answers, Started, script_in, events_in}
use Rattle.master_call_laws.proofs.Ranges.{turn_in, called_is, told_is, call_keeps}
use Rattle.master_call_laws.proofs.Script.{judged_script, as_script, planned}

-- ---- the publisher as a machine: a state with what was told last

abbrev stepping : Turn → Bool → Turn
stepping t r = turn_in t.state r

abbrev showing : Turn → Outcome Next
showing t = turn_outcome t.answer

abbrev handing : Turn → List ℕ
handing t = []

-- it does what a script does
abbrev Does : Turn → Script → Type 0
Does t script = Follows stepping showing handing t script

-- then its calls play the script
does_plays : (n : ℕ) (s : Publisher) (script : Script) → publisher_in_range n s ≡ true → ((r : Bool) → Does (turn_in s r) script)
    → (replies : List Bool) → update_answers n s replies ≡ play script replies
does_plays n s script h f replies =
    plays_from {step = stepping} {show = showing} {hand = handing} (call_state n) (call_answer n) (λ (c : Publisher) (t : Turn). (c ≡ t.state) × (publisher_in_range n c ≡ true))
    (λ c t r sees. (called_is n c r sees.1 ∙ ap (λ (u : Publisher). (turn_in u r).state) sees.0, call_keeps n c r sees.1))
    (λ c t r sees. told_is n c r sees.1 ∙ ap (λ (u : Publisher). turn_outcome (turn_in u r).answer) sees.0)
    replies s (record { answer = Ok (End (s.superseded, s.target)); state = s }) (λ first. script) (refl, h) f

-- ---- a state that has so many events of its plan behind it

-- what is ahead after k events
ahead : (plan : List Step) (k : ℕ) → k < length plan → drop k plan ≡ step_of plan k ∷ drop (k + 1) plan
unfolding step_of
ahead plan k lt = rw add-one (drop-cons plan k reset_step lt)

-- the reply after an event is judged by that event's step
wanted_next : (plan : List Step) (k : ℕ) → wanted_of plan (k + 1) ≡ (step_of plan k).wanted
unfolding wanted_of
wanted_next plan k =
    let e : k + 1 - 1 ≡ k = omega arith in
    simp (ne_eqb (k + 1) 0 (λ z. omega arith), e)

module _ (s : Publisher) (long : length (plan_in s) ≡ total_in s) where
  abbrev left : ℕ → Bool → Script
  left k good = as_script (drop k (plan_in s)) (λ g. gives (s.superseded.0 ∷ s.target.0 ∷ []) []) good

  judged_does : (k : ℕ) (g : Stage) (j : Judged) → ((good : Bool) → Does (gone_on (total_in s) (plan_in s) (at_stage s g) k good) (left k good))
      → Does (judged_turn (total_in s) (plan_in s) (at_stage s g) k j) (judged_script j (left k))
  unfolding judged_turn turn_of
  judged_does k g (Ok good) f = f good
  judged_does k g (Err r) f = stopping refl refl (λ reply. refl)

  gone_does : (m k : ℕ) → k + m ≡ total_in s → (g : Stage) (good : Bool) → Does (gone_on (total_in s) (plan_in s) (at_stage s g) k good) (left k good)
  unfolding gone_on turn_of
  gone_does zero k e g good =
      simp (le-ltb k (total_in s) (omega arith), drop_of_length-le (plan_in s) {i = k} (omega (arith, long)))
      (giving refl refl (λ r. refl) refl refl (λ r. refl))
  gone_does (suc m) k e g good =
      simp (lt-ltb k (total_in s) (omega arith), ahead (plan_in s) k (omega (arith, long)))
      (sent refl refl (λ r. subst (λ (w : Wanted). Does (turn_in (at_stage s (Running (k + 1) good)) r) (judged_script (judged_of w good r) (left (k + 1)))) (wanted_next (plan_in s) k)
      (judged_does (k + 1) (Running (k + 1) good) (judged_of (wanted_of (plan_in s) (k + 1)) good r) (gone_does m (k + 1) (omega arith) (Running (k + 1) good)))))

-- ---- from a started state, and from every start

started_does : (s : Publisher) → s.stage ≡ Running 0 true → length s.new ≡ 32 → (r : Bool) → Does (turn_in s r) (script_in s)
unfolding turn_of wanted_of judged_of judged_turn
started_does s e long r =
    subst (λ (g : Stage). Does (turn_of (total_in s) (plan_in s) s g r) (script_in s)) (sym e)
    (subst (Does (gone_on (total_in s) (plan_in s) s 0 true)) (planned s.kind s.superseded.0 s.target.0 s.used s.new)
    (gone_does s (plan_length s.kind s.superseded.0 s.target.0 s.used s.new long) (total_in s) 0 (omega arith) s.stage true))

pub started_plays : (n : ℕ) (s : Publisher) (replies : List Bool) → Started n s → update_answers n s replies ≡ play (script_in s) replies
started_plays n s replies st = does_plays n s (script_in s) st.ranged (started_does s st.stage st.long) replies

module _ (n : ℕ) (kind : UpdateKind) (img new : List ℕ) (p : ℕ) (replies : List Bool) where
  ready_plays : (l t : Page) → publisher_in_range n (ready n kind img new l t) ≡ true → length new ≡ 32
      → update_answers n (ready n kind img new l t) replies ≡ play (update_script kind l.0 t.0 (bitmap_byte n img t.0) new) replies
  unfolding ready
  ready_plays l t h long =
      let same : copied new (replicate 32 0) ≡ new = copied_same new (replicate 32 0) long in
      started_plays n (ready n kind img new l t) replies (record { stage = refl; ranged = h; long = ap length same ∙ long })
      ∙ ap (λ (bytes : List ℕ). play (update_script kind l.0 t.0 (bitmap_byte n img t.0) bytes) replies) same

  pub choice_plays : (ch : Choice) → choice_of n kind.placement img new p ≡ ch → publisher_in_range n (choice_state n kind img new ch) ≡ true
      → update_answers n (choice_state n kind img new ch) replies ≡ play (publisher_script n kind img new ch) replies
  unfolding choice_state stopped_by turn_of
  choice_plays (Err r) e h = does_plays n (stopped_by kind r) (publisher_script n kind img new (Err r)) h (λ reply. stopping refl refl (λ again. refl)) replies
  choice_plays (Ok pages) e h = ready_plays pages.0 pages.1 h (chosen_means pages.0 pages.1 n kind img new p e).long

-- ---- the order of the events

steps_keep : (steps : List Step) (values : List ℕ) (good : Bool) → Keeps (as_script steps (λ g. gives values []) good) (step_events steps)
unfolding step_events
steps_keep [] values good = given
steps_keep (s ∷ ss) values good = sending (λ r. go (judged_of s.wanted good r) (steps_keep ss values))
  where
    go : (j : Judged) → ((g : Bool) → Keeps (as_script ss (λ g. gives values []) g) (step_events ss)) → Keeps (judged_script j (as_script ss (λ g. gives values []))) (step_events ss)
    go (Ok g) h = h g
    go (Err stop) h = stopped

pub events_ordered : (n : ℕ) (s : Publisher) (replies : List Bool) → Started n s → Begins (events_in s) (events_of (update_answers n s replies))
events_ordered n s replies st =
    rw (started_plays n s replies st)
    (ordered (subst (λ (x : Script). Keeps x (events_in s)) (planned s.kind s.superseded.0 s.target.0 s.used s.new) (steps_keep (plan_in s) _ true)) replies)

-- ---- on a chip whose replies are those that the plan wants

same_itself : (b : Bool) → same b b ≡ true
same_itself true = refl
same_itself false = refl

-- a reply that is what it has to be leads on
meets_on : (w : Wanted) (r : Bool) → Meets w r → judged_of w true r ≡ Ok true
unfolding judged_of judged_last
meets_on Anything r m = refl
meets_on Presence r m = rw m refl
meets_on (Bit b) r m = rw m (simp same_itself)
meets_on (LastCrcBit b) r m = rw m (simp same_itself)
meets_on (LastBackBit b) r m = rw m (simp same_itself)

steps_played : (n : ℕ) (steps : List Step) (values : List ℕ) (c : Chip) → Fits n c steps
    → play_on (next n) (line_at n) (as_script steps (λ good. gives values []) true) c ≡ record { events = step_events steps; told = accepted (tells values); bytes = [] }
unfolding play_on step_events Fits
steps_played n [] values c f = refl
steps_played n (x ∷ xs) values c f =
    let d = next n c x.event in
    ap (λ (p : Played). record { events = x.event ∷ p.events; told = p.told; bytes = p.bytes })
    (ap (λ (j : Judged). play_on (next n) (line_at n) (judged_script j (as_script xs (λ good. gives values []))) d) (meets_on x.wanted (line_at n c x.event) f.0)
    ∙ steps_played n xs values d f.1)

-- all the events are sent, and then l and t are told
pub chip_played : (n : ℕ) (s : Publisher) (c : Chip) → Fits n c (plan_in s)
    → play_on (next n) (line_at n) (script_in s) c ≡ record { events = events_in s; told = accepted (tells (s.superseded.0 ∷ s.target.0 ∷ [])); bytes = [] }
chip_played n s c f =
    ap (λ (x : Script). play_on (next n) (line_at n) x c) (sym (planned s.kind s.superseded.0 s.target.0 s.used s.new)) ∙ steps_played n (plan_in s) _ c f
