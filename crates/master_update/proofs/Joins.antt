-- The publisher pair to a chip, so that the image after so many calls reads as demand 3 says.
use Prim.Native.Nat.{ℕ, ◌<◌, ◌≤◌}
use mathlib.Core.Path.{◌≡◌, refl, sym, ap, ap₂, ◌∙◌, subst}
use mathlib.Core.Bool.{true, cond}
use mathlib.Core.List.{List, [], ◌∷◌}
use native.Mathlib.Omega.{arith}
use lib.Dec.{ltb, lit<, lit≤}
use lib.ListN.{length, take}
use lib.Seq.{take_all}
use Rattle.std.specs.Prelude.{Ok, Err}
use Rattle.base_types.specs.Outcome.{accepted, refused}
use Rattle.base_types.specs.declared.address.Page.{Page}
use Rattle.base_types.specs.declared.refusal.Refusal.{Refusal}
use Rattle.base_types.specs.Refusal.{number_of, values_of}
use Rattle.master_plan.specs.declared.kind.UpdateKind.{UpdateKind}
use Rattle.bus_events.specs.declared.Event.{Event}
use Rattle.bus_scripts.specs.Next.{events_of}
use Rattle.bus_scripts.proofs.Scripts.{script_laws}
use Rattle.bus_scripts.proofs.Orders.{telling_events}
use Rattle.chip_chain_laws.specs.Update.{read_of, moved}
use Rattle.master_plan.specs.Kind.{total_of, shown_of}
use Rattle.master_publisher.specs.declared.Publisher.{Publisher}
use Rattle.master_publisher.specs.Start.{Choice, choice_of, choice_outcome, choice_state, ready, stopped_by, start_outcome, publisher_answer, publisher_state}
use Rattle.master_publisher.specs.Call.{call_answer, call_state}
use Rattle.chip_entries.specs.declared.event.State.{State}
use Rattle.chip_entries.specs.Event.{power_up}
use Rattle.chip_entries.specs.Run.{Chip, next, line_at, run}
use Rattle.chip_session_laws.specs.Session.{Bytes}
use Rattle.chip_session_laws.proofs.Ds2505.{states}
use Rattle.master_plan.specs.Plan.{step_events}
use Rattle.master_plan_laws.specs.Plan.{Accepts, plan_for, image_left, PlanLaws}
use Rattle.master_plan_laws.proofs.Starts.{chosen_means}
use Rattle.master_plan_laws.proofs.Laws.{plan_laws}
use Rattle.master_plan_laws.proofs.Stretches.{events_length}
use Rattle.master_call_laws.specs.Calls.{events_in}
use Rattle.master_publisher_laws.proofs.Demand.{events_are, joined_tells}
use Rattle.master_update.specs.declared.Joined.{Joined}
use Rattle.master_update.specs.Update.{is_running, replies_for, run_for, opened, choice_answer, update_answer, updated_image, ReadsAs}
use Rattle.master_update.proofs.Runs.{run_ended}

-- ---- an accepted update

module _ (kind : UpdateKind) (c : Chip) (new : List ℕ) (p : ℕ) (l t : Page) (ok : Accepts 64 kind c new p l t) where
  abbrev state : Publisher
  state = ready 64 kind c.image new l t

  abbrev pair : Joined
  pair = record { publisher = state; chip = c.state; reply = true }

  laws : PlanLaws 64 kind c new p l t
  laws = plan_laws 64 kind c new p l t refl (lit≤ tt) ok

  -- the drawn replies are good, so that so many calls return so many of the update's events
  run_image : (k : ℕ) → run_for 64 k pair c.image ≡ (run 64 c (take k (step_events (plan_for 64 kind c new l t)))).image
  unfolding run_for
  run_image k =
      let drawn = replies_for 64 k pair c.image in
      let good = script_laws.drawn (next 64) (line_at 64) (call_state 64) (call_answer 64) state c true k in
      ap (λ (es : List Event). (run 64 c es).image)
      (ap events_of (joined_tells 64 refl (lit< tt) (lit≤ tt) kind c new p drawn l t ok good.1)
      ∙ telling_events (events_in state) (l.0 ∷ t.0 ∷ []) (length drawn)
      ∙ ap₂ (λ (m : ℕ) (es : List Event). take m es) good.0 (events_are 64 refl (lit< tt) (lit≤ tt) kind c new p drawn l t ok))

  pub run_whole : (k : ℕ) → total_of kind ≤ k → run_for 64 k pair c.image ≡ image_left 64 c.image new l t
  run_whole k le =
      let plan = step_events (plan_for 64 kind c new l t) in
      run_image k
      ∙ ap (λ (es : List Event). (run 64 c es).image) (take_all k plan (omega (arith, events_length (plan_for 64 kind c new l t), laws.counted)))
      ∙ laws.leaves

  pub run_reads : (k q : ℕ) → q < 64 → (q ≡ t.0 → ⊥)
      → read_of 64 (run_for 64 k pair c.image) q ≡ cond (ltb k (shown_of kind)) (read_of 64 c.image q) (moved l.0 t.0 new (read_of 64 c.image q))
  run_reads k q lt d = ap (λ (img : List ℕ). read_of 64 img q) (run_image k) ∙ laws.reads k q lt d

-- ---- the whole function

module _ (kind : UpdateKind) (number img new : List ℕ) (p events : ℕ) (eight : length number ≡ 8) (small : Bytes new) where
  -- the image, by the choice
  abbrev image_by : Choice → List ℕ
  image_by ch = run_for 64 events (opened (choice_state 64 kind img new ch) number) img

  image_refused : (ch : Choice) (k : ℕ) (values : List ℕ) → choice_answer ch ≡ refused k values → image_by ch ≡ img
  unfolding choice_state stopped_by is_running
  image_refused (Err r) k values e = run_ended 64 events (opened (stopped_by kind r) number) img refl
  image_refused (Ok pages) k values e = cc

  chosen : (l t : Page) → choice_of 64 kind.placement img new p ≡ Ok (l, t) → Accepts 64 kind (record { state = power_up number; image = img }) new p l t
  chosen l t e =
      record { ready = states.power_up_law number img (chosen_means l t 64 kind img new p e).size eight; new_bytes = small; chosen = e }

  reads_as : ReadsAs 64 kind img new p events (updated_image 64 kind number img new p events)
  unfolding choice_state
  reads_as =
      let chip : Chip = record { state = power_up number; image = img } in
      record {
        refused = λ k values e. image_refused (choice_of 64 kind.placement img new p) k values e;
        reads = λ l t e q lt d. ap (λ (ch : Choice). read_of 64 (image_by ch) q) e ∙ run_reads kind chip new p l t (chosen l t e) events q lt d;
        whole = λ l t e le. ap image_by e ∙ run_whole kind chip new p l t (chosen l t e) events le;
      }

  -- what the start told says what the choice was
  was_refused : (ch : Choice) (k : ℕ) (values : List ℕ) → refused k values ≡ choice_outcome ch → refused k values ≡ choice_answer ch
  was_refused (Err r) k values e = e
  was_refused (Ok pages) k values e = cc

  was_accepted : (ch : Choice) → accepted [] ≡ choice_outcome ch
      → accepted ((choice_state 64 kind img new ch).superseded.0 ∷ (choice_state 64 kind img new ch).target.0 ∷ []) ≡ choice_answer ch
  unfolding choice_state ready
  was_accepted (Err r) e = cc
  was_accepted (Ok pages) e = refl

  -- ---- the two ends of the function

  pub kept_refused : (r : Refusal) → start_outcome (Err r) ≡ publisher_answer 64 kind img new p → img ≡ updated_image 64 kind number img new p events
  kept_refused r e =
      let choice = choice_of 64 kind.placement img new p in
      sym (image_refused choice (number_of r) (values_of r) (sym (was_refused choice (number_of r) (values_of r) e)))

  pub ends_ready : (s : Publisher) (cs : State) (after : List ℕ) → start_outcome (Ok tt) ≡ publisher_answer 64 kind img new p → s ≡ publisher_state 64 kind img new p
      → cs ≡ power_up number
      → after ≡ run_for 64 events (record { publisher = s; chip = cs; reply = true }) img
      → (accepted (s.superseded.0 ∷ s.target.0 ∷ []) ≡ update_answer 64 kind img new p) × ReadsAs 64 kind img new p events after
  ends_ready s cs after e es ec ea =
      let leaves : after ≡ updated_image 64 kind number img new p events =
      ea ∙ ap₂ (λ (u : Publisher) (v : State). run_for 64 events (record { publisher = u; chip = v; reply = true }) img) es ec in (
        ap (λ (u : Publisher). accepted (u.superseded.0 ∷ u.target.0 ∷ [])) es ∙ was_accepted (choice_of 64 kind.placement img new p) e,
        subst (ReadsAs 64 kind img new p events) (sym leaves) reads_as,
      )
