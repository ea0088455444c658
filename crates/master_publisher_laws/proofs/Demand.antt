-- Demand 3, from what the plan does on the chip and what the calls do with any replies.
use Prim.Native.Nat.{ℕ, ◌+◌, ◌-◌, ◌%◌, ◌<◌, ◌≤◌}
use mathlib.Core.Path.{◌≡◌, refl, sym, ap, ap₂, ◌∙◌, subst}
use mathlib.Core.Bool.{Bool, true, false, cond}
use mathlib.Core.List.{List, [], ◌∷◌, ◌++◌, map}
use native.Mathlib.Omega.{arith}
use lib.Dec.{ltb, lit<, lit≤}
use lib.ListN.{length, get_or, take, replicate}
use lib.Seq.{take-append-le}
use borrow.Author.Tests.{lt-ltb, le-ltb, eq-eqb}
use Rattle.std.specs.Prelude.{Ok, Err}
use Rattle.base_types.specs.Outcome.{Outcome, accepted, refused}
use Rattle.base_types.specs.Refusal.{number_of, values_of}
use Rattle.base_types.specs.declared.address.Page.{Page}
use Rattle.bus_events.specs.declared.Event.{Event}
use Rattle.bus_events.specs.Events.{reset, power_loss}
use Rattle.base_types.specs.Verdict.{final}
use Rattle.chip_chain.specs.Walk.{walk_of}
use Rattle.chip_memory.proofs.Pages.{copied_same}
use Rattle.chip_chain_laws.specs.Update.{read_of, moved, moved_by}
use Rattle.bus_scripts.specs.Next.{Next, send, tells, out_of}
use Rattle.bus_scripts.specs.Joint.{Begins, Good}
use Rattle.bus_scripts.specs.Script.{play, telling, play_on, Played}
use Rattle.bus_scripts.proofs.Orders.{telling_all, stopped_told}
use Rattle.master_plan.specs.declared.kind.UpdateKind.{UpdateKind}
use Rattle.master_plan.specs.Kind.{total_of, shown_of}
use Rattle.master_plan.specs.Plan.{plan_of, step_events}
use Rattle.master_publisher.specs.declared.Publisher.{Publisher}
use Rattle.master_publisher.specs.Start.{Choice, choice_of, choice_outcome, choice_state, ready, bitmap_byte, publisher_state}
use Rattle.master_publisher.specs.Stop.{publisher_refusal}
use Rattle.master_publisher.specs.Code.Turn.{plan_in}
use Rattle.chip_entries.specs.Run.{Chip, next, line_at, run}
use Rattle.chip_session_laws.specs.Session.{Ready, Bytes}
use Rattle.chip_session_laws.proofs.Runs.{run_append}
use Rattle.chip_session_laws.proofs.States.{image_kept}
use Rattle.master_plan_laws.specs.Plan.{Fits, Accepts, plan_for, PlanLaws}
use Rattle.master_plan_laws.proofs.Starts.{chosen_means}
use Rattle.master_plan_laws.proofs.Laws.{plan_laws}
use Rattle.master_plan_laws.proofs.Stretches.{events_length}
use Rattle.master_call_laws.specs.Script.{publisher_script}
use Rattle.master_call_laws.specs.Calls.{update_answers, Started, script_in, events_in}
use Rattle.master_call_laws.proofs.Laws.{call_laws}
use Rattle.master_call_laws.proofs.Plays.{chip_played}
use Rattle.master_publisher_laws.specs.Demand.{returned, reaching, read_after, Update, Demand3, Demand3Of}

-- a power loss leaves the image
cut_image : (n : ℕ) (c : Chip) (events : List Event) (m : ℕ) (cut : Bool)
    → (run n c (reaching events m cut)).image ≡ (run n c (take m events)).image
cut_image n c events m false = refl
cut_image n c events m true =
    ap (λ (d : Chip). d.image) (run_append n c (take m events) (power_loss ∷ []))
    ∙ unfold run in image_kept n (run n c (take m events)) power_loss refl

-- a page that ended at l reads as the new page
moved_final : (n : ℕ) (img new : List ℕ) (p : ℕ) (l : Page) (t hops : ℕ) → walk_of n img p ≡ final l.0 hops
    → moved l.0 t new (read_of n img p) ≡ record { verdict = final t (hops + 1); bytes = new }
moved_final n img new p l t hops e =
    ap (λ v. moved_by l.0 t new (read_of n img p) v) e ∙ simp (eq-eqb l.0 l.0 refl)

module _ (n : ℕ) (whole : n % 8 ≡ 0) (some : 0 < n) (low : n ≤ 256) (kind : UpdateKind) (c : Chip) (new : List ℕ) (p : ℕ) (replies : List Bool) where
  module _ (l t : Page) (ok : Accepts n kind c new p l t) where
    abbrev state : Publisher
    state = ready n kind c.image new l t

    laws : PlanLaws n kind c new p l t
    laws = plan_laws n kind c new p l t whole low ok

    same : plan_in state ≡ plan_for n kind c new l t
    unfolding ready
    same = ap (plan_of kind l.0 t.0 (bitmap_byte n c.image t.0)) (copied_same new (replicate 32 0) laws.long)

    started : Started n state
    unfolding ready choice_state
    started =
        record {
          stage = refl;
          ranged = rw ok.chosen at ((call_laws n some).starts kind c.image new p);
          long = ap length (copied_same new (replicate 32 0) laws.long) ∙ laws.long;
        }

    abbrev end : Outcome Next
    end = accepted (tells (l.0 ∷ t.0 ∷ []))

    -- on the chip, the script sends all its events and tells l and t
    played : play_on (next n) (line_at n) (script_in state) c ≡ record { events = events_in state; told = end; bytes = [] }
    unfolding ready
    played = chip_played n state c (subst (Fits n c) (sym same) laws.fits)

    pub events_are : events_in state ≡ step_events (plan_for n kind c new l t)
    events_are = ap step_events same

    size : length (events_in state) ≡ total_of kind
    size = ap length events_are ∙ events_length (plan_for n kind c new l t) ∙ laws.counted

    -- with good replies, however many
    pub joined_tells : Good (next n) (line_at n) out_of c (update_answers n state replies) replies → update_answers n state replies ≡ telling (events_in state) end (length replies)
    joined_tells good =
        (call_laws n some).plays_on (next n) (line_at n) state c replies started good ∙ ap (λ (q : Played). telling q.events q.told (length replies)) played

    first_of : Begins (events_in state) (returned n state replies)
    first_of = (call_laws n some).ordered state replies started

    reads : (m : ℕ) (cut : Bool) → m ≤ length (returned n state replies) → (q : ℕ) → q < n → (q ≡ t.0 → ⊥)
        → read_after n c (returned n state replies) m cut q
        ≡ cond (ltb m (shown_of kind)) (read_of n c.image q) (moved l.0 t.0 new (read_of n c.image q))
    reads m cut le q lt d =
        let takes : take m (returned n state replies) ≡ take m (step_events (plan_for n kind c new l t)) =
        sym (take-append-le m (returned n state replies) first_of.rest le) ∙ ap (take m) (sym first_of.is ∙ events_are) in
        ap (λ (img : List ℕ). read_of n img q) (cut_image n c (returned n state replies) m cut ∙ ap (λ (es : List Event). (run n c es).image) takes)
        ∙ laws.reads m q lt d

    below : p < n
    below = (chosen_means l t n kind c.image new p ok.chosen).on_chip

    update : Update n kind c new p state replies
    unfolding ready
    update =
        record {
          hops = laws.hops;
          asked = laws.asked;
          apart = laws.apart;
          reads = reads;
          old = λ m cut le lt. reads m cut le p below laws.apart ∙ simp (lt-ltb m (shown_of kind) lt);
          changed = λ m cut le ge.
              reads m cut le p below laws.apart ∙ simp (le-ltb m (shown_of kind) ge) (moved_final n c.image new p l t.0 laws.hops laws.asked);
          ordered = first_of;
          counted = size;
          scripted = played;
          shows = ap (λ (es : List Event). get_or es (shown_of kind - 1) reset) events_are ∙ laws.shows;
          ends = λ good enough.
              joined_tells good
              ∙ telling_all (events_in state) end (length replies) (omega (arith, size))
              ∙ ap (λ (k : ℕ). map (λ (e : Event). accepted (send e)) (events_in state) ++ replicate (length replies - k) end) size;
        }

  abbrev choice : Choice
  choice = choice_of n kind.placement c.image new p

  accepts : Ready n c → Bytes new → (ch : Choice) → choice ≡ ch → choice_outcome ch ≡ accepted []
      → Update n kind c new p (choice_state n kind c.image new ch) replies
  unfolding choice_state
  accepts ok small (Ok pages) e a = update pages.0 pages.1 (record { ready = ok; new_bytes = small; chosen = e })
  accepts ok small (Err r) e a = cc

  refuses : (k : ℕ) (values : List ℕ) (ch : Choice) → choice ≡ ch → choice_outcome ch ≡ refused k values
      → update_answers n (publisher_state n kind c.image new p) replies ≡ replicate (length replies) (refused k values)
  refuses k values (Ok pages) e a = cc
  refuses k values (Err r) e a =
      let number : number_of (publisher_refusal r) ≡ k = cc in
      let given : values_of (publisher_refusal r) ≡ values = cc in
      (call_laws n some).plays kind c.image new p replies
      ∙ ap (λ (ch : Choice). play (publisher_script n kind c.image new ch) replies) e
      ∙ stopped_told (number_of (publisher_refusal r)) (values_of (publisher_refusal r)) replies
      ∙ ap₂ (λ (x : ℕ) (v : List ℕ). replicate {A = Outcome Next} (length replies) (refused x v)) number given

  demands : Ready n c → Bytes new → Demand3 n kind c new p replies
  demands ok small =
      record {
        update = λ a. accepts ok small choice refl a;
        refusal = λ k values a. refuses k values choice refl a;
      }

pub demand_3 : (n : ℕ) → n % 8 ≡ 0 → 0 < n → n ≤ 256 → Demand3Of n
demand_3 n whole some low kind c new p replies ok small = demands n whole some low kind c new p replies ok small

-- at the DS2505's 64 pages
pub demand_3_ds2505 : Demand3Of 64
demand_3_ds2505 = demand_3 64 refl (lit< tt) (lit≤ tt)
