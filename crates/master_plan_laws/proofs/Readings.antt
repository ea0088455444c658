-- The whole plan on the chip: its replies are those wanted, and what each page reads as after any number of its events.
use Prim.Native.Nat.{ℕ, suc, ◌+◌, ◌-◌, ◌%◌, ◌<◌}
use mathlib.Core.Path.{◌≡◌, refl, ap, ◌∙◌}
use mathlib.Core.Bool.{true, cond}
use mathlib.Core.List.{List, [], ◌∷◌, ◌++◌}
use native.Mathlib.Omega.{arith}
use native.Mathlib.Decide.{dec_lt}
use lib.Dec.{ltb}
use lib.ListN.{length, get_or, take}
use lib.Seq.{take-append-le, take-append-add, get_or_at}
use borrow.Author.Tests.{lt-ltb, le-ltb}
use Rattle.base_types.specs.declared.address.Target.TheVariants.{Status}
use Rattle.bus_events.specs.declared.Event.{Event}
use Rattle.bus_events.specs.Events as events
use Rattle.chip_memory.specs.declared.layout.Field.TheVariants.{RedirectionProtection}
use Rattle.chip_memory.specs.Image.{page_bit}
use Rattle.chip_stage.specs.declared.stage.MemoryStage.TheVariants.{Armed}
use Rattle.chip_stage.specs.Writes.{reading_back}
use Rattle.chip_chain.specs.Free.{Free}
use Rattle.chip_chain_laws.specs.Update.{PageReading, read_of, moved}
use Rattle.chip_chain_laws.proofs.Images.{Accepted, reads_before}
use Rattle.chip_chain_laws.proofs.Readings.{reads_after}
use Rattle.master_plan.specs.declared.kind.UpdateKind.{UpdateKind}
use Rattle.master_plan.specs.Kind.{shown_of}
use Rattle.master_plan.specs.Places.{redirection_address, naming}
use Rattle.master_plan.specs.Plan.{pulse_step, plan_of, step_events}
use Rattle.master_publisher.specs.Start.{bitmap_byte}
use Rattle.chip_entries.specs.Event.{awaiting_rom}
use Rattle.chip_entries.specs.Run.{Chip, run}
use Rattle.chip_session_laws.specs.Session.{Ready, ◌at◌, ◌holding◌, Bytes}
use Rattle.chip_session_laws.proofs.Runs.{run_append}
use Rattle.master_plan_laws.specs.Plan.{Fits}
use Rattle.master_plan_laws.proofs.Images.{cleared_byte, written, linked_image}
use Rattle.master_plan_laws.proofs.Stretches.{Stretch, ◌then◌, loosely, always_at, events_append, events_length, still_ready}
use Rattle.master_plan_laws.proofs.Parts.{standing}
use Rattle.master_plan_laws.proofs.Plans.{before_pulse, after_pulse, plan_split, before_length, to_the_pulse, the_pulse, from_the_pulse}

-- each page but t reads by the first image's reading through f
abbrev Reads : ℕ → (PageReading → PageReading) → List ℕ → ℕ → List ℕ → Type 0
Reads n f img t image = (q : ℕ) → q < n → (q ≡ t → ⊥) → read_of n image q ≡ f (read_of n img q)

-- the events of the plan, split at the pulse that shows
events_split : (kind : UpdateKind) (l t used : ℕ) (new : List ℕ)
    → step_events (plan_of kind l t used new) ≡ step_events (before_pulse kind l t used new) ++ (events.pulse ∷ step_events (after_pulse t))
unfolding step_events
events_split kind l t used new = ap step_events (plan_split kind l t used new) ∙ events_append (before_pulse kind l t used new) (pulse_step ∷ after_pulse t)

before_events : (kind : UpdateKind) (l t used : ℕ) (new : List ℕ) → length new ≡ 32 → length (step_events (before_pulse kind l t used new)) ≡ shown_of kind - 1
before_events kind l t used new long = events_length (before_pulse kind l t used new) ∙ before_length kind l t used new long

pub pulse_shows : (kind : UpdateKind) (l t used : ℕ) (new : List ℕ) → length new ≡ 32 → get_or (step_events (plan_of kind l t used new)) (shown_of kind - 1) events.reset ≡ events.pulse
pulse_shows kind l t used new long =
    rw (events_split kind l t used new)
    (get_or_at (step_events (before_pulse kind l t used new)) events.pulse (step_events (after_pulse t)) events.reset (shown_of kind - 1) (before_events kind l t used new long))

module _ (n : ℕ) (whole : n % 8 ≡ 0) (kind : UpdateKind) (c : Chip) (new : List ℕ) (l t : ℕ) (ok : Accepted n c.image new l t) (free : Free n c.image t)
    (unprotected : page_bit n RedirectionProtection c.image l ≡ true) (small : Bytes new) (ready : Ready n c) where
  abbrev used : ℕ
  used = bitmap_byte n c.image t

  abbrev armed_chip : Chip
  armed_chip = standing c (Armed kind.mode (Status (redirection_address l)) (naming t).0) (written n c.image new t 32)

  abbrev shown_chip : Chip
  shown_chip = standing c (reading_back n kind.mode (Status (redirection_address l)) (linked_image n c.image new l t)) (linked_image n c.image new l t)

  before : Stretch (Reads n (λ r. r) c.image t) n c (before_pulse kind l t used new) armed_chip
  before =
      to_the_pulse n whole kind c new l t ok free unprotected small (Reads n (λ r. r) c.image t)
      (λ k le q lt d. reads_before n c.image new l t (cleared_byte n c.image t) ok k q le lt d) ready (λ q lt d. refl)

  pulse : Stretch (λ _. Unit {0}) n armed_chip (pulse_step ∷ []) shown_chip
  pulse = the_pulse n whole kind c new l t ok free unprotected small (still_ready whole ready before)

  after : Stretch (Reads n (moved l t new) c.image t) n shown_chip (after_pulse t) ((c holding linked_image n c.image new l t) at awaiting_rom)
  after =
      from_the_pulse n whole kind c new l t ok free unprotected small (Reads n (moved l t new) c.image t)
      (λ q lt d. reads_after n c.image new l t (cleared_byte n c.image t) ok q lt d) (still_ready whole (still_ready whole ready before) pulse)

  whole_plan : Stretch (λ _. Unit {0}) n c (before_pulse kind l t used new ++ (pulse_step ∷ after_pulse t)) ((c holding linked_image n c.image new l t) at awaiting_rom)
  whole_plan = loosely before then pulse then loosely after

  pub plan_leaves : (run n c (step_events (plan_of kind l t (bitmap_byte n c.image t) new))).image ≡ linked_image n c.image new l t
  plan_leaves = rw (plan_split kind l t used new) (ap (λ (d : Chip). d.image) whole_plan.path)

  pub plan_fits : Fits n c (plan_of kind l t (bitmap_byte n c.image t) new)
  plan_fits = rw (plan_split kind l t used new) whole_plan.fits

  -- past the pulse the run goes on from where the pulse led
  past : (m : ℕ) → run n c (step_events (before_pulse kind l t used new) ++ (events.pulse ∷ take m (step_events (after_pulse t)))) ≡ run n shown_chip (take m (step_events (after_pulse t)))
  unfolding run step_events
  past m =
      run_append n c (step_events (before_pulse kind l t used new)) (events.pulse ∷ take m (step_events (after_pulse t)))
      ∙ ap (λ d. run n d (events.pulse ∷ take m (step_events (after_pulse t)))) before.path
      ∙ ap (λ d. run n d (take m (step_events (after_pulse t)))) pulse.path

  pub plan_reads : (m q : ℕ) → q < n → (q ≡ t → ⊥)
      → read_of n (run n c (take m (step_events (plan_of kind l t (bitmap_byte n c.image t) new)))).image q
      ≡ cond (ltb m (shown_of kind)) (read_of n c.image q) (moved l t new (read_of n c.image q))
  plan_reads m q lt d = rw (events_split kind l t used new) (go (dec_lt m (shown_of kind)))
    where
      B : List Event
      B = step_events (before_pulse kind l t used new)

      A : List Event
      A = step_events (after_pulse t)

      long : length B ≡ shown_of kind - 1
      long = before_events kind l t used new ok.long

      go : Dec (m < shown_of kind) → read_of n (run n c (take m (B ++ (events.pulse ∷ A)))).image q ≡ cond (ltb m (shown_of kind)) (read_of n c.image q) (moved l t new (read_of n c.image q))
      go (yes y) =
          simp (lt-ltb m (shown_of kind) y, take-append-le m B (events.pulse ∷ A) (omega (arith, long))) (always_at (Reads n (λ r. r) c.image t) n B c before.kept m q lt d)
      go (no y) =
          let e : m ≡ length B + suc (m - shown_of kind) = omega (arith, long) in
          simp (le-ltb m (shown_of kind) (omega arith))
          (rw (e, take-append-add B (events.pulse ∷ A) (suc (m - shown_of kind)), past (m - shown_of kind)) (always_at (Reads n (moved l t new) c.image t) n A
          shown_chip after.kept (m - shown_of kind) q lt d))
