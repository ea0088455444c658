-- Steps of a plan on a chip: where they lead, that each reply is what it has to be, and that the image stays within P.
use Prim.Native.Nat.{ℕ, zero, suc, ◌/◌, ◌%◌}
use mathlib.Core.Path.{◌≡◌, refl, sym, ap, ◌∙◌, subst}
use mathlib.Core.Bool.{Bool, false, ◌&&◌}
use mathlib.Core.List.{List, [], ◌∷◌, ◌++◌, map}
use lib.ListN.{length, take}
use Rattle.base_types.specs.Bits.{odd, bits_of}
use Rattle.base_types.specs.Outcome.{accepted}
use Rattle.bus_events.specs.declared.Event.{Event}
use Rattle.bus_events.specs.Events.{slot, read_slot}
use Rattle.bus_events.specs.Slots.{slots, reading}
use Rattle.master_plan.specs.declared.Wanted.{Wanted}
use Rattle.master_plan.specs.declared.Step.{Step}
use Rattle.master_plan.specs.Plan.{step, freely, read_steps, step_events}
use Rattle.chip_entries.specs.Run.{Chip, next, draws, run, answers, line_of}
use Rattle.chip_session_laws.specs.Session.{Ready, Reaches}
use Rattle.chip_session_laws.specs.Laws.{is_pulse, is_armed}
use Rattle.chip_session_laws.proofs.Runs.{run_append}
use Rattle.chip_session_laws.proofs.States.{keeps, image_kept}
use Rattle.master_plan_laws.specs.Plan.{Meets, Fits}

-- the image is within P at first and after each event
unfoldable pub Always : (List ℕ → Type 0) → ℕ → Chip → List Event → Type 0
Always P n c [] = P c.image
Always P n c (e ∷ es) = P c.image × Always P n (next n c e) es

pub record Stretch (P : List ℕ → Type 0) (n : ℕ) (c : Chip) (steps : List Step) (d : Chip) : Type 0 where
  pub path : run n c (step_events steps) ≡ d
  pub fits : Fits n c steps
  pub kept : Always P n c (step_events steps)

-- ---- one stretch after the other

pub events_append : (xs ys : List Step) → step_events (xs ++ ys) ≡ step_events xs ++ step_events ys
unfolding step_events
events_append [] ys = refl
events_append (x ∷ xs) ys = ap (λ l. x.event ∷ l) (events_append xs ys)

pub events_length : (steps : List Step) → length (step_events steps) ≡ length steps
unfolding step_events
events_length [] = refl
events_length (s ∷ ss) = ap suc (events_length ss)

module _ (n : ℕ) where
  fits_append : (c : Chip) (xs ys : List Step) → Fits n c xs → Fits n (run n c (step_events xs)) ys → Fits n c (xs ++ ys)
  unfolding Fits run step_events
  fits_append c [] ys f g = g
  fits_append c (x ∷ xs) ys f g = (f.0, fits_append (next n c x.event) xs ys f.1 g)

  kept_append : (P : List ℕ → Type 0) (c : Chip) (xs ys : List Event) → Always P n c xs → Always P n (run n c xs) ys → Always P n c (xs ++ ys)
  unfolding Always run
  kept_append P c [] ys f g = g
  kept_append P c (x ∷ xs) ys f g = (f.0, kept_append P (next n c x) xs ys f.1 g)

module _ {P : List ℕ → Type 0} {n : ℕ} where
  infixr 20 ◌then◌
  pub ◌then◌ : {c d e : Chip} {xs ys : List Step} → Stretch P n c xs d → Stretch P n d ys e → Stretch P n c (xs ++ ys) e
  ◌then◌ {c} {d} {e} {xs} {ys} p q =
      record {
        path = ap (run n c) (events_append xs ys) ∙ run_append n c (step_events xs) (step_events ys) ∙ ap (λ x. run n x (step_events ys)) p.path ∙ q.path;
        fits = fits_append n c xs ys p.fits (subst (λ x. Fits n x ys) (sym p.path) q.fits);
        kept =
            subst (Always P n c) (sym (events_append xs ys))
            (kept_append n P c (step_events xs) (step_events ys) p.kept (subst (λ x. Always P n x (step_events ys)) (sym p.path) q.kept));
      }

-- after any number of the events
pub always_at : (P : List ℕ → Type 0) (n : ℕ) (es : List Event) (c : Chip) → Always P n c es → (m : ℕ) → P (run n c (take m es)).image
unfolding Always run
always_at P n [] c h zero = h
always_at P n [] c h (suc m) = h
always_at P n (e ∷ es) c h zero = h.0
always_at P n (e ∷ es) c h (suc m) = always_at P n es (next n c e) h.1 m

any_image : (n : ℕ) (es : List Event) (c : Chip) → Always (λ _. Unit {0}) n c es
unfolding Always
any_image n [] c = tt
any_image n (e ∷ es) c = (tt, any_image n es (next n c e))

-- where a stretch leads, the chip is within its ranges
ready_run : (n : ℕ) → n % 8 ≡ 0 → (es : List Event) (c : Chip) → Ready n c → Ready n (run n c es)
unfolding run
ready_run n whole [] c ok = ok
ready_run n whole (e ∷ es) c ok = ready_run n whole es (next n c e) (keeps n whole c e ok)

pub still_ready : {P : List ℕ → Type 0} {n : ℕ} {c d : Chip} {steps : List Step} → n % 8 ≡ 0 → Ready n c → Stretch P n c steps d → Ready n d
still_ready {n = n} {c} {d} {steps} whole ok s = subst (Ready n) s.path (ready_run n whole (step_events steps) c ok)

-- where nothing is said of the image
pub loosely : {P : List ℕ → Type 0} {n : ℕ} {c d : Chip} {steps : List Step} → Stretch P n c steps d → Stretch (λ _. Unit {0}) n c steps d
loosely {n = n} {c} {d} {steps} s = record { path = s.path; fits = s.fits; kept = any_image n (step_events steps) c }

-- ---- from a run and its replies

-- the replies are what the steps want, and no step is a pulse
unfoldable pub Quiet : List Step → List Bool → Type 0
Quiet [] rs = Unit {0}
Quiet (s ∷ ss) [] = ⊥
Quiet (s ∷ ss) (r ∷ rs) = Meets s.wanted r × (is_pulse s.event ≡ false) × Quiet ss rs

-- slots whose replies are not looked at
pub free_events : (bs : List Bool) → step_events (freely (slots bs)) ≡ slots bs
unfolding step_events
free_events [] = refl
free_events (b ∷ bs) = ap (λ l. slot b ∷ l) (free_events bs)

pub free_quiet : (bs : List Bool) → Quiet (freely (slots bs)) bs
unfolding Quiet
free_quiet [] = tt
free_quiet (b ∷ bs) = (tt, refl, free_quiet bs)

-- read slots that draw the bits of v
pub read_events : (last : Bool → Wanted) (k v : ℕ) → step_events (read_steps last k v) ≡ reading k
unfolding step_events read_steps
read_events last zero v = refl
read_events last (suc zero) v = refl
read_events last (suc (suc k)) v = ap (λ l. read_slot ∷ l) (read_events last (suc k) (v / 2))

pub read_quiet : (last : Bool → Wanted) → ((b : Bool) → Meets (last b) b) → (k v : ℕ) → Quiet (read_steps last k v) (bits_of k v)
unfolding Quiet read_steps bits_of
read_quiet last meets zero v = tt
read_quiet last meets (suc zero) v = (meets (odd v), refl, tt)
read_quiet last meets (suc (suc k)) v = (refl, refl, read_quiet last meets (suc k) (v / 2))

module _ (n : ℕ) where
  fits_by : (c : Chip) (steps : List Step) (rs : List Bool) → answers n c (step_events steps) ≡ map accepted rs → Quiet steps rs → Fits n c steps
  unfolding step_events answers Quiet Fits
  fits_by c [] rs e q = tt
  fits_by c (s ∷ ss) [] e q = absurd q
  fits_by c (s ∷ ss) (r ∷ rs) e q =
      let d : draws n c s.event ≡ accepted r = cc in
      let rest : answers n (next n c s.event) (step_events ss) ≡ map accepted rs = cc in
      (subst (λ x. Meets s.wanted (line_of x)) (sym d) q.0, fits_by (next n c s.event) ss rs rest q.2)

  -- only a pulse changes the image
  kept_by : (P : List ℕ → Type 0) (c : Chip) (steps : List Step) (rs : List Bool) → Quiet steps rs → P c.image → Always P n c (step_events steps)
  unfolding step_events Quiet Always
  kept_by P c [] rs q h = h
  kept_by P c (s ∷ ss) [] q h = absurd q
  kept_by P c (s ∷ ss) (r ∷ rs) q h =
      let same : (next n c s.event).image ≡ c.image = image_kept n c s.event (ap (λ b. b && is_armed c.state.stage) q.1) in
      (h, kept_by P (next n c s.event) ss rs q.2 (subst P (sym same) h))

module _ (P : List ℕ → Type 0) {n : ℕ} {c d : Chip} where
  pub quietly : (steps : List Step) {es : List Event} {rs : List Bool} → step_events steps ≡ es → Quiet steps rs → P c.image → Reaches n c es rs d → Stretch P n c steps d
  quietly steps {es} {rs} e q h g =
      record {
        path = ap (run n c) e ∙ g.there;
        fits = fits_by n c steps rs (ap (answers n c) e ∙ g.told) q;
        kept = kept_by n P c steps rs q h;
      }

  -- the same, for a single event that may be a pulse
  pub singly : (e : Event) (w : Wanted) {r : Bool} → Meets w r → P c.image → P d.image → Reaches n c (e ∷ []) (r ∷ []) d → Stretch P n c (step e w ∷ []) d
  unfolding step_events Fits Always answers run
  singly e w {r} m h h' g =
      let a : draws n c e ≡ accepted r = let t : draws n c e ∷ [] ≡ accepted r ∷ [] = g.told in cc in
      record {
        path = g.there;
        fits = (subst (λ x. Meets w (line_of x)) (sym a) m, tt);
        kept = (h, subst (λ (x : Chip). P x.image) (sym g.there) h');
      }
