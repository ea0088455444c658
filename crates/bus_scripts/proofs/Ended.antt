-- Calls that told an end: the replies led the script to it.
use Prim.Native.Nat.{ℕ, zero, suc}
use mathlib.Core.Bool.{Bool}
use mathlib.Core.List.{List, [], ◌∷◌, ◌++◌}
use mathlib.Core.Path.{◌≡◌, refl, sym, ap, ◌∙◌, subst}
use native.Mathlib.Omega.{arith}
use lib.ListN.{length, replicate}
use Rattle.base_types.specs.Outcome.{Outcome, refused, accepted}
use Rattle.bus_events.specs.declared.Event.{Event}
use Rattle.bus_scripts.specs.Joint.{quiet}
use Rattle.bus_scripts.specs.Next.{Next, send, tells, out_of, events_of}
use Rattle.bus_scripts.specs.Script.{Script, stops, gives, sends, outcome_at, follow, play_from, play, left_in, left_by}
use Rattle.bus_scripts.proofs.Runs.{Runs, stopped, given, sent}

-- ---- an end repeats, and leaves a buffer as it is

-- no event comes of it: the script has stopped, or gives its result
abbrev Ends : Script → Type 0
Ends script = out_of (outcome_at script) ≡ quiet

repeats : (script : Script) → Ends script → (rs : List Bool) → play_from (follow script) rs ≡ replicate (length rs) (outcome_at script)
repeats script q [] = refl
repeats (stops number values) q (r ∷ rs) = ap (λ (l : List (Outcome Next)). refused number values ∷ l) (repeats (stops number values) q rs)
repeats (gives values bytes) q (r ∷ rs) = ap (λ (l : List (Outcome Next)). accepted (tells values) ∷ l) (repeats (gives values []) q rs)
repeats (sends e on) q (r ∷ rs) = let z : ◌≡◌ {A = ℕ} 0 1 = cc in absurd (omega arith)

keeps_buffer : (script : Script) → Ends script → (rs : List Bool) (lent : List ℕ) → left_by (follow script) rs lent ≡ lent
keeps_buffer script q [] lent = refl
keeps_buffer (stops number values) q (r ∷ rs) lent = keeps_buffer (stops number values) q rs lent
keeps_buffer (gives values bytes) q (r ∷ rs) lent = keeps_buffer (gives values []) q rs lent
keeps_buffer (sends e on) q (r ∷ rs) lent = let z : ◌≡◌ {A = ℕ} 0 1 = cc in absurd (omega arith)

quiet_events : (k : ℕ) (x : Outcome Next) → out_of x ≡ quiet → events_of (replicate k x) ≡ []
unfolding events_of
quiet_events zero x q = refl
quiet_events (suc k) (refused number values) q = quiet_events k (refused number values) q
quiet_events (suc k) (accepted (tells values)) q = quiet_events k (accepted (tells values)) q
quiet_events (suc k) (accepted (send e)) q = let z : ◌≡◌ {A = ℕ} 0 1 = cc in absurd (omega arith)

pub end_repeats : (script : Script) → Ends script → (first : Bool) (rs : List Bool) → play script (first ∷ rs) ≡ replicate (suc (length rs)) (outcome_at script)
end_repeats script q first rs = ap (λ (l : List (Outcome Next)). outcome_at script ∷ l) (repeats script q rs)

pub end_events : (script : Script) → Ends script → (first : Bool) (rs : List Bool) → events_of (play script (first ∷ rs)) ≡ []
end_events script q first rs = ap events_of (end_repeats script q first rs) ∙ quiet_events (suc (length rs)) (outcome_at script) q

-- ---- a whole run: its events, and what it leaves in a buffer, however many calls come after it

pub runs_events : {script : Script} {used : List Bool} {es : List Event} {told : Outcome Next} {bytes : List ℕ} (first : Bool) (rest : List Bool) → Runs script used es told bytes
    → events_of (play script (first ∷ (used ++ rest))) ≡ es
unfolding events_of
runs_events first rest (stopped {number = number} {values = values}) = end_events (stops number values) refl first rest
runs_events first rest (given {values = values} {bytes = bytes}) = end_events (gives values bytes) refl first rest
runs_events first rest (sent {e = e} {r = r} h) = ap (λ (l : List Event). e ∷ l) (runs_events r rest h)

pub runs_left : {script : Script} {used : List Bool} {es : List Event} {told : Outcome Next} {bytes : List ℕ} (first : Bool) (rest : List Bool) (lent : List ℕ)
    → Runs script used es told bytes → left_by (λ first. script) (first ∷ (used ++ rest)) lent ≡ left_in bytes lent
runs_left first rest lent (stopped {number = number} {values = values}) = keeps_buffer (stops number values) refl rest lent
runs_left first rest lent (given {values = values} {bytes = bytes}) = keeps_buffer (gives values bytes) refl rest (left_in bytes lent)
runs_left first rest lent (sent {r = r} h) = runs_left r rest lent h

-- ---- an end that was told

pub record Ended (script : Script) (rs : List Bool) (told : Outcome Next) : Type 0 where
  pub used : List Bool
  pub rest : List Bool
  pub events : List Event
  pub bytes : List ℕ
  pub is : rs ≡ used ++ rest
  pub runs : Runs script used events told bytes

repeated_is : (k : ℕ) (a x : Outcome Next) (before later : List (Outcome Next)) → replicate k a ≡ before ++ (x ∷ later) → x ≡ a
repeated_is zero a x [] later e = let z : ◌≡◌ {A = ℕ} 0 1 = cc in absurd (omega arith)
repeated_is zero a x (b ∷ before) later e = let z : ◌≡◌ {A = ℕ} 0 1 = cc in absurd (omega arith)
repeated_is (suc k) a x [] later e = cc
repeated_is (suc k) a x (b ∷ before) later e = repeated_is k a x before later cc

pub told_ended : (script : Script) (first : Bool) (rs : List Bool) (x : Outcome Next) (before later : List (Outcome Next)) → out_of x ≡ quiet
    → play script (first ∷ rs) ≡ before ++ (x ∷ later) → Ended script rs x
told_ended (stops number values) first rs x before later q e =
    let a = repeated_is (suc (length rs)) (refused number values) x before later (sym (end_repeats (stops number values) refl first rs) ∙ e) in
    record { used = []; rest = rs; events = []; bytes = []; is = refl; runs = subst (λ (t : Outcome Next). Runs (stops number values) [] [] t []) (sym a) stopped }
told_ended (gives values bytes) first rs x before later q e =
    let a = repeated_is (suc (length rs)) (accepted (tells values)) x before later (sym (end_repeats (gives values bytes) refl first rs) ∙ e) in
    record { used = []; rest = rs; events = []; bytes = bytes; is = refl; runs = subst (λ (t : Outcome Next). Runs (gives values bytes) [] [] t bytes) (sym a) given }
told_ended (sends e on) first rs x [] later q eq =
    let a : accepted (send e) ≡ x = cc in
    let z : ◌≡◌ {A = ℕ} 0 1 = cc in absurd (omega arith)
told_ended (sends e on) first [] x (b ∷ before) later q eq = go before cc
  where
    go : (before : List (Outcome Next)) → [] ≡ before ++ (x ∷ later) → Ended (sends e on) [] x
    go [] h = let z : ◌≡◌ {A = ℕ} 0 1 = cc in absurd (omega arith)
    go (b ∷ before) h = let z : ◌≡◌ {A = ℕ} 0 1 = cc in absurd (omega arith)
told_ended (sends e on) first (r ∷ rs) x (b ∷ before) later q eq =
    let m = told_ended (on r) r rs x before later q cc in
    record { used = r ∷ m.used; rest = m.rest; events = e ∷ m.events; bytes = m.bytes; is = ap (λ (l : List Bool). r ∷ l) m.is; runs = sent m.runs }
