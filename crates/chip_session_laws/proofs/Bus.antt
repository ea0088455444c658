-- What a chip draws over a session, as a bus hears it.
use Prim.Native.Nat.{ℕ}
use mathlib.Core.Bool.{Bool}
use mathlib.Core.List.{List, [], ◌∷◌, map}
use mathlib.Core.Path.{◌≡◌, refl, ap, ap₂, ◌∙◌}
use native.Mathlib.Omega.{arith}
use Rattle.base_types.specs.Outcome.{accepted}
use Rattle.bus_events.specs.declared.Event.{Event}
use Rattle.chip_entries.specs.Run.{Chip, next, draws, run, answers, line_of, line_at}
use Rattle.chip_session_laws.specs.Session.{Reaches}
use Rattle.bus_scripts.specs.Joint as joint
use Rattle.bus_scripts.proofs.Joins.{Hears}

module _ (n : ℕ) where
  lines_are : (es : List Event) (rs : List Bool) (c : Chip) → answers n c es ≡ map accepted rs → joint.lines (next n) (line_at n) c es ≡ rs
  unfolding answers
  lines_are [] [] c e = refl
  lines_are [] (r ∷ rs) c e = let z : ◌≡◌ {A = ℕ} 0 1 = cc in absurd (omega arith)
  lines_are (x ∷ es) [] c e = let z : ◌≡◌ {A = ℕ} 0 1 = cc in absurd (omega arith)
  lines_are (x ∷ es) (r ∷ rs) c e =
      let a : draws n c x ≡ accepted r = cc in
      let b : answers n (next n c x) es ≡ map accepted rs = cc in
      ap₂ (λ (y : Bool) (l : List Bool). y ∷ l) (ap line_of a) (lines_are es rs (next n c x) b)

  run_is : (es : List Event) (c : Chip) → joint.run (next n) (line_at n) c es ≡ run n c es
  unfolding run
  run_is [] c = refl
  run_is (e ∷ es) c = run_is es (next n c e)

  pub bus_hears : {c d : Chip} {es : List Event} {rs : List Bool} → Reaches n c es rs d → Hears (next n) (line_at n) c es rs d
  bus_hears {c} {d} {es} {rs} g = record { path = run_is es c ∙ g.there; replies = lines_are es rs c g.told }
