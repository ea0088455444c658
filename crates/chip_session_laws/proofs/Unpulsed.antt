-- Events with no pulse among them leave the image as it was.
use Prim.Native.Nat.{ℕ}
use mathlib.Core.Bool.{Bool, false, ◌&&◌}
use mathlib.Core.List.{List, [], ◌∷◌}
use mathlib.Core.Path.{◌≡◌, refl, ap, ◌∙◌}
use Rattle.bus_events.specs.declared.Event.{Event}
use Rattle.bus_scripts.proofs.Bounded.{Each}
use Rattle.chip_entries.specs.Run.{Chip, next, run}
use Rattle.chip_session_laws.specs.Laws.{is_pulse, is_armed}
use Rattle.chip_session_laws.proofs.States.{image_kept}

abbrev pub NoPulse : Event → Type 0
NoPulse e = is_pulse e ≡ false

pub unpulsed : (n : ℕ) (es : List Event) (c : Chip) → Each NoPulse es → (run n c es).image ≡ c.image
unfolding run
unpulsed n [] c h = refl
unpulsed n (e ∷ es) c h = unpulsed n es (next n c e) h.1 ∙ image_kept n c e (ap (λ (b : Bool). b && is_armed c.state.stage) h.0)
