-- Slots one after the other.
use Prim.Native.Nat.{ℕ, ◌+◌}
use mathlib.Core.Bool.{Bool, true}
use mathlib.Core.List.{List, [], ◌∷◌, ◌++◌}
use mathlib.Core.Path.{◌≡◌, refl, sym, ap, ◌∙◌}
use lib.ListN.{replicate-append-replicate}
use Rattle.bus_events.specs.declared.Event.{Event}
use Rattle.bus_events.specs.Events.{slot}
use Rattle.bus_events.specs.Slots.{slots, ones, reading}

pub slots_append : (xs ys : List Bool) → slots (xs ++ ys) ≡ slots xs ++ slots ys
slots_append [] ys = refl
slots_append (x ∷ xs) ys = ap (λ (l : List Event). slot x ∷ l) (slots_append xs ys)

pub reading_add : (j k : ℕ) → reading (j + k) ≡ reading j ++ reading k
reading_add j k = ap slots (sym (replicate-append-replicate j k true)) ∙ slots_append (ones j) (ones k)
