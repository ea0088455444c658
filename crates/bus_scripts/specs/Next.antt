-- What a call of a master tells, where it is not refused: the next event, or the end with its values.
use Rattle.std.specs.Prelude.{ℕ, List, [], ◌∷◌, Result, Ok, Err}
use Rattle.base_types.specs.declared.refusal.Refusal.{Refusal}
use Rattle.base_types.specs.Outcome.{Outcome, refused, accepted, refusing}
use Rattle.bus_events.specs.declared.Event.{Event}
use Rattle.bus_events.specs.declared.Next.{Next as CodeNext}
use Rattle.bus_events.specs.declared.Next.TheVariants.{Send, End}
use Rattle.bus_scripts.specs.Joint.{Out, event, quiet}

pub data Next : Type 0 where
  send : Event → Next
  tells : List ℕ → Next

-- what a master's answer tells, where values_of are the values of its end
abbrev pub next_outcome : {E : Type 0} → (E → List ℕ) → Result (CodeNext E) Refusal → Outcome Next
next_outcome values_of (Ok (Send e)) = accepted (send e)
next_outcome values_of (Ok (End end)) = accepted (tells (values_of end))
next_outcome values_of (Err r) = refusing r

-- the event that an answer hands to the bus, if there is one
abbrev pub out_of : Outcome Next → Out Event
out_of (accepted (send e)) = event e
out_of (accepted (tells values)) = quiet
out_of (refused k values) = quiet

-- the events among answers
unfoldable pub events_of : List (Outcome Next) → List Event
events_of [] = []
events_of (accepted (send e) ∷ rest) = e ∷ events_of rest
events_of (accepted (tells values) ∷ rest) = events_of rest
events_of (refused k values ∷ rest) = events_of rest
