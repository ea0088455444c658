-- What a bus draws along events.
use mathlib.Core.Bool.{Bool}
use mathlib.Core.List.{List}
use mathlib.Core.Path.{◌≡◌}
use Rattle.bus_scripts.specs.Joint.{run, lines}

module _ {E B : Type 0} (react : B → E → B) (line : B → E → Bool) where
  -- the events take b to d, and these are the replies
  pub record Hears (b : B) (es : List E) (rs : List Bool) (d : B) : Type 0 where
    pub path : run react line b es ≡ d
    pub replies : lines react line b es ≡ rs
