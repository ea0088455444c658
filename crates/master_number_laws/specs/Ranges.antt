-- The ranges of a number read's state, as docs/RANGES.md lists them, in plain numbers.
use Rattle.std.specs.Prelude.{ℕ, ◌≤◌, ◌≡◌, true, List, [], ◌∷◌}
use Rattle.base_types.specs.Refusal.{number_of}
use Rattle.bus_scripts.specs.Ranges.{among, StillOut}
use Rattle.master_number.specs.declared.Phase.{Phase}
use Rattle.master_number.specs.declared.Phase.TheVariants.{Begin, Presence, Command, Receive, Closing, Done, Stopped}
use Rattle.master_number.specs.Number.{number_stop}
use Rattle.master_number_laws.specs.Script.{crc8_agrees, family_agrees}

-- bytes that a read accepts
pub record Sound (bytes : List ℕ) : Type 0 where
  pub crc : crc8_agrees bytes ≡ true
  pub family : family_agrees bytes ≡ true

-- a phase, with the bytes of the state
abbrev pub NumberListed : Phase → List ℕ → Type 0
NumberListed Begin bytes = Unit {0}
NumberListed Presence bytes = Unit {0}
NumberListed (Command i) bytes = i ≤ 7
NumberListed (Receive k left register) bytes = (k ≤ 7) × StillOut left 8
NumberListed Closing bytes = Sound bytes
NumberListed Done bytes = Sound bytes
NumberListed (Stopped cause) bytes = among (number_of (number_stop cause)) (13 ∷ 14 ∷ 15 ∷ []) ≡ true
