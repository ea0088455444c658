-- The ranges of a page read's state, as docs/RANGES.md lists them, in plain numbers, over the page count n.
use Rattle.std.specs.Prelude.{ℕ, ◌<◌, ◌≤◌, ◌≡◌, Bool, true, cond, ◌&&◌, List, [], ◌∷◌, eqb, leb, get_or}
use Rattle.base_types.specs.Refusal.{number_of, values_of}
use Rattle.bus_scripts.specs.Ranges.{among, StillOut}
use Rattle.master_page.specs.declared.Part.{Part}
use Rattle.master_page.specs.declared.Part.TheVariants.{Redirection, RedirectionCrc, Data, DataCrc}
use Rattle.master_page.specs.declared.Phase.{Phase}
use Rattle.master_page.specs.declared.Phase.TheVariants.{Begin, Presence, Command, Receive, Closing, Done, Stopped}
use Rattle.master_page.specs.declared.PageRead.{PageRead}
use Rattle.master_page.specs.Page.{page_stop}

abbrev pub PartListed : Part → ℕ → Type 0
PartListed Redirection left = StillOut left 8
PartListed (RedirectionCrc b) left = StillOut left 16
PartListed (Data k) left = (k ≤ 31) × StillOut left 8
PartListed DataCrc left = StillOut left 16

-- a refusal that stops a read, by its number and values: 5 with a number that is no page
abbrev pub page_stops : ℕ → ℕ → List ℕ → Bool
page_stops n number values = among number (3 ∷ 4 ∷ 5 ∷ 6 ∷ 13 ∷ []) && cond (eqb number 5) (leb n (get_or values 0 0)) true

abbrev pub PagePhaseListed : ℕ → Phase → Type 0
PagePhaseListed n Begin = Unit {0}
PagePhaseListed n Presence = Unit {0}
PagePhaseListed n (Command i) = i ≤ 31
PagePhaseListed n (Receive part left register) = PartListed part left
PagePhaseListed n Closing = Unit {0}
PagePhaseListed n Done = Unit {0}
PagePhaseListed n (Stopped cause) = page_stops n (number_of (page_stop cause)) (values_of (page_stop cause)) ≡ true

pub record PageListed (n : ℕ) (s : PageRead) : Type 0 where
  pub page : s.page.0 < n
  pub hops : s.hops < n
  pub phase : PagePhaseListed n s.phase
