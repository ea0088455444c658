-- The plan of an accepted update on a chip whose image was lent to the start, over the page count n and the kind of the update.
use Rattle.std.specs.Prelude.{ℕ, ◌-◌, ◌<◌, ◌≡◌, Bool, false, cond, List, [], ◌∷◌, Ok, ltb, length, get_or, take}
use Rattle.std.specs.Int.Bits.{bit_and}
use Rattle.base_types.specs.declared.address.Page.{Page}
use Rattle.base_types.specs.Verdict.{final}
use Rattle.bus_events.specs.Events.{reset, pulse}
use Rattle.chip_chain.specs.Walk.{walk_of}
use Rattle.chip_chain_laws.specs.Update.{read_of, moved, linked}
use Rattle.master_plan.specs.declared.Wanted.{Wanted}
use Rattle.master_plan.specs.declared.Wanted.TheVariants.{Anything, Presence, Bit, LastCrcBit, LastBackBit}
use Rattle.master_plan.specs.declared.Step.{Step}
use Rattle.master_plan.specs.declared.kind.UpdateKind.{UpdateKind}
use Rattle.master_plan.specs.Kind.{total_of, shown_of}
use Rattle.master_plan.specs.Places.{clearing}
use Rattle.master_plan.specs.Plan.{plan_of, step_events}
use Rattle.master_publisher.specs.Start.{choice_of, bitmap_byte}
use Rattle.chip_entries.specs.Run.{Chip, next, run, line_at}
use Rattle.chip_session_laws.specs.Session.{Ready, Bytes}

-- a reply is what it has to be
abbrev pub Meets : Wanted → Bool → Type 0
Meets Anything r = Unit {0}
Meets Presence r = r ≡ false
Meets (Bit b) r = r ≡ b
Meets (LastCrcBit b) r = r ≡ b
Meets (LastBackBit b) r = r ≡ b

-- the replies that the chip draws are all what they have to be
unfoldable pub Fits : ℕ → Chip → List Step → Type 0
Fits n c [] = Unit {0}
Fits n c (s ∷ ss) = Meets s.wanted (line_at n c s.event) × Fits n (next n c s.event) ss

-- The start, lent the chip's own image and the new bytes, chose l and t for page p.
pub record Accepts (n : ℕ) (kind : UpdateKind) (c : Chip) (new : List ℕ) (p : ℕ) (l t : Page) : Type 0 where
  pub ready : Ready n c
  pub new_bytes : Bytes new
  pub chosen : choice_of n kind.placement c.image new p ≡ Ok (l, t)

-- the plan that the start's state has
abbrev pub plan_for : ℕ → UpdateKind → Chip → List ℕ → Page → Page → List Step
plan_for n kind c new l t = plan_of kind l.0 t.0 (bitmap_byte n c.image t.0) new

-- the image that a whole update leaves, the same in every kind: t's bitmap bit cleared, the new bytes in page t, 255 - t as the
-- redirection byte of l
abbrev pub image_left : ℕ → List ℕ → List ℕ → Page → Page → List ℕ
image_left n img new l t = linked n img l.0 t.0 (bit_and (bitmap_byte n img t.0) (clearing t.0)) new

pub record PlanLaws (n : ℕ) (kind : UpdateKind) (c : Chip) (new : List ℕ) (p : ℕ) (l t : Page) : Type 0 where
  -- l is where p ends; t is another page than l and p; the new bytes are 32
  pub hops : ℕ
  pub asked : walk_of n c.image p ≡ final l.0 hops
  pub superseded_page : l.0 < n
  pub target_page : t.0 < n
  pub apart : p ≡ t.0 → ⊥
  pub long : length new ≡ 32
  -- so many events, and the one that shows is a pulse
  pub counted : length (plan_for n kind c new l t) ≡ total_of kind
  pub shows : get_or (step_events (plan_for n kind c new l t)) (shown_of kind - 1) reset ≡ pulse
  -- the chip's replies are those that the plan wants
  pub fits : Fits n c (plan_for n kind c new l t)
  -- after the first m events, every page but t reads as before while m is below the number of the event that shows; and from it on
  -- each page that ended at l reads Final t, one hop more, and the new bytes, and every other page but t as before
  pub reads : (m q : ℕ) → q < n → (q ≡ t.0 → ⊥)
      → read_of n (run n c (take m (step_events (plan_for n kind c new l t)))).image q
      ≡ cond (ltb m (shown_of kind)) (read_of n c.image q) (moved l.0 t.0 new (read_of n c.image q))
  -- after all events the image is this one
  pub leaves : (run n c (step_events (plan_for n kind c new l t))).image ≡ image_left n c.image new l t
