-- Which updates the publisher's start accepts, and which bands are closed (M-104), over the page count n. The start's answer goes
-- by the kind's placement alone.
use Rattle.std.specs.Prelude.{ℕ, ◌<◌, ◌≤◌, ◌≡◌, true, false, List, [], ◌∷◌, Some, None, Ok, length}
use Rattle.base_types.specs.Outcome.{refused}
use Rattle.base_types.specs.declared.address.Page.{Page}
use Rattle.base_types.specs.Verdict as verdicts
use Rattle.base_types.specs.Verdict.{final}
use Rattle.chip_memory.specs.declared.layout.Field.TheVariants.{DataProtection, RedirectionProtection}
use Rattle.chip_memory.specs.Layout.{image_size}
use Rattle.chip_memory.specs.Image.{page_bit}
use Rattle.chip_chain.specs.Walk.{walk_of}
use Rattle.master_plan.specs.declared.kind.UpdateKind.{UpdateKind}
use Rattle.master_publisher.specs.Start.{target_by, choice_of, publisher_answer}

-- Page p can be superseded by the bytes new: its chain ends at l, neither l's data nor its redirection byte are protected, and t is the
-- page that the placement chooses, the lowest free page other than l.
pub record Open (n : ℕ) (kind : UpdateKind) (img new : List ℕ) (p : ℕ) (l t : Page) : Type 0 where
  pub hops : ℕ
  pub size : length img ≡ image_size n
  pub long : length new ≡ 32
  pub on_chip : p < n
  pub walk : walk_of n img p ≡ final l.0 hops
  pub data_open : page_bit n DataProtection img l.0 ≡ true
  pub redirection_open : page_bit n RedirectionProtection img l.0 ≡ true
  pub found : target_by kind.placement n img l.0 ≡ Some t

-- Page p's band is closed: its chain ends at a page whose data are protected, and the values are that page.
pub record Closed (n : ℕ) (img : List ℕ) (p : ℕ) (values : List ℕ) : Type 0 where
  pub superseded : Page
  pub hops : ℕ
  pub walk : walk_of n img p ≡ final superseded.0 hops
  pub protected : page_bit n DataProtection img superseded.0 ≡ false
  pub given : values ≡ superseded.0 ∷ []

pub record StartLaws (n : ℕ) (kind : UpdateKind) (img new : List ℕ) (p : ℕ) : Type 0 where
  -- l and t are chosen exactly where page p can be superseded, and are those pages
  pub means : (l t : Page) → choice_of n kind.placement img new p ≡ Ok (l, t) → Open n kind img new p l t
  pub accepts : (l t : Page) → Open n kind img new p l t → choice_of n kind.placement img new p ≡ Ok (l, t)
  -- the refusals in their order, each whatever those after it would say: 1, 10, 3, 4, 5, 20, 9, 8
  pub image_length : (length img ≡ image_size n → ⊥) → publisher_answer n kind img new p ≡ refused 1 []
  pub new_length : length img ≡ image_size n → (length new ≡ 32 → ⊥) → publisher_answer n kind img new p ≡ refused 10 []
  pub page_number_law : length img ≡ image_size n → length new ≡ 32 → n ≤ p → publisher_answer n kind img new p ≡ refused 3 []
  pub loops : length img ≡ image_size n → length new ≡ 32 → p < n → walk_of n img p ≡ verdicts.loops → publisher_answer n kind img new p ≡ refused 4 []
  pub outside : (x : ℕ) → length img ≡ image_size n → length new ≡ 32 → p < n → walk_of n img p ≡ verdicts.outside x → publisher_answer n kind img new p ≡ refused 5 (x ∷ [])
  -- a closed band is refused with 20 and its page, and 20 is told of no other
  pub closes : (values : List ℕ) → length img ≡ image_size n → length new ≡ 32 → p < n → Closed n img p values → publisher_answer n kind img new p ≡ refused 20 values
  pub only : (values : List ℕ) → publisher_answer n kind img new p ≡ refused 20 values → Closed n img p values
  pub protected : (l : Page) (hops : ℕ) → length img ≡ image_size n → length new ≡ 32 → p < n → walk_of n img p ≡ final l.0 hops → page_bit n DataProtection img l.0 ≡ true
      → page_bit n RedirectionProtection img l.0 ≡ false → publisher_answer n kind img new p ≡ refused 9 (l.0 ∷ [])
  pub none_free : (l : Page) (hops : ℕ) → length img ≡ image_size n → length new ≡ 32 → p < n → walk_of n img p ≡ final l.0 hops → page_bit n DataProtection img l.0 ≡ true
      → page_bit n RedirectionProtection img l.0 ≡ true → target_by kind.placement n img l.0 ≡ None → publisher_answer n kind img new p ≡ refused 8 []
