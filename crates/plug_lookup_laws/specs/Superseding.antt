-- The lookup while a page is superseded: its value is that of the old page or that of the new one, never a mixture of both. These laws
-- speak of a whole run, as demand 3 does, and follow from it. n is the page count; the update goes by its kind.
use Rattle.std.specs.Prelude.{ℕ, ◌<◌, ◌≤◌, ◌≡◌, Bool, cond, List, [], ltb, ℤ, length}
use Rattle.base_types.specs.Outcome.{Outcome, accepted, judge}
use Rattle.base_types.specs.declared.address.Page.{Page}
use Rattle.base_types.specs.Verdict.{final}
use Rattle.bus_events.specs.declared.Event.{Event}
use Rattle.chip_memory.specs.Image.{page_bytes}
use Rattle.chip_chain.specs.Walk.{walk_of}
use Rattle.chip_entries.specs.Run.{Chip, run}
use Rattle.master_publisher.specs.declared.Publisher.{Publisher}
use Rattle.master_publisher.specs.Start.{publisher_answer, publisher_state}
use Rattle.master_plan.specs.declared.kind.UpdateKind.{UpdateKind}
use Rattle.master_plan.specs.Kind.{shown_of}
use Rattle.master_publisher_laws.specs.Demand.{returned, reaching}
use Rattle.plug_lookup.specs.Header.{columns_of, row_page, row_answer}
use Rattle.plug_lookup.specs.Lookup.{column_value, header_value, lookup_answer}

-- the image left by the first m events, and a power loss where there is a cut
abbrev pub image_reached : ℕ → Chip → List Event → ℕ → Bool → List ℕ
image_reached n c events m cut = (run n c (reaching events m cut)).image

-- the bytes of the header whose page is f
abbrev pub header_at : List ℕ → Page → List ℕ
header_at img f = page_bytes img f.0

-- page 1 ends at page f, which holds a header whose row i covers the latitude
pub record Covered (n : ℕ) (img : List ℕ) (latitude : ℤ) (f : Page) (i : ℕ) : Type 0 where
  pub hops : ℕ
  pub ends : walk_of n img 1 ≡ final f.0 hops
  pub row : row_answer n (header_at img f) latitude ≡ accepted i

-- the value of a column on a row page with these bytes
abbrev pub value_on : List ℕ → ℕ → List ℕ → Outcome ℤ
value_on header column page = judge (ltb column (columns_of header)) 18 (column_value column page)

-- An update that the start accepted, with the state s: L is s.superseded and T is s.target. Later calls get the replies; the first m events
-- returned reach the chip and, where there is a cut, a power loss after them.
pub record Lookups (n : ℕ) (kind : UpdateKind) (c : Chip) (new : List ℕ) (s : Publisher) (replies : List Bool) : Type 0 where
  -- before the visible event the lookup is as at the start, in every row but one whose page is T
  pub before : (latitude : ℤ) (column : ℕ) (f : Page) (i : ℕ) → Covered n c.image latitude f i
      → (row_page (header_at c.image f) i ≡ s.target.0 → ⊥)
      → (m : ℕ) (cut : Bool) → m ≤ length (returned n s replies) → m < shown_of kind
      → lookup_answer n (image_reached n c (returned n s replies) m cut) latitude column ≡ lookup_answer n c.image latitude column
  -- from it on, where the header's page is not superseded, a row whose page ended at L has the new values ..
  pub changed : (latitude : ℤ) (column : ℕ) (f : Page) (i : ℕ) → Covered n c.image latitude f i → (f.0 ≡ s.superseded.0 → ⊥)
      → (hops : ℕ) → walk_of n c.image (row_page (header_at c.image f) i) ≡ final s.superseded.0 hops
      → (m : ℕ) (cut : Bool) → m ≤ length (returned n s replies) → shown_of kind ≤ m
      → lookup_answer n (image_reached n c (returned n s replies) m cut) latitude column ≡ value_on (header_at c.image f) column new
  -- .. and every other row but T's is as at the start
  pub kept : (latitude : ℤ) (column : ℕ) (f : Page) (i : ℕ) → Covered n c.image latitude f i → (f.0 ≡ s.superseded.0 → ⊥)
      → (row_page (header_at c.image f) i ≡ s.target.0 → ⊥)
      → ((hops : ℕ) → walk_of n c.image (row_page (header_at c.image f) i) ≡ final s.superseded.0 hops → ⊥)
      → (m : ℕ) (cut : Bool) → m ≤ length (returned n s replies)
      → lookup_answer n (image_reached n c (returned n s replies) m cut) latitude column ≡ lookup_answer n c.image latitude column
  -- where the header's page is superseded, the new bytes are the header from the visible event on
  pub header : (latitude : ℤ) (column : ℕ) (f : Page) (i : ℕ) → Covered n c.image latitude f i → f.0 ≡ s.superseded.0
      → (m : ℕ) (cut : Bool) → m ≤ length (returned n s replies) → shown_of kind ≤ m
      → lookup_answer n (image_reached n c (returned n s replies) m cut) latitude column
      ≡ header_value n (image_reached n c (returned n s replies) m cut) latitude column new

-- An update of page p, lent the image of the chip c and the bytes new.
pub record Superseding (n : ℕ) (kind : UpdateKind) (c : Chip) (new : List ℕ) (p : ℕ) (replies : List Bool) : Type 0 where
  pub lookups : publisher_answer n kind c.image new p ≡ accepted [] → Lookups n kind c new (publisher_state n kind c.image new p) replies
  -- The row of the page asked for: whatever the replies and wherever the cut, the value on L's bytes while fewer events than the visible
  -- one have reached the chip, and from it on the value on the new ones.
  pub row : publisher_answer n kind c.image new p ≡ accepted []
      → (latitude : ℤ) (column : ℕ) (f : Page) (i : ℕ) → Covered n c.image latitude f i
      → row_page (header_at c.image f) i ≡ p → (f.0 ≡ (publisher_state n kind c.image new p).superseded.0 → ⊥)
      → (m : ℕ) (cut : Bool) → m ≤ length (returned n (publisher_state n kind c.image new p) replies)
      → lookup_answer n (image_reached n c (returned n (publisher_state n kind c.image new p) replies) m cut) latitude column
      ≡ value_on (header_at c.image f) column (cond (ltb m (shown_of kind)) (page_bytes c.image (publisher_state n kind c.image new p).superseded.0) new)
