-- The lookup while a page is superseded: page 1 and the row's page are not T, so that demand 3 says what they read as.
use Prim.Native.Nat.{ℕ, ◌+◌, ◌<◌, ◌≤◌}
use mathlib.Core.Path.{◌≡◌, refl, sym, ap, ◌∙◌}
use mathlib.Core.Bool.{Bool, true, false, cond}
use mathlib.Core.List.{List, []}
use native.Mathlib.Omega.{arith}
use native.Mathlib.Decide.{dec_lt}
use native.Mathlib.Nat.{not-suc-le-zero}
use lib.Dec.{ltb, lit<}
use lib.IntN.{ℤ}
use lib.ListN.{length}
use borrow.Author.Tests.{lt-ltb, le-ltb, eq-eqb, ne_eqb}
use Rattle.base_types.specs.Outcome.{accepted, judge}
use Rattle.base_types.specs.declared.address.Page.{Page}
use Rattle.base_types.specs.declared.verdict.Verdict.{Verdict}
use Rattle.base_types.specs.declared.verdict.Verdict.TheVariants.{Final, Loop, Outside}
use Rattle.chip_memory.specs.Layout.{image_size}
use Rattle.chip_memory.specs.Image.{redirection_of, page_bytes}
use Rattle.chip_memory.proofs.Pages.{page_length}
use Rattle.base_types.specs.Verdict.{final}
use Rattle.chip_chain.specs.Walk.{walk_of}
use Rattle.chip_chain.proofs.Walks.{walk_final}
use Rattle.chip_chain_laws.specs.Update.{PageReading, bytes_under, read_of, moved_by}
use Rattle.std.specs.Prelude.{Ok, Err}
use Rattle.master_publisher.specs.declared.Publisher.{Publisher}
use Rattle.master_publisher.specs.Start.{Choice, choice_of, choice_outcome, choice_state, ready, publisher_answer, publisher_state}
use Rattle.chip_entries.specs.Run.{Chip}
use Rattle.chip_session_laws.specs.Session.{Ready, Bytes}
use Rattle.master_plan.specs.declared.kind.UpdateKind.{UpdateKind}
use Rattle.master_plan.specs.Kind.{shown_of}
use Rattle.master_plan_laws.proofs.Starts.{Placed, placed_means, chosen_means}
use Rattle.master_publisher_laws.specs.Demand.{returned, reaching, Update, Demand3}
use Rattle.master_publisher_laws.proofs.Demand.{demand_3_ds2505}
use Rattle.plug_lookup.specs.Header.{columns_of, row_page}
use Rattle.plug_lookup.specs.Lookup.{column_value, lookup_answer}
use Rattle.plug_lookup_laws.specs.Superseding.{image_reached, header_at, Covered, value_on, Lookups, Superseding}
use Rattle.plug_lookup_laws.proofs.Answers.{run_length, row_on_chip, not_blank, on_reading, by_header, by_row}

-- the start found t: it is free, and is not l
found : (n : ℕ) (kind : UpdateKind) (img new : List ℕ) (p : ℕ) → publisher_answer n kind img new p ≡ accepted []
    → Placed n img (publisher_state n kind img new p).superseded.0 (publisher_state n kind img new p).target.0
unfolding choice_state ready
found n kind img new p a = go (choice_of n kind.placement img new p) refl a
  where
    go : (ch : Choice) → choice_of n kind.placement img new p ≡ ch → choice_outcome ch ≡ accepted []
        → Placed n img (choice_state n kind img new ch).superseded.0 (choice_state n kind img new ch).target.0
    go (Ok (l, t)) e a = placed_means kind.placement n img l.0 t.0 (chosen_means l t n kind img new p e).found
    go (Err stop) e a = absurd cc

-- ---- what a page reads as

read_final : (n : ℕ) (img : List ℕ) (p : ℕ) (f : Page) (hops : ℕ) → walk_of n img p ≡ Final f hops
    → read_of n img p ≡ record { verdict = Final f hops; bytes = page_bytes img f.0 }
read_final n img p f hops w = ap (λ (v : Verdict). record { verdict = v; bytes = bytes_under img v }) w

-- a page that did not end at l reads as before
moved_other : (l : Page) (t : ℕ) (new : List ℕ) (r : PageReading) (v : Verdict) → ((hops : ℕ) → v ≡ Final l hops → ⊥) → moved_by l.0 t new r v ≡ r
moved_other l t new r (Final f hops) d = simp (ne_eqb f.0 l.0 (λ e. d hops (ap (λ x. final x hops) e)))
moved_other l t new r Loop d = refl
moved_other l t new r (Outside x) d = refl

either_same : {A : Type 0} (b : Bool) (x y : A) → y ≡ x → cond b x y ≡ x
either_same true x y e = refl
either_same false x y e = e

module _ {n : ℕ} {kind : UpdateKind} {c : Chip} {new : List ℕ} {p : ℕ} {s : Publisher} {replies : List Bool} (some : 1 < n) (ok : Ready n c)
    (update : Update n kind c new p s replies) (placed : Placed n c.image s.superseded.0 s.target.0) where
  -- T ends at itself
  ends_itself : (q : ℕ) (f : Page) (hops : ℕ) → walk_of n c.image q ≡ Final f hops → q ≡ s.target.0 → f.0 ≡ s.target.0
  unfolding walk_of
  ends_itself q f hops w z =
      let t : walk_of n c.image s.target.0 ≡ final s.target.0 0 =
      walk_final (redirection_of n c.image) n placed.on_chip
      (record { there = refl; valid = placed.free.valid; before = λ k lt. absurd (not-suc-le-zero lt) }) in
      let same : f ≡ s.target = cc in
      ap (λ (x : Page). x.0) same

  -- so a page that ends at L is not T
  superseded_apart : (q hops : ℕ) → walk_of n c.image q ≡ Final s.superseded hops → q ≡ s.target.0 → ⊥
  superseded_apart q hops w z = placed.apart (sym (ends_itself q s.superseded hops w z))

  -- ---- the image left, and what demand 3 says of it

  abbrev left : ℕ → Bool → List ℕ
  left m cut = image_reached n c (returned n s replies) m cut

  left_sized : (m : ℕ) (cut : Bool) → length (left m cut) ≡ image_size n
  left_sized m cut = run_length n (reaching (returned n s replies) m cut) c ∙ ok.sized

  module _ (m : ℕ) (cut : Bool) (le : m ≤ length (returned n s replies)) where
    reads_old : m < shown_of kind → (q : ℕ) → q < n → (q ≡ s.target.0 → ⊥) → read_of n (left m cut) q ≡ read_of n c.image q
    reads_old early q lt d = update.reads m cut le q lt d ∙ simp (lt-ltb m (shown_of kind) early)

    reads_other : (q : ℕ) → q < n → (q ≡ s.target.0 → ⊥) → ((hops : ℕ) → walk_of n c.image q ≡ Final s.superseded hops → ⊥)
        → read_of n (left m cut) q ≡ read_of n c.image q
    reads_other q lt d other =
        update.reads m cut le q lt d
        ∙ either_same (ltb m (shown_of kind)) _ _ (moved_other s.superseded s.target.0 new (read_of n c.image q) (walk_of n c.image q) other)

    reads_new : shown_of kind ≤ m → (q hops : ℕ) → q < n → walk_of n c.image q ≡ Final s.superseded hops
        → read_of n (left m cut) q ≡ record { verdict = final s.target.0 (hops + 1); bytes = new }
    reads_new late q hops lt w =
        update.reads m cut le q lt (superseded_apart q hops w)
        ∙ simp (le-ltb m (shown_of kind) late)
        (ap (λ v. moved_by s.superseded.0 s.target.0 new (read_of n c.image q) v) w ∙ simp (eq-eqb s.superseded.0 s.superseded.0 refl))

  -- ---- a latitude that row i of the header covers

  module _ {latitude : ℤ} {f : Page} {i : ℕ} (v : Covered n c.image latitude f i) where
    abbrev page : ℕ
    page = row_page (header_at c.image f) i

    page_below : page < n
    page_below = row_on_chip n (header_at c.image f) latitude i v.row

    -- page 1 is not T, whose bytes are no header
    first_apart : 1 ≡ s.target.0 → ⊥
    first_apart z =
        let e : f.0 ≡ s.target.0 = ends_itself 1 f v.hops v.ends z in
        not_blank n (header_at c.image f) latitude i v.row (rw e placed.free.blank)
        (omega (arith, page_length n c.image f.0 ok.sized (rw e placed.on_chip)))

    first_same : (f.0 ≡ s.superseded.0 → ⊥) → (m : ℕ) (cut : Bool) → m ≤ length (returned n s replies) → read_of n (left m cut) 1 ≡ read_of n c.image 1
    first_same d m cut le =
        reads_other m cut le 1 some first_apart (λ hops w. let e : f ≡ s.superseded = cc v.ends in d (ap (λ (x : Page). x.0) e))

    -- on an image on which page 1 reads as at the start, the lookup is as the row's page reads
    by_page : (column : ℕ) (img : List ℕ) → length img ≡ image_size n → read_of n img 1 ≡ read_of n c.image 1 → (r : PageReading) → read_of n img page ≡ r
        → lookup_answer n img latitude column ≡ judge (ltb column (columns_of (header_at c.image f))) 18 (on_reading (column_value column) r)
    by_page column img sized first =
        by_row n img sized some latitude column (header_at c.image f) f v.hops (first ∙ read_final n c.image 1 f v.hops v.ends) i v.row

    same : (column m : ℕ) (cut : Bool) → read_of n (left m cut) 1 ≡ read_of n c.image 1 → read_of n (left m cut) page ≡ read_of n c.image page
        → lookup_answer n (left m cut) latitude column ≡ lookup_answer n c.image latitude column
    same column m cut first second =
        by_page column (left m cut) (left_sized m cut) first (read_of n c.image page) second
        ∙ sym (by_page column c.image ok.sized refl (read_of n c.image page) refl)

  lookups : Lookups n kind c new s replies
  lookups =
      record {
        before = λ latitude column f i v d m cut le early.
            same v column m cut (reads_old m cut le early 1 some (first_apart v)) (reads_old m cut le early (page v) (page_below v) d);
        changed = λ latitude column f i v d hops w m cut le late.
            by_page v column (left m cut) (left_sized m cut) (first_same v d m cut le) _ (reads_new m cut le late (page v) hops (page_below v) w);
        kept = λ latitude column f i v d apart other m cut le.
            same v column m cut (first_same v d m cut le) (reads_other m cut le (page v) (page_below v) apart other);
        header = λ latitude column f i v e m cut le late.
            by_header n (left m cut) (left_sized m cut) some latitude column new s.target (v.hops + 1)
            (reads_new m cut le late 1 v.hops some (v.ends ∙ ap (λ x. final x v.hops) e));
      }

  -- the row of the page asked for, which ends at L
  asked : (q : ℕ) → q ≡ p → walk_of n c.image q ≡ Final s.superseded update.hops
  asked q e = rw e update.asked

  row : (latitude : ℤ) (column : ℕ) (f : Page) (i : ℕ) (v : Covered n c.image latitude f i) → page v ≡ p → (f.0 ≡ s.superseded.0 → ⊥)
      → (m : ℕ) (cut : Bool) → m ≤ length (returned n s replies) → Dec (m < shown_of kind)
      → lookup_answer n (left m cut) latitude column ≡ value_on (header_at c.image f) column (cond (ltb m (shown_of kind)) (page_bytes c.image s.superseded.0) new)
  row latitude column f i v e d m cut le (yes early) =
      simp (lt-ltb m (shown_of kind) early)
      (lookups.before latitude column f i v (superseded_apart (page v) update.hops (asked (page v) e)) m cut le early
      ∙ by_page v column c.image ok.sized refl _ (read_final n c.image (page v) s.superseded update.hops (asked (page v) e)))
  row latitude column f i v e d m cut le (no late) =
      simp (le-ltb m (shown_of kind) (omega arith)) (lookups.changed latitude column f i v d update.hops (asked (page v) e) m cut le (omega arith))

pub superseding : (n : ℕ) → 1 < n → (kind : UpdateKind) (c : Chip) (new : List ℕ) (p : ℕ) (replies : List Bool)
    → Ready n c → Demand3 n kind c new p replies → Superseding n kind c new p replies
superseding n some kind c new p replies ok demand =
    record {
      lookups = λ a. lookups some ok (demand.update a) (found n kind c.image new p a);
      row = λ a latitude column f i v e d m cut le.
          row some ok (demand.update a) (found n kind c.image new p a) latitude column f i v e d m cut le (dec_lt m (shown_of kind));
    }

-- at the DS2505's 64 pages
pub superseding_ds2505 : (kind : UpdateKind) (c : Chip) (new : List ℕ) (p : ℕ) (replies : List Bool) → Ready 64 c → Bytes new → Superseding 64 kind c new p replies
superseding_ds2505 kind c new p replies ok small = superseding 64 (lit< tt) kind c new p replies ok (demand_3_ds2505 kind c new p replies ok small)
