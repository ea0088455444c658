-- What it means that the start accepted, or told 20: its tests one by one; and that the page asked for is not the free page.
use Prim.Native.Nat.{ℕ, zero, suc, ◌<◌, ◌≤◌}
use mathlib.Core.Path.{◌≡◌, refl, sym, ap, ◌∙◌}
use mathlib.Core.Bool.{Bool, true, false, cond}
use mathlib.Core.List.{List, [], ◌∷◌}
use native.Mathlib.Omega.{arith}
use lib.Dec.{eqb}
use lib.ListN.{length}
use borrow.Author.Tests.{eqb-true, eq-eqb, ne_eqb, lt-ltb, le-ltb}
use Rattle.std.specs.Prelude.{Option, Some, None, Ok, Err}
use Rattle.base_types.specs.Outcome.{refused}
use Rattle.base_types.specs.Refusal.{number_of}
use Rattle.base_types.specs.declared.address.Page.{Page}
use Rattle.base_types.specs.declared.verdict.Verdict.{Verdict}
use Rattle.base_types.specs.declared.verdict.Verdict.TheVariants.{Final, Loop, Outside}
use Rattle.chip_memory.specs.declared.layout.Field.TheVariants.{DataProtection, RedirectionProtection}
use Rattle.chip_memory.specs.Layout.{image_size, is_image, is_page}
use Rattle.chip_memory.specs.Image.{redirection_of, page_bit}
use Rattle.chip_memory.proofs.Sizes.{image_length, page_below}
use Rattle.chip_chain.specs.Walk.{walk_of}
use Rattle.chip_chain.specs.Chain.{EndsFinal}
use Rattle.chip_chain.specs.Free.{Free}
use Rattle.chip_chain.proofs.Frees.{found_means}
use Rattle.chip_chain.proofs.Walks.{final_means}
use Rattle.chip_chain_laws.proofs.Images.{Accepted}
use Rattle.chip_chain_laws.proofs.Readings.{accepted}
use Rattle.master_plan.specs.declared.kind.Placement.{Placement}
use Rattle.master_plan.specs.declared.kind.Placement.TheVariants.{LowestFree}
use Rattle.master_plan.specs.declared.kind.UpdateKind.{UpdateKind}
use Rattle.master_publisher.specs.declared.PublisherStop.{PublisherStop}
use Rattle.master_publisher.specs.declared.PublisherStop.TheVariants.{ImageLength, PageNumber, Loop as Looping, Outside as Leaving, NoFreePage}
use Rattle.master_publisher.specs.declared.PublisherStop.TheVariants.{RedirectionProtected, BufferLength, DataProtected}
use Rattle.master_publisher.specs.Stop.{publisher_refusal}
use Rattle.master_publisher.specs.Start.{Choice, target_by, found_choice, choice_free, choice_final, choice_walked, choice_of, choice_outcome, publisher_answer}
use Rattle.master_plan_laws.specs.Start.{Open, Closed, StartLaws}

-- what a placement chooses is a free page of the chip other than l
pub record Placed (n : ℕ) (img : List ℕ) (l t : ℕ) : Type 0 where
  pub on_chip : t < n
  pub free : Free n img t
  pub apart : t ≡ l → ⊥

pub placed_means : (place : Placement) (n : ℕ) (img : List ℕ) (l t : ℕ) → target_by place n img l ≡ Some (record { 0 = t }) → Placed n img l t
placed_means LowestFree n img l t f = let m = found_means n img l t f in record { on_chip = m.on_chip; free = m.free; apart = m.apart }

module _ (l t : Page) where
  -- a test that refuses where it fails has held
  passed : (b : Bool) (x : Choice) (r : PublisherStop) → cond b x (Err r) ≡ Ok (l, t) → (b ≡ true) × (x ≡ Ok (l, t))
  passed true x r h = (refl, h)
  passed false x r h = cc

  free_found : (m : Page) (f : Option Page) → found_choice m f ≡ Ok (l, t) → (m ≡ l) × (f ≡ Some t)
  unfolding found_choice
  free_found m (Some q) h =
      let pair : ◌≡◌ {A = Page × Page} (m, q) (l, t) = cc in
      (ap (λ (x : Page × Page). x.0) pair, ap (λ (x : Page × Page). Some x.1) pair)
  free_found m None h = cc

  pub chosen_means : (n : ℕ) (kind : UpdateKind) (img new : List ℕ) (p : ℕ) → choice_of n kind.placement img new p ≡ Ok (l, t) → Open n kind img new p l t
  unfolding choice_of choice_walked choice_final choice_free
  chosen_means n kind img new p h =
      let a = passed (is_image n img) _ ImageLength h in
      let b = passed (eqb (length new) 32) _ BufferLength a.1 in
      let c = passed (is_page n p) _ PageNumber b.1 in
      walked (image_length n img a.0) (eqb-true (length new) 32 b.0) (page_below n p c.0) (walk_of n img p) refl c.1
    where
      walked : length img ≡ image_size n → length new ≡ 32 → p < n → (v : Verdict) → walk_of n img p ≡ v → choice_walked n kind.placement img v ≡ Ok (l, t) → Open n kind img new p l t
      walked a b c (Final m k) w r =
          let d = passed (page_bit n DataProtection img m.0) _ (DataProtected m) r in
          let o = passed (page_bit n RedirectionProtection img m.0) _ (RedirectionProtected m) d.1 in
          let f = free_found m (target_by kind.placement n img m.0) o.1 in
          let found : Open n kind img new p m t = record { hops = k; size = a; long = b; on_chip = c; walk = w; data_open = d.0; redirection_open = o.0; found = f.1 } in
          rw f.0 at found
      walked a b c Loop w r = cc
      walked a b c (Outside x) w r = cc

module _ (n : ℕ) (kind : UpdateKind) (img new : List ℕ) (p : ℕ) (l t : Page) (low : n ≤ 256) (m : Open n kind img new p l t) where
  pub is_accepted : Accepted n img new l.0 t.0
  is_accepted =
      let placed = placed_means kind.placement n img l.0 t.0 m.found in
      accepted n img new p l.0 m.hops t.0 m.size low m.long m.on_chip m.walk placed.on_chip placed.free placed.apart

  pub is_free_lem : Free n img t.0
  is_free_lem = (placed_means kind.placement n img l.0 t.0 m.found).free

  -- t ends at itself, and p at l
  elsewhere : (h : ℕ) → EndsFinal (redirection_of n img) n p l.0 h → p ≡ t.0 → ⊥
  elsewhere zero e z = is_accepted.apart (sym z ∙ e.there)
  elsewhere (suc h) e z = (e.before 0 (omega arith)).redirected (ap (redirection_of n img) z ∙ is_accepted.target_valid)

  pub not_target : p ≡ t.0 → ⊥
  unfolding walk_of
  not_target = elsewhere m.hops ((final_means (redirection_of n img) n p l.0 m.hops m.on_chip).0 m.walk)

-- ---- the start's answer

module _ (n : ℕ) (kind : UpdateKind) (img new : List ℕ) (p : ℕ) where
  -- the tests before the walk pass
  walked : length img ≡ image_size n → length new ≡ 32 → p < n → choice_of n kind.placement img new p ≡ choice_walked n kind.placement img (walk_of n img p)
  unfolding choice_of is_image is_page
  walked size long low = simp (eq-eqb (length img) (image_size n) size, eq-eqb (length new) 32 long, lt-ltb p n low)

  chooses : (l t : Page) → Open n kind img new p l t → choice_of n kind.placement img new p ≡ Ok (l, t)
  unfolding choice_walked choice_final choice_free found_choice
  chooses l t o = walked o.size o.long o.on_chip ∙ simp (o.walk, o.data_open, o.redirection_open, o.found)

  closing : (values : List ℕ) → length img ≡ image_size n → length new ≡ 32 → p < n → Closed n img p values → publisher_answer n kind img new p ≡ refused 20 values
  unfolding choice_walked choice_final
  closing values size long low c = ap choice_outcome (walked size long low) ∙ simp (c.walk, c.protected, c.given)

  -- ---- the other refusals, in their order

  other_image : (length img ≡ image_size n → ⊥) → publisher_answer n kind img new p ≡ refused 1 []
  unfolding choice_of is_image
  other_image size = simp (ne_eqb (length img) (image_size n) size)

  other_new : length img ≡ image_size n → (length new ≡ 32 → ⊥) → publisher_answer n kind img new p ≡ refused 10 []
  unfolding choice_of is_image
  other_new size long = simp (eq-eqb (length img) (image_size n) size, ne_eqb (length new) 32 long)

  other_page : length img ≡ image_size n → length new ≡ 32 → n ≤ p → publisher_answer n kind img new p ≡ refused 3 []
  unfolding choice_of is_image is_page
  other_page size long high = simp (eq-eqb (length img) (image_size n) size, eq-eqb (length new) 32 long, le-ltb p n high)

  module _ (size : length img ≡ image_size n) (long : length new ≡ 32) (low : p < n) where
    looping : walk_of n img p ≡ Loop → publisher_answer n kind img new p ≡ refused 4 []
    unfolding choice_walked
    looping w = ap choice_outcome (walked size long low) ∙ simp w

    leaving : (x : ℕ) → walk_of n img p ≡ Outside x → publisher_answer n kind img new p ≡ refused 5 (x ∷ [])
    unfolding choice_walked
    leaving x w = ap choice_outcome (walked size long low) ∙ simp w

    guarded : (l : Page) (hops : ℕ) → walk_of n img p ≡ Final l hops → page_bit n DataProtection img l.0 ≡ true → page_bit n RedirectionProtection img l.0 ≡ false
        → publisher_answer n kind img new p ≡ refused 9 (l.0 ∷ [])
    unfolding choice_walked choice_final
    guarded l hops w d r = ap choice_outcome (walked size long low) ∙ simp (w, d, r)

    all_used : (l : Page) (hops : ℕ) → walk_of n img p ≡ Final l hops → page_bit n DataProtection img l.0 ≡ true → page_bit n RedirectionProtection img l.0 ≡ true
        → target_by kind.placement n img l.0 ≡ None → publisher_answer n kind img new p ≡ refused 8 []
    unfolding choice_walked choice_final choice_free found_choice
    all_used l hops w d r f = ap choice_outcome (walked size long low) ∙ simp (w, d, r, f)

  -- ---- 20 is told by one test alone

  module _ (values : List ℕ) where
    abbrev Tells : Choice → Type 0
    Tells c = choice_outcome c ≡ refused 20 values

    told_by : {A : Type 0} (r : PublisherStop) → (number_of (publisher_refusal r) ≡ 20 → ⊥) → Tells (Err r) → A
    told_by r not-20 h = absurd (not-20 cc)

    -- a test with another number has held
    beyond : (b : Bool) (x : Choice) (r : PublisherStop) → (number_of (publisher_refusal r) ≡ 20 → ⊥) → Tells (cond b x (Err r)) → Tells x
    beyond true x r not-20 h = h
    beyond false x r not-20 h = told_by r not-20 h

    free_tells_not : {A : Type 0} (l : Page) (f : Option Page) → Tells (found_choice l f) → A
    unfolding found_choice
    free_tells_not l (Some t) h = cc
    free_tells_not l None h = told_by NoFreePage (λ e. omega arith) h

    final_tells : (l : Page) (hops : ℕ) → walk_of n img p ≡ Final l hops → (bit : Bool) → page_bit n DataProtection img l.0 ≡ bit
        → Tells (cond bit (cond (page_bit n RedirectionProtection img l.0) (choice_free n kind.placement img l) (Err (RedirectionProtected l))) (Err (DataProtected l)))
        → Closed n img p values
    unfolding choice_free
    final_tells l hops w true e h = free_tells_not l (target_by kind.placement n img l.0) (beyond (page_bit n RedirectionProtection img l.0) _ (RedirectionProtected l) (λ e. omega arith) h)
    final_tells l hops w false e h = record { superseded = l; hops = hops; walk = w; protected = e; given = cc }

    walk_tells : (v : Verdict) → walk_of n img p ≡ v → Tells (choice_walked n kind.placement img v) → Closed n img p values
    unfolding choice_walked choice_final
    walk_tells (Final l hops) w h = final_tells l hops w (page_bit n DataProtection img l.0) refl h
    walk_tells Loop w h = told_by Looping (λ e. omega arith) h
    walk_tells (Outside x) w h = told_by (Leaving x) (λ e. omega arith) h

    tells : publisher_answer n kind img new p ≡ refused 20 values → Closed n img p values
    unfolding choice_of
    tells h =
        walk_tells (walk_of n img p) refl
        (beyond (is_page n p) _ PageNumber (λ e. omega arith)
        (beyond (eqb (length new) 32) _ BufferLength (λ e. omega arith)
        (beyond (is_image n img) _ ImageLength (λ e. omega arith) h)))

  pub start_laws : StartLaws n kind img new p
  start_laws =
      record {
        means = λ l t. chosen_means l t n kind img new p;
        accepts = chooses;
        closes = closing;
        only = tells;
        image_length = other_image;
        new_length = other_new;
        page_number_law = other_page;
        loops = looping;
        outside = λ x size long low. leaving size long low x;
        protected = λ l hops size long low. guarded size long low l hops;
        none_free = λ l hops size long low. all_used size long low l hops;
      }
