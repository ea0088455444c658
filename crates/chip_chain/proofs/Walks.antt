-- The walk's verdict means what the chain says: the walk with fuel n, the page count, tells Final, Outside and Loop exactly where the chain ends so, or never ends.
use Prim.Native.Nat.{ℕ, zero, suc, ◌+◌, ◌-◌, ◌<◌, ◌≤◌}
use mathlib.Core.Path.{◌≡◌, refl, sym, ap, ◌∙◌, subst, subst₂}
use mathlib.Core.Bool.{Bool, true, false}
use mathlib.Core.List.{List}
use mathlib.Core.Logic.{◌↔◌, ◌⊎◌, inl, inr, ⊎_elim}
use native.Mathlib.Omega.{arith}
use native.Mathlib.Nat.{suc-add, zero-add, add-zero, not-suc-le-zero, not-le_of_lt, lt_of_not-le}
use borrow.Author.Count.{below_more}
use lib.Dec.{eqb, ltb}
use borrow.Author.Tests.{eqb-true, eqb-false, ltb-true, ltb-false, eq-eqb, ne_eqb, lt-ltb, le-ltb}
use Rattle.base_types.specs.declared.address.Page.{Page}
use Rattle.base_types.specs.declared.verdict.Verdict.TheVariants.{Loop, Outside}
use Rattle.base_types.specs.Verdict.{final}
use Rattle.chip_memory.specs.Image.{redirection_of}
use Rattle.chip_chain.specs.Walk.{named_by, walk_from, walk_by, walk_of}
use Rattle.chip_chain.specs.Chain.{met, Inside, EndsFinal, EndsOutside, Endless, WalkLaws}
use Rattle.chip_chain.proofs.Pigeon.{pigeon}

-- what the redirection byte of one page says
data Byte (b : ℕ → ℕ) (n p : ℕ) : Type 0 where
  valid : b p ≡ 255 → Byte b n p
  beyond : (b p ≡ 255 → ⊥) → n ≤ named_by (b p) → Byte b n p
  inside : Inside b n p → Byte b n p

byte : (b : ℕ → ℕ) (n p : ℕ) → Byte b n p
byte b n p = go (eqb (b p) 255) (ltb (named_by (b p)) n) refl refl
  where
    go : (s t : Bool) → eqb (b p) 255 ≡ s → ltb (named_by (b p)) n ≡ t → Byte b n p
    go true t e l = valid (eqb-true _ _ e)
    go false true e l = inside (record { redirected = eqb-false _ _ e; below = ltb-true _ _ l })
    go false false e l = beyond (eqb-false _ _ e) (ltb-false _ _ l)

pub final_not_loop : {p h : ℕ} → final p h ≡ Loop → ⊥
final_not_loop e = cc

pub final_not_outside : {p h x : ℕ} → final p h ≡ Outside x → ⊥
final_not_outside e = cc

pub outside_not_loop : {x : ℕ} → Outside x ≡ Loop → ⊥
outside_not_loop e = cc

module _ (b : ℕ → ℕ) (n : ℕ) where
  -- one step of the walk, by what the byte says
  step_valid : (k p a : ℕ) → b p ≡ 255 → walk_from b n (suc k) p a ≡ final p a
  unfolding walk_from
  step_valid k p a e = simp (eq-eqb _ _ e)

  step_beyond : (k p a : ℕ) → (b p ≡ 255 → ⊥) → n ≤ named_by (b p) → walk_from b n (suc k) p a ≡ Outside (named_by (b p))
  unfolding walk_from
  step_beyond k p a d l = simp (ne_eqb _ _ d, le-ltb _ _ l)

  step_inside : (k p a : ℕ) → Inside b n p → walk_from b n (suc k) p a ≡ walk_from b n k (named_by (b p)) (a + 1)
  unfolding walk_from
  step_inside k p a i = simp (ne_eqb _ _ i.redirected, lt-ltb _ _ i.below)

  -- the same as a loop sees it, after h of n steps
  loop_step : (h p : ℕ) → h < n → walk_from b n (n - h) p h ≡ walk_from b n (suc (n - (h + 1))) p h
  loop_step h p lt = ap (λ k. walk_from b n k p h) (omega arith)

  pub loop_valid : (h p : ℕ) → h < n → b p ≡ 255 → walk_from b n (n - h) p h ≡ final p h
  loop_valid h p lt e = loop_step h p lt ∙ step_valid (n - (h + 1)) p h e

  pub loop_beyond : (h p : ℕ) → h < n → (b p ≡ 255 → ⊥) → n ≤ named_by (b p) → walk_from b n (n - h) p h ≡ Outside (named_by (b p))
  loop_beyond h p lt d l = loop_step h p lt ∙ step_beyond (n - (h + 1)) p h d l

  pub loop_inside : (h p : ℕ) → h < n → (b p ≡ 255 → ⊥) → named_by (b p) < n → walk_from b n (n - h) p h ≡ walk_from b n (n - (h + 1)) (named_by (b p)) (h + 1)
  loop_inside h p lt d l = loop_step h p lt ∙ step_inside (n - (h + 1)) p h (record { redirected = d; below = l })

  pub loop_over : (h p : ℕ) → n ≤ h → walk_from b n (n - h) p h ≡ Loop
  unfolding walk_from
  loop_over h p le = let e : n - h ≡ 0 = omega arith in ap (λ k. walk_from b n k p h) e

  -- the chain from p stops after h hops: not before, and then
  pub record Stops (p h : ℕ) : Type 0 where
    pub last : Inside b n (met b p h) → ⊥
    pub before : (k : ℕ) → k < h → Inside b n (met b p k)

  -- the first k pages of the chain: it stops at one of them, or they are all redirected
  pub stops_or_not : (k p : ℕ) → ((h : ℕ) × (h < k) × Stops p h) ⊎ ((i : ℕ) → i < k → Inside b n (met b p i))
  stops_or_not zero p = inr (λ i l. absurd (not-suc-le-zero l))
  stops_or_not (suc k) p = ⊎_elim (λ s. inl (s.0, omega (arith, s.1), s.2)) (λ f. go f (byte b n (met b p k))) (stops_or_not k p)
    where
      go : ((i : ℕ) → i < k → Inside b n (met b p i)) → Byte b n (met b p k)
          → ((h : ℕ) × (h < suc k) × Stops p h) ⊎ ((i : ℕ) → i < suc k → Inside b n (met b p i))
      go f (valid e) = inl (k, omega arith, record { last = λ i. i.redirected e; before = f })
      go f (beyond d l) = inl (k, omega arith, record { last = λ i. not-le_of_lt i.below l; before = f })
      go f (inside w) = inr (λ i l. below_more (λ j. Inside b n (met b p j)) k f w i (omega arith))

  pub met_suc : (p k : ℕ) → met b p (suc k) ≡ named_by (b (met b p k))
  met_suc p zero = refl
  met_suc p (suc k) = met_suc (named_by (b p)) k

  pub met_add : (p i k : ℕ) → met b p (i + k) ≡ met b (met b p i) k
  met_add p zero k = rw zero-add
  met_add p (suc i) k = rw suc-add (met_add (named_by (b p)) i k)

  -- a chain that stops does so within n pages, since it meets no page twice
  pub stops_early : (p h : ℕ) → p < n → Stops p h → h < n
  stops_early p h lt s = lt_of_not-le (λ le. pigeon n (met b p) (low le) (apart le))
    where
      low : n ≤ h → (i : ℕ) → i ≤ n → met b p i < n
      low le zero l = lt
      low le (suc i) l = rw met_suc (s.before i (omega arith)).below

      apart : n ≤ h → (i j : ℕ) → i < j → j ≤ n → met b p i ≡ met b p j → ⊥
      apart le i j l m e =
          let r : j + (h - j) ≡ h = omega arith in
          s.last (subst (Inside b n) (met_add p i (h - j) ∙ ap (λ q. met b q (h - j)) e ∙ sym (met_add p j (h - j)) ∙ ap (met b p) r)
          (s.before (i + (h - j)) (omega arith)))

  -- the walk past h redirected pages
  walk_on : (h k p a : ℕ) → ((i : ℕ) → i < h → Inside b n (met b p i)) → walk_from b n (h + k) p a ≡ walk_from b n k (met b p h) (a + h)
  walk_on zero k p a f = rw (zero-add, add-zero)
  walk_on (suc h) k p a f =
      rw (suc-add, step_inside (h + k) p a (f 0 (omega arith)), walk_on h k (named_by (b p)) (a + 1) (λ i l. f (suc i) (omega arith)))
      (ap (walk_from b n k (met b (named_by (b p)) h)) (omega arith))

  -- the same from the start, for a chain that stops
  walk_to : (p h : ℕ) → p < n → Stops p h → walk_by b n p ≡ walk_from b n (suc (n - suc h)) (met b p h) h
  walk_to p h lt s =
      let l : h < n = stops_early p h lt s in
      let e : n ≡ h + suc (n - suc h) = omega arith in
      ap (λ k. walk_from b n k p 0) e ∙ walk_on h (suc (n - suc h)) p 0 s.before ∙ ap (walk_from b n (suc (n - suc h)) (met b p h)) (zero-add h)

  pub final_stops : {p f h : ℕ} → EndsFinal b n p f h → Stops p h
  final_stops e = record { last = λ i. i.redirected (ap b e.there ∙ e.valid); before = e.before }

  pub outside_stops : {p x : ℕ} (e : EndsOutside b n p x) → Stops p e.hops
  outside_stops e = record { last = λ i. not-le_of_lt i.below (omega (arith, e.named, e.beyond)); before = e.before }

  pub walk_final : {p f h : ℕ} → p < n → EndsFinal b n p f h → walk_by b n p ≡ final f h
  walk_final {p} {f} {h} lt e =
      walk_to p h lt (final_stops e) ∙ step_valid (n - suc h) (met b p h) h (ap b e.there ∙ e.valid) ∙ ap (λ q. final q h) e.there

  pub walk_outside : {p x : ℕ} → p < n → EndsOutside b n p x → walk_by b n p ≡ Outside x
  walk_outside {p} {x} lt e =
      walk_to p e.hops lt (outside_stops e) ∙ step_beyond (n - suc e.hops) (met b p e.hops) e.hops e.redirected (omega (arith, e.named, e.beyond))
      ∙ ap Outside e.named

  pub walk_loop : {p : ℕ} → Endless b n p → walk_by b n p ≡ Loop
  unfolding walk_from
  walk_loop {p} e = ap (λ k. walk_from b n k p 0) (sym (add-zero n)) ∙ walk_on n 0 p 0 (λ i l. e i)

  -- how the chain ends: one of the three ways
  pub data Ends (p : ℕ) : Type 0 where
    at_final : (f h : ℕ) → EndsFinal b n p f h → Ends p
    at_outside : (x : ℕ) → EndsOutside b n p x → Ends p
    at_none : Endless b n p → Ends p

  pub ends : (p : ℕ) → p < n → Ends p
  ends p lt = ⊎_elim (λ s. stop s.0 s.2 (byte b n (met b p s.0))) (λ f. at_none (λ k. on f k (stops_or_not (suc k) p))) (stops_or_not n p)
    where
      stop : (h : ℕ) → Stops p h → Byte b n (met b p h) → Ends p
      stop h s (valid e) = at_final (met b p h) h (record { there = refl; valid = e; before = s.before })
      stop h s (beyond d l) = at_outside (named_by (b (met b p h))) (record { hops = h; redirected = d; named = refl; beyond = l; before = s.before })
      stop h s (inside i) = absurd (s.last i)

      on : ((i : ℕ) → i < n → Inside b n (met b p i)) → (k : ℕ)
          → ((h : ℕ) × (h < suc k) × Stops p h) ⊎ ((i : ℕ) → i < suc k → Inside b n (met b p i)) → Inside b n (met b p k)
      on f k (inl s) = absurd (s.2.last (f s.0 (stops_early p s.0 lt s.2)))
      on f k (inr g) = g k (omega arith)

  -- the walk's verdict means what the chain says
  pub final_means : (p f h : ℕ) → p < n → (walk_by b n p ≡ final f h) ↔ EndsFinal b n p f h
  final_means p f h lt = (λ e. go e (ends p lt), walk_final lt)
    where
      go : walk_by b n p ≡ final f h → Ends p → EndsFinal b n p f h
      go e (at_final g k w) =
          let v : walk_by b n p ≡ final g k = walk_final lt w in
          let r : ◌≡◌ {A = Page} (record { 0 = g }) (record { 0 = f }) = cc in
          let s : g ≡ f = ap (λ (q : Page). q.0) r in
          let t : k ≡ h = cc in
          subst₂ (λ x y. EndsFinal b n p x y) s t w
      go e (at_outside x w) = absurd (final_not_outside (sym e ∙ walk_outside lt w))
      go e (at_none w) = absurd (final_not_loop (sym e ∙ walk_loop w))

  pub outside_means : (p x : ℕ) → p < n → (walk_by b n p ≡ Outside x) ↔ EndsOutside b n p x
  outside_means p x lt = (λ e. go e (ends p lt), walk_outside lt)
    where
      go : walk_by b n p ≡ Outside x → Ends p → EndsOutside b n p x
      go e (at_final g k w) = absurd (final_not_outside (sym (walk_final lt w) ∙ e))
      go e (at_outside y w) =
          let v : walk_by b n p ≡ Outside y = walk_outside lt w in
          let s : y ≡ x = cc in
          subst (EndsOutside b n p) s w
      go e (at_none w) = absurd (outside_not_loop (sym e ∙ walk_loop w))

  pub loop_means : (p : ℕ) → p < n → (walk_by b n p ≡ Loop) ↔ Endless b n p
  loop_means p lt = (λ e. go e (ends p lt), walk_loop)
    where
      go : walk_by b n p ≡ Loop → Ends p → Endless b n p
      go e (at_final g k w) = absurd (final_not_loop (sym (walk_final lt w) ∙ e))
      go e (at_outside x w) = absurd (outside_not_loop (sym (walk_outside lt w) ∙ e))
      go e (at_none w) = w

  -- no more hops than pages other than the first
  pub final_hops : (p f h : ℕ) → p < n → walk_by b n p ≡ final f h → h < n
  final_hops p f h lt e = stops_early p h lt (final_stops ((final_means p f h lt).0 e))

pub walk_laws : (n : ℕ) (img : List ℕ) (p : ℕ) → p < n → WalkLaws n img p
unfolding walk_of
walk_laws n img p lt =
    let b = redirection_of n img in
    record {
      final_means = λ f h. final_means b n p f h lt;
      outside_means = λ x. outside_means b n p x lt;
      loop_means = loop_means b n p lt;
      final_hops = λ f h. final_hops b n p f h lt;
    }

-- one step of the code's loop
pub ruleset steps = (loop_valid, loop_beyond, loop_inside, loop_over)
