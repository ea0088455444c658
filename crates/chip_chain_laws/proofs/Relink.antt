-- Chains before and after one redirection byte is written: that of the valid page l, which then names t.
use Prim.Native.Nat.{ℕ, zero, suc, ◌-◌, ◌<◌, ◌≤◌}
use mathlib.Core.Path.{◌≡◌, refl, sym, ap, ◌∙◌}
use mathlib.Core.Logic.{◌⊎◌, inl, inr}
use native.Mathlib.Omega.{arith}
use native.Mathlib.Nat.{le_of_suc-le-suc, eq-or-lt_of_le}
use Rattle.base_types.specs.Verdict.{final}
use Rattle.chip_chain.specs.Walk.{named_by, walk_by}
use Rattle.chip_chain.specs.Chain.{met, Inside, EndsFinal, EndsOutside, Endless}
use Rattle.chip_chain.proofs.Walks.{Ends, at_final, at_outside, at_none, ends, walk_final, walk_outside, walk_loop, met_suc, final_means}

-- the byte function b becomes c: at l alone, from FFh to the byte that names t
pub record Relinked (n : ℕ) (b c : ℕ → ℕ) (l t : ℕ) : Type 0 where
  pub was_valid : b l ≡ 255
  pub target_valid : b t ≡ 255
  pub apart : t ≡ l → ⊥
  pub low : 1 ≤ t
  pub high : t ≤ 255
  pub on_chip : t < n
  pub now_names : c l ≡ 255 - t
  pub elsewhere : (q : ℕ) → (q ≡ l → ⊥) → c q ≡ b q

module _ (n : ℕ) (b c : ℕ → ℕ) (l t : ℕ) (r : Relinked n b c l t) where
  -- the pages met before l are met as before
  same_met : (p k : ℕ) → ((i : ℕ) → i < k → met b p i ≡ l → ⊥) → met c p k ≡ met b p k
  same_met p zero d = refl
  same_met p (suc k) d = rw (r.elsewhere p (d 0 (omega arith))) (same_met (named_by (b p)) k (λ i h. d (suc i) (omega arith)))

  leads_on : (p : ℕ) → Inside b n p → p ≡ l → ⊥
  leads_on p i e = i.redirected (ap b e ∙ r.was_valid)

  same_inside : (p : ℕ) → Inside b n p → Inside c n p
  same_inside p i = let e : c p ≡ b p = r.elsewhere p (leads_on p i) in record { redirected = rw e i.redirected; below = rw e i.below }

  -- the first h pages lead on as before
  same_before : (p h : ℕ) → ((k : ℕ) → k < h → Inside b n (met b p k)) → (k : ℕ) → k ≤ h → met c p k ≡ met b p k
  same_before p h f k le = same_met p k (λ i lt. leads_on (met b p i) (f i (omega arith)))

  before : (p h : ℕ) → ((k : ℕ) → k < h → Inside b n (met b p k)) → (k : ℕ) → k < h → Inside c n (met c p k)
  before p h f k lt = rw (same_before p h f k (omega arith)) (same_inside (met b p k) (f k lt))

  -- a chain that ended at l goes on to t
  pub moves : (p h : ℕ) → EndsFinal b n p l h → EndsFinal c n p t (suc h)
  moves p h e =
      record {
        there = met_suc c n p h ∙ ap (λ q. named_by (c q)) at_l ∙ ap named_by r.now_names ∙ omega (arith, r.high);
        valid = r.elsewhere t r.apart ∙ r.target_valid;
        before = λ k lt. go k (eq-or-lt_of_le (le_of_suc-le-suc lt));
      }
    where
      at_l : met c p h ≡ l
      at_l = same_before p h e.before h (omega arith) ∙ e.there

      go : (k : ℕ) → (k ≡ h) ⊎ (k < h) → Inside c n (met c p k)
      go k (inl q) = rw (q, at_l) (record { redirected = λ z. omega arith; below = omega arith })
      go k (inr lt) = before p h e.before k lt

  -- a chain that ended elsewhere, or not at all, is as it was
  same_final : (p f h : ℕ) → (f ≡ l → ⊥) → EndsFinal b n p f h → EndsFinal c n p f h
  same_final p f h d e =
      record {
        there = same_before p h e.before h (omega arith) ∙ e.there;
        valid = r.elsewhere f d ∙ e.valid;
        before = before p h e.before;
      }

  same_outside : (p x : ℕ) → EndsOutside b n p x → EndsOutside c n p x
  same_outside p x e =
      let m : met c p e.hops ≡ met b p e.hops = same_before p e.hops e.before e.hops (omega arith) in
      let s : c (met c p e.hops) ≡ b (met b p e.hops) = ap c m ∙ r.elsewhere (met b p e.hops) (λ q. e.redirected (ap b q ∙ r.was_valid)) in
      record {
        hops = e.hops;
        redirected = rw s e.redirected;
        named = rw s e.named;
        beyond = e.beyond;
        before = before p e.hops e.before;
      }

  same_endless : (p : ℕ) → Endless b n p → Endless c n p
  same_endless p e k = before p (suc k) (λ i lt. e i) k (omega arith)

  -- the walks: those that ended at l end at t, with one hop more; all others are as they were
  pub walk_moves : (p h : ℕ) → p < n → walk_by b n p ≡ final l h → walk_by c n p ≡ final t (suc h)
  walk_moves p h lt e = walk_final c n lt (moves p h ((final_means b n p l h lt).0 e))

  pub walk_stays : (p : ℕ) → p < n → ((h : ℕ) → walk_by b n p ≡ final l h → ⊥) → walk_by c n p ≡ walk_by b n p
  walk_stays p lt d = go (ends b n p lt)
    where
      go : Ends b n p → walk_by c n p ≡ walk_by b n p
      go (at_final f h e) =
          let w : walk_by b n p ≡ final f h = walk_final b n lt e in
          walk_final c n lt (same_final p f h (λ q. d h (w ∙ ap (λ x. final x h) q)) e) ∙ sym w
      go (at_outside x e) = walk_outside c n lt (same_outside p x e) ∙ sym (walk_outside b n lt e)
      go (at_none e) = walk_loop c n (same_endless p e) ∙ sym (walk_loop b n e)

-- a chain that ends meets pages of the chip alone
pub met_below : (n : ℕ) (b : ℕ → ℕ) (p h : ℕ) → p < n → ((k : ℕ) → k < h → Inside b n (met b p k)) → (k : ℕ) → k ≤ h → met b p k < n
met_below n b p h lt f zero le = lt
met_below n b p h lt f (suc k) le = rw (met_suc b n p k) (f k le).below

pub final_below : (n : ℕ) (b : ℕ → ℕ) (p f h : ℕ) → p < n → EndsFinal b n p f h → f < n
final_below n b p f h lt e = rw e.there at (met_below n b p h lt e.before h (omega arith))

-- a page that no byte names is at the end of its own chain alone
pub only_itself : (n : ℕ) (b : ℕ → ℕ) (t : ℕ) → ((q : ℕ) → q < n → named_by (b q) ≡ t → ⊥)
    → (p h : ℕ) → p < n → EndsFinal b n p t h → p ≡ t
only_itself n b t d p zero lt e = e.there
only_itself n b t d p (suc h) lt e =
    absurd (d (met b p h) (met_below n b p (suc h) lt e.before h (omega arith)) (sym (met_suc b n p h) ∙ e.there))
