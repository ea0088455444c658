-- What the start of an update makes sure of is enough, and what each page then reads as, in one equation.
use Prim.Native.Nat.{ℕ, ◌+◌, ◌<◌, ◌≤◌}
use mathlib.Core.Path.{◌≡◌, refl, sym, ap, ◌∙◌}
use mathlib.Core.Bool.{Bool, true, false, cond}
use mathlib.Core.List.{List}
use native.Mathlib.Numerals.{add-one}
use lib.ListN.{length}
use lib.Dec.{eqb}
use borrow.Author.Tests.{eqb-true, eqb-false}
use Rattle.chip_memory.specs.Layout.{image_size}
use Rattle.chip_memory.specs.Image.{redirection_of}
use Rattle.base_types.specs.Verdict.{final}
use Rattle.chip_chain.specs.Walk.{walk_of}
use Rattle.chip_chain.specs.Free.{Free}
use Rattle.chip_chain_laws.specs.Update.{read_of, linked, moved_by, moved}
use Rattle.base_types.specs.declared.address.Page.{Page}
use Rattle.base_types.specs.declared.verdict.Verdict.{Verdict}
use Rattle.base_types.specs.declared.verdict.Verdict.TheVariants.{Final, Loop, Outside}
use Rattle.chip_chain.proofs.Walks.{final_means, final_not_loop, final_not_outside}
use Rattle.chip_chain_laws.proofs.Relink.{final_below}
use Rattle.chip_chain.proofs.Frees.{named_elsewhere}
use Rattle.chip_chain_laws.proofs.Images.{Accepted, reads_moved, reads_stayed}

-- an update that the start accepts: l is where p ends, and t a free page other than l
pub accepted : (n : ℕ) (img new : List ℕ) (p l h t : ℕ) → length img ≡ image_size n → n ≤ 256 → length new ≡ 32 → p < n
    → walk_of n img p ≡ final l h → t < n → Free n img t → (t ≡ l → ⊥) → Accepted n img new l t
unfolding walk_of
accepted n img new p l h t size count long lt w on_chip free apart =
    let e = (final_means (redirection_of n img) n p l h lt).0 w in
    record {
      size = size;
      count = count;
      long = long;
      superseded = final_below n (redirection_of n img) p l h lt e;
      superseded_valid = e.valid;
      target = on_chip;
      target_low = free.low;
      target_valid = free.valid;
      target_unnamed = λ q lq. named_elsewhere (redirection_of n img q) t free.low (free.unnamed q lq);
      apart = apart;
    }

module _ (n : ℕ) (img new : List ℕ) (l t v : ℕ) (ok : Accepted n img new l t) where
  pub reads_after : (q : ℕ) → q < n → (q ≡ t → ⊥) → read_of n (linked n img l t v new) q ≡ moved l t new (read_of n img q)
  reads_after q lt d = go (walk_of n img q) refl
    where
      at_final : (f : Page) (h : ℕ) → walk_of n img q ≡ Final f h → (b : Bool) → eqb f.0 l ≡ b
          → read_of n (linked n img l t v new) q ≡ cond b (record { verdict = final t (h + 1); bytes = new }) (read_of n img q)
      at_final f h e true s = rw add-one (reads_moved n img new l t v ok q h lt (e ∙ ap (λ x. final x h) (eqb-true _ _ s)))
      at_final f h e false s =
          reads_stayed n img new l t v ok q lt d
          (λ k z. let p : ◌≡◌ {A = Page} f (record { 0 = l }) = cc in eqb-false _ _ s (ap (λ (x : Page). x.0) p))

      go : (w : Verdict) → walk_of n img q ≡ w → read_of n (linked n img l t v new) q ≡ moved_by l t new (read_of n img q) w
      go (Final f h) e = at_final f h e (eqb f.0 l) refl
      go Loop e = reads_stayed n img new l t v ok q lt d (λ h z. final_not_loop (sym z ∙ e))
      go (Outside x) e = reads_stayed n img new l t v ok q lt d (λ h z. final_not_outside (sym z ∙ e))
