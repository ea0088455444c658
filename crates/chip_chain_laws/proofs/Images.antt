-- Over the images of an update: until the redirection byte of l is written each page but t reads as before, and then the pages that ended at l read as the new page.
use Prim.Native.Nat.{ℕ, suc, ◌-◌, ◌<◌, ◌≤◌}
use mathlib.Core.Path.{◌≡◌, ap, ◌∙◌}
use mathlib.Core.Logic.{inr}
use mathlib.Core.List.{List}
use native.Mathlib.Omega.{arith}
use lib.ListN.{length, length-set}
use lib.Seq.{get_or-set_same, get_or-set_other}
use Rattle.chip_memory.specs.declared.layout.Field.TheVariants.{UsedPages}
use Rattle.chip_memory.specs.Layout.{image_size}
use Rattle.chip_memory.proofs.Sizes.{first_low}
use Rattle.chip_memory.specs.Image.{redirection_of, page_bytes}
use Rattle.base_types.specs.Verdict.{final}
use Rattle.chip_chain.specs.Walk.{named_by, walk_of, walk_by}
use Rattle.chip_chain_laws.specs.Update.{bytes_under, read_of, redirection_index, bitmap_index, bit_cleared, page_filled, linked}
use Rattle.chip_chain.proofs.Walks.{final_means}
use Rattle.chip_chain_laws.proofs.Relink.{Relinked, walk_moves, walk_stays, only_itself, final_below}
use Rattle.chip_chain.specs.Chain.{EndsFinal}
use Rattle.chip_chain_laws.proofs.Stores.{redirection_kept, page_kept, stored_redirection, stored_other, stored_length, stored_page, same_read}

-- what an accepted update may count on: of l, and of the free page t
pub record Accepted (n : ℕ) (img new : List ℕ) (l t : ℕ) : Type 0 where
  pub size : length img ≡ image_size n
  pub count : n ≤ 256
  pub long : length new ≡ 32
  pub superseded : l < n
  pub superseded_valid : redirection_of n img l ≡ 255
  pub target : t < n
  pub target_low : 1 ≤ t
  pub target_valid : redirection_of n img t ≡ 255
  pub target_unnamed : (q : ℕ) → q < n → named_by (redirection_of n img q) ≡ t → ⊥
  pub apart : t ≡ l → ⊥

module _ (n : ℕ) (img new : List ℕ) (l t v : ℕ) (ok : Accepted n img new l t) where
  -- the page's bitmap byte is no redirection byte and in no page
  pub bytes_before : (k : ℕ) → k ≤ 32 → redirection_of n (page_filled n img t v new k) ≡ redirection_of n img
  bytes_before k le =
      stored_redirection n (bit_cleared n img t v) new t k le ok.target ∙ redirection_kept n img (bitmap_index n t) v (omega (arith, first_low UsedPages))

  pages_before : (k q : ℕ) → k ≤ 32 → q < n → (q ≡ t → ⊥) → page_bytes (page_filled n img t v new k) q ≡ page_bytes img q
  pages_before k q le lt d =
      stored_other n (bit_cleared n img t v) new t k q le d ∙ page_kept img (bitmap_index n t) v q (inr (omega arith))

  -- the final page of another page is a page of the chip, and is not t
  ends_elsewhere : (q f h : ℕ) → q < n → (q ≡ t → ⊥) → walk_of n img q ≡ final f h → (f < n) × (f ≡ t → ⊥)
  unfolding walk_of
  ends_elsewhere q f h lt d w =
      let e : EndsFinal (redirection_of n img) n q f h = (final_means (redirection_of n img) n q f h lt).0 w in
      (final_below n (redirection_of n img) q f h lt e, λ z. d (only_itself n (redirection_of n img) t ok.target_unnamed q h lt (rw z at e)))

  -- until the redirection byte is written: every page but t reads as before
  pub reads_before : (k q : ℕ) → k ≤ 32 → q < n → (q ≡ t → ⊥) → read_of n (page_filled n img t v new k) q ≡ read_of n img q
  unfolding walk_of
  reads_before k q le lt d =
      same_read img (page_filled n img t v new k) n q (ap (λ b. walk_by b n q) (bytes_before k le))
      (λ f h w. let e = ends_elsewhere q f h lt d w in pages_before k f le e.0 e.1)

  -- the redirection bytes before and after
  relinked : Relinked n (redirection_of n img) (redirection_of n (linked n img l t v new)) l t
  unfolding redirection_of
  relinked =
      let m = page_filled n img t v new 32 in
      record {
        was_valid = ok.superseded_valid;
        target_valid = ok.target_valid;
        apart = ok.apart;
        low = ok.target_low;
        high = omega arith;
        on_chip = ok.target;
        now_names = get_or-set_same m (redirection_index n l) (255 - t) 0 (omega (arith, stored_length n (bit_cleared n img t v) new t 32, length-set img (bitmap_index n t) v));
        elsewhere = λ q d. get_or-set_other m (redirection_index n l) (redirection_index n q) (255 - t) 0 (λ e. d (omega arith)) ∙ ap (λ b. b q) (bytes_before 32 (omega arith));
      }

  -- the redirection byte is in no page
  pages_after : (q : ℕ) → q < n → page_bytes (linked n img l t v new) q ≡ page_bytes (page_filled n img t v new 32) q
  pages_after q lt = page_kept (page_filled n img t v new 32) (redirection_index n l) (255 - t) q (inr (omega arith))

  -- afterwards the pages that ended at l read as the new page, with one hop more ..
  pub reads_moved : (q h : ℕ) → q < n → walk_of n img q ≡ final l h
      → read_of n (linked n img l t v new) q ≡ record { verdict = final t (suc h); bytes = new }
  unfolding walk_of
  reads_moved q h lt w =
      let e : walk_of n (linked n img l t v new) q ≡ final t (suc h) = walk_moves n (redirection_of n img) (redirection_of n (linked n img l t v new)) l t relinked q h lt w in
      let bs : bytes_under (linked n img l t v new) (walk_of n (linked n img l t v new) q) ≡ new =
      ap (bytes_under (linked n img l t v new)) e ∙ pages_after t ok.target
      ∙ stored_page n (bit_cleared n img t v) new t (omega (arith, length-set img (bitmap_index n t) v)) ok.long in
      λ i. record { verdict = e i; bytes = bs i }

  -- .. and every other page but t as it did
  pub reads_stayed : (q : ℕ) → q < n → (q ≡ t → ⊥) → ((h : ℕ) → walk_of n img q ≡ final l h → ⊥)
      → read_of n (linked n img l t v new) q ≡ read_of n img q
  unfolding walk_of
  reads_stayed q lt d other =
      same_read img (linked n img l t v new) n q
      (walk_stays n (redirection_of n img) (redirection_of n (linked n img l t v new)) l t relinked q lt other)
      (λ f h w. let e = ends_elsewhere q f h lt d w in pages_after f e.0 ∙ pages_before 32 f (omega arith) e.0 e.1)
