-- The bytes of an accepted update as the chip programs them: they give the images of the update, and this is what is read back.
use Prim.Native.Nat.{ℕ, zero, suc, ◌+◌, ◌-◌, ◌*◌, ◌/◌, ◌%◌, ◌<◌, ◌≤◌}
use mathlib.Core.Path.{◌≡◌, refl, sym, ap, ◌∙◌}
use mathlib.Core.Bool.{true}
use mathlib.Core.List.{List, [], ◌∷◌}
use native.Mathlib.Omega.{arith}
use native.Mathlib.Nat.{mod-eq_of_lt, not-suc-le-zero, le_of_suc-le-suc}
use lib.Bits.{bit_and, and_comm, and_mask}
use lib.Dec.{eqb}
use lib.ListN.{length, get_or, drop, set, length-set}
use lib.Seq.{get_or-set_same, get_or-set_other, get_or-take, get_or-drop}
use borrow.Author.Tests.{eqb-true, lt-ltb, le-ltb}
use Rattle.std.proofs.lemmas.Bool.Decides.{nat_tests}
use Rattle.base_types.specs.Bits.{bit_at}
use Rattle.base_types.specs.declared.address.Space.TheVariants.{Data as DataSpace}
use Rattle.base_types.specs.declared.address.Target.{Target}
use Rattle.base_types.specs.declared.address.Target.TheVariants.{Status}
use Rattle.chip_memory.specs.declared.layout.Field.{Field}
use Rattle.chip_memory.specs.declared.layout.Field.TheVariants.{DataProtection, RedirectionProtection, UsedPages}
use Rattle.chip_memory.specs.Layout.{image_size, status_index, first_address, is_within, is_held}
use Rattle.chip_memory.specs.Image.{data_byte, status_byte, target_byte, page_bit, redirection_of, page_bytes}
use Rattle.chip_memory.specs.Page.{is_blank}
use Rattle.chip_memory.specs.Write.{bit_of, status_writable, is_writable, index_of, programmed}
use Rattle.chip_memory.proofs.Gaps.{redirection_held}
use Rattle.chip_memory.proofs.Pages.{page_length}
use Rattle.chip_memory.proofs.Sizes.{first_low}
use Rattle.chip_stage.specs.Limits.{target_at}
use Rattle.chip_chain.specs.Free.{Free}
use Rattle.base_types.proofs.Scan.{both_true}
use Rattle.chip_chain_laws.specs.Update.{bitmap_index, stored_from, bit_cleared, page_filled, linked}
use Rattle.chip_chain_laws.proofs.Images.{Accepted, bytes_before}
use Rattle.chip_chain_laws.proofs.Stores.{stored_length}
use Rattle.master_plan.specs.Places.{bitmap_address, clearing, redirection_address, naming}
use Rattle.master_publisher.specs.Start.{bitmap_byte}

-- t's bitmap byte, with its bit cleared
abbrev pub cleared_byte : ℕ → List ℕ → ℕ → ℕ
cleared_byte n img t = bit_and (bitmap_byte n img t) (clearing t)

-- the image with that bit cleared and k new bytes written, and the image with the redirection byte written as well
abbrev pub written : ℕ → List ℕ → List ℕ → ℕ → ℕ → List ℕ
written n img new t k = page_filled n img t (cleared_byte n img t) new k

abbrev pub linked_image : ℕ → List ℕ → List ℕ → ℕ → ℕ → List ℕ
linked_image n img new l t = linked n img l t (cleared_byte n img t) new

-- over FFh the byte sent is what stands there afterwards
over_ones : (byte : ℕ) → byte < 256 → bit_and 255 byte ≡ byte
over_ones byte lt = and_comm 255 byte ∙ and_mask byte 8 ∙ mod-eq_of_lt lt

-- every byte of a blank page is FFh
blank_at : (bs : List ℕ) → is_blank bs ≡ true → (i : ℕ) → i < length bs → get_or bs i 0 ≡ 255
unfolding is_blank
blank_at [] e i lt = absurd (not-suc-le-zero lt)
blank_at (b ∷ bs) e zero lt = eqb-true b 255 (both_true (eqb b 255) (is_blank bs) e).0
blank_at (b ∷ bs) e (suc i) lt = blank_at bs (both_true (eqb b 255) (is_blank bs) e).1 i (le_of_suc-le-suc lt)

module _ (n : ℕ) where
  -- ---- a target that can be written

  programs : (img : List ℕ) (t : Target) (byte : ℕ) → is_writable n img t ≡ true
      → programmed n img t byte ≡ set img (index_of n t) (bit_and (get_or img (index_of n t) 0) byte)
  unfolding programmed
  programs img t byte w = simp w

  over_blank : (img : List ℕ) (t : Target) (byte : ℕ) → is_writable n img t ≡ true → get_or img (index_of n t) 0 ≡ 255 → byte < 256
      → programmed n img t byte ≡ set img (index_of n t) byte
  over_blank img t byte w e lt = programs img t byte w ∙ ap (λ x. set img (index_of n t) (bit_and x byte)) e ∙ ap (set img (index_of n t)) (over_ones byte lt)

  data_back : (img : List ℕ) (a v : ℕ) → a < 32 * n → a < length img → target_byte n (set img a v) (target_at DataSpace a) ≡ v
  unfolding target_byte target_at data_byte
  data_back img a v lt inside = simp (lt-ltb a (32 * n) lt) (get_or-set_same img a v 0 inside)

  status_back : (img : List ℕ) (a v : ℕ) → is_held n a ≡ true → status_index n a < length img → target_byte n (set img (status_index n a) v) (Status (record { 0 = a })) ≡ v
  unfolding target_byte status_byte
  status_back img a v h inside = simp h (get_or-set_same img (status_index n a) v 0 inside)

  bitmap_held : n % 8 ≡ 0 → n ≤ 256 → (t : ℕ) → t < n → is_held n (bitmap_address t).0 ≡ true
  unfolding is_held is_within first_address
  bitmap_held whole low t lt = grind (arith, nat_tests)

module _ (n : ℕ) (whole : n % 8 ≡ 0) (img new : List ℕ) (l t : ℕ) (ok : Accepted n img new l t) (free : Free n img t)
    (unprotected : page_bit n RedirectionProtection img l ≡ true) (small : (i : ℕ) → get_or new i 0 < 256) where
  written_length : (k : ℕ) → length (written n img new t k) ≡ image_size n
  written_length k =
      stored_length n (bit_cleared n img t (cleared_byte n img t)) new t k ∙ length-set img (bitmap_index n t) (cleared_byte n img t) ∙ ok.size

  -- ---- t's bitmap bit

  pub clears : programmed n img (Status (bitmap_address t)) (clearing t) ≡ written n img new t 0
  unfolding is_writable status_writable index_of bitmap_byte first_address stored_from
  clears =
      programs n img (Status (bitmap_address t)) (clearing t)
      (simp (lt-ltb (0x40 + t / 8) 0x100 (omega arith), bitmap_held n whole ok.count t ok.target))

  pub clears_back : target_byte n (written n img new t 0) (Status (bitmap_address t)) ≡ bit_and (bitmap_byte n img t) (clearing t)
  unfolding bitmap_byte stored_from
  clears_back =
      status_back n img (bitmap_address t).0 (cleared_byte n img t) (bitmap_held n whole ok.count t ok.target) (omega (arith, first_low UsedPages))

  -- ---- the bytes of page t

  -- what is not yet written of page t is as it was, and so FFh
  ahead : (j k : ℕ) → j ≤ k → get_or (written n img new t j) (32 * t + k) 0 ≡ get_or (bit_cleared n img t (cleared_byte n img t)) (32 * t + k) 0
  unfolding stored_from
  ahead zero k le = refl
  ahead (suc j) k le = get_or-set_other (written n img new t j) (32 * t + j) (32 * t + k) (get_or new j 0) 0 (omega arith) ∙ ahead j k (omega arith)

  was_blank : (k : ℕ) → k < 32 → get_or (written n img new t k) (32 * t + k) 0 ≡ 255
  unfolding page_bytes
  was_blank k lt =
      ahead k k (omega arith)
      ∙ get_or-set_other img (bitmap_index n t) (32 * t + k) (cleared_byte n img t) 0 (omega arith)
      ∙ sym (get_or-take 32 (drop (32 * t) img) k 0 lt ∙ get_or-drop (32 * t) img k 0)
      ∙ blank_at (page_bytes img t) free.blank k (omega (arith, page_length n img t ok.size ok.target))

  -- the protection bits are as they were at every stage
  bits_kept : (f : Field) (k p : ℕ) → first_address f ≤ 32 → p < n → k ≤ 32 → page_bit n f (written n img new t k) p ≡ page_bit n f img p
  unfolding page_bit stored_from
  bits_kept f zero p le lt lk =
      ap (λ x. bit_at x (p % 8)) (get_or-set_other img (bitmap_index n t) (status_index n (first_address f + p / 8)) (cleared_byte n img t) 0
      (unfold first_address in omega arith))
  bits_kept f (suc k) p le lt lk =
      ap (λ x. bit_at x (p % 8)) (get_or-set_other (written n img new t k) (32 * t + k) (status_index n (first_address f + p / 8)) (get_or new k 0) 0 (omega arith))
      ∙ bits_kept f k p le lt (omega arith)

  fill_open : (k : ℕ) → k < 32 → is_writable n (written n img new t k) (target_at DataSpace (32 * t + k)) ≡ true
  unfolding is_writable target_at bit_of
  fill_open k lt =
      let p : (32 * t + k) / 32 ≡ t = omega arith in
      rw p (simp (lt-ltb t n ok.target) (bits_kept DataProtection k t (unfold first_address in omega arith) ok.target (omega arith) ∙ free.unprotected))

  pub fills : (k : ℕ) → k < 32 → programmed n (written n img new t k) (target_at DataSpace (32 * t + k)) (get_or new k 0) ≡ written n img new t (suc k)
  unfolding index_of target_at stored_from
  fills k lt = over_blank n (written n img new t k) (target_at DataSpace (32 * t + k)) (get_or new k 0) (fill_open k lt) (was_blank k lt) (small k)

  pub fills_back : (k : ℕ) → k < 32 → target_byte n (written n img new t (suc k)) (target_at DataSpace (32 * t + k)) ≡ bit_and 255 (get_or new k 0)
  unfolding stored_from
  fills_back k lt =
      data_back n (written n img new t k) (32 * t + k) (get_or new k 0) (omega arith) (omega (arith, written_length k)) ∙ sym (over_ones (get_or new k 0) (small k))

  -- ---- l's redirection byte

  link_open : is_writable n (written n img new t 32) (Status (redirection_address l)) ≡ true
  unfolding is_writable status_writable bit_of
  link_open =
      let p : 0x100 + l - 0x100 ≡ l = omega arith in
      simp (le-ltb (0x100 + l) 0x100 (omega arith), p, lt-ltb l n ok.superseded)
      (bits_kept RedirectionProtection 32 l (unfold first_address in omega arith) ok.superseded (omega arith) ∙ unprotected)

  pub links : programmed n (written n img new t 32) (Status (redirection_address l)) (naming t).0 ≡ linked_image n img new l t
  unfolding index_of redirection_of
  links =
      over_blank n (written n img new t 32) (Status (redirection_address l)) (255 - t) link_open
      (ap (λ b. b l) (bytes_before n img new l t (cleared_byte n img t) ok 32 (omega arith)) ∙ ok.superseded_valid) (omega arith)

  pub links_back : target_byte n (linked_image n img new l t) (Status (redirection_address l)) ≡ bit_and 255 (naming t).0
  links_back =
      status_back n (written n img new t 32) (redirection_address l).0 (255 - t) (redirection_held n (redirection_address l).0 (omega arith) (omega arith)) (omega (arith, written_length 32))
      ∙ sym (over_ones (255 - t) (omega arith))
