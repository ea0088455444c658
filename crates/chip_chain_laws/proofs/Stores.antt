-- What a store into an image leaves as it was: the redirection bytes, and the bytes of a page.
use Prim.Native.Nat.{ℕ, zero, suc, ◌+◌, ◌-◌, ◌*◌, ◌<◌, ◌≤◌}
use mathlib.Core.Path.{◌≡◌, refl, sym, ap, ◌∙◌, fun_ext}
use mathlib.Core.Logic.{◌⊎◌, inl, inr}
use mathlib.Core.List.{List}
use native.Mathlib.Omega.{arith}
use native.Mathlib.Decide.{dec_lt}
use native.Mathlib.Nat.{not-suc-le-zero, le_of_suc-le-suc, eq-or-lt_of_le}
use lib.ListN.{length, get_or, take, drop, set, length-set, length-take, length-drop}
use lib.Seq.{get_or-set_same, get_or-set_other, drop-set-lt, drop-set-add, take-set-le, get_or-take, get_or-drop, ext_get_or}
use Rattle.chip_memory.specs.Image.{redirection_of, page_bytes}
use Rattle.base_types.specs.Verdict.{final}
use Rattle.chip_chain.specs.Walk.{walk_of}
use Rattle.chip_chain_laws.specs.Update.{PageReading, bytes_under, read_of, redirection_index, stored_from}
use Rattle.base_types.specs.declared.verdict.Verdict.{Verdict}
use Rattle.base_types.specs.declared.verdict.Verdict.TheVariants.{Final, Loop, Outside}

-- below the redirection bytes
pub redirection_kept : (n : ℕ) (img : List ℕ) (i v : ℕ) → i < 32 * n + 256 → redirection_of n (set img i v) ≡ redirection_of n img
unfolding redirection_of
redirection_kept n img i v lt = fun_ext (λ q. get_or-set_other img i (redirection_index n q) v 0 (omega arith))

-- outside of page q
pub page_kept : (img : List ℕ) (i v q : ℕ) → (i < 32 * q) ⊎ (32 * q + 32 ≤ i) → page_bytes (set img i v) q ≡ page_bytes img q
unfolding page_bytes
page_kept img i v q (inl lt) = ap (take 32) (drop-set-lt (32 * q) img i v lt)
page_kept img i v q (inr le) =
    let e : i ≡ 32 * q + (i - 32 * q) = omega arith in
    ap (λ k. take 32 (drop (32 * q) (set img k v))) e ∙ ap (take 32) (drop-set-add (32 * q) img (i - 32 * q) v) ∙ take-set-le 32 (drop (32 * q) img) (i - 32 * q) v (omega arith)

-- another page: 32 bytes at 32 * t, and 32 * q
other_page : (t q j : ℕ) → (q ≡ t → ⊥) → j < 32 → (32 * t + j < 32 * q) ⊎ (32 * q + 32 ≤ 32 * t + j)
other_page t q j d lt = go (dec_lt q t)
  where
    go : Dec (q < t) → (32 * t + j < 32 * q) ⊎ (32 * q + 32 ≤ 32 * t + j)
    go (yes l) = inr (omega arith)
    go (no l) = inl (omega arith)

module _ (n : ℕ) (img new : List ℕ) (t : ℕ) where
  pub stored_redirection : (k : ℕ) → k ≤ 32 → t < n → redirection_of n (stored_from img (32 * t) new k) ≡ redirection_of n img
  unfolding stored_from
  stored_redirection zero le lt = refl
  stored_redirection (suc k) le lt = redirection_kept n (stored_from img (32 * t) new k) (32 * t + k) (get_or new k 0) (omega arith) ∙ stored_redirection k (omega arith) lt

  pub stored_other : (k q : ℕ) → k ≤ 32 → (q ≡ t → ⊥) → page_bytes (stored_from img (32 * t) new k) q ≡ page_bytes img q
  unfolding stored_from
  stored_other zero q le d = refl
  stored_other (suc k) q le d = page_kept (stored_from img (32 * t) new k) (32 * t + k) (get_or new k 0) q (other_page t q k d le) ∙ stored_other k q (omega arith) d

  pub stored_length : (k : ℕ) → length (stored_from img (32 * t) new k) ≡ length img
  unfolding stored_from
  stored_length zero = refl
  stored_length (suc k) = length-set (stored_from img (32 * t) new k) (32 * t + k) (get_or new k 0) ∙ stored_length k

  stored_at : (k j : ℕ) → j < k → 32 * t + k ≤ length img → get_or (stored_from img (32 * t) new k) (32 * t + j) 0 ≡ get_or new j 0
  unfolding stored_from
  stored_at zero j lt fits = absurd (not-suc-le-zero lt)
  stored_at (suc k) j lt fits = go (λ l. stored_at k j l (omega arith)) (eq-or-lt_of_le (le_of_suc-le-suc lt))
    where
      m : List ℕ
      m = stored_from img (32 * t) new k

      go : (j < k → get_or m (32 * t + j) 0 ≡ get_or new j 0) → (j ≡ k) ⊎ (j < k) → get_or (set m (32 * t + k) (get_or new k 0)) (32 * t + j) 0 ≡ get_or new j 0
      go ih (inl e) = rw e (get_or-set_same m (32 * t + k) (get_or new k 0) 0 (omega (arith, stored_length k)))
      go ih (inr l) = get_or-set_other m (32 * t + k) (32 * t + j) (get_or new k 0) 0 (omega arith) ∙ ih l

  pub stored_page : 32 * t + 32 ≤ length img → length new ≡ 32 → page_bytes (stored_from img (32 * t) new 32) t ≡ new
  unfolding page_bytes
  stored_page fits long =
      let m = stored_from img (32 * t) new 32 in
      let long' : length (take 32 (drop (32 * t) m)) ≡ 32 = simp (length-take, length-drop) (omega (arith, stored_length 32)) in
      ext_get_or 0 (take 32 (drop (32 * t) m)) new (long' ∙ sym long)
      (λ i lt. get_or-take 32 (drop (32 * t) m) i 0 (omega arith) ∙ get_or-drop (32 * t) m i 0 ∙ stored_at 32 i (omega arith) fits)

-- two images give a page the same reading
module _ (img img' : List ℕ) where
  same_bytes : (v : Verdict) → ((f h : ℕ) → v ≡ final f h → page_bytes img' f ≡ page_bytes img f) → bytes_under img' v ≡ bytes_under img v
  same_bytes (Final q h) same = same q.0 h refl
  same_bytes Loop same = refl
  same_bytes (Outside x) same = refl

  same_reading : (v v' : Verdict) → v' ≡ v → ((f h : ℕ) → v ≡ final f h → page_bytes img' f ≡ page_bytes img f)
      → ◌≡◌ {A = PageReading} (record { verdict = v'; bytes = bytes_under img' v' }) (record { verdict = v; bytes = bytes_under img v })
  same_reading v v' e same =
      let bs : bytes_under img' v' ≡ bytes_under img v = ap (bytes_under img') e ∙ same_bytes v same in
      λ i. record { verdict = e i; bytes = bs i }

  pub same_read : (n p : ℕ) → walk_of n img' p ≡ walk_of n img p → ((f h : ℕ) → walk_of n img p ≡ final f h → page_bytes img' f ≡ page_bytes img f)
      → read_of n img' p ≡ read_of n img p
  same_read n p = same_reading (walk_of n img p) (walk_of n img' p)
