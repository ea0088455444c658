-- The laws of the kinds of fields; the comparison; what stands after the front; the whole in a buffer.
use Prim.Native.Nat.{ℕ, zero, suc, ◌+◌, ◌-◌, ◌*◌, ◌/◌, ◌%◌, ◌<◌, ◌≤◌, min}
use mathlib.Core.Path.{◌≡◌, refl, sym, ap, ◌∙◌}
use mathlib.Core.Bool.{Bool, true, false, cond, ◌&&◌}
use mathlib.Core.List.{List, [], ◌∷◌, ◌++◌}
use native.Mathlib.Omega.{arith}
use lib.Dec.{eqb, ltb}
use native.Mathlib.Decide.{dec_lt}
use Rattle.std.specs.List.{list_all, range_with_len}
use Rattle.std.proofs.lemmas.List.{drop_min, take_rest}
use lib.ListN.{length, get_or, set, take, drop, replicate, length-append, length-replicate, length-drop, drop_of_length-le, get_or-eq_default}
use lib.Seq.{drop-cons, drop_at}
use borrow.Author.Tests.{eq-eqb, ne_eqb, eqb-true, le-ltb}
use Rattle.base_types.specs.Bits.{one}
use Rattle.base_types.proofs.Tests.{and_left, and_right, and_true}
use Rattle.base_types.specs.declared.write_mode.WriteMode.{WriteMode}
use Rattle.base_types.specs.declared.write_mode.WriteMode.TheVariants.{Ordinary, Quick}
use Rattle.chip_memory.specs.Page.{copied}
use Rattle.chip_memory.proofs.Pages.{copied_same, copied_length}
use Rattle.plug_fields.specs.Fields.{padded, front, same, rest_at, is_copy, Inverse, mode_byte, mode_of}

-- ---- a byte, a 16-bit number, zeros, a refusal

eqb_self : (x : ℕ) → eqb x x ≡ true
eqb_self x = eq-eqb x x refl

pub low_joined : (l h : ℕ) → l < 256 → (l + 256 * h) % 256 ≡ l
low_joined l h lt = omega arith

pub high_joined : (l h : ℕ) → l < 256 → (l + 256 * h) / 256 ≡ h
high_joined l h lt = omega arith

pub halves : (x : ℕ) → x % 256 + 256 * (x / 256) ≡ x
halves x = omega arith

pub past : (k x : ℕ) → k < x → eqb x k ≡ false
past k x h = ne_eqb x k (omega arith)

pub mode_good : (x : ℕ) → eqb x (mode_byte (mode_of x)) ≡ ltb x 2
unfolding mode_byte mode_of
mode_good zero = refl
mode_good (suc zero) = refl
mode_good (suc (suc x)) = let h : 2 ≤ (suc (suc x)) = omega arith in rw (past 0 (suc (suc x)) (omega arith), past 1 (suc (suc x)) (omega arith), le-ltb _ _ h)

pub mode_back : (m : WriteMode) → mode_of (mode_byte m) ≡ m
unfolding mode_byte mode_of
mode_back Ordinary = refl
mode_back Quick = refl

pub flag_good : (x : ℕ) → eqb x (one (eqb x 1)) ≡ ltb x 2
flag_good zero = refl
flag_good (suc zero) = refl
flag_good (suc (suc x)) = let h : 2 ≤ (suc (suc x)) = omega arith in rw (past 1 (suc (suc x)) (omega arith), past 0 (suc (suc x)) (omega arith), le-ltb _ _ h)

padded_length : (n : ℕ) (b : List ℕ) → length (padded n b) ≡ n
padded_length zero b = refl
padded_length (suc n) [] = ap suc (padded_length n [])
padded_length (suc n) (x ∷ b) = ap suc (padded_length n b)

front_length : (r : ℕ) → r ≤ 16 → (enum fields : List ℕ) → length (front r enum fields) ≡ 16
front_length r le enum fields =
    length-append (padded r enum) (padded (16 - r) fields) ∙ rw (padded_length r enum, padded_length (16 - r) fields) (omega arith)

-- a field is stored after the enum, and stands there in the whole
pub stored : (r k v : ℕ) (enum fields : List ℕ) → set (padded r enum ++ fields) (r + k) v ≡ padded r enum ++ set fields k v
stored zero k v enum fields =
    let z : 0 + k ≡ k = omega arith in
    rw z
stored (suc r) k v [] fields =
    let z : suc r + k ≡ suc (r + k) = omega arith in
    rw z (ap (λ (l : List ℕ). 0 ∷ l) (stored r k v [] fields))
stored (suc r) k v (x ∷ enum) fields =
    let z : suc r + k ≡ suc (r + k) = omega arith in
    rw z (ap (λ (l : List ℕ). x ∷ l) (stored r k v enum fields))

pub field : (r k : ℕ) (enum fields rest : List ℕ) → get_or ((padded r enum ++ fields) ++ rest) (r + k) 0 ≡ get_or (fields ++ rest) k 0
field zero k enum fields rest =
    let z : 0 + k ≡ k = omega arith in
    rw z
field (suc r) k [] fields rest =
    let z : suc r + k ≡ suc (r + k) = omega arith in
    rw z (field r k [] fields rest)
field (suc r) k (x ∷ enum) fields rest =
    let z : suc r + k ≡ suc (r + k) = omega arith in
    rw z (field r k enum fields rest)

-- past the end stand zeros
none_past : (b : List ℕ) (n i : ℕ) → length b ≤ i → same i (replicate n 0) b ≡ true
unfolding same
none_past b zero i le = refl
none_past b (suc n) i le = rw (get_or-eq_default b 0 le) (none_past b n (suc i) (omega arith))

-- zeros past the end are zeros of the bytes
zeros_more : (b : List ℕ) (n m i : ℕ) → n ≤ m → length b ≤ i + n → same i (replicate n 0) b ≡ same i (replicate m 0) b
unfolding same
zeros_more b zero m i le end = sym (none_past b m i (omega arith))
zeros_more b (suc n) zero i le end = absurd (omega arith)
zeros_more b (suc n) (suc m) i le end = ap (λ (t : Bool). eqb (get_or b i 0) 0 && t) (zeros_more b n m (suc i) (omega arith) (omega arith))

-- the bytes of so many places, one after the other
zeros_at : (b : List ℕ) (n i : ℕ) → list_all (λ k. eqb (get_or b k 0) 0) (range_with_len i n) ≡ same i (replicate n 0) b
unfolding same
zeros_at b zero i = refl
zeros_at b (suc n) i =
    let next : i + 1 ≡ suc i = omega arith in
    rw next (ap (λ (t : Bool). eqb (get_or b i 0) 0 && t) (zeros_at b n (suc i)))

-- from a place up to another, those past the end left out
pub zeros_are : (from to : ℕ) (b : List ℕ)
    → list_all (λ k. eqb (get_or b k 0) 0) (range_with_len from (min to (length b) - from)) ≡ same from (replicate (to - from) 0) b
zeros_are from to b = zeros_at b (min to (length b) - from) from ∙ go (dec_lt (length b) to)
  where
    go : Dec (length b < to) → same from (replicate (min to (length b) - from) 0) b ≡ same from (replicate (to - from) 0) b
    go (yes lt) = zeros_more b (min to (length b) - from) (to - from) from (omega arith) (omega arith)
    go (no le) =
        let e : min to (length b) ≡ to = omega arith in
        rw e

padded_none : (n : ℕ) → padded n [] ≡ replicate n 0
padded_none zero = refl
padded_none (suc n) = ap (λ (l : List ℕ). 0 ∷ l) (padded_none n)

-- ---- so many bytes, and what stands after the front

pub padded_is : (n : ℕ) (b : List ℕ) → copied b (replicate n 0) ≡ padded n b
unfolding copied
padded_is zero [] = refl
padded_is zero (x ∷ b) = refl
padded_is (suc n) [] = ap (λ (l : List ℕ). 0 ∷ l) (sym (padded_none n))
padded_is (suc n) (x ∷ b) = ap (λ (l : List ℕ). x ∷ l) (padded_is n b)

pub rest_is : (n k : ℕ) (b : List ℕ) → k ≡ min (length b) 16 → padded n (take (length b - k) (drop k b)) ≡ rest_at n b
unfolding rest_at
rest_is n k b e =
    let same : k ≡ min 16 (length b) = omega arith in
    ap (padded n) (take_rest b k ∙ ap (λ (i : ℕ). drop i b) same ∙ drop_min 16 b) ∙ sym (padded_is n (drop 16 b))

-- of bytes that are so many, all after the front
rest_all : (n : ℕ) (b : List ℕ) → length b ≡ 16 + n → rest_at n b ≡ drop 16 b
unfolding rest_at
rest_all n b e = copied_same (drop 16 b) (replicate n 0) (simp (length-drop, length-replicate) (omega arith))

-- ---- the front and the rest put into a buffer, one after the other

rest_length : (n : ℕ) (b : List ℕ) → length (rest_at n b) ≡ n
unfolding rest_at
rest_length n b = copied_length (drop 16 b) (replicate n 0) ∙ length-replicate n 0

-- ---- the comparison

-- the byte that stands there, by its value or as the byte of that place
pub same_tag : (b : List ℕ) (at : ℕ) {t : ℕ} → get_or b at 0 ≡ t → (xs : List ℕ) → same at (t ∷ xs) b ≡ same (suc at) xs b
unfolding same
same_tag b at e xs = rw (eq-eqb _ _ e)

pub same_not : (b : List ℕ) (at : ℕ) {t : ℕ} → (get_or b at 0 ≡ t → ⊥) → (xs : List ℕ) → same at (t ∷ xs) b ≡ false
unfolding same
same_not b at d xs = rw (ne_eqb _ _ d)

pub same_own : (b : List ℕ) (at : ℕ) (xs : List ℕ) → same at (get_or b at 0 ∷ xs) b ≡ same (suc at) xs b
same_own b at xs = same_tag b at refl xs

pub same_one : (b : List ℕ) (at x : ℕ) (xs : List ℕ) → same at (x ∷ xs) b ≡ (eqb (get_or b at 0) x && same (suc at) xs b)
unfolding same
same_one b at x xs = refl

pub same_two : (b : List ℕ) (at x y : ℕ) (xs : List ℕ)
    → same at (x ∷ y ∷ xs) b ≡ ((eqb (get_or b at 0) x && eqb (get_or b (suc at) 0) y) && same (suc (suc at)) xs b)
unfolding same
same_two b at x y xs = go (eqb (get_or b at 0) x)
  where
    go : (t : Bool) → (t && (eqb (get_or b (suc at) 0) y && same (suc (suc at)) xs b)) ≡ ((t && eqb (get_or b (suc at) 0) y) && same (suc (suc at)) xs b)
    go true = refl
    go false = refl

-- of a list with itself, from a place on
same_tail : (at : ℕ) (b : List ℕ) → same at (drop at b) b ≡ true
unfolding same
same_tail at b = go (length b - at) at refl
  where
    go : (n k : ℕ) → length b - k ≡ n → same k (drop k b) b ≡ true
    go zero k e = rw (drop_of_length-le b {i = k} (omega arith))
    go (suc n) k e =
        let lt : k < length b = omega arith in
        let more : same (suc k) (drop (suc k) b) b ≡ true = go n (suc k) (omega arith) in
        rw (drop-cons b k 0 lt, eqb_self (get_or b k 0)) more

-- one law for what stands one after the other
same_append : (at : ℕ) (xs ys b : List ℕ) → same at (xs ++ ys) b ≡ (same at xs b && same (at + length xs) ys b)
unfolding same
same_append at [] ys b =
    let n : at + 0 ≡ at = omega arith in
    rw n
same_append at (x ∷ xs) ys b = go (eqb (get_or b at 0) x) (same_append (suc at) xs ys b)
  where
    go : (t : Bool) → same (suc at) (xs ++ ys) b ≡ (same (suc at) xs b && same (suc at + length xs) ys b)
        → (t && same (suc at) (xs ++ ys) b) ≡ ((t && same (suc at) xs b) && same (at + suc (length xs)) ys b)
    go true more =
        let n : at + suc (length xs) ≡ suc at + length xs = omega arith in
        rw n more
    go false more = refl

same_equal : (w b : List ℕ) → length w ≡ length b → same 0 w b ≡ true → w ≡ b
unfolding same
same_equal w b len e = go w 0 (omega arith) e
  where
    go : (w : List ℕ) (at : ℕ) → at + length w ≡ length b → same at w b ≡ true → w ≡ drop at b
    go [] at e s = sym (drop_of_length-le b {i = at} (omega arith))
    go (x ∷ w) at e s = test (eqb (get_or b at 0) x) refl (go w (suc at) (omega arith))
      where
        test : (t : Bool) → eqb (get_or b at 0) x ≡ t → (same (suc at) w b ≡ true → w ≡ drop (suc at) b) → x ∷ w ≡ drop at b
        test true h more =
            let lt : at < length b = omega arith in
            let p : get_or b at 0 ≡ x = eqb-true _ _ h in
            let q : w ≡ drop (suc at) b = more (rw h at s) in
            rw (drop-cons b at 0 lt) (cc)
        test false h more =
            let z : ◌≡◌ {A = Bool} false true = rw h at s in
            absurd (let y : ◌≡◌ {A = ℕ} 0 1 = cc in omega arith)

-- ---- the whole: a front of sixteen bytes and n more

whole_rest : (n : ℕ) (f rest : List ℕ) → length f ≡ 16 → length rest ≡ n → rest_at n (f ++ rest) ≡ rest
whole_rest n f rest long e =
    rest_all n (f ++ rest) (length-append f rest ∙ omega arith) ∙ drop_at f rest 16 long

-- the n bytes after the front need no comparison
whole_same : (n : ℕ) (f b : List ℕ) → length f ≡ 16 → length b ≡ 16 + n → same 0 (f ++ rest_at n b) b ≡ same 0 f b
whole_same n f b long e =
    same_append 0 f (rest_at n b) b ∙ rw (rest_all n b e, long, same_tail 16 b) (and_true (same 0 f b))

-- what the laws are about: the bytes of a state, and the state of bytes
abbrev pub bytes_by : {S : Type 0} → ℕ → (S → List ℕ) → (S → List ℕ) → (S → List ℕ) → S → List ℕ
bytes_by r enum fields array s = front r (enum s) (fields s) ++ array s

abbrev pub read_by : {S : Type 0} → ℕ → (List ℕ → S) → S → List ℕ → S
read_by n at none b = cond (eqb (length b) (16 + n)) (at b) none

pub record Laws {S : Type 0} (n r : ℕ) (enum fields array : S → List ℕ) (at : List ℕ → S) (none : S) : Type 0 where
  pub held : (b : List ℕ) → length b ≡ 16 + n → read_by n at none b ≡ at b
  pub judged : (b : List ℕ) → length b ≡ 16 + n
      → is_copy (16 + n) (bytes_by r enum fields array (read_by n at none b)) b
      ≡ (same 0 (padded r (enum (at b))) b && same r (padded (16 - r) (fields (at b))) b)
  pub inverse : Inverse n (bytes_by r enum fields array) array (read_by n at none) (λ b. is_copy (16 + n) (bytes_by r enum fields array (read_by n at none b)) b)

-- of a state with its enum in r of the front's sixteen bytes and an array of n, read by `at` where the bytes are so many
module _ {S : Type 0} (n r : ℕ) (enum fields array : S → List ℕ) (at : List ℕ → S) (none : S)
    (fits : r ≤ 16) (own : (b : List ℕ) → array (at b) ≡ rest_at n b) (empty : length (array none) ≡ n)
    (back : (s : S) → rest_at n (bytes_by r enum fields array s) ≡ array s → at (bytes_by r enum fields array s) ≡ s) where
  abbrev of : List ℕ → S
  of = read_by n at none

  abbrev bytes : S → List ℕ
  bytes = bytes_by r enum fields array

  long : (s : S) → length (front r (enum s) (fields s)) ≡ 16
  long s = front_length r fits (enum s) (fields s)

  held : (b : List ℕ) → length b ≡ 16 + n → of b ≡ at b
  held b e = simp (eq-eqb _ _ e)

  judged : (b : List ℕ) → length b ≡ 16 + n
      → is_copy (16 + n) (bytes (of b)) b ≡ (same 0 (padded r (enum (at b))) b && same r (padded (16 - r) (fields (at b))) b)
  unfolding is_copy
  judged b e =
      let s = at b in
      let z : 0 + r ≡ r = omega arith in
      simp (eq-eqb _ _ e, own b) (whole_same n (front r (enum s) (fields s)) b (long s) e)
      ∙ same_append 0 (padded r (enum s)) (padded (16 - r) (fields s)) b
      ∙ rw (padded_length r (enum s), z)

  whole : (s : S) → length (array s) ≡ n → length (bytes s) ≡ 16 + n
  whole s len = length-append (front r (enum s) (fields s)) (array s) ∙ omega (arith, long s)

  state_back : (s : S) → length (array s) ≡ n → of (bytes s) ≡ s
  state_back s len = held (bytes s) (whole s len) ∙ back s (whole_rest n (front r (enum s) (fields s)) (array s) (long s) len)

  state_kept : (s : S) → length (array s) ≡ n → is_copy (16 + n) (bytes (of (bytes s))) (bytes s) ≡ true
  unfolding is_copy
  state_kept s len = rw (state_back s len, eq-eqb _ _ (whole s len)) (same_tail 0 (bytes s))

  bytes_back : (b : List ℕ) → is_copy (16 + n) (bytes (of b)) b ≡ true → bytes (of b) ≡ b
  unfolding is_copy
  bytes_back b e =
      let size : length b ≡ 16 + n = eqb-true _ _ (and_left (eqb (length b) (16 + n)) (same 0 (bytes (of b)) b) e) in
      let equal : same 0 (bytes (of b)) b ≡ true = and_right (eqb (length b) (16 + n)) (same 0 (bytes (of b)) b) e in
      same_equal (bytes (of b)) b (whole (of b) (sized (eqb (length b) (16 + n))) ∙ sym size) equal
    where
      sized : (t : Bool) → length (array (cond t (at b) none)) ≡ n
      sized true = ap length (own b) ∙ rest_length n b
      sized false = empty

  pub laws : Laws n r enum fields array at none
  laws = record { held = held; judged = judged; inverse = record { bytes_back = bytes_back; state_back = state_back; state_kept = state_kept } }
