-- A page's bytes: the part of the image, the blank test and the copy.
use Prim.Native.Nat.{ℕ, zero, suc, ◌+◌, ◌-◌, ◌*◌, ◌≤◌, ◌<◌, min}
use mathlib.Core.Path.{◌≡◌, refl, sym, ap, ◌∙◌}
use mathlib.Core.Bool.{Bool, ◌&&◌}
use mathlib.Core.List.{List, [], ◌∷◌}
use native.Mathlib.Nat.{not-suc-le-zero, le_of_suc-le-suc}
use native.Mathlib.Decide.{dec_lt}
use native.Mathlib.Omega.{arith}
use lib.Dec.{eqb}
use Rattle.std.specs.List.{list_all}
use lib.ListN.{length, get_or, set, take, drop, length-take, length-drop, drop_of_length-le}
use lib.Seq.{take_all, take-length, take-nil}
use Rattle.chip_memory.specs.Image.{page_bytes}
use Rattle.chip_memory.specs.Layout.{image_size}
use Rattle.chip_memory.specs.Page.{is_blank, copied}

-- ---- the part

-- a part cut off at the end of the list is the same part
pub cut : (k : ℕ) (l : List ℕ) (e : ℕ) → e ≡ min k (length l) → take e l ≡ take k l
cut k l e h = go (dec_lt k (length l))
  where
    go : Dec (k < length l) → take e l ≡ take k l
    go (yes lt) = let w : e ≡ k = omega arith in ap (λ (i : ℕ). take i l) w
    go (no le) = let w : e ≡ length l = omega arith in ap (λ (i : ℕ). take i l) w ∙ take-length l ∙ sym (take_all k l (omega arith))

pub part_of : (img : List ℕ) (p start end : ℕ) → start ≡ min (32 * p) (length img) → end ≡ min (start + 32) (length img)
    → take (end - start) (drop start img) ≡ page_bytes img p
unfolding page_bytes
part_of img p start end s e = go (dec_lt (32 * p) (length img))
  where
    go : Dec (32 * p < length img) → take (end - start) (drop start img) ≡ take 32 (drop (32 * p) img)
    go (yes lt) =
        let w : start ≡ 32 * p = omega arith in
        cut 32 (drop start img) (end - start) (simp length-drop (omega arith)) ∙ ap (λ (i : ℕ). take 32 (drop i img)) w
    go (no le) =
        let past : length img ≤ start = omega arith in
        let far : length img ≤ 32 * p = omega arith in
        ap (take (end - start)) (drop_of_length-le img past) ∙ take-nil (end - start) ∙ sym (ap (take 32) (drop_of_length-le img far))

pub page_length : (n : ℕ) (img : List ℕ) (p : ℕ) → length img ≡ image_size n → p < n → length (page_bytes img p) ≡ 32
unfolding page_bytes
page_length n img p e lt = simp (length-take, length-drop) (omega arith)

-- ---- the blank test

pub all_blank : (l : List ℕ) → list_all (λ (b : ℕ). eqb b 255) l ≡ is_blank l
unfolding is_blank
all_blank [] = refl
all_blank (b ∷ l) = ap (λ (t : Bool). eqb b 255 && t) (all_blank l)

-- ---- the copy

-- a buffer keeps its length
pub copied_length : (l old : List ℕ) → length (copied l old) ≡ length old
unfolding copied
copied_length [] old = refl
copied_length (b ∷ l) [] = refl
copied_length (b ∷ l) (o ∷ old) = ap suc (copied_length l old)

pub copied_none : (l old : List ℕ) → old ≡ copied (take 0 l) old
unfolding copied
copied_none [] old = refl
copied_none (b ∷ l) old = refl

pub copied_next : (l old : List ℕ) (i : ℕ) → i < length l → i < length old → set (copied (take i l) old) i (get_or l i 0) ≡ copied (take (suc i) l) old
unfolding copied
copied_next [] old i lt lo = absurd (not-suc-le-zero lt)
copied_next (b ∷ l) [] i lt lo = absurd (not-suc-le-zero lo)
copied_next (b ∷ l) (o ∷ old) zero lt lo = ap (λ (x : List ℕ). b ∷ x) (copied_none l old)
copied_next (b ∷ l) (o ∷ old) (suc i) lt lo = ap (λ (x : List ℕ). b ∷ x) (copied_next l old i (le_of_suc-le-suc lt) (le_of_suc-le-suc lo))

pub copied_all : (l old : List ℕ) (e : ℕ) → e ≡ min (length l) (length old) → copied (take e l) old ≡ copied l old
unfolding copied
copied_all [] old e h = ap (λ (x : List ℕ). copied x old) (take-nil e)
copied_all (b ∷ l) [] zero h = refl
copied_all (b ∷ l) [] (suc e) h = refl
copied_all (b ∷ l) (o ∷ old) zero h = absurd (omega arith)
copied_all (b ∷ l) (o ∷ old) (suc e) h = ap (λ (x : List ℕ). b ∷ x) (copied_all l old e (omega arith))

-- over a buffer of the same length a copy is the page
pub copied_same : (l old : List ℕ) → length l ≡ length old → copied l old ≡ l
unfolding copied
copied_same [] [] h = refl
copied_same [] (o ∷ old) h = absurd (omega arith)
copied_same (b ∷ l) [] h = absurd (omega arith)
copied_same (b ∷ l) (o ∷ old) h = ap (λ (x : List ℕ). b ∷ x) (copied_same l old (omega arith))
