-- A list whose elements are replaced one after the other, from the first to the last, is the list of the new ones.
use Prim.Native.Nat.{ℕ, ◌+◌, ◌<◌, ◌≤◌}
use mathlib.Core.List.{List, [], ◌∷◌, ◌++◌, append_assoc, append-nil}
use mathlib.Core.Path.{◌≡◌, sym, ap, ◌∙◌}
use native.Mathlib.Numerals.{add-one}
use native.Mathlib.Omega.{arith}
use lib.ListN.{length, set, take, length-set}
use lib.Seq.{take-suc-set, take_all}
use Rattle.base_types.specs.Filled.{filled}

pub filled_is : (ds bytes : List ℕ) (k : ℕ) → k + length ds ≡ length bytes → filled bytes k ds ≡ take k bytes ++ ds
filled_is [] bytes k l = sym (append-nil (take k bytes) ∙ take_all k bytes (omega arith))
filled_is (d ∷ ds) bytes k l =
    let m : k < length bytes = omega arith in
    filled_is ds (set bytes k d) (k + 1) (omega (arith, length-set bytes k d))
    ∙ ap (λ (x : List ℕ). x ++ ds) (ap (λ (n : ℕ). take n (set bytes k d)) (add-one k) ∙ take-suc-set bytes k d m)
    ∙ append_assoc (take k bytes) (d ∷ []) ds

-- ---- an output that is filled place by place: what stands before place i, and then the rest, is the whole

pub fill_next : (out rest rest' whole : List ℕ) (i b : ℕ) → i < length out → rest ≡ b ∷ rest' → take i out ++ rest ≡ whole
    → take (i + 1) (set out i b) ++ rest' ≡ whole
fill_next out rest rest' whole i b h r e =
    ap (λ (x : List ℕ). x ++ rest') (ap (λ (n : ℕ). take n (set out i b)) (add-one i) ∙ take-suc-set out i b h)
    ∙ append_assoc (take i out) (b ∷ []) rest'
    ∙ ap (λ (x : List ℕ). take i out ++ x) (sym r)
    ∙ e

pub fill_end : (out rest whole : List ℕ) (i : ℕ) → length out ≤ i → rest ≡ [] → take i out ++ rest ≡ whole → out ≡ whole
fill_end out rest whole i h r e =
    sym (append-nil out) ∙ ap (λ (x : List ℕ). x ++ []) (sym (take_all i out h)) ∙ ap (λ (x : List ℕ). take i out ++ x) (sym r) ∙ e
