-- How many bits there are; and the bits of a word are those of its two bytes, low byte first.
use Prim.Native.Nat.{ℕ, zero, suc, ◌+◌, ◌*◌, ◌/◌, ◌%◌, ◌^◌}
use mathlib.Core.Path.{◌≡◌, refl, sym, ap, ap₂, ◌∙◌}
use mathlib.Core.Bool.{Bool}
use mathlib.Core.List.{List, [], ◌∷◌, ◌++◌}
use native.Mathlib.Nat.{zero-add, suc-add, pow-suc, div-one}
use native.Mathlib.Numerals.{one-add}
use native.Mathlib.Omega.{arith}
use lib.Arith.{mod-mul}
use lib.Dec.{eqb, lit<}
use lib.ListN.{length, length-append}
use lib.Pow.{pow_pos, shr-shr}
use Rattle.base_types.specs.Bits.{odd, bits_of, bits_of_bytes}

pub bits_length : (k x : ℕ) → length (bits_of k x) ≡ k
unfolding bits_of
bits_length zero x = refl
bits_length (suc k) x = ap suc (bits_length k (x / 2))

pub bytes_length : (bytes : List ℕ) → length (bits_of_bytes bytes) ≡ 8 * length bytes
unfolding bits_of_bytes
bytes_length [] = refl
bytes_length (b ∷ bs) = omega (arith, length-append (bits_of 8 b) (bits_of_bytes bs), bits_length 8 b, bytes_length bs)

-- only the n low bits of x count
pub bits_low : (n x : ℕ) → bits_of n (x % 2 ^ n) ≡ bits_of n x
unfolding bits_of
bits_low zero x = refl
bits_low (suc n) x =
    let e : x % 2 ^ suc n ≡ (x / 2 % 2 ^ n) * 2 + x % 2 = ap (λ (m : ℕ). x % m) (pow-suc 2 n) ∙ mod-mul x (pow_pos n) (lit< tt) in
    let q : x % 2 ^ suc n / 2 ≡ x / 2 % 2 ^ n = omega arith in
    let r : x % 2 ^ suc n % 2 ≡ x % 2 = omega arith in
    ap₂ (λ (b z : ℕ). eqb b 1 ∷ bits_of n z) r q ∙ ap {B = List Bool} (λ l. odd x ∷ l) (bits_low n (x / 2))

pub half : (x n : ℕ) → x / 2 / 2 ^ n ≡ x / 2 ^ suc n
half x n = shr-shr x 1 n ∙ ap (λ (k : ℕ). x / 2 ^ k) (one-add n)

-- m bits of x, and then n more
pub bits_then : (m n x : ℕ) → bits_of (m + n) x ≡ bits_of m x ++ bits_of n (x / 2 ^ m)
unfolding bits_of
bits_then zero n x = ap₂ bits_of (zero-add n) (sym (div-one x))
bits_then (suc m) n x =
    ap (λ (k : ℕ). bits_of k x) (suc-add m n)
    ∙ ap {B = List Bool} (λ l. odd x ∷ l) (bits_then m n (x / 2) ∙ ap (λ (z : ℕ). bits_of m (x / 2) ++ bits_of n z) (half x m))

pub word_bits : (x : ℕ) → bits_of 16 x ≡ bits_of 8 (x % 256) ++ bits_of 8 (x / 256)
word_bits x = bits_then 8 8 x ∙ ap (λ (l : List Bool). l ++ bits_of 8 (x / 256)) (sym (bits_low 8 x))
