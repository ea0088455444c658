-- The bit step of the code is the step of the definition, for any polynomial.
use mathlib.Core.Path.{◌≡◌, refl, sym, ap, ◌∙◌}
use mathlib.Core.Bool.{Bool, true, false, not, beq}
use Prim.Native.Nat.{ℕ, suc, ◌+◌, ◌-◌, ◌*◌, ◌/◌, ◌%◌, ◌≤◌, ◌<◌}
use native.Mathlib.Nat.{zero-mul, one-mul}
use native.Mathlib.Omega.{arith}
use lib.Bits.{bit_and, bit_xor, and_mask, xor_zero_r}
use native.Mathlib.Numerals.{add-one}
use mathlib.Core.List.{List, [], ◌∷◌}
use Rattle.std.specs.List.{fold}
use lib.ListN.{length, get_or, drop, drop_of_length-le}
use lib.Seq.{drop-cons}
use lib.Dec.{eqb}
use borrow.Author.Tests.{eqb-true, eqb-false}
use Rattle.base_types.specs.Bits.{one, bits_of}
use Rattle.base_crc.specs.Crc.{crc_bit, crc_bits, crc_byte, crc_bytes}

-- the code's lowest bit, by a mask
low : (reg : ℕ) → bit_and reg 1 ≡ reg % 2
low reg = and_mask reg 1

-- what `a == b` on two bools says
beq_eq : (a b : Bool) → beq a b ≡ true → a ≡ b
beq_eq true true h = refl
beq_eq true false h = sym h
beq_eq false true h = h
beq_eq false false h = refl

beq_ne : (a b : Bool) → beq a b ≡ false → a ≡ not b
beq_ne true true h = h
beq_ne true false h = refl
beq_ne false true h = refl
beq_ne false false h = sym h

module _ (p reg : ℕ) where
  stay : (bit : Bool) → (reg + one bit) % 2 ≡ 0 → reg / 2 ≡ crc_bit p reg bit
  unfolding crc_bit
  stay bit e = sym (ap (λ (x : ℕ). bit_xor (reg / 2) (x * p)) e ∙ ap (bit_xor (reg / 2)) (zero-mul p) ∙ xor_zero_r (reg / 2))

  flip : (bit : Bool) → (reg + one bit) % 2 ≡ 1 → bit_xor (reg / 2) p ≡ crc_bit p reg bit
  unfolding crc_bit
  flip bit e = sym (ap (λ (x : ℕ). bit_xor (reg / 2) (x * p)) e ∙ ap (bit_xor (reg / 2)) (one-mul p))

  -- the mask is 1, or not
  set : eqb (bit_and reg 1) 1 ≡ true → reg % 2 ≡ 1
  set h = omega (arith, eqb-true (bit_and reg 1) 1 h, low reg)

  clear : eqb (bit_and reg 1) 1 ≡ false → reg % 2 ≡ 0
  clear h = omega (arith, eqb-false (bit_and reg 1) 1 h, low reg)

  pub same : (bit : Bool) → beq (eqb (bit_and reg 1) 1) bit ≡ true → reg / 2 ≡ crc_bit p reg bit
  same true h = stay true (omega (arith, set (beq_eq _ _ h)))
  same false h = stay false (omega (arith, clear (beq_eq _ _ h)))

  pub differs : (bit : Bool) → beq (eqb (bit_and reg 1) 1) bit ≡ false → bit_xor (reg / 2) p ≡ crc_bit p reg bit
  differs true h = flip true (omega (arith, clear (beq_ne _ _ h)))
  differs false h = flip false (omega (arith, set (beq_ne _ _ h)))

-- the next of n bits, after k of them
pub next_bit : (p r b n k : ℕ) {r' : ℕ} → k < n → r' ≡ crc_bit p r (eqb (bit_and b 1) 1)
    → crc_bits p r' (bits_of (n - (k + 1)) (b / 2)) ≡ crc_bits p r (bits_of (n - k) b)
unfolding crc_bits bits_of
next_bit p r b n k h e =
    let left : n - k ≡ suc (n - (k + 1)) = omega arith in
    rw left (ap (λ x. crc_bits p x (bits_of (n - (k + 1)) (b / 2))) (e ∙ ap (λ x. crc_bit p r (eqb x 1)) (low b)))

pub done : (p r b left : ℕ) → left ≡ 0 → r ≡ crc_bits p r (bits_of left b)
unfolding crc_bits bits_of
done p r b left e = sym (ap (λ (n : ℕ). crc_bits p r (bits_of n b)) e)

-- bytes, one after the other
pub bytes_folded : (p r : ℕ) (l : List ℕ) → fold (crc_byte p) r l ≡ crc_bytes p r l
unfolding crc_bytes
bytes_folded p r [] = refl
bytes_folded p r (b ∷ l) = bytes_folded p (crc_byte p r b) l

-- the next of the bytes that are left
pub next_byte : (p r : ℕ) (l : List ℕ) (i : ℕ) {r' : ℕ} → i < length l → r' ≡ crc_byte p r (get_or l i 0)
    → crc_bytes p r' (drop (i + 1) l) ≡ crc_bytes p r (drop i l)
unfolding crc_bytes
next_byte p r l i h e = rw (add-one, drop-cons l i 0, e)

pub done_bytes : (p r : ℕ) (l : List ℕ) (i : ℕ) → length l ≤ i → r ≡ crc_bytes p r (drop i l)
unfolding crc_bytes
done_bytes p r l i h = rw drop_of_length-le
