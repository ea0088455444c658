-- A CRC is linear, for any polynomial: the xor of two registers, and of two runs of bits, gives the xor of the two results. So bits taken
-- into a register give what the register shifts out, xored with the same bits taken into a cleared one.
use Prim.Native.Nat.{ℕ, zero, suc, ◌+◌, ◌*◌, ◌/◌, ◌%◌, ◌^◌, ◌<◌}
use mathlib.Core.Path.{◌≡◌, refl, sym, ap, ap₂, ◌∙◌}
use native.Mathlib.Nat.{zero-mul, mod-lt, div-one}
use native.Mathlib.Omega.{arith}
use lib.Bits.{bit_xor, xor_add_and, xor_assoc, xor_shr, xor_comm, xor_self, xor_zero_r}
use lib.Dec.{lit<}
use Rattle.base_types.specs.Bits.{one, odd, bits_of}
use Rattle.base_types.proofs.Values.{one_odd}
use Rattle.base_types.proofs.Words.{half}
use Rattle.base_crc.specs.Crc.{crc_bit, crc_bits}

-- ---- xor

xor_four : (a b c d : ℕ) → bit_xor (bit_xor a b) (bit_xor c d) ≡ bit_xor (bit_xor a c) (bit_xor b d)
xor_four a b c d =
    xor_assoc a b (bit_xor c d)
    ∙ ap (bit_xor a) (sym (xor_assoc b c d) ∙ ap (λ (x : ℕ). bit_xor x d) (xor_comm b c) ∙ xor_assoc c b d)
    ∙ sym (xor_assoc a c (bit_xor b d))

xor_back : (a b : ℕ) → bit_xor a (bit_xor a b) ≡ b
xor_back a b = sym (xor_assoc a a b) ∙ ap (λ (x : ℕ). bit_xor x b) (xor_self a)

-- numbers whose xor is 0 are equal
pub xor_equal : (a b : ℕ) → bit_xor a b ≡ 0 → a ≡ b
xor_equal a b e = sym (xor_zero_r a) ∙ ap (bit_xor a) (sym e) ∙ xor_back a b

-- ---- one bit

-- p, or not: xored
times : (p f x y : ℕ) → x < 2 → y < 2 → f ≡ (x + y) % 2 → f * p ≡ bit_xor (x * p) (y * p)
times p f zero y hx hy e = let q : f ≡ y = omega arith in rw (q, zero-mul)
times p f (suc zero) zero hx hy e = rw (e, zero-mul) (sym (xor_zero_r (1 * p)))
times p f (suc zero) (suc zero) hx hy e = rw (e, zero-mul) (sym (xor_self (1 * p)))
times p f (suc zero) (suc (suc y)) hx hy e = absurd (omega arith)
times p f (suc (suc x)) y hx hy e = absurd (omega arith)

mod_right : (s t : ℕ) → (s + t % 2) % 2 ≡ (s + t) % 2
mod_right s t = omega arith

mod_left : (s t : ℕ) → (s % 2 + t) % 2 ≡ (s + t) % 2
mod_left s t = omega arith

sums : (a c x y : ℕ) → (bit_xor a c + bit_xor x y) % 2 ≡ ((a + x) + (c + y)) % 2
sums a c x y = omega (arith, xor_add_and a c, xor_add_and x y)

-- the bits that are fed back: xored
fed : (a c x y : ℕ) → (bit_xor a c + one (odd (bit_xor x y))) % 2 ≡ ((a + one (odd x)) % 2 + (c + one (odd y)) % 2) % 2
fed a c x y = simp (one_odd, mod_right, mod_left) (sums a c x y)

module _ (p : ℕ) where
  step : (a c x y : ℕ) → crc_bit p (bit_xor a c) (odd (bit_xor x y)) ≡ bit_xor (crc_bit p a (odd x)) (crc_bit p c (odd y))
  unfolding crc_bit
  step a c x y =
      ap₂ bit_xor (xor_shr a c 1) (times p _ _ _ (mod-lt (a + one (odd x)) (lit< tt)) (mod-lt (c + one (odd y)) (lit< tt)) (fed a c x y))
      ∙ xor_four (a / 2) (c / 2) ((a + one (odd x)) % 2 * p) ((c + one (odd y)) % 2 * p)

  -- a register that takes in its own lowest bit only shifts
  own_step : (r : ℕ) → crc_bit p r (odd r) ≡ r / 2
  unfolding crc_bit
  own_step r =
      let e : (r + one (odd r)) % 2 ≡ 0 = omega (arith, one_odd r) in
      ap (λ (f : ℕ). bit_xor (r / 2) (f * p)) e ∙ ap (bit_xor (r / 2)) (zero-mul p) ∙ xor_zero_r (r / 2)

  -- ---- a run of bits

  pub linear : (n a c x y : ℕ) → crc_bits p (bit_xor a c) (bits_of n (bit_xor x y)) ≡ bit_xor (crc_bits p a (bits_of n x)) (crc_bits p c (bits_of n y))
  unfolding crc_bits bits_of
  linear zero a c x y = refl
  linear (suc n) a c x y =
      ap₂ (λ (r z : ℕ). crc_bits p r (bits_of n z)) (step a c x y) (xor_shr x y 1)
      ∙ linear n (crc_bit p a (odd x)) (crc_bit p c (odd y)) (x / 2) (y / 2)

  own : (n r : ℕ) → crc_bits p r (bits_of n r) ≡ r / 2 ^ n
  unfolding crc_bits bits_of
  own zero r = sym (div-one r)
  own (suc n) r = ap (λ (x : ℕ). crc_bits p x (bits_of n (r / 2))) (own_step r) ∙ own n (r / 2) ∙ half r n

  -- what the register shifts out, xored with the CRC of the n low bits of register and run, xored
  pub apart : (n r x : ℕ) → crc_bits p r (bits_of n x) ≡ bit_xor (r / 2 ^ n) (crc_bits p 0 (bits_of n (bit_xor r x)))
  apart n r x =
      ap₂ (λ (a b : ℕ). crc_bits p a (bits_of n b)) (sym (xor_zero_r r)) (sym (xor_back r x))
      ∙ linear n r 0 r (bit_xor r x) ∙ ap (λ (z : ℕ). bit_xor z (crc_bits p 0 (bits_of n (bit_xor r x)))) (own n r)
