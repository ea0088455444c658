-- A run of bits or bytes after another, and the size of the register, for any polynomial.
use mathlib.Core.Path.{◌≡◌, refl, sym, ◌∙◌}
use mathlib.Core.Bool.{Bool}
use mathlib.Core.List.{List, [], ◌∷◌, ◌++◌}
use Prim.Native.Nat.{ℕ, zero, suc, ◌+◌, ◌*◌, ◌/◌, ◌%◌, ◌^◌, ◌<◌}
use native.Mathlib.Nat.{zero-mul, one-mul, mod-lt}
use native.Mathlib.Omega.{arith}
use lib.Bits.{xor_lt}
use lib.Dec.{lit<}
use Rattle.base_types.specs.Bits.{one, bits_of, bits_of_bytes}
use Rattle.base_crc.specs.Crc.{crc_bit, crc_bits, crc_byte, crc_bytes}

module _ (p : ℕ) where
  pub bits_after : (r : ℕ) (xs ys : List Bool) → crc_bits p r (xs ++ ys) ≡ crc_bits p (crc_bits p r xs) ys
  unfolding crc_bits
  bits_after r [] ys = refl
  bits_after r (x ∷ xs) ys = bits_after (crc_bit p r x) xs ys

  pub bytes_after : (r : ℕ) (xs ys : List ℕ) → crc_bytes p r (xs ++ ys) ≡ crc_bytes p (crc_bytes p r xs) ys
  unfolding crc_bytes
  bytes_after r [] ys = refl
  bytes_after r (x ∷ xs) ys = bytes_after (crc_byte p r x) xs ys

  -- bytes count by their bits alone
  pub bytes_bits : (r : ℕ) (bytes : List ℕ) → crc_bytes p r bytes ≡ crc_bits p r (bits_of_bytes bytes)
  unfolding crc_bytes crc_byte crc_bits bits_of_bytes
  bytes_bits r [] = refl
  bytes_bits r (b ∷ bs) = bytes_bits (crc_bits p r (bits_of 8 b)) bs ∙ sym (bits_after r (bits_of 8 b) (bits_of_bytes bs))

  -- a polynomial of k bits keeps a register of k bits
  module _ (k : ℕ) (fits : p < 2 ^ k) where
    times_lt : (f : ℕ) → f < 2 → f * p < 2 ^ k
    times_lt zero h = omega (arith, zero-mul p)
    times_lt (suc zero) h = omega (arith, one-mul p)
    times_lt (suc (suc f)) h = absurd (omega arith)

    pub bit_lt : (r : ℕ) (b : Bool) → r < 2 ^ k → crc_bit p r b < 2 ^ k
    unfolding crc_bit
    bit_lt r b h = xor_lt k (r / 2) ((r + one b) % 2 * p) (omega arith) (times_lt ((r + one b) % 2) (mod-lt (r + one b) (lit< tt)))

    pub bits_lt : (bs : List Bool) (r : ℕ) → r < 2 ^ k → crc_bits p r bs < 2 ^ k
    unfolding crc_bits
    bits_lt [] r h = h
    bits_lt (b ∷ bs) r h = bits_lt bs (crc_bit p r b) (bit_lt r b h)

    pub byte_lt : (b r : ℕ) → r < 2 ^ k → crc_byte p r b < 2 ^ k
    unfolding crc_byte
    byte_lt b r h = bits_lt (bits_of 8 b) r h

    pub bytes_lt : (bs : List ℕ) (r : ℕ) → r < 2 ^ k → crc_bytes p r bs < 2 ^ k
    unfolding crc_bytes
    bytes_lt [] r h = h
    bytes_lt (b ∷ bs) r h = bytes_lt bs (crc_byte p r b) (byte_lt b r h)
