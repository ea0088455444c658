-- What a CRC of k bits tells apart, for any polynomial whose highest bit is set: registers that take in the same bytes, and bytes that
-- are taken into the same register.
use Prim.Native.Nat.{ℕ, zero, suc, ◌+◌, ◌*◌, ◌/◌, ◌%◌, ◌^◌, ◌<◌, ◌≤◌}
use mathlib.Core.Path.{◌≡◌, refl, sym, ap, ap₂, ◌∙◌}
use mathlib.Core.Bool.{false}
use mathlib.Core.List.{List, [], ◌∷◌}
use native.Mathlib.Nat.{zero-mul, one-mul, mod-lt, div-eq_of_lt, pow-suc, lt_of_lt_of_le}
use native.Mathlib.Omega.{arith}
use lib.Bits.{bit_xor, xor_lt, xor_self, xor_zero_r}
use lib.Dec.{lit<}
use lib.Pow.{pow_mono}
use Rattle.base_types.specs.Bits.{bits_of}
use Rattle.base_crc.specs.Crc.{crc_bit, crc_bits, crc_byte, crc_bytes}
use Rattle.base_crc.proofs.Runs.{bit_lt, byte_lt}
use Rattle.base_crc.proofs.Linear.{xor_equal, linear, apart}

-- the register has k + 1 bits
module _ (p k : ℕ) (top : 2 ^ k ≤ p) (fits : p < 2 ^ suc k) where
  -- f is the bit that is fed back, h the register's other bits
  fed_back : (f h : ℕ) → f < 2 → h < 2 ^ k → h ≡ f * p → (f ≡ 0) × (h ≡ 0)
  fed_back zero h hf hh e = (refl, e ∙ zero-mul p)
  fed_back (suc zero) h hf hh e = absurd (omega (arith, one-mul p))
  fed_back (suc (suc f)) h hf hh e = absurd (omega arith)

  -- a zero bit clears no register
  zero_bit : (r : ℕ) → r < 2 ^ suc k → crc_bit p r false ≡ 0 → r ≡ 0
  unfolding crc_bit
  zero_bit r h e =
      let q : ((r + 0) % 2 ≡ 0) × (r / 2 ≡ 0) =
      fed_back ((r + 0) % 2) (r / 2) (mod-lt (r + 0) (lit< tt)) (omega (arith, pow-suc 2 k)) (xor_equal (r / 2) ((r + 0) % 2 * p) e) in
      omega arith

  zero_bits : (n r : ℕ) → r < 2 ^ suc k → crc_bits p r (bits_of n 0) ≡ 0 → r ≡ 0
  unfolding crc_bits bits_of
  zero_bits zero r h e = e
  zero_bits (suc n) r h e = zero_bit r h (zero_bits n (crc_bit p r false) (bit_lt p (suc k) fits r false h) e)

  -- registers that the same bits make equal
  bits_tell : (n r s x : ℕ) → r < 2 ^ suc k → s < 2 ^ suc k → crc_bits p r (bits_of n x) ≡ crc_bits p s (bits_of n x) → r ≡ s
  bits_tell n r s x hr hs e =
      xor_equal r s
      (zero_bits n (bit_xor r s) (xor_lt (suc k) r s hr hs)
      (ap (λ (z : ℕ). crc_bits p (bit_xor r s) (bits_of n z)) (sym (xor_self x))
      ∙ linear p n r s x x ∙ ap (λ (z : ℕ). bit_xor z (crc_bits p s (bits_of n x))) e ∙ xor_self (crc_bits p s (bits_of n x))))

  pub registers_tell : (bytes : List ℕ) (r s : ℕ) → r < 2 ^ suc k → s < 2 ^ suc k → crc_bytes p r bytes ≡ crc_bytes p s bytes → r ≡ s
  unfolding crc_bytes crc_byte
  registers_tell [] r s hr hs e = e
  registers_tell (byte ∷ bytes) r s hr hs e =
      bits_tell 8 r s byte hr hs
      (registers_tell bytes (crc_byte p r byte) (crc_byte p s byte) (byte_lt p (suc k) fits byte r hr) (byte_lt p (suc k) fits byte s hs) e)

  -- bits, no more than the register has, that leave a cleared register cleared
  cleared : (n x : ℕ) → x < 2 ^ suc k → x < 2 ^ n → crc_bits p 0 (bits_of n x) ≡ 0 → x ≡ 0
  cleared n x h l e =
      zero_bits n x h
      (apart p n x 0 ∙ ap₂ bit_xor (div-eq_of_lt l) (ap (λ (z : ℕ). crc_bits p 0 (bits_of n z)) (xor_zero_r x) ∙ e))

  -- bytes that make of one register the same
  pub bytes_tell : (r x y : ℕ) → 8 ≤ suc k → x < 256 → y < 256 → crc_byte p r x ≡ crc_byte p r y → x ≡ y
  unfolding crc_byte
  bytes_tell r x y w hx hy e =
      let l : bit_xor x y < 2 ^ 8 = xor_lt 8 x y hx hy in
      xor_equal x y
      (cleared 8 (bit_xor x y) (lt_of_lt_of_le l (pow_mono w)) l
      (ap (λ (z : ℕ). crc_bits p z (bits_of 8 (bit_xor x y))) (sym (xor_self r))
      ∙ linear p 8 r r x y ∙ ap (λ (z : ℕ). bit_xor z (crc_bits p r (bits_of 8 y))) e ∙ xor_self (crc_bits p r (bits_of 8 y))))
