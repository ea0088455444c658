-- The bits of the number are those of its eight bytes.
use Prim.Native.Nat.{ℕ, zero, suc, ◌+◌, ◌*◌, ◌/◌, ◌%◌, ◌^◌, ◌<◌}
use mathlib.Core.Path.{◌≡◌, refl, sym, ap, ap₂, ◌∙◌}
use mathlib.Core.List.{List, ◌∷◌, ◌++◌}
use native.Mathlib.Nat.{zero-add, add-zero, suc-add, div-one}
use native.Mathlib.Omega.{arith}
use borrow.Author.Tests.{lt-ltb}
use lib.ListN.{length, get_or, drop, drop_of_length-le}
use lib.Pow.{shr-shr}
use lib.Seq.{drop-cons}
use Rattle.base_types.specs.Bits.{bit_at, bits_of, bits_of_bytes}
use Rattle.chip_rom.specs.Rom.{number_bit}
use Rattle.chip_rom_laws.specs.Rom.{number_bits}

module _ (number : List ℕ) where
  -- m bits, and then n more
  number_then : (i m n : ℕ) → number_bits number i (m + n) ≡ number_bits number i m ++ number_bits number (i + m) n
  unfolding number_bits
  number_then i zero n = rw (zero-add, add-zero)
  number_then i (suc m) n =
      let e : i + 1 + m ≡ i + suc m = omega arith in
      rw (suc-add, number_then (i + 1) m n, e)

  bit_at_lem : (j k : ℕ) → j < 8 → k < 8 → number_bit number (8 * j + k) ≡ bit_at (get_or number j 0) k
  unfolding number_bit
  bit_at_lem j k h l =
      let q : (8 * j + k) / 8 ≡ j = omega arith in
      let r : (8 * j + k) % 8 ≡ k = omega arith in
      rw (q, r) (simp (lt-ltb _ _ h))

  -- n bits of byte j, from its bit k on
  byte_from : (j n k : ℕ) → j < 8 → k + n ≡ 8 → number_bits number (8 * j + k) n ≡ bits_of n (get_or number j 0 / 2 ^ k)
  unfolding number_bits bits_of
  byte_from j zero k h e = refl
  byte_from j (suc n) k h e =
      let s : 8 * j + k + 1 ≡ 8 * j + (k + 1) = omega arith in
      ap₂ ◌∷◌ (bit_at_lem j k h (omega arith))
      (ap (λ i. number_bits number i n) s ∙ byte_from j n (k + 1) h (omega arith) ∙ ap (bits_of n) (sym (shr-shr (get_or number j 0) k 1)))

  byte : (j : ℕ) → j < 8 → number_bits number (8 * j) 8 ≡ bits_of 8 (get_or number j 0)
  byte j h = ap (λ i. number_bits number i 8) (sym (add-zero (8 * j))) ∙ byte_from j 8 0 h refl ∙ ap (bits_of 8) (div-one (get_or number j 0))

  -- the bytes from byte j on
  bytes_from : (j k : ℕ) → j + k ≡ 8 → length number ≡ 8 → number_bits number (8 * j) (8 * k) ≡ bits_of_bytes (drop j number)
  unfolding number_bits bits_of_bytes
  bytes_from j zero e l = simp (drop_of_length-le number {i = j} (omega arith))
  bytes_from j (suc k) e l =
      let s : 8 * suc k ≡ 8 + 8 * k = omega arith in
      let t : 8 * j + 8 ≡ 8 * suc j = omega arith in
      ap (number_bits number (8 * j)) s ∙ number_then (8 * j) 8 (8 * k)
      ∙ ap₂ ◌++◌ (byte j (omega arith)) (ap (λ i. number_bits number i (8 * k)) t ∙ bytes_from (suc j) k (omega arith) l)
      ∙ sym (ap bits_of_bytes (drop-cons number j 0 (omega arith)))

  pub number_bits_law : length number ≡ 8 → number_bits number 0 64 ≡ bits_of_bytes number
  number_bits_law l = bytes_from 0 8 refl l
