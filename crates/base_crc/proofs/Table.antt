-- One step by a table of the CRCs of single bytes is eight bit steps, at every register and byte and for any polynomial: a CRC is linear,
-- so what the byte adds to the register depends on the two only by their xor. For the same reason the nibbles of a byte can be looked up
-- apart.
use Prim.Native.Nat.{ℕ, zero, suc, ◌+◌, ◌*◌, ◌/◌, ◌%◌, ◌<◌}
use mathlib.Core.Path.{◌≡◌, sym, ap, ap₂, ◌∙◌}
use native.Mathlib.Nat.{add-zero, zero-add, mul-one, le_of_suc-le-suc, not-suc-le-zero, mod-lt}
use native.Mathlib.Omega.{arith}
use lib.Bits.{bit_xor, xor_assoc, xor_shifted, xor_comm, xor_self, xor_zero_r}
use lib.Dec.{lit<}
use lib.ListN.{get_or}
use Rattle.base_types.specs.Bits.{bits_of}
use Rattle.base_types.specs.Scan.{values_from}
use Rattle.base_types.proofs.Words.{bits_low}
use Rattle.base_crc.specs.Crc.{crc_bits, crc_byte}
use Rattle.base_crc.specs.Table.{entries_of, table_of, low_nibbles_of, high_nibbles_of, entry_index, step_by, step_by_nibbles, TableLaws}
use Rattle.base_crc.proofs.Linear.{linear, apart}

value_at : (f : ℕ → ℕ) (n i k : ℕ) → k < n → get_or (values_from f i n) k 0 ≡ f (i + k)
unfolding values_from
value_at f zero i k h = absurd (not-suc-le-zero h)
value_at f (suc n) i zero h = ap f (sym (add-zero i))
value_at f (suc n) i (suc k) h = value_at f n (i + 1) k (le_of_suc-le-suc h) ∙ ap f (omega arith)

xor_swapped : (a b c : ℕ) → bit_xor (bit_xor a b) c ≡ bit_xor (bit_xor a c) b
xor_swapped a b c = xor_assoc a b c ∙ ap (bit_xor a) (xor_comm b c) ∙ sym (xor_assoc a c b)

place_lt : (reg byte : ℕ) → entry_index reg byte < 256
place_lt reg byte = mod-lt (bit_xor reg byte) (lit< tt)

module _ (p : ℕ) where
  entry_at : (n d k : ℕ) → k < n → get_or (entries_of p n d) k 0 ≡ crc_byte p 0 (k * d)
  unfolding entries_of
  entry_at n d k h = value_at (λ (j : ℕ). crc_byte p 0 (j * d)) n 0 k h ∙ ap (λ (j : ℕ). crc_byte p 0 (j * d)) (zero-add k)

  entry : (k : ℕ) → k < 256 → get_or (table_of p) k 0 ≡ crc_byte p 0 k
  entry k h = entry_at 256 1 k h ∙ ap (crc_byte p 0) (mul-one k)

  -- the byte's eight bit steps, from the register shifted and the place's
  at_place : (reg byte : ℕ) → bit_xor (reg / 256) (crc_byte p 0 (entry_index reg byte)) ≡ crc_byte p reg byte
  unfolding crc_byte
  at_place reg byte = ap (bit_xor (reg / 256)) (ap (crc_bits p 0) (bits_low 8 (bit_xor reg byte))) ∙ sym (apart p 8 reg byte)

  step : (reg byte : ℕ) → step_by (table_of p) reg byte ≡ crc_byte p reg byte
  unfolding step_by
  step reg byte = ap (bit_xor (reg / 256)) (entry (entry_index reg byte) (place_lt reg byte)) ∙ at_place reg byte

  -- a byte's entry, from those of its nibbles
  split : (x : ℕ) → bit_xor (crc_byte p 0 (x % 16 * 1)) (crc_byte p 0 (x / 16 * 16)) ≡ crc_byte p 0 x
  unfolding crc_byte
  split x =
      let whole : bit_xor (x % 16 * 1) (x / 16 * 16) ≡ x =
      ap (λ (y : ℕ). bit_xor y (x / 16 * 16)) (mul-one (x % 16)) ∙ xor_comm (x % 16) (x / 16 * 16) ∙ xor_shifted (x / 16) 4 (x % 16) (mod-lt x (lit< tt)) ∙ omega arith in
      sym (linear p 8 0 0 (x % 16 * 1) (x / 16 * 16)) ∙ ap (λ (y : ℕ). crc_bits p 0 (bits_of 8 y)) whole

  nibbles : (reg byte : ℕ) → step_by_nibbles (low_nibbles_of p) (high_nibbles_of p) reg byte ≡ crc_byte p reg byte
  unfolding step_by_nibbles
  nibbles reg byte =
      let x : ℕ = entry_index reg byte in
      let high : x / 16 < 16 = omega (arith, place_lt reg byte) in
      ap (bit_xor (reg / 256)) (ap₂ bit_xor (entry_at 16 1 (x % 16) (mod-lt x (lit< tt))) (entry_at 16 16 (x / 16) high) ∙ split x)
      ∙ at_place reg byte

  -- ---- a register that is kept as the xor of a rest and of the entry at a place

  -- any register, as the rest, with the place 0
  pub kept_first : (reg : ℕ) → bit_xor reg (get_or (table_of p) 0 0) ≡ reg
  unfolding crc_byte
  kept_first reg =
      ap (bit_xor reg) (entry 0 (lit< tt) ∙ linear p 8 0 0 0 0 ∙ xor_self (crc_byte p 0 0)) ∙ xor_zero_r reg

  -- the register after one more byte, e being the entry
  pub kept_next : (rest byte e : ℕ) {place : ℕ} → place ≡ bit_xor (bit_xor rest byte) e % 256
      → bit_xor (bit_xor rest e / 256) (get_or (table_of p) place 0) ≡ crc_byte p (bit_xor rest e) byte
  unfolding step_by
  kept_next rest byte e h =
      ap (λ (x : ℕ). bit_xor (bit_xor rest e / 256) (get_or (table_of p) x 0)) (h ∙ ap (λ (x : ℕ). x % 256) (xor_swapped rest byte e))
      ∙ step (bit_xor rest e) byte

  pub table_laws : TableLaws p
  table_laws = record { entry = entry; step = step; nibbles = nibbles }
