-- What the chip keeps of a start address, and that a CRC over the address as sent tells whether a bit was dropped.
use Prim.Native.Nat.{ℕ, ◌/◌, ◌%◌, ◌^◌, ◌<◌, ◌≤◌}
use mathlib.Core.Path.{◌≡◌, refl, sym, ap, ◌∙◌}
use mathlib.Core.Bool.{Bool, true, false, cond}
use mathlib.Core.List.{List, [], ◌∷◌, ◌++◌}
use native.Mathlib.Nat.{mod-eq_of_lt, lt_of_lt_of_le}
use native.Mathlib.Omega.{arith}
use lib.Dec.{ltb, lit<, lit≤}
use borrow.Author.Tests.{ltb-false}
use Rattle.base_types.specs.Bits.{bits_of}
use Rattle.base_types.specs.declared.address.Space.{Space}
use Rattle.base_types.specs.declared.address.Space.TheVariants.{Data, Status}
use Rattle.base_types.proofs.Values.{bits_tell}
use Rattle.base_crc.specs.Crc.{crc_bytes, crc16_byte, crc16_from, crc16_of, crc16_loaded, crc16_word}
use Rattle.base_crc.specs.Polynomial.{crc16_polynomial}
use Rattle.base_crc.proofs.Distinct.{registers_tell, bytes_tell}
use Rattle.base_crc.proofs.Runs.{bytes_lt}
use Rattle.chip_stage.specs.Limits.{limit_of, address_bits, kept_address}
use Rattle.chip_function_laws.specs.Streams.{crc_of, header}
use Rattle.chip_function_laws.specs.Addresses.{AddressLaws}

-- the CRC-16 of bytes, as it is sent, tells their registers apart
words_tell : (r s : ℕ) → r < 65536 → s < 65536 → bits_of 16 (crc16_word r) ≡ bits_of 16 (crc16_word s) → r ≡ s
words_tell r s hr hs e =
    let w : crc16_word r ≡ crc16_word s = bits_tell 16 (crc16_word r) (crc16_word s) (omega arith) (omega arith) e in
    omega arith

crc_lt : (r : ℕ) (bytes : List ℕ) → r < 65536 → crc16_from r bytes < 65536
crc_lt r bytes h = bytes_lt crc16_polynomial 16 (lit< tt) bytes r h

module _ (n : ℕ) where
  -- eleven bits, or thirteen
  either : (P : ℕ → Type 0) → P 11 → P 13 → P (address_bits n)
  unfolding address_bits
  either P p q = go (ltb 64 n)
    where
      go : (t : Bool) → P (cond t 13 11)
      go true = q
      go false = p

  pub kept_low : (a : ℕ) → kept_address n a % 256 ≡ a % 256
  unfolding kept_address
  kept_low a = either (λ k. a % 2 ^ k % 256 ≡ a % 256) (omega arith) (omega arith)

  kept_word : (a : ℕ) → kept_address n a < 65536
  unfolding kept_address
  kept_word a = either (λ k. a % 2 ^ k < 65536) (omega arith) (omega arith)

  low : (a : ℕ) → a < 2 ^ address_bits n → kept_address n a ≡ a
  unfolding kept_address
  low a lt = mod-eq_of_lt lt

  -- a kept address has no bit above the kept ones
  below : (a : ℕ) → kept_address n a < 2 ^ address_bits n
  unfolding kept_address
  below a = either (λ k. a % 2 ^ k < 2 ^ k) (omega arith) (omega arith)

  -- both memories have addresses of so many bits only
  limit_kept : n ≤ 256 → (space : Space) → limit_of n space ≤ 2 ^ address_bits n
  unfolding address_bits limit_of
  limit_kept le space = go (ltb 64 n) refl space
    where
      go : (t : Bool) → ltb 64 n ≡ t → (space : Space) → limit_of n space ≤ 2 ^ cond t 13 11
      go true e Data = omega arith
      go true e Status = omega arith
      go false e Data = omega (arith, ltb-false 64 n e)
      go false e Status = omega (arith, ltb-false 64 n e)

  -- ---- what a master can tell

  differs : (command a : ℕ) (bytes : List ℕ) → 2 ^ address_bits n ≤ a → a < 65536
      → crc_of (header command (kept_address n a) ++ bytes) ≡ crc_of (header command a ++ bytes) → ⊥
  unfolding crc_bytes
  differs command a bytes le la e =
      let k = kept_address n a in
      let before = crc16_byte (crc16_byte 0 command) (a % 256) in
      let same : crc16_of (header command k ++ bytes) ≡ crc16_of (header command a ++ bytes) =
      words_tell _ _ (crc_lt 0 (header command k ++ bytes) (lit< tt)) (crc_lt 0 (header command a ++ bytes) (lit< tt)) e in
      let whole : crc16_from (crc16_byte before (k / 256)) bytes ≡ crc16_from (crc16_byte before (a / 256)) bytes =
      ap (λ (x : ℕ). crc16_from (crc16_byte (crc16_byte (crc16_byte 0 command) x) (k / 256)) bytes) (sym (kept_low a)) ∙ same in
      let registers : crc16_byte before (k / 256) ≡ crc16_byte before (a / 256) =
      registers_tell crc16_polynomial 15 (lit≤ tt) (lit< tt) bytes _ _
      (crc_lt 0 (command ∷ a % 256 ∷ k / 256 ∷ []) (lit< tt)) (crc_lt 0 (command ∷ a % 256 ∷ a / 256 ∷ []) (lit< tt)) whole in
      let high : k / 256 ≡ a / 256 =
      bytes_tell crc16_polynomial 15 (lit≤ tt) (lit< tt) before (k / 256) (a / 256) (lit≤ tt) (omega (arith, kept_word a)) (omega arith) registers in
      omega (arith, high, kept_low a, below a)

  loaded : (x y byte : ℕ) → x < 65536 → y < 65536
      → bits_of 16 (crc16_word (crc16_loaded x (byte ∷ []))) ≡ bits_of 16 (crc16_word (crc16_loaded y (byte ∷ []))) → x ≡ y
  loaded x y byte hx hy e =
      registers_tell crc16_polynomial 15 (lit≤ tt) (lit< tt) (byte ∷ []) x y hx hy
      (words_tell _ _ (crc_lt x (byte ∷ []) hx) (crc_lt y (byte ∷ []) hy) e)

pub address_laws : (n : ℕ) → n ≤ 256 → AddressLaws n
address_laws n le =
    record {
      own = λ space a lt. low n a (lt_of_lt_of_le lt (limit_kept n le space));
      low = low n;
      agrees = λ command a bytes lt. ap (λ (x : ℕ). crc_of (header command x ++ bytes)) (low n a lt);
      differs = differs n;
      loaded = loaded n;
    }
