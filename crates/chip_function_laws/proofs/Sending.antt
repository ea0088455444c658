-- Bits that go out: of a byte, of a CRC, and of a block of bytes from one address to the last of the block.
use Prim.Native.Nat.{ℕ, zero, suc, ◌+◌, ◌-◌, ◌/◌, ◌<◌}
use mathlib.Core.Path.{◌≡◌, refl, sym, ap, ◌∙◌}
use mathlib.Core.Bool.{Bool, true, false}
use mathlib.Core.List.{List, ◌++◌, append-nil}
use native.Mathlib.Nat.{add-zero}
use native.Mathlib.Omega.{arith}
use borrow.Author.Tests.{lt-ltb}
use Rattle.base_types.specs.Bits.{bits_of, bits_of_bytes}
use Rattle.base_types.specs.Scan.{values_from}
use Rattle.base_crc.specs.Crc.{crc_bytes, crc16_byte, crc16_from, crc16_word}
use Rattle.chip_stage.specs.declared.stage.Outgoing.{Outgoing}
use Rattle.chip_stage.specs.declared.stage.MemoryStage.{MemoryStage}
use Rattle.chip_stage.specs.declared.stage.MemoryStage.TheVariants.{Send}
use Rattle.chip_stage.specs.Stages.{sending_byte, sending_crc}
use Rattle.chip_function.specs.Functions.{sent, send_bit, memory_slot, memory_bit}
use Rattle.chip_function_laws.specs.Reads.{Sends, none, next}

module _ {n : ℕ} {img : List ℕ} where
  infixr 20 ◌then◌
  pub ◌then◌ : {m s e : MemoryStage} {xs ys : List Bool} → Sends n img m xs s → Sends n img s ys e → Sends n img m (xs ++ ys) e
  ◌then◌ none q = q
  ◌then◌ (next b f p) q = next b f (p then q)

module _ (n : ℕ) (img : List ℕ) where
  pub bits_out : (k : ℕ) (o : Outgoing) (v crc : ℕ) → Sends n img (Send o (suc k) v crc) (bits_of (suc k) v) (sent n o crc img)
  unfolding bits_of memory_bit memory_slot send_bit
  bits_out zero o v crc = next refl (λ bit. refl) none
  bits_out (suc k) o v crc =
      let e : suc (suc k) - 1 ≡ suc k = omega arith in
      next {m = Send o (suc (suc k)) v crc} {s = Send o (suc k) (v / 2) crc} refl (λ bit. simp (lt-ltb 1 (suc (suc k)) (omega arith), e)) (bits_out k o (v / 2) crc)

  pub byte_out : (o : Outgoing) (v crc : ℕ) → Sends n img (sending_byte o v crc) (bits_of 8 v) (sent n o (crc16_byte crc v) img)
  unfolding sending_byte
  byte_out o v crc = bits_out 7 o v (crc16_byte crc v)

  pub crc_out : (o : Outgoing) (crc : ℕ) → Sends n img (sending_crc o crc) (bits_of 16 (crc16_word crc)) (sent n o crc img)
  unfolding sending_crc
  crc_out o crc = bits_out 15 o (crc16_word crc) crc

  -- A block: at address a the stage is at a crc and the byte is byte a; while more, the next address follows, and else the end.
  module _ (at : ℕ → ℕ → MemoryStage) (byte : ℕ → ℕ) (more : ℕ → Bool) (end : ℕ → ℕ → MemoryStage)
      (onward : (a crc : ℕ) → more a ≡ true → Sends n img (at a crc) (bits_of 8 (byte a)) (at (a + 1) (crc16_byte crc (byte a))))
      (ending : (a crc : ℕ) → more a ≡ false → Sends n img (at a crc) (bits_of 8 (byte a)) (end a (crc16_byte crc (byte a)))) where
    pub block : (k a crc : ℕ) → ((i : ℕ) → i < k → more (a + i) ≡ true) → more (a + k) ≡ false
        → Sends n img (at a crc) (bits_of_bytes (values_from byte a (suc k))) (end (a + k) (crc16_from crc (values_from byte a (suc k))))
    unfolding bits_of_bytes values_from crc_bytes
    block zero a crc f z =
        let e : a + 0 ≡ a = add-zero a in
        rw (e, append-nil) (ending a crc (ap more (sym e) ∙ z))
    block (suc k) a crc f z =
        let here : more a ≡ true = ap more (sym (add-zero a)) ∙ f 0 (omega arith) in
        let last : a + 1 + k ≡ a + suc k = omega arith in
        let rest = block k (a + 1) (crc16_byte crc (byte a))
        (λ i lt. let e : a + 1 + i ≡ a + suc i = omega arith in ap more e ∙ f (suc i) (omega arith)) (ap more last ∙ z) in
        onward a crc here then rw last at rest
