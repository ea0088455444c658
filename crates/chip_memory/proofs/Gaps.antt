-- A write alters nothing but its target, and no gap; the redirection bytes are status bytes.
use Prim.Native.Nat.{ℕ, ◌+◌, ◌-◌, ◌/◌, ◌<◌, ◌≤◌}
use mathlib.Core.Path.{◌≡◌, refl, sym, ap, ◌∙◌}
use mathlib.Core.Bool.{Bool, true, false, cond}
use mathlib.Core.List.{List}
use native.Mathlib.Decide.{dec_lt}
use native.Mathlib.Omega.{arith}
use lib.Bits.{bit_and}
use lib.Dec.{ltb}
use lib.ListN.{length, get_or, set, length-set}
use lib.Seq.{get_or-set_other}
use borrow.Author.Tests.{lt-ltb, le-ltb, ltb-true}
use Rattle.base_types.specs.declared.address.Target.{Target}
use Rattle.base_types.specs.declared.address.Target.TheVariants.{Data, Status}
use Rattle.chip_memory.specs.declared.layout.Field.{Field}
use Rattle.chip_memory.specs.declared.layout.Field.TheVariants.{DataProtection, RedirectionProtection}
use Rattle.chip_memory.specs.Layout.{status_index, redirection_bytes, is_within, is_held}
use Rattle.chip_memory.specs.Image.{status_byte, redirection_of}
use Rattle.chip_memory.specs.Write.{bit_of, status_writable, is_writable, index_of, programmed}

true_not_false : {A : Type 0} → ◌≡◌ {A = Bool} true false → A
true_not_false e = cc

-- ---- the redirection bytes

-- the status address 100h + p holds something, for each page p of the chip
pub redirection_held : (n a : ℕ) → redirection_bytes ≤ a → a - redirection_bytes < n → is_held n a ≡ true
unfolding is_held is_within
redirection_held n a le lt = simp (le-ltb a redirection_bytes le, lt-ltb (a - redirection_bytes) n lt)

-- read as a status byte, it is the redirection byte of that page
pub redirection_status : (n : ℕ) (img : List ℕ) (p : ℕ) → p < n → status_byte n img (redirection_bytes + p) ≡ redirection_of n img p
unfolding status_byte redirection_of
redirection_status n img p lt = simp (redirection_held n (redirection_bytes + p) (omega arith) (omega arith))

-- ---- what can be written

bit_below : (n : ℕ) (f : Field) (img : List ℕ) (p : ℕ) → bit_of n f img p ≡ true → p < n
unfolding bit_of
bit_below n f img p e = go (ltb p n) refl
  where
    go : (b : Bool) → ltb p n ≡ b → p < n
    go true z = ltb-true p n z
    go false z = true_not_false (sym (rw z at e))

writable_held : (n : ℕ) (img : List ℕ) (a : ℕ) → status_writable n img a ≡ true → is_held n a ≡ true
unfolding status_writable
writable_held n img a e = go (dec_lt a redirection_bytes)
  where
    go : Dec (a < redirection_bytes) → is_held n a ≡ true
    go (yes lt) = rw (lt-ltb a redirection_bytes lt) at e
    go (no ge) =
        let le : redirection_bytes ≤ a = omega arith in
        let b : bit_of n RedirectionProtection img (a - redirection_bytes) ≡ true = rw (le-ltb a redirection_bytes le) at e in
        redirection_held n a le (bit_below n RedirectionProtection img (a - redirection_bytes) b)

-- a target that can be written stands at no gap's index
apart : (n : ℕ) (img : List ℕ) (t : Target) (a : ℕ) → is_writable n img t ≡ true → is_held n a ≡ false → status_index n a ≡ index_of n t → ⊥
unfolding is_writable index_of
apart n img (Data d) a w gap e = let lt : d.0 / 32 < n = bit_below n DataProtection img (d.0 / 32) w in omega arith
apart n img (Status s) a w gap e =
    let same : a ≡ s.0 = omega arith in
    true_not_false (sym (writable_held n img s.0 w) ∙ sym (ap (is_held n) same) ∙ gap)

-- what the image holds at a gap no write alters
pub gap_kept : (n : ℕ) (img : List ℕ) (t : Target) (byte a : ℕ) → is_held n a ≡ false
    → get_or (programmed n img t byte) (status_index n a) 0 ≡ get_or img (status_index n a) 0
unfolding programmed
gap_kept n img t byte a gap = go (is_writable n img t) refl
  where
    go : (b : Bool) → is_writable n img t ≡ b
        → get_or (cond b (set img (index_of n t) (bit_and (get_or img (index_of n t) 0) byte)) img) (status_index n a) 0 ≡ get_or img (status_index n a) 0
    go true w = get_or-set_other img (index_of n t) (status_index n a) (bit_and (get_or img (index_of n t) 0) byte) 0 (apart n img t a w gap)
    go false w = refl

pub programmed_length : (n : ℕ) (img : List ℕ) (t : Target) (byte : ℕ) → length (programmed n img t byte) ≡ length img
unfolding programmed
programmed_length n img t byte = go (is_writable n img t)
  where
    go : (b : Bool) → length (cond b (set img (index_of n t) (bit_and (get_or img (index_of n t) 0) byte)) img) ≡ length img
    go true = length-set img (index_of n t) (bit_and (get_or img (index_of n t) 0) byte)
    go false = refl
