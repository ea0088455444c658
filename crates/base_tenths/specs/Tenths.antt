-- Signed tenths of a degree, over all integers.
use Rattle.std.specs.Prelude.{ℕ, ◌+◌, ◌*◌, ◌%◌, ◌<◌, ◌≡◌, Bool, true, cond, ◌&&◌, ltb, ℤ, pos, neg_ℤ, nat_abs, ◌+ℤ◌, ◌-ℤ◌, ◌*ℤ◌}
use Rattle.std.specs.Int.Signed.{lt_z, le_z}
use Rattle.std.specs.Int.{w16}
use Rattle.std.proofs.Common.{to_z}
use Rattle.base_types.specs.Outcome.{Outcome, accepted, judge}

-- ---- two bytes

-- the 16-bit number of two bytes
unfoldable pub word_of : ℕ → ℕ → ℕ
word_of low high = low + 256 * high

-- a 16-bit number as a signed one: from 8000h on it stands for 10000h less
unfoldable pub signed_of : ℕ → ℤ
signed_of x = cond (ltb x 0x8000) (pos x) (pos x -ℤ pos 0x10000)

-- the other way: the low sixteen bits of a number of thirty-two, a negative one being 2 ^ 32 more
unfoldable pub low_bits : ℤ → ℕ
low_bits v = nat_abs (v +ℤ pos 0x100000000) % 0x10000

-- ---- values

-- the least and the greatest value: -180.0 and 179.9 degrees
abbrev pub least : ℤ
least = neg_ℤ (pos 1800)

abbrev pub greatest : ℤ
greatest = pos 1799

-- v is a value; 7FFFh, which means that there is none, is not
unfoldable pub is_value : ℤ → Bool
is_value v = le_z least v && le_z v greatest

-- ---- the change from one value to another

-- d is x brought into the range of values by whole turns, of 3600 tenths each
pub record Folds (x d : ℤ) : Type 0 where
  pub turns : ℤ
  pub congruent : x ≡ d +ℤ (turns *ℤ pos 3600)
  pub within : is_value d ≡ true

-- as a computation, for the difference of two values
unfoldable pub fold_of : ℤ → ℤ
fold_of x = cond (lt_z x least) (x +ℤ pos 3600) (cond (lt_z greatest x) (x -ℤ pos 3600) x)

-- 19 where either is no value, or new less old, folded
unfoldable pub change_answer : ℤ → ℤ → Outcome ℤ
change_answer old new = judge (is_value old && is_value new) 19 (accepted (fold_of (new -ℤ old)))

pub record TenthsLaws : Type 0 where
  -- two bytes are read as the kit reads sixteen bits
  pub two's_complement : (x : ℕ) → x < 0x10000 → signed_of x ≡ to_z w16 x
  -- the low sixteen bits of a value stand for it
  pub back : (v : ℤ) → is_value v ≡ true → signed_of (low_bits v) ≡ v
  -- the change told is new less old, brought into the range of values by whole turns ..
  pub folds : (old new d : ℤ) → change_answer old new ≡ accepted d → Folds (new -ℤ old) d
  -- .. and no other number is
  pub one : (x d e : ℤ) → Folds x d → Folds x e → d ≡ e
