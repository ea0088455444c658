-- States as bytes: the kinds of fields, the comparison of a state's bytes with others, and the whole in a buffer.
use Rattle.std.specs.Prelude.{ℕ, zero, suc, ◌+◌, ◌-◌, ◌*◌, ◌/◌, ◌%◌, ◌≡◌, Bool, true, cond, ◌&&◌, List, [], ◌∷◌, ◌++◌, eqb, length, get_or, drop, replicate}
use Rattle.base_types.specs.Refusal.{number_of, values_of}
use Rattle.base_types.specs.Outcome.{Outcome, accepted, judge, Done, done, unless_refused}
use Rattle.base_types.specs.declared.refusal.Refusal.{Refusal}
use Rattle.base_types.specs.declared.write_mode.WriteMode.{WriteMode}
use Rattle.base_types.specs.declared.write_mode.WriteMode.TheVariants.{Ordinary, Quick}
use Rattle.chip_memory.specs.Page.{copied}

-- a 16-bit number, low byte first, and the number of two bytes
abbrev pub word : ℕ → List ℕ
word x = x % 256 ∷ x / 256 ∷ []

abbrev pub joined : ℕ → ℕ → ℕ
joined l h = l + 256 * h

-- so many bytes: these, and zeros
abbrev pub padded : ℕ → List ℕ → List ℕ
padded zero b = []
padded (suc n) [] = 0 ∷ padded n []
padded (suc n) (x ∷ b) = x ∷ padded n b

-- the front of a state, sixteen bytes: its enum in the first n, its other fields after that
abbrev pub front : ℕ → List ℕ → List ℕ → List ℕ
front n enum fields = padded n enum ++ padded (16 - n) fields

-- these bytes stand in b from a place on; past the end of b stand zeros
unfoldable pub same : ℕ → List ℕ → List ℕ → Bool
same at [] b = true
same at (x ∷ xs) b = eqb (get_or b at 0) x && same (suc at) xs b

-- the n bytes after the front; those past the end count as 0
unfoldable pub rest_at : ℕ → List ℕ → List ℕ
rest_at n b = copied (drop 16 b) (replicate n 0)

-- the bytes b are so many, and these
unfoldable pub is_copy : ℕ → List ℕ → List ℕ → Bool
is_copy size whole b = eqb (length b) size && same 0 whole b

-- a state with an array of n bytes after its front: packing and unpacking are inverse
pub record Inverse {S : Type 0} (n : ℕ) (bytes : S → List ℕ) (array : S → List ℕ) (of : List ℕ → S) (is_state : List ℕ → Bool) : Type 0 where
  -- bytes that are accepted are those of the state that they hold
  pub bytes_back : (b : List ℕ) → is_state b ≡ true → bytes (of b) ≡ b
  -- a state's bytes hold it, and they are accepted
  pub state_back : (s : S) → length (array s) ≡ n → of (bytes s) ≡ s
  pub state_kept : (s : S) → length (array s) ≡ n → is_state (bytes s) ≡ true

-- 2, or accepted
abbrev pub judged_by : Bool → Outcome Done
judged_by good = judge good 2 (accepted done)

-- the bytes of a state, so many, into a buffer: 10, or accepted; a refusal leaves the buffer
unfoldable pub buffer_outcome : ℕ → List ℕ → Outcome Done
buffer_outcome size buffer = judge (eqb (length buffer) size) 10 (accepted done)

unfoldable pub buffer_after : ℕ → List ℕ → List ℕ → List ℕ
buffer_after size whole buffer = unless_refused (buffer_outcome size buffer) whole buffer

-- ---- the mode of a write

unfoldable pub mode_byte : WriteMode → ℕ
mode_byte Ordinary = 0
mode_byte Quick = 1

unfoldable pub mode_of : ℕ → WriteMode
mode_of number = cond (eqb number 0) Ordinary Quick

-- ---- a refusal: its number, and the value that it gives back (0 where there is none)

unfoldable pub value_of : Refusal → ℕ
value_of r = get_or (values_of r) 0 0

abbrev pub refusal_bytes : Refusal → List ℕ
refusal_bytes r = number_of r ∷ value_of r ∷ []

-- these are its bytes
abbrev pub is_refusal : Refusal → ℕ → ℕ → Bool
is_refusal r number value = eqb number (number_of r) && eqb value (value_of r)
