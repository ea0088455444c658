-- The bits of a number, least significant first.
use Rattle.std.specs.Prelude.{ℕ, zero, suc, ◌+◌, ◌*◌, ◌/◌, ◌%◌, ◌^◌, Bool, true, false, not, List, [], ◌∷◌, ◌++◌, eqb}

-- a bit as a number
abbrev pub one : Bool → ℕ
one true = 1
one false = 0

-- the lowest bit of x
abbrev pub odd : ℕ → Bool
odd x = eqb (x % 2) 1

-- bit k of x
abbrev pub bit_at : ℕ → ℕ → Bool
bit_at x k = odd (x / 2 ^ k)

-- the n lowest bits of x
unfoldable pub bits_of : ℕ → ℕ → List Bool
bits_of zero x = []
bits_of (suc n) x = odd x ∷ bits_of n (x / 2)

-- the bits of bytes, one byte after the other
unfoldable pub bits_of_bytes : List ℕ → List Bool
bits_of_bytes [] = []
bits_of_bytes (b ∷ bs) = bits_of 8 b ++ bits_of_bytes bs

-- the register that collects a byte: it shifts right, and the new bit comes in on top
abbrev pub shift_in : ℕ → Bool → ℕ
shift_in register bit = register / 2 + 128 * one bit

-- two bits agree
abbrev pub same : Bool → Bool → Bool
same true b = b
same false b = not b
