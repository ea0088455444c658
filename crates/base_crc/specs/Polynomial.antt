-- A generator polynomial as a number, and the two that are used.
use Rattle.std.specs.Prelude.{ℕ, ◌+◌, ◌-◌, ◌^◌, ◌≡◌, refl, List, [], ◌∷◌}

-- The register shifts right, so it holds the coefficient of the highest power below the width in its lowest bit, and that of
-- x^e in bit width - 1 - e. A polynomial of that width is given by its powers below the width.
pub reflected : ℕ → List ℕ → ℕ
reflected width [] = 0
reflected width (e ∷ es) = 2 ^ (width - 1 - e) + reflected width es

abbrev pub crc16_polynomial : ℕ
crc16_polynomial = 0xA001

abbrev pub crc8_polynomial : ℕ
crc8_polynomial = 0x8C

-- x^16 + x^15 + x^2 + 1
pub crc16_powers : crc16_polynomial ≡ reflected 16 (15 ∷ 2 ∷ 0 ∷ [])
unfolding reflected
crc16_powers = refl

-- x^8 + x^5 + x^4 + 1
pub crc8_powers : crc8_polynomial ≡ reflected 8 (5 ∷ 4 ∷ 0 ∷ [])
unfolding reflected
crc8_powers = refl
