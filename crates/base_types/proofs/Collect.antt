-- The register that collects bits, least significant first: it shifts right, and the new bit comes in on top. What it holds after bits.
use Prim.Native.Nat.{ℕ, zero, suc, ◌+◌, ◌*◌, ◌/◌, ◌^◌, ◌<◌}
use mathlib.Core.Path.{◌≡◌, refl, sym, ap, ◌∙◌}
use mathlib.Core.Bool.{Bool, true, false}
use mathlib.Core.List.{List, [], ◌∷◌}
use native.Mathlib.Nat.{mul_assoc, mul_comm, add-mul, mul-add, pow-suc}
use native.Mathlib.Omega.{arith}
use lib.ListN.{length}
use Rattle.base_types.specs.Bits.{one, bits_of}
use Rattle.base_types.proofs.Values.{value_of, value_of_lem}
use Rattle.base_types.proofs.Words.{bits_length}

-- the register after these bits; a bit that comes in counts top
abbrev pub gathered : ℕ → ℕ → List Bool → ℕ
gathered top v [] = v
gathered top v (b ∷ bs) = gathered top (v / 2 + top * one b) bs

doubled : (u n : ℕ) → u * 2 ^ suc n ≡ 2 * (u * 2 ^ n)
doubled u n = ap (λ (x : ℕ). u * x) (pow-suc 2 n) ∙ sym (mul_assoc u (2 ^ n) 2) ∙ mul_comm (u * 2 ^ n) 2

-- n bits into a register that is clear where they will stand; w is what the first of them then counts
pub gathers : (top : ℕ) (bs : List Bool) (n w u : ℕ) → length bs ≡ n → w * 2 ^ n ≡ 2 * top → gathered top (u * 2 ^ n) bs ≡ u + w * value_of bs
gathers top [] zero w u l k = omega arith
gathers top [] (suc n) w u l k = absurd (omega arith)
gathers top (b ∷ bs) zero w u l k = absurd (omega arith)
gathers top (true ∷ bs) (suc n) w u l k =
    let x = doubled u n in
    let y : 2 * w * 2 ^ n ≡ 2 * top = omega (arith, mul_assoc 2 w (2 ^ n), doubled w n) in
    let e : u * 2 ^ suc n / 2 + top * 1 ≡ (u + w) * 2 ^ n = omega (arith, add-mul u w (2 ^ n), mul_assoc 2 w (2 ^ n)) in
    ap (λ (v : ℕ). gathered top v bs) e ∙ gathers top bs n (2 * w) (u + w) (omega arith) y ∙ omega (arith, mul_assoc 2 w (value_of bs), mul-add w 1 (2 * value_of bs))
gathers top (false ∷ bs) (suc n) w u l k =
    let x = doubled u n in
    let y : 2 * w * 2 ^ n ≡ 2 * top = omega (arith, mul_assoc 2 w (2 ^ n), doubled w n) in
    let e : u * 2 ^ suc n / 2 + top * 0 ≡ u * 2 ^ n = omega arith in
    ap (λ (v : ℕ). gathered top v bs) e ∙ gathers top bs n (2 * w) u (omega arith) y ∙ omega (arith, mul_assoc 2 w (value_of bs), mul-add w 0 (2 * value_of bs))

-- a register of eight bits
abbrev pub collect : ℕ → List Bool → ℕ
collect v bs = gathered 128 v bs

pub byte_held : (bs : List Bool) → length bs ≡ 8 → collect 0 bs ≡ value_of bs
byte_held bs l = gathers 128 bs 8 1 0 l refl ∙ omega arith

pub collected : (byte : ℕ) → byte < 256 → collect 0 (bits_of 8 byte) ≡ byte
collected byte h = byte_held (bits_of 8 byte) (bits_length 8 byte) ∙ value_of_lem 8 byte h
