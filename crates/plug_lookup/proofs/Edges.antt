-- The edge of a row fits sixty-four bits, whatever the bytes of the header are.
use Prim.Native.Nat.{ℕ, suc, ◌+◌, ◌*◌, ◌<◌, ◌≤◌}
use native.Mathlib.Omega.{arith}
use native.Mathlib.Nat.{mul-le-mul}
use lib.IntN.{ℤ, pos, negsuc, ◌+ℤ◌}
use lib.Signed.{mag}
use Rattle.base_tenths.proofs.Integers.{mag_sub}

pub product_below : (i h : ℕ) → i < 0x100000000 → h < 0x10000 → i * h < 0x1000000000000
product_below i h a b =
    let k : i * h ≤ 0xFFFFFFFF * 0xFFFF = mul-le-mul {n₁ = i} {m₁ = h} {n₂ = 0xFFFFFFFF} {m₂ = 0xFFFF} (omega arith) (omega arith) in
    omega arith

pub sum_below : (e : ℤ) (k : ℕ) → mag e < 0x80000000 → k < 0x1000000000000 → mag (e +ℤ pos k) < 0x2000000000000
sum_below (pos a) k f g = omega arith
sum_below (negsuc a) k f g = omega (arith, mag_sub k (suc a) (a + k) (omega arith) (omega arith))
