-- Addresses of either memory fit sixteen bits.
use Prim.Native.Nat.{ℕ, ◌≤◌}
use native.Mathlib.Omega.{arith}
use Rattle.base_types.specs.declared.address.Space.{Space}
use Rattle.base_types.specs.declared.address.Space.TheVariants.{Data, Status}
use Rattle.chip_stage.specs.Limits.{limit_of}

pub limit_fits : (n : ℕ) (space : Space) → n ≤ 256 → limit_of n space ≤ 8192
unfolding limit_of
limit_fits n Data le = omega arith
limit_fits n Status le = omega arith
