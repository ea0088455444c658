-- The addresses of each memory, over the page count n.
use Rattle.std.specs.Prelude.{ℕ, ◌+◌, ◌%◌, ◌^◌, Bool, cond, Option, Some, None, ltb}
use Rattle.base_types.specs.declared.address.Space.{Space}
use Rattle.base_types.specs.declared.address.Space.TheVariants.{Data, Status}
use Rattle.base_types.specs.declared.address.Target.{Target}
use Rattle.base_types.specs.declared.address.Target.TheVariants.{Data as DataTarget, Status as StatusTarget}
use Rattle.chip_memory.specs.Layout.{data_size, status_size}

-- how many addresses a memory has: 0800h and 140h for the DS2505
unfoldable pub limit_of : ℕ → Space → ℕ
limit_of n Data = data_size n
limit_of n Status = status_size n

unfoldable pub is_address : ℕ → Space → ℕ → Bool
is_address n space a = ltb a (limit_of n space)

-- the address after one, if the memory has it
unfoldable pub next_address : ℕ → Space → ℕ → Option ℕ
next_address n space a = cond (ltb (a + 1) (limit_of n space)) (Some (a + 1)) None

-- ---- start addresses

-- how many bits of a start address the chip keeps: 11 for the DS2505, 13 for the DS2506
unfoldable pub address_bits : ℕ → ℕ
address_bits n = cond (ltb 64 n) 13 11

-- a start address as the chip keeps it: the bits above these are set to 0
unfoldable pub kept_address : ℕ → ℕ → ℕ
kept_address n a = a % 2 ^ address_bits n

-- ---- targets

unfoldable pub target_at : Space → ℕ → Target
target_at Data a = DataTarget (record { 0 = a })
target_at Status a = StatusTarget (record { 0 = a })

unfoldable pub target_in_range : ℕ → Target → Bool
target_in_range n (DataTarget a) = is_address n Data a.0
target_in_range n (StatusTarget a) = is_address n Status a.0
