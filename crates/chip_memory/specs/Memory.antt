-- An image with the chip that it is of: its bytes, and how many pages the chip has.
use Rattle.std.specs.Prelude.{ℕ, List}
use Rattle.chip_memory.specs.Layout.{page_count}
use Rattle.chip_memory.specs.declared.image.Memory.{Memory}

abbrev pub bytes : Memory → List ℕ
bytes m = m.image.now

abbrev pub pages : Memory → ℕ
pages m = page_count m.last
