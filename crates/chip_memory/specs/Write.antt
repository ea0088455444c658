-- What a write does to an image, over the page count n: the byte is ANDed into its target, unless that is protected or a gap.
use Rattle.std.specs.Prelude.{ℕ, ◌-◌, ◌/◌, Bool, cond, ◌&&◌, List, ltb, get_or, set}
use Rattle.std.specs.Int.Bits.{bit_and}
use Rattle.base_types.specs.declared.address.Target.{Target}
use Rattle.base_types.specs.declared.address.Target.TheVariants.{Data, Status}
use Rattle.chip_memory.specs.declared.layout.Field.{Field}
use Rattle.chip_memory.specs.declared.layout.Field.TheVariants.{DataProtection, RedirectionProtection}
use Rattle.chip_memory.specs.Layout.{status_index, redirection_bytes, is_held}
use Rattle.chip_memory.specs.Image.{page_bit}

-- page p is one of the chip's, and its bit in a field of bits is 1
unfoldable pub bit_of : ℕ → Field → List ℕ → ℕ → Bool
bit_of n field img p = ltb p n && page_bit n field img p

-- a redirection byte can be written where its bit says so, and each other status byte that is no gap
unfoldable pub status_writable : ℕ → List ℕ → ℕ → Bool
status_writable n img a =
    cond (ltb a redirection_bytes) (is_held n a) (bit_of n RedirectionProtection img (a - redirection_bytes))

-- a data byte can be written where the bit of its page says so
unfoldable pub is_writable : ℕ → List ℕ → Target → Bool
is_writable n img (Data a) = bit_of n DataProtection img (a.0 / 32)
is_writable n img (Status a) = status_writable n img a.0

-- where the target stands in the image
unfoldable pub index_of : ℕ → Target → ℕ
index_of n (Data a) = a.0
index_of n (Status a) = status_index n a.0

unfoldable pub programmed : ℕ → List ℕ → Target → ℕ → List ℕ
programmed n img t byte =
    cond (is_writable n img t) (set img (index_of n t) (bit_and (get_or img (index_of n t) 0) byte)) img
