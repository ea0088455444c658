-- Where the parts of an image stand, over the page count n: 64 for the DS2505, 256 for the DS2506.
use Rattle.std.specs.Prelude.{ℕ, ◌+◌, ◌-◌, ◌*◌, ◌/◌, ◌≡◌, refl, Bool, false, cond, ◌||◌, List, [], ◌∷◌, eqb, ltb, length, replicate}
use Rattle.base_types.specs.declared.address.Page.{Page}
use Rattle.chip_memory.specs.declared.layout.Field.{Field}
use Rattle.chip_memory.specs.declared.layout.Field.TheVariants.{DataProtection, RedirectionProtection, UsedPages}

-- the page count of a chip, by its last page
abbrev pub page_count : Page → ℕ
page_count last = last.0 + 1

-- ---- sizes: the data, 32 bytes a page, and then the status addresses

abbrev pub data_size : ℕ → ℕ
data_size n = 32 * n

-- the redirection bytes, one for each page, come last
abbrev pub redirection_bytes : ℕ
redirection_bytes = 0x100

abbrev pub status_size : ℕ → ℕ
status_size n = redirection_bytes + n

abbrev pub image_size : ℕ → ℕ
image_size n = data_size n + status_size n

-- an image of which nothing has been written
abbrev pub blank_image : ℕ → List ℕ
blank_image n = replicate (image_size n) 0xFF

-- a list of bytes is as long as an image, and a number is that of a page
unfoldable pub is_image : ℕ → List ℕ → Bool
is_image n img = eqb (length img) (image_size n)

unfoldable pub is_page : ℕ → ℕ → Bool
is_page n p = ltb p n

-- where the byte of a status address stands in the image
abbrev pub status_index : ℕ → ℕ → ℕ
status_index n a = data_size n + a

-- ---- the fields of the status memory, by their first address

-- Three fields of bits. Bit p modulo 8 of byte p divided by 8 is for page p: 0 = its data are protected, its redirection byte is
-- protected, it is used.
unfoldable pub first_address : Field → ℕ
first_address DataProtection = 0x000
first_address RedirectionProtection = 0x020
first_address UsedPages = 0x040

-- how many bytes a field of bits has
abbrev pub field_size : ℕ → ℕ
field_size n = n / 8

-- the address a is one of the size addresses from first on
unfoldable pub is_within : ℕ → ℕ → ℕ → Bool
is_within first size a = cond (ltb a first) false (ltb (a - first) size)

-- the status address a holds something; all others are gaps
unfoldable pub is_held : ℕ → ℕ → Bool
is_held n a =
    is_within redirection_bytes n a
    || (is_within (first_address DataProtection) (field_size n) a
    || (is_within (first_address RedirectionProtection) (field_size n) a
    || is_within (first_address UsedPages) (field_size n) a))

-- document 01's figures: 2,048 bytes of data and 320 of status, 000h to 13Fh
pub ds2505_sizes : (data_size 64 ∷ status_size 64 ∷ image_size 64 ∷ field_size 64 ∷ []) ≡ (2048 ∷ 0x140 ∷ 2368 ∷ 8 ∷ [])
ds2505_sizes = refl
