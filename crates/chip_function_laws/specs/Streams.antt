-- The bits that the memory commands send, in the data sheet's terms, over the page count n.
use Rattle.std.specs.Prelude.{ℕ, zero, suc, ◌+◌, ◌-◌, ◌*◌, ◌/◌, ◌%◌, Bool, List, [], ◌∷◌, ◌++◌}
use Rattle.base_types.specs.Bits.{bits_of, bits_of_bytes}
use Rattle.base_types.specs.Scan.{values_from}
use Rattle.base_crc.specs.Crc.{crc16_of, crc16_word}
use Rattle.chip_memory.specs.Layout.{data_size, status_size}
use Rattle.chip_memory.specs.Image.{data_byte, status_byte, redirection_of}

-- the sixteen bits of the CRC of bytes, complemented
abbrev pub crc_of : List ℕ → List Bool
crc_of bytes = bits_of 16 (crc16_word (crc16_of bytes))

-- a command with its address, low byte first
abbrev pub header : ℕ → ℕ → List ℕ
header command a = command ∷ a % 256 ∷ a / 256 ∷ []

-- F0h: data from the address to the end of memory, then a CRC of command, address and data
abbrev pub memory_stream : ℕ → List ℕ → ℕ → List Bool
memory_stream n img a =
    let bytes = values_from (data_byte n img) a (data_size n - a) in
    bits_of_bytes bytes ++ crc_of (header 0xF0 a ++ bytes)

-- the k 8-byte pages of status memory from page q on, each with a CRC of its own bytes
unfoldable pub status_pages : ℕ → List ℕ → ℕ → ℕ → List Bool
status_pages n img q zero = []
status_pages n img q (suc k) =
    let bytes = values_from (status_byte n img) (8 * q) 8 in
    (bits_of_bytes bytes ++ crc_of bytes) ++ status_pages n img (q + 1) k

-- AAh: bytes from the address to the end of its 8-byte page, a CRC of command, address and bytes, and then the later pages
abbrev pub status_stream : ℕ → List ℕ → ℕ → List Bool
status_stream n img a =
    let bytes = values_from (status_byte n img) a (8 - a % 8) in
    (bits_of_bytes bytes ++ crc_of (header 0xAA a ++ bytes)) ++ status_pages n img (a / 8 + 1) (status_size n / 8 - (a / 8 + 1))

-- page p from address a on, after a redirection byte whose CRC covers the bytes before it too
abbrev pub page_stream : ℕ → List ℕ → List ℕ → ℕ → ℕ → List Bool
page_stream n img before p a =
    let redirection = redirection_of n img p in
    let bytes = values_from (data_byte n img) a (32 - a % 32) in
    (bits_of 8 redirection ++ crc_of (before ++ (redirection ∷ []))) ++ (bits_of_bytes bytes ++ crc_of bytes)

-- the k pages from page p on
unfoldable pub extended_pages : ℕ → List ℕ → ℕ → ℕ → List Bool
extended_pages n img p zero = []
extended_pages n img p (suc k) = page_stream n img [] p (32 * p) ++ extended_pages n img (p + 1) k

-- A5h: the redirection byte of the address's page, a CRC of command, address and that byte, data from the address to the page's end,
-- a CRC of those data; and then the later pages, each with its redirection byte, a CRC of it alone, its 32 bytes and their CRC
abbrev pub extended_stream : ℕ → List ℕ → ℕ → List Bool
extended_stream n img a = page_stream n img (header 0xA5 a) (a / 32) a ++ extended_pages n img (a / 32 + 1) (n - (a / 32 + 1))
