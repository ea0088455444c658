-- The header, which says which page holds the row of a latitude: the bytes of a page, over the page count n.
use Rattle.std.specs.Prelude.{ℕ, zero, suc, ◌+◌, ◌-◌, ◌*◌, Bool, cond, ◌&&◌, List, [], eqb, ltb, leb, get_or, ℤ, pos, ◌+ℤ◌}
use Rattle.std.specs.Int.Signed.{lt_z, le_z}
use Rattle.base_types.specs.Outcome.{Outcome, refused, accepted, judge}
use Rattle.base_types.specs.Scan.{every}
use Rattle.base_tenths.specs.Tenths.{word_of, signed_of}

-- the 16-bit number k of a page, low byte first
unfoldable pub word_at : List ℕ → ℕ → ℕ
word_at page k = word_of (get_or page (2 * k) 0) (get_or page (2 * k + 1) 0)

-- ---- the fields: five 16-bit numbers, the last of them 0, then a byte for each row

unfoldable pub rows_of : List ℕ → ℕ
rows_of header = word_at header 0

unfoldable pub columns_of : List ℕ → ℕ
columns_of header = word_at header 1

-- the southern edge, signed, and the height of a row, both in tenths of a degree
unfoldable pub edge_of : List ℕ → ℤ
edge_of header = signed_of (word_at header 2)

unfoldable pub height_of : List ℕ → ℕ
height_of header = word_at header 3

-- the page number of row i
unfoldable pub row_page : List ℕ → ℕ → ℕ
row_page header i = get_or header (10 + i) 0

-- ---- what a header is

unfoldable pub is_between : ℕ → ℕ → ℕ → Bool
is_between low high x = leb low x && leb x high

-- rows 1 to 15, columns 1 to 16, a height of at least 1, two zero bytes
unfoldable pub fields_right : List ℕ → Bool
fields_right header =
    is_between 1 15 (rows_of header)
    && (is_between 1 16 (columns_of header)
    && (leb 1 (height_of header) && eqb (word_at header 4) 0))

-- no page number is above the chip's last page
unfoldable pub pages_right : ℕ → List ℕ → Bool
pages_right n header = every (λ (i : ℕ). ltb (row_page header i) n) (rows_of header) 0

-- FFh from the last page number to the end of the page
unfoldable pub rest_blank : List ℕ → Bool
rest_blank header = every (λ (k : ℕ). eqb (get_or header k 0) 0xFF) (32 - (10 + rows_of header)) (10 + rows_of header)

unfoldable pub is_header : ℕ → List ℕ → Bool
is_header n header = fields_right header && (pages_right n header && rest_blank header)

-- ---- the row of a latitude

-- the lower edge of row i, which is the upper edge of row i - 1
unfoldable pub lower_edge : List ℕ → ℕ → ℤ
lower_edge header i = edge_of header +ℤ pos (i * height_of header)

-- row i covers its lower edge and not its upper
unfoldable pub covers : List ℕ → ℤ → ℕ → Bool
covers header latitude i = le_z (lower_edge header i) latitude && lt_z latitude (lower_edge header (i + 1))

-- the first of the k rows from i on that covers the latitude; 17 where none does
unfoldable pub row_from : List ℕ → ℤ → ℕ → ℕ → Outcome ℕ
row_from header latitude zero i = refused 17 []
row_from header latitude (suc k) i =
    let rest : Outcome ℕ = row_from header latitude k (i + 1) in
    cond (covers header latitude i) (accepted i) rest

-- 16, 17, or the row
unfoldable pub row_answer : ℕ → List ℕ → ℤ → Outcome ℕ
row_answer n header latitude = judge (is_header n header) 16 (row_from header latitude (rows_of header) 0)
