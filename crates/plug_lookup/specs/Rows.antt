-- Rows at their edges, in headers of the DS2505. One statement covers them.
use Rattle.std.specs.Prelude.{ℕ, ◌-◌, refl, List, [], ◌∷◌, ◌++◌, pos, neg_ℤ, length, replicate}
use Rattle.base_types.specs.Outcome.{Outcome, refused, accepted}
use Rattle.base_types.specs.Rows.{Row, ◌gives◌, Hold}
use Rattle.base_types.specs.Scan.{every}
use Rattle.base_tenths.specs.Tenths.{word_of, signed_of}
use Rattle.plug_lookup.specs.Header.{word_at, rows_of, columns_of, edge_of, height_of, row_page, is_between, fields_right, pages_right, rest_blank, is_header, lower_edge, covers, row_from, row_answer}

-- a page with these bytes at its start and FFh to its end
pub page_with : List ℕ → List ℕ
page_with bytes = bytes ++ replicate (32 - length bytes) 0xFF

-- two rows of 15.0 degrees from 60.0 degrees on, three columns, on pages 2 and p
pub northern : ℕ → List ℕ
northern p = page_with (2 ∷ 0 ∷ 3 ∷ 0 ∷ 0x58 ∷ 0x02 ∷ 150 ∷ 0 ∷ 0 ∷ 0 ∷ 2 ∷ p ∷ [])

-- fifteen rows of 6,553.5 degrees from -3,276.8 degrees on
pub widest : List ℕ
widest = page_with (15 ∷ 0 ∷ 16 ∷ 0 ∷ 0x00 ∷ 0x80 ∷ 0xFF ∷ 0xFF ∷ 0 ∷ 0 ∷ replicate 15 63)

pub latitude_rows : List (Row (Outcome ℕ))
latitude_rows =
    (row_answer 64 (northern 63) (pos 599) gives refused 17 [])
    ∷ (row_answer 64 (northern 63) (pos 600) gives accepted 0)
    ∷ (row_answer 64 (northern 63) (pos 749) gives accepted 0)
    ∷ (row_answer 64 (northern 63) (pos 750) gives accepted 1)
    ∷ (row_answer 64 (northern 63) (pos 899) gives accepted 1)
    ∷ (row_answer 64 (northern 63) (pos 900) gives refused 17 [])
    ∷ (row_answer 64 (northern 64) (pos 600) gives refused 16 [])
    ∷ (row_answer 64 widest (neg_ℤ (pos 32769)) gives refused 17 [])
    ∷ (row_answer 64 widest (neg_ℤ (pos 32768)) gives accepted 0)
    ∷ (row_answer 64 widest (pos 950256) gives accepted 14)
    ∷ (row_answer 64 widest (pos 950257) gives refused 17 [])
    ∷ (row_answer 64 (page_with []) (pos 0) gives refused 16 [])
    ∷ []

pub latitude_rows_hold : Hold latitude_rows
unfolding latitude_rows northern widest page_with word_of signed_of word_at rows_of columns_of edge_of height_of row_page every is_between fields_right pages_right
    rest_blank is_header lower_edge covers row_from row_answer
latitude_rows_hold = refl
