-- Document 01's example of a list, and its other line forms.
use Rattle.std.specs.Prelude.{ℕ, ◌+◌, ◌≡◌, refl, List, [], ◌∷◌, ◌++◌, set}
use Rattle.chip_memory.specs.Layout.{blank_image, status_index, redirection_bytes, first_address}
use Rattle.chip_memory.specs.Image.{redirection_of, page_bytes, page_bit}
use Rattle.chip_memory.specs.Page.{is_blank}
use Rattle.base_types.specs.Scan.{every, count}
use Rattle.chip_chain.specs.Walk.{walk_from, walk_of}
use Rattle.chip_chain.specs.Free.{is_unnamed, is_free}
use Rattle.plug_sheet.specs.Text.{digit_of, decimal}
use Rattle.plug_sheet.specs.List.{final_text, outside_text, verdict_text, verdict_line, pages_line, page_line, page_lines, counts_line, list_of}

-- "pages 64", then "1 final 2 hops 1" and "redirected 1 free 61"; or "5 loop", "7 outside 200" and "redirected 2 free 61"
pub head : List ℕ
head = 112 ∷ 97 ∷ 103 ∷ 101 ∷ 115 ∷ 32 ∷ 54 ∷ 52 ∷ 10 ∷ []

pub example_list : List ℕ
example_list =
    head
    ++ (49 ∷ 32 ∷ 102 ∷ 105 ∷ 110 ∷ 97 ∷ 108 ∷ 32 ∷ 50 ∷ 32 ∷ 104 ∷ 111 ∷ 112 ∷ 115 ∷ 32 ∷ 49 ∷ 10 ∷ [])
    ++ (114 ∷ 101 ∷ 100 ∷ 105 ∷ 114 ∷ 101 ∷ 99 ∷ 116 ∷ 101 ∷ 100 ∷ 32 ∷ 49 ∷ 32 ∷ 102 ∷ 114 ∷ 101 ∷ 101 ∷ 32 ∷ 54 ∷ 49 ∷ 10 ∷ [])

pub other_list : List ℕ
other_list =
    head
    ++ (53 ∷ 32 ∷ 108 ∷ 111 ∷ 111 ∷ 112 ∷ 10 ∷ [])
    ++ (55 ∷ 32 ∷ 111 ∷ 117 ∷ 116 ∷ 115 ∷ 105 ∷ 100 ∷ 101 ∷ 32 ∷ 50 ∷ 48 ∷ 48 ∷ 10 ∷ [])
    ++ (114 ∷ 101 ∷ 100 ∷ 105 ∷ 114 ∷ 101 ∷ 99 ∷ 116 ∷ 101 ∷ 100 ∷ 32 ∷ 50 ∷ 32 ∷ 102 ∷ 114 ∷ 101 ∷ 101 ∷ 32 ∷ 54 ∷ 49 ∷ 10 ∷ [])

-- an image with this redirection byte of page p
pub redirecting : List ℕ → ℕ → ℕ → List ℕ
redirecting img p byte = set img (status_index 64 (redirection_bytes + p)) byte

-- FDh on page 1; and FAh, which names page 5 itself, on page 5, with 37h on page 7
pub examples : (list_of 64 (redirecting (blank_image 64) 1 0xFD) ≡ example_list) × (list_of 64 (redirecting (redirecting (blank_image 64) 5 0xFA) 7 0x37) ≡ other_list)
unfolding head example_list other_list redirecting digit_of decimal final_text outside_text verdict_text verdict_line pages_line page_line page_lines
    counts_line list_of redirection_of page_bytes page_bit is_blank every count walk_from walk_of is_unnamed is_free first_address
examples = (refl, refl)
