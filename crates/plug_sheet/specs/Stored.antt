-- The stored sheet, over the page count n: a front of 24 bytes, then the image.
use Rattle.std.specs.Prelude.{ℕ, ◌+◌, ◌/◌, ◌%◌, ◌≡◌, Bool, true, false, ◌&&◌, ◌||◌, List, [], ◌∷◌, ◌++◌, eqb, length, get_or, take, drop, replicate}
use Rattle.base_types.specs.Outcome.{Outcome, accepted, judge, Done, done, unless_refused}
use Rattle.chip_memory.specs.Layout.{data_size, status_size, image_size, status_index, is_held, is_image}
use Rattle.base_types.specs.Scan.{every}

-- a 16-bit number, low byte first
abbrev pub stored_word : ℕ → List ℕ
stored_word x = x % 256 ∷ x / 256 % 256 ∷ []

-- page count; where the number, the data and the status stand; how many bytes in all; six zero bytes
unfoldable pub header_of : ℕ → List ℕ
header_of n = stored_word n ++ stored_word 16 ++ stored_word 24 ++ stored_word (24 + data_size n) ++ stored_word (24 + image_size n) ++ replicate 6 0

-- how many bytes a sheet has
abbrev pub sheet_size : ℕ → ℕ
sheet_size n = 24 + image_size n

-- a list begins with these bytes
unfoldable pub starts_with : List ℕ → List ℕ → Bool
starts_with [] s = true
starts_with (b ∷ bs) [] = false
starts_with (b ∷ bs) (x ∷ xs) = eqb x b && starts_with bs xs

-- an image holds FFh at every gap
unfoldable pub gaps_blank : ℕ → List ℕ → Bool
gaps_blank n img = every (λ (a : ℕ). is_held n a || eqb (get_or img (status_index n a) 0) 0xFF) (status_size n) 0

-- the right length, the right header, and FFh at every gap
unfoldable pub is_sheet : ℕ → List ℕ → Bool
is_sheet n s = eqb (length s) (sheet_size n) && (starts_with (header_of n) s && gaps_blank n (drop 24 s))

-- 12, or accepted
unfoldable pub sheet_answer : ℕ → List ℕ → Outcome Done
sheet_answer n s = judge (is_sheet n s) 12 (accepted done)

-- the number and the image, as parts of the sheet; where it is refused, the empty part
unfoldable pub number_part : ℕ → List ℕ → List ℕ
number_part n s = unless_refused (sheet_answer n s) (take 8 (drop 16 s)) []

unfoldable pub image_part : ℕ → List ℕ → List ℕ
image_part n s = unless_refused (sheet_answer n s) (drop 24 s) []

-- ---- the way back

-- the sheet of a number and an image
unfoldable pub sheet_of : ℕ → List ℕ → List ℕ → List ℕ
sheet_of n number img = header_of n ++ number ++ img

-- 1, 10 for a buffer that is not as long as a sheet, 12 for an image that no sheet holds
unfoldable pub write_answer : ℕ → List ℕ → List ℕ → Outcome Done
write_answer n img buffer =
    judge (is_image n img) 1 (judge (eqb (length buffer) (sheet_size n)) 10 (judge (gaps_blank n img) 12 (accepted done)))

unfoldable pub write_buffer : ℕ → List ℕ → List ℕ → List ℕ → List ℕ
write_buffer n number img buffer = unless_refused (write_answer n img buffer) (sheet_of n number img) buffer

pub record SheetLaws (n : ℕ) : Type 0 where
  -- a sheet that was written is a sheet, and parsing it gives back the number and the image
  pub written : (number img : List ℕ) → length number ≡ 8 → is_image n img ≡ true → gaps_blank n img ≡ true
      → is_sheet n (sheet_of n number img) ≡ true
  pub number_back : (number img : List ℕ) → length number ≡ 8 → is_image n img ≡ true → gaps_blank n img ≡ true
      → number_part n (sheet_of n number img) ≡ number
  pub image_back : (number img : List ℕ) → length number ≡ 8 → is_image n img ≡ true → gaps_blank n img ≡ true
      → image_part n (sheet_of n number img) ≡ img
  -- a sheet is the one that its number and its image make; they are of the right lengths
  pub whole : (s : List ℕ) → is_sheet n s ≡ true → sheet_of n (number_part n s) (image_part n s) ≡ s
  pub number_length : (s : List ℕ) → is_sheet n s ≡ true → length (number_part n s) ≡ 8
  pub image_length : (s : List ℕ) → is_sheet n s ≡ true → is_image n (image_part n s) ≡ true
