-- What a page reads as, and the images that an update goes through, over the page count n.
use Rattle.std.specs.Prelude.{ℕ, zero, suc, ◌+◌, ◌-◌, ◌*◌, ◌/◌, cond, List, [], eqb, get_or, set}
use Rattle.base_types.specs.declared.verdict.Verdict.{Verdict}
use Rattle.base_types.specs.declared.verdict.Verdict.TheVariants.{Final, Loop, Outside}
use Rattle.chip_memory.specs.declared.layout.Field.TheVariants.{UsedPages}
use Rattle.chip_memory.specs.Layout.{first_address, status_index, redirection_bytes}
use Rattle.chip_memory.specs.Image.{page_bytes}
use Rattle.base_types.specs.Verdict.{final}
use Rattle.chip_chain.specs.Walk.{walk_of}

-- what a page reads as: its walk's verdict, with all that it names, and under Final that page's 32 bytes
pub record PageReading : Type 0 where
  pub verdict : Verdict
  pub bytes : List ℕ

abbrev pub bytes_under : List ℕ → Verdict → List ℕ
bytes_under img (Final q hops) = page_bytes img q.0
bytes_under img Loop = []
bytes_under img (Outside x) = []

abbrev pub read_of : ℕ → List ℕ → ℕ → PageReading
read_of n img p = record { verdict = walk_of n img p; bytes = bytes_under img (walk_of n img p) }

-- ---- the images of an update that puts the bytes new into page t in the place of page l

-- where the redirection byte of page p stands, and the byte with the bitmap bit of page p
abbrev pub redirection_index : ℕ → ℕ → ℕ
redirection_index n p = status_index n (redirection_bytes + p)

abbrev pub bitmap_index : ℕ → ℕ → ℕ
bitmap_index n p = status_index n (first_address UsedPages + p / 8)

-- img with the first k bytes of new stored from index at on
unfoldable pub stored_from : List ℕ → ℕ → List ℕ → ℕ → List ℕ
stored_from img at new zero = img
stored_from img at new (suc k) = set (stored_from img at new k) (at + k) (get_or new k 0)

-- v is the bitmap byte with t's bit cleared
abbrev pub bit_cleared : ℕ → List ℕ → ℕ → ℕ → List ℕ
bit_cleared n img t v = set img (bitmap_index n t) v

abbrev pub page_filled : ℕ → List ℕ → ℕ → ℕ → List ℕ → ℕ → List ℕ
page_filled n img t v new k = stored_from (bit_cleared n img t v) (32 * t) new k

abbrev pub linked : ℕ → List ℕ → ℕ → ℕ → ℕ → List ℕ → List ℕ
linked n img l t v new = set (page_filled n img t v new 32) (redirection_index n l) (255 - t)

-- what a page reads as once the update shows: a page that ended at l reads Final t, one hop more, and the new bytes; any other as before
abbrev pub moved_by : ℕ → ℕ → List ℕ → PageReading → Verdict → PageReading
moved_by l t new r (Final f hops) = cond (eqb f.0 l) (record { verdict = final t (hops + 1); bytes = new }) r
moved_by l t new r Loop = r
moved_by l t new r (Outside x) = r

abbrev pub moved : ℕ → ℕ → List ℕ → PageReading → PageReading
moved l t new r = moved_by l t new r r.verdict
