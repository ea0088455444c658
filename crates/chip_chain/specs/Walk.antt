-- The walk from a page, as a computation. It reads at most n redirection bytes, n the page count; specs/Chain.antt says what its
-- verdict means without that bound, and proofs/Walks.antt that the two agree.
use Rattle.std.specs.Prelude.{ℕ, zero, suc, ◌+◌, ◌-◌, Bool, not, cond, List, eqb, ltb}
use Rattle.base_types.specs.declared.verdict.Verdict.{Verdict}
use Rattle.base_types.specs.Verdict.{final, loops, outside}
use Rattle.chip_memory.specs.Image.{redirection_of}
use Rattle.base_types.specs.Scan.{count}

-- the page that a redirection byte names
abbrev pub named_by : ℕ → ℕ
named_by byte = 255 - byte

-- From page p, after so many hops, with k bytes left to read; b is the redirection byte of each page, and n the page count.
unfoldable pub walk_from : (ℕ → ℕ) → ℕ → ℕ → ℕ → ℕ → Verdict
walk_from b n zero p hops = loops
walk_from b n (suc k) p hops =
    let onward : Verdict = walk_from b n k (named_by (b p)) (hops + 1) in
    cond (eqb (b p) 255) (final p hops)
    (cond (ltb (named_by (b p)) n) onward (outside (named_by (b p))))

abbrev pub walk_by : (ℕ → ℕ) → ℕ → ℕ → Verdict
walk_by b n p = walk_from b n n p 0

-- the walk over an image
unfoldable pub walk_of : ℕ → List ℕ → ℕ → Verdict
walk_of n img p = walk_by (redirection_of n img) n p

-- page p is redirected
abbrev pub is_redirected : ℕ → List ℕ → ℕ → Bool
is_redirected n img p = not (eqb (redirection_of n img p) 255)

abbrev pub redirected_count : ℕ → List ℕ → ℕ
redirected_count n img = count (is_redirected n img) n 0
