-- What the walk's verdict means: the pages that the chain of redirection bytes meets one after the other, however far one goes.
-- Here b is the redirection byte of each page, and n the page count.
use Rattle.std.specs.Prelude.{ℕ, zero, suc, ◌<◌, ◌≤◌, List, ◌↔◌, ◌≡◌}
use Rattle.base_types.specs.Verdict.{final, loops, outside}
use Rattle.chip_memory.specs.Image.{redirection_of}
use Rattle.chip_chain.specs.Walk.{named_by, walk_of}

-- the page met after k hops from p
abbrev pub met : (ℕ → ℕ) → ℕ → ℕ → ℕ
met b p zero = p
met b p (suc k) = met b (named_by (b p)) k

-- page p is redirected, to a page of the chip
pub record Inside (b : ℕ → ℕ) (n p : ℕ) : Type 0 where
  pub redirected : b p ≡ 255 → ⊥
  pub below : named_by (b p) < n

-- the chain from p ends after h hops, at the valid page f
pub record EndsFinal (b : ℕ → ℕ) (n p f h : ℕ) : Type 0 where
  pub there : met b p h ≡ f
  pub valid : b f ≡ 255
  pub before : (k : ℕ) → k < h → Inside b n (met b p k)

-- the chain from p ends at a page whose byte names x, above the last page
pub record EndsOutside (b : ℕ → ℕ) (n p x : ℕ) : Type 0 where
  pub hops : ℕ
  pub redirected : b (met b p hops) ≡ 255 → ⊥
  pub named : named_by (b (met b p hops)) ≡ x
  pub beyond : n ≤ x
  pub before : (k : ℕ) → k < hops → Inside b n (met b p k)

-- the chain from p never ends
abbrev pub Endless : (ℕ → ℕ) → ℕ → ℕ → Type 0
Endless b n p = (k : ℕ) → Inside b n (met b p k)

-- the walk's verdict means what the chain says, from every page of the chip
pub record WalkLaws (n : ℕ) (img : List ℕ) (p : ℕ) : Type 0 where
  pub final_means : (f h : ℕ) → (walk_of n img p ≡ final f h) ↔ EndsFinal (redirection_of n img) n p f h
  pub outside_means : (x : ℕ) → (walk_of n img p ≡ outside x) ↔ EndsOutside (redirection_of n img) n p x
  pub loop_means : (walk_of n img p ≡ loops) ↔ Endless (redirection_of n img) n p
  -- no more hops than pages other than the first
  pub final_hops : (f h : ℕ) → walk_of n img p ≡ final f h → h < n
