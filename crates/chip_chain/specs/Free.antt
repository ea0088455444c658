-- A free page: it is 1 to the last, its bitmap bit is 1, its data are all FFh and unprotected, its redirection byte is FFh and no
-- redirection byte names it.
use Rattle.std.specs.Prelude.{ℕ, ◌+◌, ◌*◌, ◌/◌, ◌%◌, ◌^◌, ◌≤◌, ◌<◌, ◌≡◌, Bool, true, false, not, ◌&&◌, List, Option, Some, None, eqb, get_or}
use Rattle.base_types.specs.declared.address.Page.{Page}
use Rattle.chip_memory.specs.declared.layout.Field.TheVariants.{DataProtection, UsedPages}
use Rattle.chip_memory.specs.Image.{redirection_of, page_bytes, page_bit}
use Rattle.chip_memory.specs.Page.{is_blank}
use Rattle.base_types.specs.Scan.{every, count}
use Rattle.chip_chain.specs.Scan.{first}
use Rattle.chip_chain.specs.Walk.{named_by}

-- a redirection byte names page p
abbrev pub names : ℕ → ℕ → Bool
names byte p = not (eqb byte 255) && eqb (named_by byte) p

-- no redirection byte names page p
unfoldable pub is_unnamed : ℕ → List ℕ → ℕ → Bool
is_unnamed n img p = every (λ (q : ℕ). not (names (redirection_of n img q) p)) n 0

-- page p, one of the n pages, is free
unfoldable pub is_free : ℕ → List ℕ → ℕ → Bool
is_free n img p =
    not (eqb p 0)
    && (page_bit n UsedPages img p
    && (page_bit n DataProtection img p
    && (eqb (redirection_of n img p) 255
    && (is_blank (page_bytes img p)
    && is_unnamed n img p))))

-- page p is free and is not the other one
unfoldable pub is_free_other : ℕ → List ℕ → ℕ → ℕ → Bool
is_free_other n img other p = not (eqb p other) && is_free n img p

-- the lowest free page other than the one given
unfoldable pub lowest_free : ℕ → List ℕ → ℕ → Option Page
lowest_free n img other = first (is_free_other n img other) n 0

abbrev pub free_count : ℕ → List ℕ → ℕ
free_count n img = count (is_free n img) n 0

-- ---- the same in words

pub record Free (n : ℕ) (img : List ℕ) (p : ℕ) : Type 0 where
  pub low : 1 ≤ p
  pub unused : page_bit n UsedPages img p ≡ true
  pub unprotected : page_bit n DataProtection img p ≡ true
  pub valid : redirection_of n img p ≡ 255
  pub blank : is_blank (page_bytes img p) ≡ true
  pub unnamed : (q : ℕ) → q < n → names (redirection_of n img q) p ≡ false

-- t is free and not the other page, and each free page below it is the other one
pub record Lowest (n : ℕ) (img : List ℕ) (other t : ℕ) : Type 0 where
  pub on_chip : t < n
  pub free : Free n img t
  pub apart : t ≡ other → ⊥
  pub below : (p : ℕ) → p < t → Free n img p → p ≡ other

-- both agree
pub record FreeLaws (n : ℕ) (img : List ℕ) : Type 0 where
  pub free_means : (p : ℕ) → is_free n img p ≡ true → Free n img p
  pub means_free : (p : ℕ) → Free n img p → is_free n img p ≡ true
  pub found_means : (other t : ℕ) → lowest_free n img other ≡ Some (record { 0 = t }) → Lowest n img other t
  -- the bits and the byte that this speaks of, in plain numbers: the status stands behind the 32n bytes of data
  pub used_bit : (p : ℕ) → page_bit n UsedPages img p ≡ eqb (get_or img (32 * n + (0x40 + p / 8)) 0 / 2 ^ (p % 8) % 2) 1
  pub protection_bit : (p : ℕ) → page_bit n DataProtection img p ≡ eqb (get_or img (32 * n + (0x00 + p / 8)) 0 / 2 ^ (p % 8) % 2) 1
  pub redirection_byte : (p : ℕ) → redirection_of n img p ≡ get_or img (32 * n + (0x100 + p)) 0
  pub nothing_means : (other : ℕ) → lowest_free n img other ≡ None → (p : ℕ) → p < n → Free n img p → p ≡ other
