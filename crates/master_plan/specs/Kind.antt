-- What an update goes by: the mode of its writes, how the chip is selected, how T is chosen. How many events it has follows from the
-- parts of its plan.
use Rattle.std.specs.Prelude.{ℕ, ◌+◌, ◌*◌, ◌≡◌, List, [], ◌∷◌, length}
use Rattle.base_types.specs.declared.write_mode.WriteMode.{WriteMode}
use Rattle.base_types.specs.declared.write_mode.WriteMode.TheVariants.{Ordinary, Quick}
use Rattle.master_plan.specs.declared.kind.Selection.{Selection}
use Rattle.master_plan.specs.declared.kind.Selection.TheVariants.{SkipRom}
use Rattle.master_plan.specs.declared.kind.Placement.TheVariants.{LowestFree}
use Rattle.master_plan.specs.declared.kind.UpdateKind.{UpdateKind}

-- the kinds there are, one for each mode
abbrev pub kind_of : WriteMode → UpdateKind
kind_of mode = record { mode = mode; selection = SkipRom; placement = LowestFree }

abbrev pub ordinary : UpdateKind
ordinary = kind_of Ordinary

abbrev pub quick : UpdateKind
quick = kind_of Quick

-- the ROM command that selects the chip, with what follows it, as bytes
abbrev pub selecting : Selection → List ℕ
selecting SkipRom = 0xCC ∷ []

-- ---- how many events there are

-- before the first byte of a write: a reset, the bytes that select, the command and two bytes of address
abbrev pub head_count : UpdateKind → ℕ
head_count kind = 1 + 8 * length (selecting kind.selection) + 24

-- the CRC of a byte
abbrev pub crc_count : WriteMode → ℕ
crc_count Ordinary = 16
crc_count Quick = 0

-- a byte: sent, its CRC, the pulse, read back
abbrev pub byte_count : WriteMode → ℕ
byte_count mode = 8 + crc_count mode + 1 + 8

-- a write of so many bytes
abbrev pub write_count : UpdateKind → ℕ → ℕ
write_count kind bytes = head_count kind + byte_count kind.mode * bytes

-- an update: a bitmap byte, a page, a redirection byte, the closing reset
abbrev pub total_of : UpdateKind → ℕ
total_of kind = write_count kind 1 + write_count kind 32 + write_count kind 1 + 1

-- the number, counted from 1, of the event that makes the new page readable: the pulse of the third write
abbrev pub shown_of : UpdateKind → ℕ
shown_of kind = write_count kind 1 + write_count kind 32 + head_count kind + 8 + crc_count kind.mode + 1

-- the papers' figures
pub record Counts : Type 0 where
  -- document 01: 66 + 1,089 + 66 + 1 = 1,222 events, and event 1,213 makes the new page readable
  pub ordinary_writes : (write_count ordinary 1 ≡ 66) × (write_count ordinary 32 ≡ 1089)
  pub ordinary_total : (total_of ordinary ≡ 66 + 1089 + 66 + 1) × (total_of ordinary ≡ 1222)
  pub ordinary_shown : shown_of ordinary ≡ 1213
  -- M-101: 50 + 577 + 50 + 1 = 678 events, and event 669
  pub quick_writes : (write_count quick 1 ≡ 50) × (write_count quick 32 ≡ 577)
  pub quick_total : (total_of quick ≡ 50 + 577 + 50 + 1) × (total_of quick ≡ 678)
  pub quick_shown : shown_of quick ≡ 669
