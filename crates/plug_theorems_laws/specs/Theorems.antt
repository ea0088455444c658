-- Every theorem that docs/ cites, with all its premises. What each record says is in the specs/ of its own crate; contracts, which tie
-- the code to the definitions that these laws speak of, stand above the functions in src/. n is the page count.
use Rattle.std.specs.Prelude.{ℕ, ◌+◌, ◌*◌, ◌%◌, ◌<◌, ◌≤◌, ℤ, ◌≡◌, Bool, List}
use Rattle.base_types.specs.Refusal.{RefusalLaws}
use Rattle.base_crc.specs.Table.{TableLaws}
use Rattle.base_tenths.specs.Tenths.{TenthsLaws}
use Rattle.bus_events.specs.Codes.{CodeLaws}
use Rattle.bus_scripts.specs.Script.{ScriptLaws}
use Rattle.chip_chain.specs.Chain.{WalkLaws}
use Rattle.chip_chain.specs.Free.{FreeLaws}
use Rattle.chip_function_laws.specs.Addresses.{AddressLaws}
use Rattle.chip_entries.specs.Run.{Chip}
use Rattle.chip_session_laws.specs.Session.{Ready, Bytes}
use Rattle.chip_session_laws.specs.Laws.{StateLaws, RomSessionLaws, ReadSessionLaws, WriteLaws, SilenceLaws, NoticeLaws, Ds2505Starts}
use Rattle.chip_session_laws.specs.Ranges.{ChipRanges}
use Rattle.chip_session_laws.specs.Table.{PulseLaws, ByteLaws, GapLaws, Ds2505Rows}
use Rattle.chip_session_laws.specs.Written.{WrittenLaws}
use Rattle.master_number_laws.specs.Laws.{NumberLaws}
use Rattle.master_page_laws.specs.Laws.{PageLaws}
use Rattle.master_plan.specs.declared.kind.UpdateKind.{UpdateKind}
use Rattle.master_plan.specs.Kind.{Counts}
use Rattle.master_plan_laws.specs.Start.{StartLaws}
use Rattle.master_call_laws.specs.Calls.{CallLaws}
use Rattle.master_publisher_laws.specs.Demand.{Demand3Of}
use Rattle.plug_lookup_laws.specs.Outcome.{AnswerLaws}
use Rattle.plug_lookup_laws.specs.Superseding.{Superseding}
use Rattle.plug_sheet.specs.Stored.{SheetLaws}
use Rattle.plug_sheet.specs.List.{ListLaws}
use Rattle.plug_sheet.specs.Text.{DecimalLaws}
use Rattle.plug_chip_packing.specs.Chip.{ChipPacking}
use Rattle.plug_master_packing.specs.Number.{NumberPacking}
use Rattle.plug_master_packing.specs.Page.{PagePacking}
use Rattle.plug_master_packing.specs.Publisher.{PublisherPacking}
use Rattle.plug_call_laws.specs.Laws.{RunLaws}

-- a page count that the theorems hold of: the DS2505's 64 is one
pub record PageCount (n : ℕ) : Type 0 where
  pub whole : n % 8 ≡ 0
  pub least : 8 ≤ n
  pub most : n ≤ 256

pub record Theorems (n : ℕ) : Type 1 where
  -- Chains: what the walk's verdict means, and what a free page is, of every image.
  pub walk : (img : List ℕ) (p : ℕ) → p < n → WalkLaws n img p
  pub free : (img : List ℕ) → FreeLaws n img
  -- Demand 2, the chip: its replies and its image over whole sessions, in the data sheet's words; which states draw 2.
  pub states : StateLaws n
  pub ranges : ChipRanges n (32 * n + (0x100 + n)) (32 * n) (0x100 + n)
  pub rom_commands : RomSessionLaws n
  pub reads : ReadSessionLaws n
  pub writes : WriteLaws n
  pub whole_writes : WrittenLaws n
  pub pulses : PulseLaws n
  pub bytes : ByteLaws n
  pub gaps : GapLaws n
  pub silence : SilenceLaws n
  -- M-100: what is kept of a start address, and how a master notices.
  pub addresses : AddressLaws n
  pub notices : NoticeLaws n
  -- Demand 2, the reading masters: they play their scripts whatever the replies, and joined to a chip they tell what it holds.
  pub number_read : NumberLaws n
  pub page_read : PageLaws n
  -- The publisher: which updates its start accepts, and that its calls play the update's script.
  pub start : (kind : UpdateKind) (img new : List ℕ) (p : ℕ) → StartLaws n kind img new p
  pub calls : CallLaws n
  -- Demand 3, of every kind of update.
  pub demand_3 : Demand3Of n
  -- M-102: what the lookup's answers mean, and what they are while a page is superseded.
  pub lookup : (img : List ℕ) (latitude : ℤ) (column : ℕ) → AnswerLaws n img latitude column
  pub superseding : (kind : UpdateKind) (c : Chip) (new : List ℕ) (p : ℕ) (replies : List Bool)
      → Ready n c → Bytes new → Superseding n kind c new p replies
  -- The stored sheet and its list.
  pub sheet : SheetLaws n
  pub list : ListLaws n
  -- A caller in C: what a run tells are the answers of the master's calls.
  pub runs : RunLaws n

-- What does not speak of a page count, or speaks of the DS2505 in plain numbers.
pub record Figures : Type 1 where
  pub scripts : ScriptLaws
  pub refusals : RefusalLaws
  -- 66 + 1,089 + 66 + 1 = 1,222 events and the visible one 1,213; in the quick mode 678 and 669
  pub counts : Counts
  pub crc_table : (polynomial : ℕ) → TableLaws polynomial
  pub tenths : TenthsLaws
  pub event_codes : CodeLaws
  pub decimals : DecimalLaws
  pub packed_chip : ChipPacking
  pub packed_number : NumberPacking
  pub packed_page : PagePacking
  pub packed_publisher : PublisherPacking
  pub ds2505_ranges : ChipRanges 64 2368 0x800 0x140
  pub ds2505_starts : Ds2505Starts
  pub ds2505_rows : (img : List ℕ) → Ds2505Rows img

-- what is proved
pub record Proved : Type 1 where
  pub of_every_count : (n : ℕ) → PageCount n → Theorems n
  pub of_the_ds2505 : Theorems 64
  pub figures : Figures
