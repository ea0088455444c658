-- Where each theorem is proved.
use Prim.Native.Nat.{ℕ, ◌<◌}
use mathlib.Core.Path.{refl}
use native.Mathlib.Omega.{arith}
use lib.Dec.{lit≤}
use Rattle.base_types.proofs.Refusals.{refusal_laws}
use Rattle.base_crc.proofs.Table.{table_laws}
use Rattle.base_tenths.proofs.Laws.{tenths_laws}
use Rattle.bus_events.proofs.Codes.{code_laws}
use Rattle.bus_scripts.proofs.Scripts.{script_laws}
use Rattle.chip_chain.proofs.Walks.{walk_laws}
use Rattle.chip_chain.proofs.Frees.{free_laws}
use Rattle.chip_function_laws.proofs.Addresses.{address_laws}
use Rattle.chip_session_laws.proofs.States.{state_laws}
use Rattle.chip_session_laws.proofs.Ranges.{chip_ranges}
use Rattle.chip_session_laws.proofs.Sessions.{rom_sessions, read_sessions, silences}
use Rattle.chip_session_laws.proofs.Writes.{write_sessions}
use Rattle.chip_session_laws.proofs.Written.{written_laws}
use Rattle.chip_session_laws.proofs.Table.{byte_laws, pulse_laws}
use Rattle.chip_session_laws.proofs.Gaps.{gap_laws}
use Rattle.chip_session_laws.proofs.Notices.{notice_laws}
use Rattle.chip_session_laws.proofs.Ds2505.{ranges, ds2505_starts, ds2505_rows}
use Rattle.master_number_laws.proofs.Demand.{number_laws}
use Rattle.master_page_laws.proofs.Demand.{page_laws}
use Rattle.master_plan.proofs.Lengths.{counts}
use Rattle.master_plan_laws.proofs.Starts.{start_laws}
use Rattle.master_call_laws.proofs.Laws.{call_laws}
use Rattle.master_publisher_laws.proofs.Demand.{demand_3}
use Rattle.plug_lookup_laws.proofs.Outcome.{answer_laws}
use Rattle.plug_lookup_laws.proofs.Superseding.{superseding}
use Rattle.plug_sheet.proofs.Sheets.{sheet_laws}
use Rattle.plug_sheet.proofs.Texts.{list_laws, decimal_laws}
use Rattle.plug_chip_packing.proofs.Chip.{chip_packing}
use Rattle.plug_master_packing.proofs.Number.{number_packing}
use Rattle.plug_master_packing.proofs.Page.{page_packing}
use Rattle.plug_master_packing.proofs.Publisher.{publisher_packing}
use Rattle.plug_call_laws.proofs.Laws.{run_laws}
use Rattle.plug_theorems_laws.specs.Theorems.{PageCount, Theorems, Proved}

theorems : (n : ℕ) → PageCount n → Theorems n
theorems n count =
    let whole = count.whole in
    let some : 0 < n = omega arith in
    let two : 1 < n = omega arith in
    let most = count.most in
    record {
      walk = walk_laws n;
      free = free_laws n;
      states = state_laws n whole;
      ranges = chip_ranges n whole;
      rom_commands = rom_sessions n whole;
      reads = read_sessions n whole most;
      writes = write_sessions n whole;
      whole_writes = written_laws n whole most;
      pulses = pulse_laws n most;
      bytes = byte_laws n;
      gaps = gap_laws n whole;
      silence = silences n whole;
      addresses = address_laws n most;
      notices = notice_laws n most whole;
      number_read = number_laws n whole;
      page_read = page_laws n whole some most;
      start = λ kind img new p. start_laws n kind img new p;
      calls = call_laws n some;
      demand_3 = demand_3 n whole some most;
      lookup = answer_laws n two;
      superseding = λ kind c new p replies ok small. superseding n two kind c new p replies ok (demand_3 n whole some most kind c new p replies ok small);
      sheet = sheet_laws n;
      list = list_laws n;
      runs = run_laws n;
    }

pub proved : Proved
proved =
    record {
      of_every_count = theorems;
      of_the_ds2505 = theorems 64 (record { whole = refl; least = lit≤ tt; most = lit≤ tt });
      figures = record {
        scripts = script_laws;
        refusals = refusal_laws;
        counts = counts;
        crc_table = table_laws;
        tenths = tenths_laws;
        event_codes = code_laws;
        decimals = decimal_laws;
        packed_chip = chip_packing;
        packed_number = number_packing;
        packed_page = page_packing;
        packed_publisher = publisher_packing;
        ds2505_ranges = ranges;
        ds2505_starts = ds2505_starts;
        ds2505_rows = ds2505_rows;
      };
    }
