-- All session laws at the DS2505's 64 pages.
use Prim.Native.Nat.{ℕ, suc, ◌+◌, ◌/◌, ◌%◌, ◌<◌, ◌≤◌}
use mathlib.Core.Path.{◌≡◌, refl}
use mathlib.Core.Bool.{true}
use mathlib.Core.List.{List}
use native.Mathlib.Omega.{arith}
use native.Mathlib.Nat.{mod-lt}
use lib.Dec.{ltb, lit<, lit≤}
use borrow.Author.Tests.{lt-ltb, le-ltb}
use Rattle.chip_stage.specs.Limits.{limit_of, is_address, address_bits, kept_address}
use Rattle.chip_function_laws.specs.Addresses.{AddressLaws}
use Rattle.chip_function_laws.proofs.Addresses.{address_laws}
use Rattle.chip_session_laws.specs.Laws.{StateLaws, RomSessionLaws, ReadSessionLaws, WriteLaws, SilenceLaws, NoticeLaws, Ds2505Starts}
use Rattle.chip_session_laws.specs.Ranges.{ChipRanges}
use Rattle.chip_session_laws.specs.Table.{after_data, after_redirection_law, after_used, data_open, redirection_open, data_field, redirection_field}
use Rattle.chip_session_laws.specs.Table.{used_field, data_closed, redirection_closed, PulseLaws, ByteLaws, GapLaws, Ds2505Rows}
use Rattle.chip_session_laws.specs.Written.{WrittenLaws}
use Rattle.chip_session_laws.proofs.Gaps.{gap_laws}
use Rattle.chip_session_laws.proofs.Notices.{notice_laws}
use Rattle.chip_session_laws.proofs.Ranges.{chip_ranges}
use Rattle.chip_session_laws.proofs.States.{state_laws}
use Rattle.chip_session_laws.proofs.Sessions.{rom_sessions, read_sessions, silences}
use Rattle.chip_session_laws.proofs.Table.{byte_laws, pulse_laws}
use Rattle.chip_session_laws.proofs.Writes.{write_sessions}
use Rattle.chip_session_laws.proofs.Written.{written_laws}

pub states : StateLaws 64
states = state_laws 64 refl

-- 2,368 bytes, data addresses to 7FFh, status addresses to 13Fh
pub ranges : ChipRanges 64 2368 0x800 0x140
ranges = chip_ranges 64 refl

pub roms : RomSessionLaws 64
roms = rom_sessions 64 refl

pub reads : ReadSessionLaws 64
reads = read_sessions 64 refl (lit≤ tt)

pub writes : WriteLaws 64
writes = write_sessions 64 refl

pub silence : SilenceLaws 64
silence = silences 64 refl

pub notices : NoticeLaws 64
notices = notice_laws 64 (lit≤ tt) refl

-- ---- eleven bits are kept

pub addresses : AddressLaws 64
addresses = address_laws 64 (lit≤ tt)

data_has : (a : ℕ) → ltb (a % 0x800) 0x800 ≡ true
data_has a = lt-ltb (a % 0x800) 0x800 (mod-lt a (lit< tt))

pub ds2505_starts : Ds2505Starts
unfolding is_address limit_of kept_address address_bits
ds2505_starts =
    record {
      kept = λ a. refl;
      memory = λ c a ok sel lt. rw (data_has a) at (reads.memory c a ok sel lt);
      extended = λ c a ok sel lt. rw (data_has a) at (reads.extended c a ok sel lt);
      status = λ c a ok sel lt le. rw (lt-ltb (a % 0x800) 0x140 le) at (reads.status c a ok sel lt);
      silent_status = λ c a ok sel lt ge. rw (le-ltb (a % 0x800) 0x140 ge) at (reads.status c a ok sel lt);
    }

-- ---- the paper's table and the gaps

pub bytes : ByteLaws 64
bytes = byte_laws 64

pub gaps : GapLaws 64
gaps = gap_laws 64 refl

pub pulses : PulseLaws 64
pulses = pulse_laws 64 (lit≤ tt)

pub sessions : WrittenLaws 64
sessions = written_laws 64 refl (lit≤ tt)

pub ds2505_rows : (img : List ℕ) → Ds2505Rows img
ds2505_rows img =
    record {
      page_data = λ a e. data_open {a = a} (rw (i a) e);
      page_protected = λ a e. data_closed {a = a} (rw (i a) e);
      redirection = λ p le e. redirection_open p (omega arith) refl e;
      redirection_protected = λ p le e. redirection_closed p (omega arith) refl e;
      data_bits_law = λ a le. data_field (lt a le);
      redirection_bits = λ a ge le. redirection_field ge (lt a le);
      used_bits = λ a ge le. used_field ge (lt a le);
      first_gap = λ a ge le. after_data ge (lt a le);
      second_gap = λ a ge le. after_redirection_law ge (lt a le);
      third_gap = λ a ge le. after_used ge (lt a le);
    }
  where
    i : (a : ℕ) → 0x000 + a / 32 / 8 ≡ a / 32 / 8
    i a = omega arith

    lt : {b : ℕ} (a : ℕ) → a ≤ b → a < suc b
    lt a le = omega arith
