-- The number read's state and its bytes.
use Prim.Native.Nat.{ℕ}
use mathlib.Core.Path.{◌≡◌, refl}
use mathlib.Core.Logic.{◌≢◌}
use mathlib.Core.Bool.{true, false, ◌&&◌}
use mathlib.Core.List.{List, [], ◌++◌}
use native.Mathlib.Omega.{arith}
use lib.ListN.{length, get_or, replicate}
use borrow.Author.Tests.{ne_eqb}
use Rattle.master_number.specs.declared.Phase.{Phase}
use Rattle.master_number.specs.declared.Phase.TheVariants.{Begin, Presence, Command, Receive, Closing, Done as Ended, Stopped}
use Rattle.master_number.specs.declared.NumberStop.TheVariants.{NoPresence, Crc8, Family}
use Rattle.master_number.specs.declared.NumberRead.{NumberRead}
use Rattle.plug_fields.specs.Fields.{padded, same, rest_at, is_copy, value_of}
use Rattle.plug_master_packing.specs.Number.{phase_bytes, number_stop_of, phase_of, number_at, number_none, number_bytes, number_read_of, is_number_state, NumberPacking}
use Rattle.plug_master_packing.specs.Code.Number.{stop_own, phase_own}
use Rattle.plug_fields.proofs.Laws.{same_tag, same_not, same_own, same_two, Laws, laws}

phase_back : (p : Phase) (fields rest : List ℕ) → phase_of ((padded 8 (phase_bytes p) ++ fields) ++ rest) ≡ p
unfolding phase_bytes phase_of number_stop_of value_of
phase_back Begin fields rest = refl
phase_back Presence fields rest = refl
phase_back (Command i) fields rest = refl
phase_back (Receive k left register) fields rest = refl
phase_back Closing fields rest = refl
phase_back Ended fields rest = refl
phase_back (Stopped NoPresence) fields rest = refl
phase_back (Stopped Crc8) fields rest = refl
phase_back (Stopped Family) fields rest = refl

-- ---- whether the phase's bytes are its own, by its tag

abbrev at : List ℕ → ℕ → ℕ
at b i = get_or b i 0

pub own_0 : (b : List ℕ) → at b 0 ≡ 0 → phase_own b ≡ same 1 (replicate 7 0) b
unfolding phase_own phase_bytes phase_of
own_0 b e = rw (e, same_tag b 0 e)

pub own_1 : (b : List ℕ) → at b 0 ≡ 1 → phase_own b ≡ same 1 (replicate 7 0) b
unfolding phase_own phase_bytes phase_of
own_1 b e = rw (e, same_tag b 0 e)

pub own_2 : (b : List ℕ) → at b 0 ≡ 2 → phase_own b ≡ same 2 (replicate 6 0) b
unfolding phase_own phase_bytes phase_of
own_2 b e = rw (e, same_tag b 0 e, same_own b 1)

pub own_3 : (b : List ℕ) → at b 0 ≡ 3 → phase_own b ≡ same 4 (replicate 4 0) b
unfolding phase_own phase_bytes phase_of
own_3 b e = rw (e, same_tag b 0 e, same_own b 1, same_own b 2, same_own b 3)

pub own_4 : (b : List ℕ) → at b 0 ≡ 4 → phase_own b ≡ same 1 (replicate 7 0) b
unfolding phase_own phase_bytes phase_of
own_4 b e = rw (e, same_tag b 0 e)

pub own_5 : (b : List ℕ) → at b 0 ≡ 5 → phase_own b ≡ same 1 (replicate 7 0) b
unfolding phase_own phase_bytes phase_of
own_5 b e = rw (e, same_tag b 0 e)

pub own_6 : (b : List ℕ) → at b 0 ≡ 6 → phase_own b ≡ (stop_own (at b 1) (at b 2) && same 3 (replicate 5 0) b)
unfolding stop_own phase_own phase_bytes phase_of
own_6 b e = rw (e, same_tag b 0 e, same_two b 1)

pub own_none : (b : List ℕ) → at b 0 ≢ 0 → at b 0 ≢ 1 → at b 0 ≢ 2 → at b 0 ≢ 3 → at b 0 ≢ 4 → at b 0 ≢ 5 → at b 0 ≢ 6 → phase_own b ≡ false
unfolding phase_own phase_bytes phase_of
own_none b d0 d1 d2 d3 d4 d5 d6 =
    rw (ne_eqb _ _ d1, ne_eqb _ _ d2, ne_eqb _ _ d3, ne_eqb _ _ d4, ne_eqb _ _ d5, ne_eqb _ _ d6, same_not b 0 d0)

pub ruleset phase_rows = (own_0, own_1, own_2, own_3, own_4, own_5, own_6, own_none)

-- ---- states

number : Laws 8 8 (λ s. phase_bytes s.phase) (λ s. []) (λ s. s.bytes) (λ b. number_at b (phase_of b)) number_none
unfolding number_bytes
number = laws _ _ _ _ _ _ _ (omega arith) (λ b. refl) refl back
  where
    back : (s : NumberRead) → rest_at 8 (number_bytes s) ≡ s.bytes → number_at (number_bytes s) (phase_of (number_bytes s)) ≡ s
    back s rest = simp (phase_back s.phase (padded 8 []) s.bytes, rest)

pub number_held : (b : List ℕ) → length b ≡ 24 → number_read_of b ≡ number_at b (phase_of b)
unfolding number_read_of
number_held b e = number.held b e

pub number_judged_lem : (b : List ℕ) → length b ≡ 24 → is_number_state b ≡ (phase_own b && same 8 (replicate 8 0) b)
unfolding is_number_state phase_own number_read_of number_bytes
number_judged_lem b e = number.judged b e

-- bytes of another length
pub number_other : (b : List ℕ) → length b ≢ 24 → number_read_of b ≡ number_none
unfolding number_read_of
number_other b d = rw (ne_eqb _ _ d)

pub number_refused : (b : List ℕ) → length b ≢ 24 → is_number_state b ≡ false
unfolding is_number_state is_copy
number_refused b d = rw (ne_eqb _ _ d)

pub ruleset state_rows = (number_held, number_judged_lem, number_other, number_refused)

pub number_packing : NumberPacking
unfolding number_bytes number_read_of is_number_state
number_packing = number.inverse

pub number_back : (s : NumberRead) → length s.bytes ≡ 8 → number_read_of (number_bytes s) ≡ s
number_back s e = number_packing.state_back s e

pub number_kept : (s : NumberRead) → length s.bytes ≡ 8 → is_number_state (number_bytes s) ≡ true
number_kept s e = number_packing.state_kept s e
