-- The page read's state and its bytes.
use Prim.Native.Nat.{ℕ, ◌<◌}
use mathlib.Core.Path.{◌≡◌, refl}
use mathlib.Core.Logic.{◌≢◌}
use mathlib.Core.Bool.{true, false, ◌&&◌}
use mathlib.Core.List.{List, [], ◌∷◌, ◌++◌}
use native.Mathlib.Omega.{arith}
use lib.ListN.{length, get_or, set, replicate}
use borrow.Author.Tests.{ne_eqb}
use Rattle.master_page.specs.declared.Part.TheVariants.{Redirection, RedirectionCrc, Data, DataCrc}
use Rattle.master_page.specs.declared.Phase.{Phase}
use Rattle.master_page.specs.declared.Phase.TheVariants.{Begin, Presence, Command, Receive, Closing, Done as Ended, Stopped}
use Rattle.master_page.specs.declared.PageStop.TheVariants.{PageNumber, Loop, Outside, Crc16, NoPresence}
use Rattle.master_page.specs.declared.PageRead.{PageRead}
use Rattle.plug_fields.specs.Fields.{padded, front, same, rest_at, is_copy, value_of}
use Rattle.plug_master_packing.specs.Page.{part_bytes, part_of, phase_bytes, page_stop_of, phase_of, page_at, page_none, page_read_bytes, page_read_of, is_page_state, PagePacking}
use Rattle.plug_master_packing.specs.Code.Page.{part_own, stop_own, phase_own}
use Rattle.plug_fields.proofs.Laws.{stored, field, same_tag, same_not, same_own, same_two, low_joined, high_joined, halves, Laws, laws}

phase_back : (p : Phase) (fields rest : List ℕ) → phase_of ((padded 8 (phase_bytes p) ++ fields) ++ rest) ≡ p
unfolding phase_bytes phase_of part_bytes part_of page_stop_of value_of
phase_back Begin fields rest = refl
phase_back Presence fields rest = refl
phase_back (Command i) fields rest = refl
phase_back (Receive Redirection left register) fields rest = simp halves
phase_back (Receive (RedirectionCrc b) left register) fields rest = simp halves
phase_back (Receive (Data k) left register) fields rest = simp halves
phase_back (Receive DataCrc left register) fields rest = simp halves
phase_back Closing fields rest = refl
phase_back Ended fields rest = refl
phase_back (Stopped PageNumber) fields rest = refl
phase_back (Stopped Loop) fields rest = refl
phase_back (Stopped (Outside x)) fields rest = refl
phase_back (Stopped Crc16) fields rest = refl
phase_back (Stopped NoPresence) fields rest = refl

-- ---- whether the bytes of what stands at a place are its own, by its tag

abbrev at : List ℕ → ℕ → ℕ
at b i = get_or b i 0

pub part_0 : (b : List ℕ) → at b 4 ≡ 0 → part_own b ≡ same 5 (replicate 3 0) b
unfolding part_own part_bytes part_of
part_0 b e = rw (e, same_tag b 4 e)

pub part_1 : (b : List ℕ) → at b 4 ≡ 1 → part_own b ≡ same 6 (replicate 2 0) b
unfolding part_own part_bytes part_of
part_1 b e = rw (e, same_tag b 4 e, same_own b 5)

pub part_2 : (b : List ℕ) → at b 4 ≡ 2 → part_own b ≡ same 6 (replicate 2 0) b
unfolding part_own part_bytes part_of
part_2 b e = rw (e, same_tag b 4 e, same_own b 5)

pub part_3 : (b : List ℕ) → at b 4 ≡ 3 → part_own b ≡ same 5 (replicate 3 0) b
unfolding part_own part_bytes part_of
part_3 b e = rw (e, same_tag b 4 e)

pub part_none : (b : List ℕ) → at b 4 ≢ 0 → at b 4 ≢ 1 → at b 4 ≢ 2 → at b 4 ≢ 3 → part_own b ≡ false
unfolding part_own part_bytes part_of
part_none b d0 d1 d2 d3 = rw (ne_eqb _ _ d0, ne_eqb _ _ d1, ne_eqb _ _ d2, same_not b 4 d3)

pub ruleset part_rows = (part_0, part_1, part_2, part_3, part_none)

pub own_0 : (b : List ℕ) → at b 0 ≡ 0 → phase_own b ≡ same 1 (replicate 7 0) b
unfolding phase_own phase_bytes phase_of
own_0 b e = rw (e, same_tag b 0 e)

pub own_1 : (b : List ℕ) → at b 0 ≡ 1 → phase_own b ≡ same 1 (replicate 7 0) b
unfolding phase_own phase_bytes phase_of
own_1 b e = rw (e, same_tag b 0 e)

pub own_2 : (b : List ℕ) → at b 0 ≡ 2 → phase_own b ≡ same 2 (replicate 6 0) b
unfolding phase_own phase_bytes phase_of
own_2 b e = rw (e, same_tag b 0 e, same_own b 1)

pub own_3 : (b : List ℕ) → at b 0 ≡ 3 → at b 2 < 256 → phase_own b ≡ part_own b
unfolding part_own phase_own phase_bytes phase_of
own_3 b e h2 = rw (e, same_tag b 0 e, same_own b 1, low_joined, same_own b 2, high_joined, same_own b 3)

pub own_4 : (b : List ℕ) → at b 0 ≡ 4 → phase_own b ≡ same 1 (replicate 7 0) b
unfolding phase_own phase_bytes phase_of
own_4 b e = rw (e, same_tag b 0 e)

pub own_5 : (b : List ℕ) → at b 0 ≡ 5 → phase_own b ≡ same 1 (replicate 7 0) b
unfolding phase_own phase_bytes phase_of
own_5 b e = rw (e, same_tag b 0 e)

pub own_6 : (b : List ℕ) → at b 0 ≡ 6 → phase_own b ≡ (stop_own (at b 1) (at b 2) && same 3 (replicate 5 0) b)
unfolding stop_own phase_own phase_bytes phase_of
own_6 b e = rw (e, same_tag b 0 e, same_two b 1)

pub own_none : (b : List ℕ) → at b 0 ≢ 0 → at b 0 ≢ 1 → at b 0 ≢ 2 → at b 0 ≢ 3 → at b 0 ≢ 4 → at b 0 ≢ 5 → at b 0 ≢ 6 → phase_own b ≡ false
unfolding phase_own phase_bytes phase_of
own_none b d0 d1 d2 d3 d4 d5 d6 =
    rw (ne_eqb _ _ d1, ne_eqb _ _ d2, ne_eqb _ _ d3, ne_eqb _ _ d4, ne_eqb _ _ d5, ne_eqb _ _ d6, same_not b 0 d0)

pub ruleset phase_rows = (own_0, own_1, own_2, own_3, own_4, own_5, own_6, own_none)

-- ---- states

page : Laws 32 8 (λ s. phase_bytes s.phase) (λ s. s.page.0 ∷ s.hops ∷ []) (λ s. s.bytes) (λ b. page_at b (phase_of b)) page_none
unfolding page_read_bytes
page = laws _ _ _ _ _ _ _ (omega arith) (λ b. refl) refl back
  where
    back : (s : PageRead) → rest_at 32 (page_read_bytes s) ≡ s.bytes → page_at (page_read_bytes s) (phase_of (page_read_bytes s)) ≡ s
    back s rest =
        let enum = phase_bytes s.phase in
        simp (phase_back s.phase, field 8 0 enum, field 8 1 enum, rest)

pub page_held_lem : (b : List ℕ) → length b ≡ 48 → page_read_of b ≡ page_at b (phase_of b)
unfolding page_read_of
page_held_lem b e = page.held b e

pub page_judged_lem : (b : List ℕ) → length b ≡ 48 → is_page_state b ≡ (phase_own b && same 10 (replicate 6 0) b)
unfolding is_page_state phase_own page_read_of page_read_bytes
page_judged_lem b e = rw (page.judged b e, same_own b 8, same_own b 9)

-- bytes of another length
pub page_other : (b : List ℕ) → length b ≢ 48 → page_read_of b ≡ page_none
unfolding page_read_of
page_other b d = rw (ne_eqb _ _ d)

pub page_refused : (b : List ℕ) → length b ≢ 48 → is_page_state b ≡ false
unfolding is_page_state is_copy
page_refused b d = rw (ne_eqb _ _ d)

pub ruleset state_rows = (page_held_lem, page_judged_lem, page_other, page_refused)

pub page_packing : PagePacking
unfolding page_read_bytes page_read_of is_page_state
page_packing = page.inverse

pub page_back : (s : PageRead) → length s.bytes ≡ 32 → page_read_of (page_read_bytes s) ≡ s
page_back s e = page_packing.state_back s e

pub page_kept : (s : PageRead) → length s.bytes ≡ 32 → is_page_state (page_read_bytes s) ≡ true
page_kept s e = page_packing.state_kept s e

-- the fields after the phase
pub page_stored : (p : Phase) (x y : ℕ) → set (set (front 8 (phase_bytes p) []) 8 x) 9 y ≡ front 8 (phase_bytes p) (x ∷ y ∷ [])
page_stored p x y = rw (stored 8 0 x (phase_bytes p), stored 8 1 y (phase_bytes p))
