-- The publisher's state and its bytes.
use Prim.Native.Nat.{ℕ, ◌<◌}
use mathlib.Core.Path.{◌≡◌, refl, sym, ap}
use mathlib.Core.Bool.{true, false, ◌&&◌}
use mathlib.Core.List.{List, [], ◌∷◌, ◌++◌}
use native.Mathlib.Omega.{arith}
use lib.Dec.{ltb}
use borrow.Author.Tests.{ne_eqb}
use mathlib.Core.Logic.{◌≢◌}
use lib.ListN.{length, get_or, set, replicate}
use Rattle.base_types.specs.Refusal.{number_of}
use Rattle.base_types.proofs.Tests.{and_assoc}
use Rattle.base_types.specs.declared.write_mode.WriteMode.{WriteMode}
use Rattle.master_plan.specs.declared.kind.Selection.{Selection}
use Rattle.master_plan.specs.declared.kind.Selection.TheVariants.{SkipRom}
use Rattle.master_plan.specs.declared.kind.Placement.{Placement}
use Rattle.master_plan.specs.declared.kind.Placement.TheVariants.{LowestFree}
use Rattle.master_plan.specs.declared.kind.UpdateKind.{UpdateKind}
use Rattle.master_plan.specs.Kind.{kind_of}
use Rattle.master_publisher.specs.Stop.{publisher_refusal}
use Rattle.master_publisher.specs.declared.PublisherStop.{PublisherStop}
use Rattle.master_publisher.specs.declared.PublisherStop.TheVariants.{ImageLength, PageNumber, Loop, Outside, Crc16, ReadBack, NoFreePage}
use Rattle.master_publisher.specs.declared.PublisherStop.TheVariants.{RedirectionProtected, BufferLength, NoPresence, DataProtected}
use Rattle.master_publisher.specs.declared.Stage.{Stage}
use Rattle.master_publisher.specs.declared.Stage.TheVariants.{Running, Done as Ended, Stopped}
use Rattle.master_publisher.specs.declared.Publisher.{Publisher}
use Rattle.plug_fields.specs.Fields.{padded, front, same, rest_at, is_copy, mode_byte, value_of}
use Rattle.plug_master_packing.specs.Publisher.{stop_of, stage_bytes, stage_of, publisher_at, publisher_none, publisher_bytes, publisher_of, is_publisher_state, PublisherPacking}
use Rattle.plug_master_packing.specs.Code.Publisher.{stop_own, stage_own}
use Rattle.plug_fields.proofs.Laws.{stored, field, same_tag, same_not, same_own, same_one, same_two, low_joined, high_joined, flag_good, mode_good, mode_back, halves, Laws, laws}

stop_back : (stop : PublisherStop) → stop_of (number_of (publisher_refusal stop)) (value_of (publisher_refusal stop)) ≡ stop
unfolding value_of stop_of
stop_back ImageLength = refl
stop_back PageNumber = refl
stop_back Loop = refl
stop_back (Outside x) = refl
stop_back Crc16 = refl
stop_back ReadBack = refl
stop_back NoFreePage = refl
stop_back (RedirectionProtected l) = refl
stop_back BufferLength = refl
stop_back NoPresence = refl
stop_back (DataProtected l) = refl

-- there is one kind for each mode
kind_back : (mode : WriteMode) (selection : Selection) (placement : Placement)
    → ◌≡◌ {A = UpdateKind} (kind_of mode) (record { mode = mode; selection = selection; placement = placement })
kind_back mode SkipRom LowestFree = refl

stage_back : (p : Stage) (fields rest : List ℕ) → stage_of ((padded 8 (stage_bytes p) ++ fields) ++ rest) ≡ p
unfolding stage_bytes stage_of
stage_back (Running k true) fields rest = rw halves
stage_back (Running k false) fields rest = rw halves
stage_back Ended fields rest = refl
stage_back (Stopped stop) fields rest = ap Stopped (stop_back stop)

-- ---- whether the stage's bytes are its own, by its tag

abbrev at : List ℕ → ℕ → ℕ
at b i = get_or b i 0

pub own_0 : (b : List ℕ) → at b 0 ≡ 0 → at b 1 < 256 → stage_own b ≡ (ltb (at b 3) 2 && same 4 (replicate 4 0) b)
unfolding stage_own stage_bytes stage_of
own_0 b e h1 = rw (e, same_tag b 0 e, low_joined, same_own b 1, high_joined, same_own b 2, same_one b 3, flag_good)

pub own_1 : (b : List ℕ) → at b 0 ≡ 1 → stage_own b ≡ same 1 (replicate 7 0) b
unfolding stage_own stage_bytes stage_of
own_1 b e = rw (e, same_tag b 0 e)

pub own_2 : (b : List ℕ) → at b 0 ≡ 2 → stage_own b ≡ (stop_own (at b 1) (at b 2) && same 3 (replicate 5 0) b)
unfolding stop_own stage_own stage_bytes stage_of
own_2 b e = rw (e, same_tag b 0 e, same_two b 1)

pub own_none : (b : List ℕ) → at b 0 ≢ 0 → at b 0 ≢ 1 → at b 0 ≢ 2 → stage_own b ≡ false
unfolding stage_own stage_bytes stage_of
own_none b d0 d1 d2 = rw (ne_eqb _ _ d0, ne_eqb _ _ d2, same_not b 0 d1)

pub ruleset stage_rows = (own_0, own_1, own_2, own_none)

-- ---- states

abbrev fields : Publisher → List ℕ
fields s = s.superseded.0 ∷ s.target.0 ∷ s.used ∷ mode_byte s.kind.mode ∷ []

publisher : Laws 32 8 (λ s. stage_bytes s.stage) fields (λ s. s.new) (λ b. publisher_at b (stage_of b)) publisher_none
unfolding publisher_bytes
publisher = laws _ _ _ _ _ _ _ (omega arith) (λ b. refl) refl back
  where
    back : (s : Publisher) → rest_at 32 (publisher_bytes s) ≡ s.new → publisher_at (publisher_bytes s) (stage_of (publisher_bytes s)) ≡ s
    back s rest =
        let enum = stage_bytes s.stage in
        let kind = kind_back s.kind.mode s.kind.selection s.kind.placement in
        simp (stage_back s.stage, mode_back s.kind.mode, kind, field 8 0 enum, field 8 1 enum, field 8 2 enum, field 8 3 enum, rest)

pub publisher_held : (b : List ℕ) → length b ≡ 48 → publisher_of b ≡ publisher_at b (stage_of b)
unfolding publisher_of
publisher_held b e = publisher.held b e

pub publisher_judged_lem : (b : List ℕ) → length b ≡ 48 → is_publisher_state b ≡ ((stage_own b && ltb (at b 11) 2) && same 12 (replicate 4 0) b)
unfolding is_publisher_state stage_own publisher_of publisher_bytes
publisher_judged_lem b e =
    rw (publisher.judged b e, same_own b 8, same_own b 9, same_own b 10, same_one b 11, mode_good (at b 11))
    (sym (and_assoc (stage_own b) (ltb (at b 11) 2) (same 12 (replicate 4 0) b)))

-- bytes of another length
pub publisher_other : (b : List ℕ) → length b ≢ 48 → publisher_of b ≡ publisher_none
unfolding publisher_of
publisher_other b d = rw (ne_eqb _ _ d)

pub publisher_refused : (b : List ℕ) → length b ≢ 48 → is_publisher_state b ≡ false
unfolding is_publisher_state is_copy
publisher_refused b d = rw (ne_eqb _ _ d)

pub ruleset state_rows = (publisher_held, publisher_judged_lem, publisher_other, publisher_refused)

pub publisher_packing : PublisherPacking
unfolding publisher_bytes publisher_of is_publisher_state
publisher_packing = publisher.inverse

pub publisher_back : (s : Publisher) → length s.new ≡ 32 → publisher_of (publisher_bytes s) ≡ s
publisher_back s e = publisher_packing.state_back s e

pub publisher_kept : (s : Publisher) → length s.new ≡ 32 → is_publisher_state (publisher_bytes s) ≡ true
publisher_kept s e = publisher_packing.state_kept s e

-- the fields after the stage
pub publisher_stored : (p : Stage) (w x y z : ℕ)
    → set (set (set (set (front 8 (stage_bytes p) []) 8 w) 9 x) 10 y) 11 z ≡ front 8 (stage_bytes p) (w ∷ x ∷ y ∷ z ∷ [])
publisher_stored p w x y z =
    let enum = stage_bytes p in
    rw (stored 8 0 w enum, stored 8 1 x enum, stored 8 2 y enum, stored 8 3 z enum)
