-- The plan of an accepted update on the chip: the steps up to the pulse that shows, that pulse, and the steps after it.
use Prim.Native.Nat.{ℕ, zero, suc, ◌+◌, ◌-◌, ◌*◌, ◌%◌, ◌<◌, ◌≤◌}
use mathlib.Core.Path.{◌≡◌, refl, ◌∙◌}
use mathlib.Core.Bool.{true}
use mathlib.Core.List.{List, [], ◌∷◌, ◌++◌, append-nil, append_assoc}
use native.Mathlib.Omega.{arith}
use native.Mathlib.Nat.{add-zero}
use lib.ListN.{length, get_or, drop, length-append}
use lib.Seq.{drop-cons, drop-length}
use borrow.Author.Tests.{lt-ltb}
use Rattle.base_types.specs.declared.address.Space.TheVariants.{Data as DataSpace}
use Rattle.base_types.specs.declared.address.Target.{Target}
use Rattle.base_types.specs.declared.address.Target.TheVariants.{Data, Status}
use Rattle.base_crc.specs.Crc.{crc16_byte, crc16_of, crc16_word}
use Rattle.chip_memory.specs.declared.layout.Field.TheVariants.{RedirectionProtection, UsedPages}
use Rattle.chip_memory.proofs.Sizes.{first_low}
use Rattle.chip_memory.specs.Image.{page_bit}
use Rattle.chip_stage.specs.declared.stage.Incoming.TheVariants.{Data as DataByte}
use Rattle.chip_stage.specs.declared.stage.MemoryStage.{MemoryStage}
use Rattle.chip_stage.specs.declared.stage.MemoryStage.TheVariants.{Armed}
use Rattle.chip_stage.specs.Limits.{limit_of, target_at}
use Rattle.chip_stage.specs.Stages.{receiving}
use Rattle.chip_stage.specs.Writes.{raised, next_write, reading_back}
use Rattle.chip_chain.specs.Free.{Free}
use Rattle.chip_chain_laws.proofs.Images.{Accepted}
use Rattle.master_plan.specs.declared.Step.{Step}
use Rattle.master_plan.specs.declared.kind.UpdateKind.{UpdateKind}
use Rattle.master_plan.specs.Kind.{shown_of}
use Rattle.master_plan.specs.Places.{bitmap_address, clearing, page_address, redirection_address, naming, head_of}
use Rattle.master_plan.specs.Plan.{reset_step, pulse_step, send_steps, crc_steps, back_steps, byte_steps, bytes_steps, head_steps, write_steps, plan_of}
use Rattle.master_plan.proofs.Lengths.{send_length, crc_length, head_length, write_length}
use Rattle.master_publisher.specs.Start.{bitmap_byte}
use Rattle.chip_entries.specs.Event.{awaiting_rom}
use Rattle.chip_entries.specs.Run.{Chip}
use Rattle.chip_session_laws.specs.Session.{Ready, ◌at◌, ◌holding◌, Bytes}
use Rattle.chip_session_laws.proofs.Writes.{next_target}
use Rattle.master_plan_laws.proofs.Images.{written, linked_image, clears, clears_back, fills, fills_back, links, links_back}
use Rattle.master_plan_laws.proofs.Stretches.{Stretch, ◌then◌, still_ready}
use Rattle.master_plan_laws.proofs.Parts.{standing, head, closing, arms, pulses, reads_back, writes_byte}

-- ---- the plan in three parts

-- up to the pulse of a write's first byte
abbrev to_pulse : UpdateKind → Target → ℕ → List Step
to_pulse kind target byte =
    head_steps kind target ++ (send_steps (byte ∷ []) ++ crc_steps kind.mode (crc16_word (crc16_byte (crc16_of (head_of kind.mode target)) byte)))

unfoldable pub before_pulse : UpdateKind → ℕ → ℕ → ℕ → List ℕ → List Step
before_pulse kind l t used new =
    write_steps kind (Status (bitmap_address t)) used (clearing t ∷ [])
    ++ (write_steps kind (Data (page_address t)) 255 new
    ++ to_pulse kind (Status (redirection_address l)) (naming t).0)

unfoldable pub after_pulse : ℕ → List Step
after_pulse t = back_steps 255 (naming t).0 ++ (reset_step ∷ [])

last_write : (kind : UpdateKind) (target : Target) (byte : ℕ)
    → write_steps kind target 255 (byte ∷ []) ++ (reset_step ∷ []) ≡ to_pulse kind target byte ++ (pulse_step ∷ (back_steps 255 byte ++ (reset_step ∷ [])))
unfolding write_steps bytes_steps byte_steps
last_write kind target byte = simp (append-nil, append_assoc)

pub plan_split : (kind : UpdateKind) (l t used : ℕ) (new : List ℕ) → plan_of kind l t used new ≡ before_pulse kind l t used new ++ (pulse_step ∷ after_pulse t)
unfolding plan_of before_pulse after_pulse
plan_split kind l t used new = simp (last_write, append_assoc)

-- one event fewer than the number of the one that shows
pub before_length : (kind : UpdateKind) (l t used : ℕ) (new : List ℕ) → length new ≡ 32 → length (before_pulse kind l t used new) ≡ shown_of kind - 1
unfolding before_pulse
before_length kind l t used new long = simp (length-append, write_length, head_length, send_length, crc_length, long) (omega arith)

-- ---- the parts on the chip

module _ (n : ℕ) (whole : n % 8 ≡ 0) (kind : UpdateKind) (c : Chip) (new : List ℕ) (l t : ℕ) (ok : Accepted n c.image new l t) (free : Free n c.image t)
    (unprotected : page_bit n RedirectionProtection c.image l ≡ true) (small : Bytes new) where
  module _ (P : List ℕ → Type 0) (still : (k : ℕ) → k ≤ 32 → P (written n c.image new t k)) where
    first_write : Ready n c → P c.image
        → Stretch P n c (write_steps kind (Status (bitmap_address t)) (bitmap_byte n c.image t) (clearing t ∷ []))
        (standing c (next_write n kind.mode (Status (bitmap_address t))) (written n c.image new t 0))
    unfolding write_steps bytes_steps limit_of
    first_write ready h =
        let a = Status (bitmap_address t) in
        let first = head P n whole ok.count kind c a (omega (arith, first_low UsedPages)) ready h in
        first
        then rw append-nil
        (writes_byte P n whole kind.mode a c (crc16_of (head_of kind.mode a)) (bitmap_byte n c.image t) (clearing t) (written n c.image new t 0) (omega arith)
        (clears n whole c.image new l t ok free unprotected small) (clears_back n whole c.image new l t ok free unprotected small)
        (still_ready whole ready first) h (still 0 (omega arith)))

    one_fill : (k register : ℕ) → k < 32 → Ready n (standing c (receiving (DataByte kind.mode (target_at DataSpace (32 * t + k))) register) (written n c.image new t k))
        → Stretch P n (standing c (receiving (DataByte kind.mode (target_at DataSpace (32 * t + k))) register) (written n c.image new t k)) (byte_steps kind.mode register 255 (get_or new k 0))
        (standing c (next_write n kind.mode (target_at DataSpace (32 * t + k))) (written n c.image new t (suc k)))
    one_fill k register lt ready =
        writes_byte P n whole kind.mode (target_at DataSpace (32 * t + k)) (c holding written n c.image new t k) register 255 (get_or new k 0) (written n c.image new t (suc k)) (small k)
        (fills n whole c.image new l t ok free unprotected small k lt) (fills_back n whole c.image new l t ok free unprotected small k lt)
        ready (still k (omega arith)) (still (suc k) lt)

    next_fill : (k : ℕ) → k < 31 → next_write n kind.mode (target_at DataSpace (32 * t + k)) ≡ receiving (DataByte kind.mode (target_at DataSpace (32 * t + suc k))) (32 * t + suc k)
    unfolding raised limit_of
    next_fill k lt =
        let e : 32 * t + k + 1 ≡ 32 * t + suc k = omega arith in
        next_target n whole kind.mode DataSpace (32 * t + k) ∙ simp (e, lt-ltb (32 * t + suc k) (32 * n) (omega arith))

    -- the data from byte number k to byte number j, the last
    fill : (m k j register : ℕ) → k + m ≡ j → suc j ≡ 32 → Ready n (standing c (receiving (DataByte kind.mode (target_at DataSpace (32 * t + k))) register) (written n c.image new t k))
        → Stretch P n (standing c (receiving (DataByte kind.mode (target_at DataSpace (32 * t + k))) register) (written n c.image new t k))
        (bytes_steps kind.mode (32 * t + k) register 255 (drop k new))
        (standing c (next_write n kind.mode (target_at DataSpace (32 * t + j))) (written n c.image new t (suc j)))
    unfolding bytes_steps
    fill zero k j register e z ready =
        let s : j ≡ k = omega arith in
        let d : drop (suc k) new ≡ [] = let w : suc k ≡ length new = omega arith in rw w (drop-length new) in
        rw (s, drop-cons new k 0 (omega arith), d, append-nil) (one_fill k register (omega arith) ready)
    fill (suc m) k j register e z ready =
        let s : 32 * t + k + 1 ≡ 32 * t + suc k = omega arith in
        let first = rw (next_fill k (omega arith)) at (one_fill k register (omega arith) ready) in
        rw (drop-cons new k 0 (omega arith), s) (first then fill m (suc k) j (32 * t + suc k) (omega arith) z (still_ready whole ready first))

    second_write : (d : MemoryStage) → Ready n (standing c d (written n c.image new t 0))
        → Stretch P n (standing c d (written n c.image new t 0)) (write_steps kind (Data (page_address t)) 255 new)
        (standing c (next_write n kind.mode (target_at DataSpace (32 * t + 31))) (written n c.image new t 32))
    unfolding write_steps limit_of target_at
    second_write d ready =
        let first = head P n whole ok.count kind (standing c d (written n c.image new t 0)) (Data (page_address t)) (omega arith) ready (still 0 (omega arith)) in
        first then (rw add-zero at (fill 31 0 31 (crc16_of (head_of kind.mode (Data (page_address t)))) refl refl (rw add-zero (still_ready whole ready first))))

    -- all that comes before the pulse that writes the redirection byte
    pub to_the_pulse : Ready n c → P c.image
        → Stretch P n c (before_pulse kind l t (bitmap_byte n c.image t) new) (standing c (Armed kind.mode (Status (redirection_address l)) (naming t).0) (written n c.image new t 32))
    unfolding before_pulse limit_of
    to_the_pulse ready h =
        let a = Status (redirection_address l) in
        let first = first_write ready h in
        let ok₁ = still_ready whole ready first in
        let second = second_write (next_write n kind.mode (Status (bitmap_address t))) ok₁ in
        let ok₂ = still_ready whole ok₁ second in
        let third =
        head P n whole ok.count kind (standing c (next_write n kind.mode (target_at DataSpace (32 * t + 31))) (written n c.image new t 32)) a (omega arith) ok₂ (still 32 (omega arith)) in
        first then second then third
        then arms P n whole kind.mode a (c holding written n c.image new t 32) (crc16_of (head_of kind.mode a)) (naming t).0 (omega arith)
        (still_ready whole ok₂ third) (still 32 (omega arith))

  -- the pulse
  pub the_pulse : Ready n (standing c (Armed kind.mode (Status (redirection_address l)) (naming t).0) (written n c.image new t 32))
      → Stretch (λ _. Unit {0}) n (standing c (Armed kind.mode (Status (redirection_address l)) (naming t).0) (written n c.image new t 32)) (pulse_step ∷ [])
      (standing c (reading_back n kind.mode (Status (redirection_address l)) (linked_image n c.image new l t)) (linked_image n c.image new l t))
  the_pulse ready =
      pulses (λ _. Unit {0}) n whole kind.mode (Status (redirection_address l)) (c holding written n c.image new t 32) (naming t).0 (linked_image n c.image new l t)
      (links n whole c.image new l t ok free unprotected small) ready tt tt

  -- all that comes after it
  pub from_the_pulse : (P : List ℕ → Type 0) → P (linked_image n c.image new l t)
      → Ready n (standing c (reading_back n kind.mode (Status (redirection_address l)) (linked_image n c.image new l t)) (linked_image n c.image new l t))
      → Stretch P n (standing c (reading_back n kind.mode (Status (redirection_address l)) (linked_image n c.image new l t)) (linked_image n c.image new l t)) (after_pulse t)
      ((c holding linked_image n c.image new l t) at awaiting_rom)
  unfolding after_pulse
  from_the_pulse P h ready =
      let d = c holding linked_image n c.image new l t in
      let first = reads_back P n whole kind.mode (Status (redirection_address l)) d 255 (naming t).0 (links_back n whole c.image new l t ok free unprotected small) ready h in
      first then closing P n whole (standing d (next_write n kind.mode (Status (redirection_address l))) d.image) (still_ready whole ready first) h
