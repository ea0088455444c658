-- Slots one after the other: through a ROM function, while the chip sends, and while it takes in bytes.
use Prim.Native.Nat.{ℕ, zero, suc, ◌+◌, ◌/◌, ◌%◌, ◌<◌}
use mathlib.Core.Path.{◌≡◌, refl, sym, ap, ap₂, ◌∙◌, subst}
use mathlib.Core.Bool.{Bool, true, false, ◌&&◌}
use mathlib.Core.List.{List, [], ◌∷◌, map}
use native.Mathlib.Nat.{add-zero}
use native.Mathlib.Omega.{arith}
use lib.ListN.{length}
use borrow.Author.Tests.{lt-ltb}
use Rattle.base_types.specs.Outcome.{accepted}
use Rattle.base_types.specs.Bits.{odd, bits_of, shift_in}
use Rattle.base_types.proofs.Collect.{collect, collected}
use Rattle.bus_events.specs.declared.Event.{Event}
use Rattle.bus_events.specs.Slots.{slots, ones, lines}
use Rattle.bus_events.specs.Events.{slot}
use Rattle.chip_rom.specs.declared.RomStage.{RomStage}
use Rattle.chip_rom.specs.declared.RomOutcome.{RomOutcome}
use Rattle.chip_rom_laws.specs.Rom.{Roms, last, more}
use Rattle.chip_stage.specs.declared.stage.Incoming.{Incoming}
use Rattle.chip_stage.specs.declared.stage.MemoryStage.{MemoryStage}
use Rattle.chip_stage.specs.declared.stage.MemoryStage.TheVariants.{Silent, Receive}
use Rattle.chip_stage.specs.Stages.{receiving}
use Rattle.chip_function.specs.Functions.{received, receive_bit, memory_slot, memory_bit}
use Rattle.chip_function_laws.specs.Reads.{Sends, none, next}
use Rattle.chip_entries.specs.declared.event.Stage.TheVariants.{Rom, Memory}
use Rattle.chip_entries.specs.Event.{after_rom, stage_slot, stage_bit, reply_of, image_after, stage_after}
use Rattle.chip_entries.specs.Run.{Chip, run, answers}
use Rattle.chip_session_laws.specs.Session.{Ready, ◌at◌, Reaches, then_ones}
use Rattle.chip_session_laws.specs.Laws.{is_armed}
use Rattle.chip_session_laws.proofs.Runs.{stays, ◌then◌, further, event}
use Rattle.chip_session_laws.proofs.States.{keeps, and_with_true}

-- ---- lists of slots

-- a chip that is not sending leaves the line to the master ..
pub lines_ones : (ms : List Bool) (k : ℕ) → length ms ≡ k → lines ms (ones k) ≡ ms
lines_ones [] zero e = refl
lines_ones [] (suc k) e = refl
lines_ones (m ∷ ms) zero e = absurd (omega arith)
lines_ones (m ∷ ms) (suc k) e = ap₂ (λ b l. b ∷ l) (and_with_true m) (lines_ones ms k (omega arith))

-- .. and in read slots the line is the chip's
pub lines_read : (k : ℕ) (bs : List Bool) → length bs ≡ k → lines (ones k) bs ≡ bs
lines_read zero [] e = refl
lines_read zero (b ∷ bs) e = absurd (omega arith)
lines_read (suc k) [] e = refl
lines_read (suc k) (b ∷ bs) e = ap (λ l. b ∷ l) (lines_read k bs (omega arith))

module _ (n : ℕ) (whole : n % 8 ≡ 0) where
  -- where a run leads, the chip is within its ranges
  ready_run : (es : List Event) (c : Chip) → Ready n c → Ready n (run n c es)
  unfolding run
  ready_run [] c ok = ok
  ready_run (e ∷ es) c ok = ready_run es _ (keeps n whole c e ok)

  pub ready : {c d : Chip} {es : List Event} {rs : List Bool} → Ready n c → Reaches n c es rs d → Ready n d
  ready {c} {d} {es} ok p = subst (Ready n) p.there (ready_run es c ok)

  pub one_slot : (c : Chip) (m : Bool) → Ready n c
      → Reaches n c (slot m ∷ []) ((m && stage_bit c.state.stage c.state.number) ∷ []) (c at stage_slot n c.state.stage m c.state.number c.image)
  unfolding reply_of stage_after image_after
  one_slot c m ok = event n c ok (slot m)

  -- ---- through a ROM function

  pub over_rom : (c : Chip) {r : RomStage} {ms bs : List Bool} {o : RomOutcome} → Roms c.state.number r ms bs o → Ready n (c at Rom r)
      → Reaches n (c at Rom r) (slots ms) (lines ms bs) (c at after_rom o)
  unfolding stage_bit stage_slot after_rom
  over_rom c {r} (last {m = m} hb hs) ok = rw (hb, hs) at (one_slot (c at Rom r) m ok)
  over_rom c {r} (more {m = m} hb hs rest) ok =
      let first = rw (hb, hs) at (one_slot (c at Rom r) m ok) in
      first then over_rom c rest (ready ok first)

  -- ---- while the chip sends

  one_sent : (c : Chip) (m s : MemoryStage) (b r : Bool) → memory_bit m ≡ b → ((bit : Bool) → memory_slot n m bit c.image ≡ s) → Ready n (c at Memory m)
      → Reaches n (c at Memory m) (slot r ∷ []) ((r && b) ∷ []) (c at Memory s)
  unfolding stage_bit stage_slot
  one_sent c m s b r hb hs ok = rw (hb, hs r) at (one_slot (c at Memory m) r ok)

  pub over_memory : (c : Chip) {m e : MemoryStage} {bs : List Bool} (ms : List Bool) → Sends n c.image m bs e → length ms ≡ length bs → Ready n (c at Memory m)
      → Reaches n (c at Memory m) (slots ms) (lines ms bs) (c at Memory e)
  over_memory c [] none l ok = stays
  over_memory c (r ∷ ms) none l ok = absurd (omega arith)
  over_memory c [] (next hb hs rest) l ok = absurd (omega arith)
  over_memory c {m} (r ∷ ms) (next {s = s} {b = b} hb hs rest) l ok =
      let first = one_sent c m s b r hb hs ok in
      first then over_memory c ms rest (omega arith) (ready ok first)

  -- what any further slots draw of a stream that ends in silence
  pub draws_stream : (c : Chip) {m : MemoryStage} {bs : List Bool} (rs : List Bool) → Sends n c.image m bs Silent → Ready n (c at Memory m)
      → answers n (c at Memory m) (slots rs) ≡ map accepted (lines rs (then_ones bs (length rs)))
  unfolding answers then_ones memory_bit memory_slot
  draws_stream c [] none ok = refl
  draws_stream c [] (next hb hs rest) ok = refl
  draws_stream c (r ∷ rs) none ok =
      let first = one_sent c Silent Silent true r refl (λ bit. refl) ok in
      further (slots rs) (lines rs (then_ones [] (length rs))) first (draws_stream c rs none (ready ok first))
  draws_stream c {m} (r ∷ rs) (next {s = s} {b = b} {bs = bs} hb hs rest) ok =
      let first = one_sent c m s b r hb hs ok in
      further (slots rs) (lines rs (then_ones bs (length rs))) first (draws_stream c rs rest (ready ok first))

  -- ---- while the chip takes in a byte

  one_taken : (c : Chip) (i : Incoming) (k v crc : ℕ) (m : Bool) → Ready n (c at Memory (Receive i k v crc))
      → Reaches n (c at Memory (Receive i k v crc)) (slot m ∷ []) (m ∷ []) (c at Memory (receive_bit n i k (shift_in v m) crc c.image))
  unfolding stage_bit stage_slot memory_bit memory_slot
  one_taken c i k v crc m ok = rw (and_with_true m) at (one_slot (c at Memory (Receive i k v crc)) m ok)

  eighth : (i : Incoming) (k v crc : ℕ) (img : List ℕ) → k ≡ 7 → receive_bit n i k v crc img ≡ received n i v crc img
  unfolding receive_bit
  eighth i k v crc img e = simp e

  earlier : (i : Incoming) (k v crc : ℕ) (img : List ℕ) → k < 7 → receive_bit n i k v crc img ≡ Receive i (k + 1) v crc
  unfolding receive_bit
  earlier i k v crc img lt = simp (lt-ltb k 7 lt)

  bits_in : (c : Chip) (i : Incoming) (crc : ℕ) (m : Bool) (ms : List Bool) (k v : ℕ) → k + length ms ≡ 7 → Ready n (c at Memory (Receive i k v crc))
      → Reaches n (c at Memory (Receive i k v crc)) (slots (m ∷ ms)) (m ∷ ms) (c at Memory (received n i (collect v (m ∷ ms)) crc c.image))
  bits_in c i crc m [] k v l ok = rw (eighth i k (shift_in v m) crc c.image (sym (add-zero k) ∙ l)) at (one_taken c i k v crc m ok)
  bits_in c i crc m (m' ∷ ms) k v l ok =
      let first = rw (earlier i k (shift_in v m) crc c.image (omega arith)) at (one_taken c i k v crc m ok) in
      first then bits_in c i crc m' ms (k + 1) (shift_in v m) (omega arith) (ready ok first)

  -- with fewer than eight bits in, the chip is not armed
  pub bits_unarmed : (c : Chip) (i : Incoming) (crc : ℕ) (ms : List Bool) (k v : ℕ) → k + length ms < 8 → Ready n (c at Memory (Receive i k v crc))
      → is_armed (run n (c at Memory (Receive i k v crc)) (slots ms)).state.stage ≡ false
  unfolding run
  bits_unarmed c i crc [] k v lt ok = refl
  bits_unarmed c i crc (m ∷ ms) k v lt ok =
      let first = rw (earlier i k (shift_in v m) crc c.image (omega arith)) at (one_taken c i k v crc m ok) in
      subst (λ (d : Chip). is_armed (run n d (slots ms)).state.stage ≡ false) (sym first.there)
      (bits_unarmed c i crc ms (k + 1) (shift_in v m) (omega arith) (ready ok first))

  pub byte_in_lem : (c : Chip) (i : Incoming) (crc byte : ℕ) → byte < 256 → Ready n (c at Memory (receiving i crc))
      → Reaches n (c at Memory (receiving i crc)) (slots (bits_of 8 byte)) (bits_of 8 byte) (c at Memory (received n i byte crc c.image))
  unfolding receiving bits_of
  byte_in_lem c i crc byte lt ok = rw (collected byte lt) at (bits_in c i crc (odd byte) (bits_of 7 (byte / 2)) 0 0 refl ok)
