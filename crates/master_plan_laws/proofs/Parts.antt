-- The parts of a write's steps on the chip: the command with its address, a byte with its CRC, the pulse, the byte read back.
use Prim.Native.Nat.{ℕ, ◌%◌, ◌<◌, ◌≤◌}
use mathlib.Core.Path.{◌≡◌, refl, sym, ap, ◌∙◌}
use mathlib.Core.Bool.{Bool}
use mathlib.Core.List.{List, [], ◌∷◌, ◌++◌, append-nil, append_assoc}
use lib.Bits.{bit_and}
use Rattle.base_types.specs.Bits.{bits_of, bits_of_bytes}
use Rattle.base_types.specs.declared.write_mode.WriteMode.{WriteMode}
use Rattle.base_types.specs.declared.write_mode.WriteMode.TheVariants.{Ordinary, Quick}
use Rattle.base_types.specs.declared.address.Target.{Target}
use Rattle.base_types.specs.declared.address.Target.TheVariants.{Data, Status}
use Rattle.bus_events.specs.declared.Event.{Event}
use Rattle.bus_events.specs.Events.{reset, pulse}
use Rattle.bus_events.specs.Slots.{slots}
use Rattle.base_crc.specs.Crc.{crc_bytes, crc16_byte, crc16_of, crc16_word}
use Rattle.chip_memory.specs.Image.{target_byte}
use Rattle.chip_memory.specs.Write.{programmed}
use Rattle.chip_stage.specs.declared.stage.Incoming.TheVariants.{Data as DataByte}
use Rattle.chip_stage.specs.declared.stage.MemoryStage.{MemoryStage}
use Rattle.chip_stage.specs.declared.stage.MemoryStage.TheVariants.{Armed}
use Rattle.chip_stage.specs.Limits.{limit_of, target_at}
use Rattle.chip_stage.specs.Stages.{receiving}
use Rattle.chip_function.specs.Functions.{received}
use Rattle.chip_stage.specs.Writes.{data_in, next_write, reading_back}
use Rattle.master_plan.specs.declared.Wanted.TheVariants.{Anything, Presence, LastCrcBit, LastBackBit}
use Rattle.master_plan.specs.declared.kind.Selection.{Selection}
use Rattle.master_plan.specs.declared.kind.Selection.TheVariants.{SkipRom}
use Rattle.master_plan.specs.declared.kind.UpdateKind.{UpdateKind}
use Rattle.master_plan.specs.Kind.{selecting}
use Rattle.master_plan.specs.Places.{space_of, address_of, head_of}
use Rattle.master_plan.specs.Plan.{reset_step, pulse_step, freely, send_steps, read_steps, crc_steps, back_steps, byte_steps, head_steps, step_events}
use Rattle.chip_entries.specs.declared.event.Stage.TheVariants.{Memory}
use Rattle.chip_entries.specs.Event.{awaiting_rom}
use Rattle.chip_entries.specs.Run.{Chip}
use Rattle.chip_session_laws.specs.Session.{Ready, ◌at◌, ◌holding◌, Selection as Selects, skip}
use Rattle.chip_session_laws.proofs.Slots.{byte_in_lem}
use Rattle.chip_session_laws.proofs.Sessions.{resets}
use Rattle.chip_session_laws.proofs.Writes.{crc_read, fires, back_read, is_write}
use Rattle.master_plan_laws.proofs.Stretches.{Stretch, ◌then◌, Quiet, free_events, free_quiet, read_events, read_quiet, quietly, singly, still_ready}

-- a chip within a memory function, with this image
abbrev pub standing : Chip → MemoryStage → List ℕ → Chip
standing c m img = (c at Memory m) holding img

-- ---- the command with its address

-- the bytes that select a chip succeed in doing so, and the line is the master's
selects : (number : List ℕ) (s : Selection) → Selects number (bits_of_bytes (selecting s)) (bits_of_bytes (selecting s))
unfolding bits_of bits_of_bytes
selects number SkipRom = skip

bits_append : (xs ys : List ℕ) → bits_of_bytes (xs ++ ys) ≡ bits_of_bytes xs ++ bits_of_bytes ys
unfolding bits_of_bytes
bits_append [] ys = refl
bits_append (x ∷ xs) ys = ap (λ (l : List Bool). bits_of 8 x ++ l) (bits_append xs ys) ∙ sym (append_assoc (bits_of 8 x) (bits_of_bytes xs) (bits_of_bytes ys))

own_target : (target : Target) → target_at (space_of target) (address_of target) ≡ target
unfolding target_at
own_target (Data a) = refl
own_target (Status a) = refl

module _ (P : List ℕ → Type 0) (n : ℕ) (whole : n % 8 ≡ 0) where
  pub head : n ≤ 256 → (kind : UpdateKind) (c : Chip) (target : Target) → address_of target < limit_of n (space_of target) → Ready n c → P c.image
      → Stretch P n c (head_steps kind target) (standing c (receiving (DataByte kind.mode target) (crc16_of (head_of kind.mode target))) c.image)
  unfolding step_events Quiet head_steps send_steps
  head low kind c target lt ok h =
      let bytes = selecting kind.selection in
      let bits = bits_of_bytes bytes ++ bits_of_bytes (head_of kind.mode target) in
      rw (bits_append bytes (head_of kind.mode target))
      (quietly P (reset_step ∷ freely (slots bits)) (ap (λ (l : List Event). reset ∷ l) (free_events bits)) (refl, refl, free_quiet bits) h
      (rw (own_target target) at (is_write n whole low kind.mode (space_of target) (address_of target) c ok (selects c.state.number kind.selection) lt)))

  pub closing : (c : Chip) → Ready n c → P c.image → Stretch P n c (reset_step ∷ []) (c at awaiting_rom)
  closing c ok h = singly P reset Presence refl h h (resets n whole c ok)

  -- a byte sent
  sends : (mode : WriteMode) (t : Target) (c : Chip) (register byte : ℕ) → byte < 256 → Ready n (standing c (receiving (DataByte mode t) register) c.image) → P c.image
      → Stretch P n (standing c (receiving (DataByte mode t) register) c.image) (send_steps (byte ∷ [])) (standing c (data_in mode t byte register) c.image)
  unfolding send_steps received bits_of_bytes
  sends mode t c register byte lt ok h =
      rw (append-nil (bits_of 8 byte))
      (quietly P (freely (slots (bits_of 8 byte))) (free_events (bits_of 8 byte)) (free_quiet (bits_of 8 byte)) h (byte_in_lem n whole c (DataByte mode t) register byte lt ok))

  -- up to the pulse
  pub arms : (mode : WriteMode) (t : Target) (c : Chip) (register byte : ℕ) → byte < 256 → Ready n (standing c (receiving (DataByte mode t) register) c.image) → P c.image
      → Stretch P n (standing c (receiving (DataByte mode t) register) c.image) (send_steps (byte ∷ []) ++ crc_steps mode (crc16_word (crc16_byte register byte)))
      (standing c (Armed mode t byte) c.image)
  unfolding crc_steps data_in crc_bytes
  arms Ordinary t c register byte lt ok h =
      let word = crc16_word (crc16_byte register byte) in
      let first = sends Ordinary t c register byte lt ok h in
      first
      then quietly P (read_steps LastCrcBit 16 word) (read_events LastCrcBit 16 word) (read_quiet LastCrcBit (λ b. refl) 16 word) h
      (crc_read n whole c Ordinary t byte register (still_ready whole ok first))
  arms Quick t c register byte lt ok h = rw append-nil (sends Quick t c register byte lt ok h)

  module _ (mode : WriteMode) (t : Target) where
    -- the pulse, with the image that it leaves
    pub pulses : (c : Chip) (byte : ℕ) (img : List ℕ) → programmed n c.image t byte ≡ img → Ready n (standing c (Armed mode t byte) c.image) → P c.image → P img
        → Stretch P n (standing c (Armed mode t byte) c.image) (pulse_step ∷ []) (standing c (reading_back n mode t img) img)
    pulses c byte img e ok h h' = singly P pulse Anything tt h h' (rw e at (fires n whole c mode t byte ok))

    pub reads_back : (c : Chip) (old byte : ℕ) → target_byte n c.image t ≡ bit_and old byte → Ready n (standing c (reading_back n mode t c.image) c.image) → P c.image
        → Stretch P n (standing c (reading_back n mode t c.image) c.image) (back_steps old byte) (standing c (next_write n mode t) c.image)
    unfolding back_steps
    reads_back c old byte e ok h =
        let v = bit_and old byte in
        quietly P (read_steps LastBackBit 8 v) (read_events LastBackBit 8 v) (read_quiet LastBackBit (λ b. refl) 8 v) h (rw e at (back_read n whole c mode t ok))

    pub writes_byte : (c : Chip) (register old byte : ℕ) (img : List ℕ) → byte < 256 → programmed n c.image t byte ≡ img → target_byte n img t ≡ bit_and old byte
        → Ready n (standing c (receiving (DataByte mode t) register) c.image) → P c.image → P img
        → Stretch P n (standing c (receiving (DataByte mode t) register) c.image) (byte_steps mode register old byte) (standing c (next_write n mode t) img)
    unfolding byte_steps
    writes_byte c register old byte img lt e back ok h h' =
        let first = arms mode t c register byte lt ok h in
        let ok₁ = still_ready whole ok first in
        let second = pulses c byte img e ok₁ h h' in
        rw (← (append_assoc (send_steps (byte ∷ [])))) (first then second then reads_back (c holding img) old byte back (still_ready whole ok₁ second) h')
