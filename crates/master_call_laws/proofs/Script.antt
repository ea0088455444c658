-- A plan's steps as a script; the plan of an update, so read, is the update's script.
use Prim.Native.Nat.{ℕ, zero, suc, ◌+◌, ◌*◌, ◌/◌, ◌%◌, ◌^◌, ◌<◌}
use mathlib.Core.Bool.{Bool, true, false, not, ◌&&◌}
use mathlib.Core.List.{List, [], ◌∷◌, ◌++◌}
use mathlib.Core.Path.{◌≡◌, refl, sym, ◌∙◌, ap, fun_ext}
use native.Mathlib.Omega.{arith}
use native.Mathlib.Nat.{pow-succ'}
use lib.Dec.{eqb}
use lib.Bits.{bit_and, and_le_l, and_le_r}
use borrow.Author.Tests.{eq-eqb}
use Rattle.std.specs.Prelude.{Ok, Err}
use Rattle.std.proofs.lemmas.Bool.Decides.{nat_tests}
use Rattle.base_types.specs.Bits.{one, odd, bits_of_bytes, same}
use Rattle.base_types.specs.Refusal.{number_of, values_of}
use Rattle.base_types.specs.declared.address.Target.{Target}
use Rattle.base_types.specs.declared.write_mode.WriteMode.{WriteMode}
use Rattle.base_types.specs.declared.write_mode.WriteMode.TheVariants.{Ordinary, Quick}
use Rattle.base_types.proofs.Tests.{and_true, and_assoc}
use Rattle.base_types.proofs.Values.{one_odd}
use Rattle.base_crc.specs.Crc.{crc_bytes, crc16_byte, crc16_word}
use Rattle.bus_events.specs.Events.{slot, read_slot, pulse}
use Rattle.bus_events.specs.Slots.{slots}
use Rattle.bus_scripts.specs.Script.{Script, stops, gives, sends, check_with, reset, send_bits, send_bytes, read_bits}
use Rattle.master_plan.specs.declared.Wanted.{Wanted}
use Rattle.master_plan.specs.declared.Wanted.TheVariants.{Presence, LastCrcBit, LastBackBit}
use Rattle.master_plan.specs.declared.Step.{Step}
use Rattle.master_plan.specs.declared.kind.UpdateKind.{UpdateKind}
use Rattle.master_plan.specs.Kind.{selecting}
use Rattle.master_plan.specs.Places.{clearing, head_of}
use Rattle.master_plan.specs.Plan.{reset_step, pulse_step, freely, send_steps, read_steps, crc_steps, back_steps, byte_steps, bytes_steps, head_steps, write_steps, plan_of}
use Rattle.master_publisher.specs.declared.PublisherStop.{PublisherStop}
use Rattle.master_publisher.specs.declared.PublisherStop.TheVariants.{Crc16, ReadBack}
use Rattle.master_publisher.specs.Stop.{publisher_refusal}
use Rattle.master_publisher.specs.Code.Turn.{Judged, judged_last, judged_of}
use Rattle.master_call_laws.specs.Script.{check_crc, write_byte, write_bytes, write, update_script}

-- on is what follows, by whether the bits so far have agreed

abbrev pub judged_script : Judged → (Bool → Script) → Script
judged_script (Ok good) on = on good
judged_script (Err stop) on = stops (number_of (publisher_refusal stop)) (values_of (publisher_refusal stop))

abbrev pub as_script : List Step → (Bool → Script) → Bool → Script
as_script [] on good = on good
as_script (s ∷ ss) on good = sends s.event (λ r. judged_script (judged_of s.wanted good r) (as_script ss on))

-- parts of a plan one after the other
in_turn : (a b : List Step) (on : Bool → Script) (good : Bool) → as_script (a ++ b) on good ≡ as_script a (as_script b on) good
in_turn [] b on good = refl
in_turn (s ∷ ss) b on good = ap (sends s.event) (fun_ext (λ r. ap (judged_script (judged_of s.wanted good r)) (fun_ext (in_turn ss b on))))

-- replies that are not looked at
free : (bits : List Bool) (on : Bool → Script) → as_script (freely (slots bits)) on true ≡ send_bits bits (on true)
unfolding judged_of send_bits
free [] on = refl
free (bit ∷ bits) on = ap (sends (slot bit)) (fun_ext (λ r. free bits on))

-- a reset
reset_script : (on : Bool → Script) (good : Bool) → as_script (reset_step ∷ []) on good ≡ reset (on true)
unfolding judged_of judged_last
reset_script on good = ap (sends reset_step.event) (fun_ext go)
  where
    go : (r : Bool) → judged_script (judged_of Presence good r) on ≡ check_with (not r) 13 [] (on true)
    go true = refl
    go false = refl

-- ---- bits that are read, one by one, against a number

-- a number whose lowest bit is read first agrees with v where that bit does and the rest does
bit_by_bit : (r : Bool) (w v : ℕ) → (same (odd v) r && eqb w (v / 2)) ≡ eqb (one r + 2 * w) v
bit_by_bit r w v = go r (odd v) (one_odd v)
  where
    go : (r o : Bool) → one o ≡ v % 2 → (same o r && eqb w (v / 2)) ≡ eqb (one r + 2 * w) v
    go true true h = grind (arith, nat_tests)
    go true false h = grind (arith, nat_tests)
    go false true h = grind (arith, nat_tests)
    go false false h = grind (arith, nat_tests)

module _ (last : Bool → Wanted) (stop : PublisherStop) (judged : (b good r : Bool) → judged_of (last b) good r ≡ judged_last (good && same b r) stop) (on : Bool → Script) where
  -- what follows a number that was read
  abbrev judged_by : Bool → Script
  judged_by test = check_with test (number_of (publisher_refusal stop)) (values_of (publisher_refusal stop)) (on true)

  last_script : (test : Bool) → judged_script (judged_last test stop) on ≡ judged_by test
  unfolding judged_last
  last_script true = refl
  last_script false = refl

  reads : (k v : ℕ) (good : Bool) → v < 2 ^ suc k → as_script (read_steps last (suc k) v) on good ≡ read_bits (suc k) (λ got. judged_by (good && eqb got v))
  unfolding read_steps judged_of read_bits
  reads zero v good lt =
      let h : eqb 0 (v / 2) ≡ true = eq-eqb 0 (v / 2) (omega arith) in
      ap (sends read_slot) (fun_ext (λ r.
      ap (λ (j : Judged). judged_script j on) (judged (odd v) good r)
      ∙ last_script (good && same (odd v) r)
      ∙ ap (λ (b : Bool). judged_by (good && b)) (sym (and_true (same (odd v) r)) ∙ ap (λ (b : Bool). same (odd v) r && b) (sym h) ∙ bit_by_bit r 0 v)))
  reads (suc k) v good lt =
      ap (sends read_slot) (fun_ext (λ r.
      reads k (v / 2) (good && same (odd v) r) (omega (arith, pow-succ' 2 (suc k)))
      ∙ ap (read_bits (suc k)) (fun_ext (λ w.
      ap judged_by (and_assoc good (same (odd v) r) (eqb w (v / 2)) ∙ ap (λ (b : Bool). good && b) (bit_by_bit r w v))))))

-- ---- a byte

sent : (bytes : List ℕ) (on : Bool → Script) → as_script (send_steps bytes) on true ≡ send_bytes bytes (on true)
unfolding send_steps
sent bytes on = free (bits_of_bytes bytes) on

crc_checked : (mode : WriteMode) (register byte : ℕ) (on : Bool → Script)
    → as_script (crc_steps mode (crc16_word (crc16_byte register byte))) on true ≡ check_crc mode (crc16_word (crc16_byte register byte)) (on true)
unfolding crc_steps judged_of
crc_checked Ordinary register byte on = reads LastCrcBit Crc16 (λ b good r. refl) on 15 (crc16_word (crc16_byte register byte)) true (omega arith)
crc_checked Quick register byte on = refl

-- every byte that is sent over this old one reads back as a byte
abbrev BackFits : ℕ → List ℕ → Type 0
BackFits old [] = Unit {0}
BackFits old (byte ∷ bytes) = (bit_and old byte < 256) × BackFits old bytes

blank_fits : (bytes : List ℕ) → BackFits 255 bytes
blank_fits [] = tt
blank_fits (byte ∷ bytes) = (omega (arith, and_le_l 255 byte), blank_fits bytes)

byte_written : (mode : WriteMode) (register old byte : ℕ) (on : Bool → Script) → bit_and old byte < 256
    → as_script (byte_steps mode register old byte) on true ≡ write_byte mode (crc16_byte register byte) old byte (on true)
unfolding byte_steps judged_of back_steps
byte_written mode register old byte on lt =
    in_turn (send_steps (byte ∷ [])) _ on true
    ∙ sent (byte ∷ []) _
    ∙ ap (send_bytes (byte ∷ [])) (in_turn (crc_steps mode _) (pulse_step ∷ back_steps old byte) on true
    ∙ crc_checked mode register byte (as_script (pulse_step ∷ back_steps old byte) on)
    ∙ ap (λ (x : Script). check_crc mode (crc16_word (crc16_byte register byte)) (sends pulse (λ r. x)))
    (reads LastBackBit ReadBack (λ b good x. refl) on 7 (bit_and old byte) true lt))

bytes_written : (mode : WriteMode) (bytes : List ℕ) (a register old : ℕ) (on : Bool → Script) → BackFits old bytes
    → as_script (bytes_steps mode a register old bytes) on true ≡ write_bytes mode (crc16_byte register) a old bytes (on true)
unfolding bytes_steps write_bytes crc_bytes
bytes_written mode [] a register old on fit = refl
bytes_written mode (byte ∷ bytes) a register old on fit =
    simp (in_turn, byte_written, fit.0, bytes_written mode bytes (a + 1) (a + 1) old on fit.1)

-- ---- a write, and the update

module _ (kind : UpdateKind) where
  selected : (target : Target) (on : Bool → Script) (good : Bool)
      → as_script (head_steps kind target) on good ≡ reset (send_bytes (selecting kind.selection ++ head_of kind.mode target) (on true))
  unfolding head_steps
  selected target on good = reset_script (as_script (send_steps (selecting kind.selection ++ head_of kind.mode target)) on) good ∙ ap reset (sent _ on)

  written : (target : Target) (old : ℕ) (bytes : List ℕ) (on : Bool → Script) (good : Bool) → BackFits old bytes
      → as_script (write_steps kind target old bytes) on good ≡ write kind target old bytes (on true)
  unfolding write_steps write crc_bytes
  written target old bytes on good fit = simp (in_turn, selected, bytes_written)

  pub planned : (l t used : ℕ) (new : List ℕ) → as_script (plan_of kind l t used new) (λ good. gives (l ∷ t ∷ []) []) true ≡ update_script kind l t used new
  unfolding plan_of update_script
  planned l t used new =
      let back = and_le_r used (clearing t) in
      let small : BackFits used (clearing t ∷ []) = (omega arith, tt) in
      simp (in_turn, written, reset_script, blank_fits, small)
