-- Whatever the replies, the calls tell what the script tells.
use Prim.Native.Nat.{ℕ, suc, ◌+◌, ◌-◌, ◌<◌}
use mathlib.Core.Bool.{Bool}
use mathlib.Core.List.{List, [], ◌∷◌}
use mathlib.Core.Path.{◌≡◌, refl, ap, ◌∙◌}
use native.Mathlib.Omega.{arith}
use lib.ListN.{set, replicate}
use borrow.Author.Tests.{lt-ltb}
use Rattle.base_types.specs.Bits.{shift_in, bits_of, bits_of_bytes}
use Rattle.base_types.specs.Refusal.{number_of, values_of}
use Rattle.base_types.proofs.Collect.{byte_held}
use Rattle.base_types.proofs.Values.{value_of}
use Rattle.bus_scripts.specs.Script.{Script, stops, gives, check, reset, send_bits, send_bytes, read_byte, play}
use Rattle.bus_scripts.proofs.Follows.{Follows, sending, stopping, giving, resetting, checking, receiving, receiving_bytes, plays_from}
use Rattle.master_number.specs.declared.Phase.{Phase}
use Rattle.master_number.specs.declared.Phase.TheVariants.{Presence, Command, Receive, Closing, Stopped}
use Rattle.master_number.specs.declared.NumberStop.{NumberStop}
use Rattle.master_number.specs.declared.NumberStop.TheVariants.{NoPresence, Crc8, Family}
use Rattle.master_number.specs.declared.NumberRead.{NumberRead}
use Rattle.master_number.specs.Number.{number_stop}
use Rattle.master_number_laws.specs.Script.{crc8_agrees, family_agrees}
use Rattle.master_number.specs.Code.NumberSteps.{number_presence, after_read_rom, family_judged, crc_judged, number_byte_in, number_bit_in, number_closed}
use Rattle.master_number.specs.Code.NumberSteps.{number_next_at, number_next, number_phase_answer}
use Rattle.master_number.specs.NumberRead.{number_begun, number_answer, number_state}
use Rattle.master_number_laws.specs.Laws.{number_answers_to}
use Rattle.master_number_laws.specs.Script.{number_script}
use Rattle.master_number_laws.proofs.Ranges.{NumberFit, number_shown, number_starts, fit_step, state_is, answer_is}

infixl 25 ◌having◌
abbrev ◌having◌ : Phase → List ℕ → NumberRead
phase having bytes = record { phase = phase; bytes = bytes }

-- the number read hands no bytes over
abbrev NumberFollows : NumberRead → Script → Type 0
NumberFollows s script = Follows number_next number_shown (λ (_ : NumberRead). []) s script

-- a state that has stopped
halted : (cause : NumberStop) (bytes : List ℕ) → NumberFollows (Stopped cause having bytes) (stops (number_of (number_stop cause)) (values_of (number_stop cause)))
unfolding number_next_at number_phase_answer
halted cause bytes = stopping refl refl (λ r. refl)

-- ---- one byte

bit_next : (left k v : ℕ) (bytes : List ℕ) (r : Bool) → number_next (Receive k (suc (suc left)) v having bytes) r ≡ Receive k (suc left) (shift_in v r) having bytes
unfolding number_next_at number_bit_in
bit_next left k v bytes r = let e : suc (suc left) - 1 ≡ suc left = omega arith in simp (lt-ltb 1 (suc (suc left)) (omega arith), e)

byte_in_lem : (k : ℕ) (bytes : List ℕ) (on : ℕ → Script) → ((v : ℕ) → NumberFollows (number_byte_in (Presence having set bytes k v) k) (on v))
    → NumberFollows (Receive k 8 0 having bytes) (read_byte on)
unfolding number_next_at number_bit_in number_phase_answer number_byte_in crc_judged family_judged
byte_in_lem k bytes on f =
    receiving 128 (λ left v. Receive k left v having bytes) (λ v. number_byte_in (Presence having set bytes k v) k) (λ left v. refl) (λ left v. refl)
    (λ left v r. bit_next left k v bytes r) (λ v r. refl) 7 0 on (λ bs l. rw (byte_held bs l) (f (value_of bs)))

byte_more : (k : ℕ) (bytes : List ℕ) (on : ℕ → Script) → k < 7 → ((v : ℕ) → NumberFollows (Receive (k + 1) 8 0 having set bytes k v) (on v))
    → NumberFollows (Receive k 8 0 having bytes) (read_byte on)
unfolding number_byte_in
byte_more k bytes on l f = byte_in_lem k bytes on (λ v. simp (lt-ltb k 7 l) (f v))

byte_last : (bytes : List ℕ) (on : ℕ → Script) → ((v : ℕ) → NumberFollows (crc_judged (Presence having set bytes 7 v)) (on v)) → NumberFollows (Receive 7 8 0 having bytes) (read_byte on)
unfolding number_byte_in
byte_last bytes on f = byte_in_lem 7 bytes on f

-- ---- the number is judged, and the closing reset

closes : (bytes : List ℕ) → NumberFollows (Closing having bytes) (reset (gives bytes []))
unfolding number_next_at number_closed number_phase_answer
closes bytes = resetting refl refl (halted NoPresence bytes) (giving refl refl (λ r. refl) refl refl (λ r. refl))

judges : (number : List ℕ) → NumberFollows (crc_judged (Presence having number)) (check (crc8_agrees number) 14 (check (family_agrees number) 15 (reset (gives number []))))
unfolding crc_judged family_judged
judges number =
    checking (λ s. s) (crc8_agrees number)
    (λ _. checking (λ s. s) (family_agrees number) (λ _. closes number) (λ _. halted Family number)) (λ _. halted Crc8 number)

-- ---- from the first reset on

commands : (bytes : List ℕ) (on : Script) → NumberFollows (Receive 0 8 0 having bytes) on → NumberFollows (Command 0 having bytes) (send_bytes (0x33 ∷ []) on)
unfolding number_next_at after_read_rom number_phase_answer bits_of_bytes bits_of send_bits
commands bytes on f =
    sending refl refl (λ _. sending refl refl (λ _. sending refl refl (λ _. sending refl refl (λ _. sending refl refl (λ _. sending refl refl (λ _. sending refl
    refl (λ _. sending refl refl (λ _. f))))))))

opens : (r : Bool) → NumberFollows (number_next number_begun r) number_script
unfolding number_script number_next_at number_presence number_phase_answer
opens r =
    resetting refl refl (halted NoPresence (replicate 8 0))
    (commands (replicate 8 0) _ (receiving_bytes 7 (λ k bytes. Receive k 8 0 having bytes) (λ bytes. crc_judged (Presence having bytes)) byte_more byte_last
    (replicate 8 0) _ refl (λ number l. judges number)))

pub number_plays : (replies : List Bool) → number_answers_to number_begun replies ≡ play number_script replies
number_plays replies =
    plays_from number_state number_answer (λ c s. (c ≡ s) × NumberFit s)
    (λ c s r v. (ap (λ (x : NumberRead). number_state x r) v.0 ∙ state_is s r v.1, fit_step s r v.1))
    (λ c s r v. ap (λ (x : NumberRead). number_answer x r) v.0 ∙ answer_is s r v.1) replies number_begun number_begun (λ _. number_script) (refl, number_starts) opens
