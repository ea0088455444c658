-- The ranges are those listed, and the start and every call keep to them; within them a call takes the reply and tells what the state then
-- reached shows.
use Prim.Native.Nat.{ℕ, ◌+◌}
use mathlib.Core.Bool.{Bool, true, false}
use mathlib.Core.List.{List, [], ◌∷◌}
use mathlib.Core.Logic.{◌↔◌}
use mathlib.Core.Path.{◌≡◌, refl, sym, ◌∙◌}
use native.Mathlib.Omega.{arith}
use lib.Dec.{ltb}
use borrow.Author.Tests.{lt-ltb, ltb-true}
use Rattle.base_types.specs.Outcome.{Outcome, refused}
use Rattle.base_types.specs.Refusal.{number_of}
use Rattle.base_types.proofs.Tests.{both, either}
use Rattle.bus_scripts.specs.Next.{Next}
use Rattle.bus_scripts.specs.Ranges.{among}
use Rattle.bus_scripts.proofs.Ranges.{out_means, out_is, one_less}
use Rattle.master_number.specs.declared.Phase.{Phase}
use Rattle.master_number.specs.declared.Phase.TheVariants.{Begin, Presence, Command, Receive, Closing, Done, Stopped}
use Rattle.master_number.specs.declared.NumberStop.{NumberStop}
use Rattle.master_number.specs.declared.NumberStop.TheVariants.{NoPresence, Crc8, Family}
use Rattle.master_number.specs.declared.NumberRead.{NumberRead}
use Rattle.master_number.specs.Number.{number_stop}
use Rattle.master_number_laws.specs.Script.{crc8_agrees, family_agrees}
use Rattle.master_number.specs.Code.NumberSteps.{number_presence, after_read_rom, family_judged, crc_judged, number_byte_in, number_bit_in, number_closed}
use Rattle.master_number.specs.Code.NumberSteps.{number_next_at, number_next, number_phase_answer}
use Rattle.master_number.specs.NumberRead.{answer_outcome, number_receive_in_range, is_number, number_phase_in_range, number_in_range, number_begun, number_answer, number_state}
use Rattle.master_number_laws.specs.Ranges.{Sound, NumberListed}

-- ---- the list

sound : (bytes : List ℕ) → (is_number bytes ≡ true) ↔ Sound bytes
unfolding is_number
sound bytes = (λ h. let b = both (crc8_agrees bytes) (family_agrees bytes) h in record { crc = b.0; family = b.1 }, λ s. simp (s.crc, s.family))

stop_numbers : (cause : NumberStop) → among (number_of (number_stop cause)) (13 ∷ 14 ∷ 15 ∷ []) ≡ true
stop_numbers NoPresence = refl
stop_numbers Crc8 = refl
stop_numbers Family = refl

phase_is : (phase : Phase) (bytes : List ℕ) → (number_phase_in_range phase bytes ≡ true) ↔ NumberListed phase bytes
unfolding number_phase_in_range number_receive_in_range
phase_is Begin bytes = (λ h. tt, λ l. refl)
phase_is Presence bytes = (λ h. tt, λ l. refl)
phase_is (Command i) bytes = (λ h. omega (arith, ltb-true i 8 h), λ l. lt-ltb i 8 (omega arith))
phase_is (Receive k left register) bytes = (
  λ h. let o = out_means 8 (ltb k 8) left h in (omega (arith, ltb-true k 8 o.1), o.0),
  λ l. out_is 8 (ltb k 8) left l.1 (lt-ltb k 8 (omega (arith, l.0))),
)
phase_is Closing bytes = sound bytes
phase_is Done bytes = sound bytes
phase_is (Stopped cause) bytes = (λ h. stop_numbers cause, λ l. refl)

pub number_listed : (s : NumberRead) → (number_in_range s ≡ true) ↔ NumberListed s.phase s.bytes
number_listed s = phase_is s.phase s.bytes

-- ---- calls

abbrev pub NumberFit : NumberRead → Type 0
NumberFit s = number_in_range s ≡ true

-- what is told on the way into a state
abbrev pub number_shown : NumberRead → Outcome Next
number_shown s = answer_outcome (number_phase_answer s.phase s.bytes)

pub number_starts : NumberFit number_begun
unfolding number_phase_in_range
number_starts = refl

judged_fit : (s : NumberRead) → NumberFit (crc_judged s)
unfolding crc_judged family_judged number_phase_in_range is_number
judged_fit s = either NumberFit (crc8_agrees s.bytes) _ _ (λ c. either NumberFit (family_agrees s.bytes) _ _ (λ f. simp (c, f)) (λ _. refl)) (λ _. refl)

next_fit : (phase : Phase) (s : NumberRead) (r : Bool) → number_phase_in_range phase s.bytes ≡ true → NumberFit s → NumberFit (number_next_at phase s r)
unfolding number_next_at number_presence after_read_rom number_byte_in number_bit_in number_closed number_phase_in_range number_receive_in_range
next_fit Begin s r h f = refl
next_fit Presence s true h f = refl
next_fit Presence s false h f = refl
next_fit (Command i) s r h f =
    either (λ (p : Phase). number_phase_in_range p s.bytes ≡ true) (ltb i 7) _ _ (λ t. lt-ltb (i + 1) 8 (omega (arith, ltb-true i 7 t))) (λ _. refl)
next_fit (Receive k left v) s r h f =
    either NumberFit (ltb 1 left) _ _ (λ t. one_less 8 (ltb k 8) left (ltb-true 1 left t) h)
    (λ _. either NumberFit (ltb k 7) _ _ (λ t. lt-ltb (k + 1) 8 (omega (arith, ltb-true k 7 t))) (λ _. judged_fit _))
next_fit Closing s true h f = refl
next_fit Closing s false h f = h
next_fit Done s r h f = f
next_fit (Stopped cause) s r h f = f

pub fit_step : (s : NumberRead) (r : Bool) → NumberFit s → NumberFit (number_next s r)
fit_step s r h = next_fit s.phase s r h h

pub state_is : (s : NumberRead) (r : Bool) → NumberFit s → number_state s r ≡ number_next s r
unfolding number_state
state_is s r f = simp f

pub answer_is : (s : NumberRead) (r : Bool) → NumberFit s → number_answer s r ≡ number_shown (number_next s r)
unfolding number_answer
answer_is s r f = simp f

pub number_keeps : (s : NumberRead) (reply : Bool) → NumberFit s → NumberFit (number_state s reply)
number_keeps s reply f = rw (state_is s reply f) (fit_step s reply f)

-- ---- number 2

pub number_outside : (s : NumberRead) (reply : Bool) → number_in_range s ≡ false → (number_answer s reply ≡ refused 2 []) × (number_state s reply ≡ s)
unfolding number_answer number_state
number_outside s reply h = (simp h, simp h)

not_2 : (phase : Phase) (bytes values : List ℕ) → answer_outcome (number_phase_answer phase bytes) ≡ refused 2 values → ⊥
unfolding number_phase_answer
not_2 Begin bytes values e = cc
not_2 Presence bytes values e = cc
not_2 (Command i) bytes values e = cc
not_2 (Receive k left v) bytes values e = cc
not_2 Closing bytes values e = cc
not_2 Done bytes values e = cc
not_2 (Stopped NoPresence) bytes values e = cc
not_2 (Stopped Crc8) bytes values e = cc
not_2 (Stopped Family) bytes values e = cc

pub number_never_2 : (s : NumberRead) (reply : Bool) (values : List ℕ) → number_in_range s ≡ true → number_answer s reply ≡ refused 2 values → ⊥
number_never_2 s reply values h e = not_2 (number_next s reply).phase (number_next s reply).bytes values (sym (answer_is s reply h) ∙ e)
