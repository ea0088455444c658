-- Calls one after the other, for any master: what holds when the first i replies have been given.
use Prim.Native.Nat.{ℕ, ◌+◌, ◌<◌}
use mathlib.Core.Path.{◌≡◌, refl, ap, ◌∙◌}
use mathlib.Core.Bool.{Bool}
use mathlib.Core.List.{List, [], ◌∷◌, ◌++◌, map}
use native.Mathlib.Omega.{arith}
use lib.ListN.{length, get_or, set, take, length-set}
use Rattle.std.proofs.lemmas.List.{take_more, take_more_set, map-append}
use Rattle.base_types.specs.Outcome.{Outcome}
use Rattle.bus_scripts.specs.Next.{Next}
use Rattle.master_runs.specs.Calls.{reply_at, call_code, last_from, to_come, fed_calls, fed_answers}

-- the last of answers is the one at their end
last_more : (t a : Outcome Next) (answers : List (Outcome Next)) → last_from t (answers ++ (a ∷ [])) ≡ a
unfolding last_from
last_more t a [] = refl
last_more t a (b ∷ answers) = last_more b a answers

module _ {S : Type 0} (call : S → Bool → S) (told : S → Bool → Outcome Next) where
  -- a reply more
  calls_more : (s : S) (codes : List ℕ) (c : ℕ) → fed_calls call told s (codes ++ (c ∷ [])) ≡ call (fed_calls call told s codes) (reply_at c)
  calls_more s [] c = refl
  calls_more s (d ∷ codes) c = calls_more (call s (reply_at d)) codes c

  answers_more : (s : S) (codes : List ℕ) (c : ℕ)
      → fed_answers call told s (codes ++ (c ∷ [])) ≡ fed_answers call told s codes ++ (told (fed_calls call told s codes) (reply_at c) ∷ [])
  answers_more s [] c = refl
  answers_more s (d ∷ codes) c = ap (λ (rest : List (Outcome Next)). told s (reply_at d) ∷ rest) (answers_more (call s (reply_at d)) codes c)

  pub record Midway (s₀ : S) (codes : List ℕ) (i : ℕ) (s : S) (t : Outcome Next) (events : List ℕ) : Type 0 where
    pub room : length events ≡ length codes
    pub state : s ≡ fed_calls call told s₀ (take i codes)
    pub answer : t ≡ last_from to_come (fed_answers call told s₀ (take i codes))
    pub written : take i events ≡ map call_code (fed_answers call told s₀ (take i codes))

  pub midway : (s₀ : S) (codes : List ℕ) (i : ℕ) (s : S) (t : Outcome Next) (events : List ℕ)
      → Midway s₀ codes i s t events → i < length codes
      → (s' : S) (t' : Outcome Next) (code : ℕ)
      → s' ≡ call s (reply_at (get_or codes i 0)) → t' ≡ told s (reply_at (get_or codes i 0)) → code ≡ call_code t'
      → Midway s₀ codes (i + 1) s' t' (set events i code)
  midway s₀ codes i s t events m h s' t' code es et ec =
      let more = take_more codes i 0 h in
      let fits : i < length events = omega arith in
      record {
        room = length-set events i code ∙ m.room;
        state = rw (more, calls_more) (rw (← m.state) es);
        answer = rw (more, answers_more, last_more) (rw (← m.state) et);
        written = rw (take_more_set events i code fits, more, answers_more, map-append) cc;
      }
