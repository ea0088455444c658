-- A machine that follows a script: what it shows and hands over in each state is the script's, reply by reply.
use Prim.Native.Nat.{ℕ, zero, suc, ◌+◌, ◌*◌, ◌/◌, ◌<◌}
use mathlib.Core.Bool.{Bool, true, false, cond}
use mathlib.Core.List.{List, [], ◌∷◌}
use mathlib.Core.Path.{◌≡◌, refl, sym, ap, ap₂, ◌∙◌, subst}
use native.Mathlib.Nat.{zero-add}
use native.Mathlib.Omega.{arith}
use lib.ListN.{length, set}
use Rattle.base_types.specs.Bits.{one}
use Rattle.base_types.specs.Filled.{filled}
use Rattle.base_types.specs.Outcome.{Outcome, refused, accepted}
use Rattle.bus_events.specs.declared.Event.{Event}
use Rattle.base_types.proofs.Collect.{gathered}
use Rattle.base_types.proofs.Filled.{filled_is}
use Rattle.base_types.proofs.Values.{value_of}
use Rattle.bus_events.specs.Events as bus
use Rattle.bus_scripts.specs.Joint.{answers}
use Rattle.bus_scripts.specs.Next.{Next, send, tells}
use Rattle.bus_scripts.specs.Script.{Script, stops, gives, sends, check_with, reset, read_bits, read_byte, read_bytes, outcome_at, handed_at, follow, play_from}

pub data Follows {S : Type 0} (step : S → Bool → S) (show : S → Outcome Next) (hand : S → List ℕ) : S → Script → Type 0 where
  sending : {s : S} {event : Event} {on : Bool → Script} → show s ≡ accepted (send event) → hand s ≡ []
      → ((r : Bool) → Follows step show hand (step s r) (on r)) → Follows step show hand s (sends event on)
  stopping : {s : S} {number : ℕ} {values : List ℕ} → show s ≡ refused number values → hand s ≡ [] → ((r : Bool) → step s r ≡ s)
      → Follows step show hand s (stops number values)
  giving : {s t : S} {values bytes : List ℕ} → show s ≡ accepted (tells values) → hand s ≡ bytes → ((r : Bool) → step s r ≡ t)
      → show t ≡ accepted (tells values) → hand t ≡ [] → ((r : Bool) → step t r ≡ t) → Follows step show hand s (gives values bytes)

module _ {S : Type 0} {step : S → Bool → S} {show : S → Outcome Next} {hand : S → List ℕ} where
  pub shown_is : {s : S} {script : Script} → Follows step show hand s script → show s ≡ outcome_at script
  shown_is (sending a b c) = a
  shown_is (stopping a b c) = a
  shown_is (giving a b c d e f) = a

  pub handed_is : {s : S} {script : Script} → Follows step show hand s script → hand s ≡ handed_at script
  handed_is (sending a b c) = b
  handed_is (stopping a b c) = b
  handed_is (giving a b c d e f) = b

  pub onward : {s : S} {script : Script} → Follows step show hand s script → (r : Bool) → Follows step show hand (step s r) (follow script r)
  onward (sending a b c) r = c r
  onward (stopping {number = number} {values = values} a b c) r = subst (λ (t : S). Follows step show hand t (stops number values)) (sym (c r)) (stopping a b c)
  onward (giving {values = values} a b c d e f) r = subst (λ (t : S). Follows step show hand t (gives values [])) (sym (c r)) (giving d e f d e f)

  -- ---- the combinators

  pub resetting : {s : S} {on : Script} → show s ≡ accepted (send bus.reset) → hand s ≡ [] → Follows step show hand (step s true) (stops 13 [])
      → Follows step show hand (step s false) on → Follows step show hand s (reset on)
  resetting {s} {on} a b absent present = sending a b go
    where
      go : (r : Bool) → Follows step show hand (step s r) (follow (reset on) r)
      go true = absent
      go false = present

  pub checking : {X : Type 0} (at : X → S) (test : Bool) {x y : X} {on : Script} {number : ℕ} {values : List ℕ} → (test ≡ true → Follows step show hand (at x) on)
      → (test ≡ false → Follows step show hand (at y) (stops number values)) → Follows step show hand (at (cond test x y)) (check_with test number values on)
  checking at true f g = f refl
  checking at false f g = g refl

  -- so many read slots: at left v, that many of them are out, and the register holds v; a bit that comes in counts top
  module _ (top : ℕ) (at : ℕ → ℕ → S) (done : ℕ → S) (out : (left v : ℕ) → show (at (suc left) v) ≡ accepted (send bus.read_slot))
      (quiet : (left v : ℕ) → hand (at (suc left) v) ≡ []) (more : (left v : ℕ) (r : Bool) → step (at (suc (suc left)) v) r ≡ at (suc left) (v / 2 + top * one r))
      (last : (v : ℕ) (r : Bool) → step (at 1 v) r ≡ done (v / 2 + top * one r)) where
    pub receiving : (left v : ℕ) (on : ℕ → Script) → ((bs : List Bool) → length bs ≡ suc left → Follows step show hand (done (gathered top v bs)) (on (value_of bs)))
        → Follows step show hand (at (suc left) v) (read_bits (suc left) on)
    unfolding read_bits
    receiving zero v on f =
        sending (out 0 v) (quiet 0 v) (λ r. subst (λ (s : S). Follows step show hand s (on (value_of (r ∷ [])))) (sym (last v r)) (f (r ∷ []) refl))
    receiving (suc left) v on f =
        sending (out (suc left) v) (quiet (suc left) v)
        (λ r. subst (λ (s : S). Follows step show hand s (read_bits (suc left) (λ rest. on (one r + 2 * rest)))) (sym (more left v r))
        (receiving left (v / 2 + top * one r) (λ rest. on (one r + 2 * rest)) (λ bs l. f (r ∷ bs) (ap suc l))))

  -- bytes 0 to end, each into its place: at k bytes, byte k is awaited
  module _ (end : ℕ) (at : ℕ → List ℕ → S) (done : List ℕ → S)
      (more : (k : ℕ) (bytes : List ℕ) (on : ℕ → Script) → k < end → ((v : ℕ) → Follows step show hand (at (k + 1) (set bytes k v)) (on v))
      → Follows step show hand (at k bytes) (read_byte on))
      (last : (bytes : List ℕ) (on : ℕ → Script) → ((v : ℕ) → Follows step show hand (done (set bytes end v)) (on v)) → Follows step show hand (at end bytes) (read_byte on)) where
    bytes_from : (m k : ℕ) (bytes : List ℕ) (on : List ℕ → Script) → k + m ≡ end
        → ((ds : List ℕ) → length ds ≡ suc m → Follows step show hand (done (filled bytes k ds)) (on ds)) → Follows step show hand (at k bytes) (read_bytes (suc m) on)
    unfolding read_bytes
    bytes_from zero k bytes on l f =
        let e : k ≡ end = omega arith in
        rw e (last bytes (λ byte. on (byte ∷ [])) (λ v. rw e at (f (v ∷ []) refl)))
    bytes_from (suc m) k bytes on l f =
        more k bytes (λ byte. read_bytes (suc m) (λ rest. on (byte ∷ rest))) (omega arith)
        (λ v. bytes_from m (k + 1) (set bytes k v) (λ rest. on (v ∷ rest)) (omega arith) (λ ds e. f (v ∷ ds) (ap suc e)))

    pub receiving_bytes : (bytes : List ℕ) (on : List ℕ → Script) → length bytes ≡ suc end
        → ((ds : List ℕ) → length ds ≡ suc end → Follows step show hand (done ds) (on ds)) → Follows step show hand (at 0 bytes) (read_bytes (suc end) on)
    receiving_bytes bytes on l f =
        bytes_from end 0 bytes on (zero-add end)
        (λ ds e. subst (λ (x : List ℕ). Follows step show hand (done x) (on ds)) (sym (filled_is ds bytes 0 (omega arith))) (f ds e))

  -- ---- calls, where the caller's state c is seen as the machine's state s

  module _ {C : Type 0} (call : C → Bool → C) (told : C → Bool → Outcome Next) (Sees : C → S → Type 0)
      (sees-step : (c : C) (s : S) (r : Bool) → Sees c s → Sees (call c r) (step s r))
      (told_is : (c : C) (s : S) (r : Bool) → Sees c s → told c r ≡ show (step s r)) where
    pub plays_from : (rs : List Bool) (c : C) (s : S) (on : Bool → Script) → Sees c s → ((r : Bool) → Follows step show hand (step s r) (on r))
        → answers call told c rs ≡ play_from on rs
    plays_from [] c s on sees f = refl
    plays_from (r ∷ rs) c s on sees f =
        ap₂ (λ (a : Outcome Next) (l : List (Outcome Next)). a ∷ l) (told_is c s r sees ∙ shown_is (f r))
        (plays_from rs (call c r) (step s r) (follow (on r)) (sees-step c s r sees) (onward (f r)))
