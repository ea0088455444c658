-- How many events a script can send, and which, whatever the replies.
use Prim.Native.Nat.{ℕ, zero, suc, ◌+◌, ◌*◌, ◌≤◌}
use mathlib.Core.Bool.{Bool, true, false, not}
use mathlib.Core.List.{List, [], ◌∷◌}
use mathlib.Core.Path.{refl}
use native.Mathlib.Omega.{arith}
use lib.Dec.{eqb}
use lib.ListN.{length}
use Rattle.base_types.specs.Bits.{one}
use Rattle.bus_events.specs.declared.Event.{Event}
use Rattle.bus_events.specs.Events as bus
use Rattle.bus_scripts.specs.Next.{events_of}
use Rattle.bus_scripts.specs.Script.{Script, stops, gives, sends, check_with, check, reset, send_bits, read_bits, read_bytes, read_crc, play}
use Rattle.bus_scripts.proofs.Ended.{end_events}

-- no more than so many, each with a property
pub data Bounded (P : Event → Type 0) : ℕ → Script → Type 0 where
  stopping : {k number : ℕ} {values : List ℕ} → Bounded P k (stops number values)
  giving : {k : ℕ} {values bytes : List ℕ} → Bounded P k (gives values bytes)
  sending : {k : ℕ} {event : Event} {on : Bool → Script} → P event → ((reply : Bool) → Bounded P k (on reply)) → Bounded P (suc k) (sends event on)

-- every event of a list
abbrev pub Each : (Event → Type 0) → List Event → Type 0
Each P [] = Unit {0}
Each P (e ∷ es) = P e × Each P es

module _ {P : Event → Type 0} where
  told_bounded : {k : ℕ} {script : Script} (first : Bool) (rs : List Bool) → Bounded P k script
      → (length (events_of (play script (first ∷ rs))) ≤ k) × Each P (events_of (play script (first ∷ rs)))
  unfolding events_of
  told_bounded first rs (stopping {number = number} {values = values}) = rw (end_events (stops number values) refl first rs) (omega arith, tt)
  told_bounded first rs (giving {values = values} {bytes = bytes}) = rw (end_events (gives values bytes) refl first rs) (omega arith, tt)
  told_bounded first [] (sending p h) = (omega arith, (p, tt))
  told_bounded first (r ∷ rs) (sending p h) = let m = told_bounded r rs (h r) in (omega (arith, m.0), (p, m.1))

  pub bounded : {k : ℕ} {script : Script} (replies : List Bool) → Bounded P k script → (length (events_of (play script replies)) ≤ k) × Each P (events_of (play script replies))
  unfolding events_of
  bounded [] h = (omega arith, tt)
  bounded (r ∷ rs) h = told_bounded r rs h

  -- ---- by the parts of a script; j bounds what follows

  pub more_bounded : {j : ℕ} {script : Script} (k : ℕ) → j ≤ k → Bounded P j script → Bounded P k script
  more_bounded k l stopping = stopping
  more_bounded k l giving = giving
  more_bounded zero l (sending p h) = absurd (let z : ⊥ = omega arith in z)
  more_bounded (suc k) l (sending p h) = sending p (λ r. more_bounded k (omega arith) (h r))

  pub check_bounded : {k : ℕ} (test : Bool) (number : ℕ) (values : List ℕ) {on : Script} → Bounded P k on → Bounded P k (check_with test number values on)
  check_bounded true number values h = h
  check_bounded false number values h = stopping

  pub reset_bounded : {k : ℕ} {on : Script} → P bus.reset → Bounded P k on → Bounded P (suc k) (reset on)
  reset_bounded p h = sending p (λ r. check_bounded (not r) 13 [] h)

  module _ (slot : (bit : Bool) → P (bus.slot bit)) where
    pub send_bounded : (bits : List Bool) {j : ℕ} {on : Script} (k : ℕ) → length bits + j ≤ k → Bounded P j on → Bounded P k (send_bits bits on)
    unfolding send_bits
    send_bounded [] k l h = more_bounded k (omega arith) h
    send_bounded (b ∷ bits) zero l h = absurd (let z : ⊥ = omega arith in z)
    send_bounded (b ∷ bits) (suc k) l h = sending (slot b) (λ r. send_bounded bits k (omega arith) h)

    pub read_bounded : (width : ℕ) (on : ℕ → Script) {j : ℕ} (k : ℕ) → width + j ≤ k → ((v : ℕ) → Bounded P j (on v)) → Bounded P k (read_bits width on)
    unfolding read_bits
    read_bounded zero on k l h = more_bounded k (omega arith) (h 0)
    read_bounded (suc width) on zero l h = absurd (let z : ⊥ = omega arith in z)
    read_bounded (suc width) on (suc k) l h = sending (slot true) (λ r. read_bounded width (λ rest. on (one r + 2 * rest)) k (omega arith) (λ v. h (one r + 2 * v)))

    pub bytes_bounded : (count : ℕ) (on : List ℕ → Script) {j : ℕ} (k : ℕ) → 8 * count + j ≤ k → ((bytes : List ℕ) → Bounded P j (on bytes)) → Bounded P k (read_bytes count on)
    unfolding read_bytes
    bytes_bounded zero on k l h = more_bounded k (omega arith) (h [])
    bytes_bounded (suc count) on {j} k l h =
        read_bounded 8 (λ byte. read_bytes count (λ more. on (byte ∷ more))) k (omega arith)
        (λ byte. bytes_bounded count (λ more. on (byte ∷ more)) (8 * count + j) (omega arith) (λ bytes. h (byte ∷ bytes)))

    pub crc_bounded : (crc : ℕ) {j : ℕ} {on : Script} (k : ℕ) → 16 + j ≤ k → Bounded P j on → Bounded P k (read_crc crc on)
    crc_bounded crc {j} {on} k l h = read_bounded 16 (λ got. check (eqb got crc) 6 on) k l (λ got. check_bounded (eqb got crc) 6 [] h)
