-- Whole runs of a script, from its beginning to its end, put together and taken apart by the parts that scripts are made of.
use Prim.Native.Nat.{ℕ, zero, suc, ◌+◌, ◌*◌, ◌/◌, ◌^◌, ◌<◌}
use mathlib.Core.Bool.{Bool, true, false}
use mathlib.Core.List.{List, [], ◌∷◌, ◌++◌, append_assoc, append-nil}
use mathlib.Core.Path.{◌≡◌, refl, sym, ap, ◌∙◌, subst, subst₂}
use native.Mathlib.Omega.{arith}
use native.Mathlib.Nat.{pow-succ'}
use lib.Dec.{eqb}
use lib.ListN.{length, get_or}
use borrow.Author.Tests.{eq-eqb, eqb-true}
use Rattle.base_types.specs.Bits.{one, odd, bits_of, bits_of_bytes}
use Rattle.base_types.specs.Outcome.{Outcome, refused, accepted}
use Rattle.base_types.proofs.Values.{one_le, odd_of, one_odd}
use Rattle.bus_events.specs.declared.Event.{Event}
use Rattle.bus_events.specs.Events as bus
use Rattle.bus_events.specs.Slots.{slots, reading}
use Rattle.bus_events.proofs.Slots.{reading_add}
use Rattle.bus_scripts.specs.Joint.{lines}
use Rattle.bus_scripts.specs.Next.{Next, tells}
use Rattle.bus_scripts.specs.Script.{Script, stops, gives, sends, check_with, check, reset, send_bits, read_bits, read_bytes, read_crc, Played, play_on}

-- with these replies the script sends these events and comes to its end, which tells this and hands these bytes over
pub data Runs : Script → List Bool → List Event → Outcome Next → List ℕ → Type 0 where
  stopped : {number : ℕ} {values : List ℕ} → Runs (stops number values) [] [] (refused number values) []
  given : {values bytes : List ℕ} → Runs (gives values bytes) [] [] (accepted (tells values)) bytes
  sent : {e : Event} {on : Bool → Script} {r : Bool} {rs : List Bool} {es : List Event} {told : Outcome Next} {bytes : List ℕ} → Runs (on r) rs es told bytes
      → Runs (sends e on) (r ∷ rs) (e ∷ es) told bytes

-- each a byte
abbrev Small : List ℕ → Type 0
Small bytes = (i : ℕ) → get_or bytes i 0 < 256

small_cons : (b : ℕ) (bs : List ℕ) → b < 256 → Small bs → Small (b ∷ bs)
small_cons b bs l small zero = l
small_cons b bs l small (suc i) = small i

-- the read slots of a byte and of more bytes
more_slots : (k : ℕ) → reading 8 ++ reading (8 * k) ≡ reading (8 * suc k)
more_slots k = let e : 8 * suc k ≡ 8 + 8 * k = omega arith in sym (ap reading e ∙ reading_add 8 (8 * k))

-- ---- put together

-- these replies and events bring a run of the script to where it goes on as on does
pub record Passes (script : Script) (front : List Bool) (out : List Event) (on : Script) : Type 0 where
  pub run : (rs : List Bool) (es : List Event) (told : Outcome Next) (handed : List ℕ) → Runs on rs es told handed → Runs script (front ++ rs) (out ++ es) told handed

infixr 20 ◌and-then◌
pub ◌and-then◌ : {a b c : Script} {front more : List Bool} {out far : List Event} → Passes a front out b → Passes b more far c → Passes a (front ++ more) (out ++ far) c
◌and-then◌ {a = a} {front = front} {more = more} {out = out} {far = far} p q =
    record {
      run = λ rs es told handed h. subst₂ (λ (xs : List Bool) (ys : List Event). Runs a xs ys told handed) (sym (append_assoc front more rs)) (sym (append_assoc out far es))
          (p.run (more ++ rs) (far ++ es) told handed (q.run rs es told handed h));
    }

pub reset_runs : {on : Script} → Passes (reset on) (false ∷ []) (bus.reset ∷ []) on
reset_runs = record { run = λ rs es told handed h. sent h }

pub send_runs : (bits ignored : List Bool) {on : Script} → length ignored ≡ length bits → Passes (send_bits bits on) ignored (slots bits) on
unfolding send_bits
send_runs [] [] l = record { run = λ rs es told handed h. h }
send_runs [] (i ∷ ignored) l = absurd (let z : ⊥ = omega arith in z)
send_runs (b ∷ bits) [] l = absurd (let z : ⊥ = omega arith in z)
send_runs (b ∷ bits) (i ∷ ignored) l = record { run = λ rs es told handed h. sent ((send_runs bits ignored (omega arith)).run rs es told handed h) }

pub read_runs : (k v : ℕ) (on : ℕ → Script) → v < 2 ^ k → Passes (read_bits k on) (bits_of k v) (reading k) (on v)
unfolding read_bits bits_of
read_runs zero v on l = let e : v ≡ 0 = omega arith in record { run = λ rs es told handed h. subst (λ (x : ℕ). Runs (on x) rs es told handed) e h }
read_runs (suc k) v on l =
    let e : v ≡ one (odd v) + 2 * (v / 2) = omega (arith, one_odd v) in
    record {
      run = λ rs es told handed h. sent ((read_runs k (v / 2) (λ rest. on (one (odd v) + 2 * rest)) (omega (arith, pow-succ' 2 k))).run rs es told handed
          (subst (λ (x : ℕ). Runs (on x) rs es told handed) e h));
    }

pub bytes_runs : (k : ℕ) (bytes : List ℕ) (on : List ℕ → Script) → length bytes ≡ k → Small bytes → Passes (read_bytes k on) (bits_of_bytes bytes) (reading (8 * k)) (on bytes)
unfolding read_bytes bits_of_bytes
bytes_runs zero [] on l small = record { run = λ rs es told handed h. h }
bytes_runs zero (b ∷ bytes) on l small = absurd (let z : ⊥ = omega arith in z)
bytes_runs (suc k) [] on l small = absurd (let z : ⊥ = omega arith in z)
bytes_runs (suc k) (b ∷ bytes) on l small =
    rw (more_slots k) at (read_runs 8 b (λ byte. read_bytes k (λ more. on (byte ∷ more))) (small 0)
    and-then bytes_runs k bytes (λ more. on (b ∷ more)) (omega arith) (λ i. small (suc i)))

pub crc_runs : (crc : ℕ) (on : Script) → crc < 65536 → Passes (read_crc crc on) (bits_of 16 crc) (reading 16) on
crc_runs crc on l = simp (eq-eqb crc crc refl) at (read_runs 16 crc (λ got. check (eqb got crc) 6 on) l)

-- ---- taken apart

-- the run goes by these replies and events, and then as on does
pub record Goes (told : Outcome Next) (handed : List ℕ) (front : List Bool) (out : List Event) (on : Script) (rs : List Bool) (es : List Event) : Type 0 where
  pub later : List Bool
  pub after : List Event
  pub replies : rs ≡ front ++ later
  pub events : es ≡ out ++ after
  pub runs : Runs on later after told handed

-- a part was passed with a value of its own: the replies not looked at, the number read, the bytes read
pub record Took {A : Type 0} (told : Outcome Next) (handed : List ℕ) (Fine : A → Type 0) (front : A → List Bool) (out : List Event) (on : A → Script) (rs : List Bool)
    (es : List Event) : Type 0 where
  pub value : A
  pub fine : Fine value
  pub goes : Goes told handed (front value) out (on value) rs es

-- a test that a run has passed, where its refusal is not what is told
pub check_passed : (test : Bool) {number : ℕ} {values : List ℕ} {on : Script} {rs : List Bool} {es : List Event} {told : Outcome Next} {handed : List ℕ}
    → (told ≡ refused number values → ⊥) → Runs (check_with test number values on) rs es told handed → (test ≡ true) × Runs on rs es told handed
check_passed true other h = (refl, h)
check_passed false other stopped = absurd (other refl)

pub reset_passed : {on : Script} {rs : List Bool} {es : List Event} {told : Outcome Next} {handed : List ℕ} → (told ≡ refused 13 [] → ⊥) → Runs (reset on) rs es told handed
    → Goes told handed (false ∷ []) (bus.reset ∷ []) on rs es
reset_passed other (sent {r = false} {rs = rs} {es = es} h) = record { later = rs; after = es; replies = refl; events = refl; runs = h }
reset_passed {on = on} other (sent {r = true} h) =
    let c = check_passed false {on = on} other h in
    let z : false ≡ true = c.0 in let y : ◌≡◌ {A = ℕ} 0 1 = cc in absurd (omega arith)

-- an end
ends : {values bytes : List ℕ} {rs : List Bool} {es : List Event} {told : Outcome Next} {handed : List ℕ} → Runs (gives values bytes) rs es told handed
    → (rs ≡ []) × (es ≡ []) × (told ≡ accepted (tells values)) × (handed ≡ bytes)
ends given = (refl, refl, refl, refl)

pub stopped_is : {number : ℕ} {values : List ℕ} {rs : List Bool} {es : List Event} {told : Outcome Next} {handed : List ℕ} → Runs (stops number values) rs es told handed
    → (rs ≡ []) × (es ≡ []) × (told ≡ refused number values) × (handed ≡ [])
stopped_is stopped = (refl, refl, refl, refl)

module _ {told : Outcome Next} {handed : List ℕ} where
  -- one part after the other
  pub onward : {front more : List Bool} {out far : List Event} {on end : Script} {rs : List Bool} {es : List Event} (g : Goes told handed front out on rs es)
      → Goes told handed more far end g.later g.after → Goes told handed (front ++ more) (out ++ far) end rs es
  onward {front} {more} {out} {far} g h =
      record {
        later = h.later;
        after = h.after;
        replies = g.replies ∙ ap (λ (l : List Bool). front ++ l) h.replies ∙ sym (append_assoc front more h.later);
        events = g.events ∙ ap (λ (l : List Event). out ++ l) h.events ∙ sym (append_assoc out far h.after);
        runs = h.runs;
      }

  abbrev at_once : {on : Script} {rs : List Bool} {es : List Event} → Runs on rs es told handed → Goes told handed [] [] on rs es
  at_once {rs = rs} {es = es} h = record { later = rs; after = es; replies = refl; events = refl; runs = h }

  abbrev one_event : {r : Bool} {e : Event} {on : Script} {rs : List Bool} {es : List Event} → Runs on rs es told handed → Goes told handed (r ∷ []) (e ∷ []) on (r ∷ rs) (e ∷ es)
  one_event {rs = rs} {es = es} h = record { later = rs; after = es; replies = refl; events = refl; runs = h }

  pub send_passed : (bits : List Bool) (on : Script) {rs : List Bool} {es : List Event} → Runs (send_bits bits on) rs es told handed
      → Took told handed (λ ignored. length ignored ≡ length bits) (λ ignored. ignored) (slots bits) (λ ignored. on) rs es
  unfolding send_bits
  send_passed [] on h = record { value = []; fine = refl; goes = at_once h }
  send_passed (b ∷ bits) on (sent {r = r} h) =
      let s = send_passed bits on h in
      record { value = r ∷ s.value; fine = ap suc s.fine; goes = onward (one_event h) s.goes }

  pub read_passed : (k : ℕ) (on : ℕ → Script) {rs : List Bool} {es : List Event} → Runs (read_bits k on) rs es told handed
      → Took told handed (λ v. v < 2 ^ k) (bits_of k) (reading k) on rs es
  unfolding read_bits bits_of
  read_passed zero on h = record { value = 0; fine = omega arith; goes = at_once h }
  read_passed (suc k) on (sent {r = r} {rs = rs} {es = es} h) =
      let s = read_passed k (λ rest. on (one r + 2 * rest)) h in
      let half : (one r + 2 * s.value) / 2 ≡ s.value = omega (arith, one_le r) in
      record {
        value = one r + 2 * s.value;
        fine = omega (arith, one_le r, s.fine, pow-succ' 2 k);
        goes = subst₂ (λ (b : Bool) (v : ℕ). Goes told handed (b ∷ bits_of k v) (bus.read_slot ∷ reading k) (on (one r + 2 * s.value)) (r ∷ rs) (bus.read_slot ∷ es))
            (sym (odd_of r s.value)) (sym half) (onward (one_event h) s.goes);
      }

  -- a CRC that agreed
  pub crc_passed : (crc : ℕ) (on : Script) {rs : List Bool} {es : List Event} → (told ≡ refused 6 [] → ⊥) → Runs (read_crc crc on) rs es told handed
      → Goes told handed (bits_of 16 crc) (reading 16) on rs es
  crc_passed crc on {rs} {es} other h =
      let b = read_passed 16 (λ got. check (eqb got crc) 6 on) h in
      let c = check_passed (eqb b.value crc) other b.goes.runs in
      subst (λ (v : ℕ). Goes told handed (bits_of 16 v) (reading 16) on rs es) (eqb-true b.value crc c.0)
      (record { later = b.goes.later; after = b.goes.after; replies = b.goes.replies; events = b.goes.events; runs = c.1 })

  pub bytes_passed : (k : ℕ) (on : List ℕ → Script) {rs : List Bool} {es : List Event} → Runs (read_bytes k on) rs es told handed
      → Took told handed (λ bytes. (length bytes ≡ k) × Small bytes) bits_of_bytes (reading (8 * k)) on rs es
  unfolding read_bytes bits_of_bytes
  bytes_passed zero on h = record { value = []; fine = (refl, λ i. omega arith); goes = at_once h }
  bytes_passed (suc k) on h =
      let b = read_passed 8 (λ byte. read_bytes k (λ more. on (byte ∷ more))) h in
      let s = bytes_passed k (λ more. on (b.value ∷ more)) b.goes.runs in
      record {
        value = b.value ∷ s.value;
        fine = (ap suc s.fine.0, small_cons b.value s.value b.fine s.fine.1);
        goes = rw (more_slots k) at (onward b.goes s.goes);
      }

  pub given_is : {values bytes : List ℕ} {front : List Bool} {out : List Event} {rs : List Bool} {es : List Event} → Goes told handed front out (gives values bytes) rs es
      → (rs ≡ front) × (es ≡ out) × (told ≡ accepted (tells values)) × (handed ≡ bytes)
  given_is {front = front} {out = out} g = let e = ends g.runs in (g.replies ∙ rw e.0 (append-nil front), g.events ∙ rw e.1 (append-nil out), e.2, e.3)

-- ---- on a bus that draws these replies

module _ {B : Type 0} (react : B → Event → B) (line : B → Event → Bool) where
  pub runs_on : {script : Script} (b : B) {rs : List Bool} {es : List Event} {told : Outcome Next} {bytes : List ℕ} → Runs script rs es told bytes → lines react line b es ≡ rs
      → play_on react line script b ≡ record { events = es; told = told; bytes = bytes }
  unfolding play_on
  runs_on b stopped d = refl
  runs_on b given d = refl
  runs_on b (sent {e = e} {on = on} {r = r} {rs = rs} {es = es} {told = told} {bytes = bytes} h) d =
      let drawn : line b e ≡ r = cc d in
      let more : lines react line (react b e) es ≡ rs = cc d in
      ap (λ (p : Played). record { events = e ∷ p.events; told = p.told; bytes = p.bytes })
      (ap (λ (q : Bool). play_on react line (on q) (react b e)) drawn ∙ runs_on (react b e) h more)
