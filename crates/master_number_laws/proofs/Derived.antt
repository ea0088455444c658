-- What follows from the script: the order of the events, what a number that is told says of the replies, what a chip's number leads to.
use Prim.Native.Nat.{ℕ, ◌%◌}
use mathlib.Core.Bool.{Bool, true, false}
use mathlib.Core.List.{List, [], ◌∷◌, ◌++◌}
use mathlib.Core.Path.{◌≡◌, refl, sym, ap, ◌∙◌, subst}
use native.Mathlib.Omega.{arith}
use lib.ListN.{length}
use Rattle.base_types.specs.Bits.{bits_of, bits_of_bytes}
use Rattle.base_types.specs.Outcome.{Outcome, refused, accepted}
use Rattle.base_types.proofs.Words.{bytes_length}
use Rattle.bus_events.specs.declared.Event.{Event}
use Rattle.bus_events.specs.Slots.{ones}
use Rattle.bus_events.proofs.Slots.{slots_append}
use Rattle.bus_scripts.specs.Next.{Next, tells, out_of, events_of}
use Rattle.bus_scripts.specs.Joint.{Begins, Good}
use Rattle.bus_scripts.specs.Script.{Script, gives, check, reset, read_bytes, Played, play_on, telling}
use Rattle.bus_scripts.proofs.Orders as orders
use Rattle.bus_scripts.proofs.Runs.{Runs, stopped, given, sent, Passes, ◌and-then◌, reset_runs, send_runs, bytes_runs, runs_on}
use Rattle.bus_scripts.proofs.Runs.{onward, check_passed, reset_passed, send_passed, bytes_passed, given_is}
use Rattle.bus_scripts.proofs.Ended.{told_ended}
use Rattle.bus_scripts.proofs.Bounded.{Bounded, giving, bounded, check_bounded, reset_bounded, send_bounded, bytes_bounded}
use Rattle.bus_scripts.proofs.Scripts.{script_laws}
use Rattle.master_number_laws.specs.Script.{crc8_agrees, family_agrees}
use Rattle.master_number.specs.NumberRead.{number_begun, number_answer, number_state}
use Rattle.chip_entries.specs.Event.{awaiting_memory}
use Rattle.chip_entries.specs.Run.{Chip, next, run, line_at}
use Rattle.chip_session_laws.specs.Session.{Ready, Bytes, Reaches, ◌at◌, read}
use Rattle.chip_session_laws.proofs.Bus.{bus_hears}
use Rattle.chip_session_laws.proofs.Runs.{◌then◌, stays}
use Rattle.chip_session_laws.proofs.Sessions.{selects, resets}
use Rattle.chip_session_laws.proofs.Slots.{lines_read, ready}
use Rattle.chip_session_laws.proofs.Unpulsed.{NoPulse, unpulsed}
use Rattle.master_number_laws.specs.Laws.{number_answers_to, number_slots, number_events, NumberAgreed, number_verdict, number_events_for}
use Rattle.master_number_laws.specs.Script.{number_script}
use Rattle.master_number_laws.proofs.Plays.{number_plays}

-- ---- whatever the replies

-- what follows the number
abbrev judging : List ℕ → Script
judging number = check (crc8_agrees number) 14 (check (family_agrees number) 15 (reset (gives number [])))

pub number_counted : length number_events ≡ 74
unfolding bits_of_bytes bits_of
number_counted = refl

pub number_ordered : (replies : List Bool) → Begins number_events (events_of (number_answers_to number_begun replies))
unfolding number_script bits_of_bytes bits_of
number_ordered replies =
    rw (number_plays replies)
    (orders.ordered (orders.reset_keeps (orders.bits_keeps (bits_of_bytes (0x33 ∷ [])) (orders.bytes_keeps 8
    (λ number. orders.check_keeps (crc8_agrees number) 14 [] (orders.check_keeps (family_agrees number) 15 [] (orders.reset_keeps orders.giving)))))) replies)

pub number_image_stays : (n : ℕ) (c : Chip) (replies : List Bool) → (run n c (events_of (number_answers_to number_begun replies))).image ≡ c.image
unfolding number_script
number_image_stays n c replies =
    let h : Bounded NoPulse 74 number_script =
    reset_bounded refl (send_bounded (λ bit. refl) (bits_of_bytes (0x33 ∷ [])) 73 (omega (arith, bytes_length (0x33 ∷ []))) (bytes_bounded (λ bit. refl) 8 judging 65 (omega arith)
    (λ number. check_bounded (crc8_agrees number) 14 [] (check_bounded (family_agrees number) 15 [] (reset_bounded refl (giving {k = 0})))))) in
    unpulsed n (events_of (number_answers_to number_begun replies)) c (rw (number_plays replies) (bounded replies h).1)

-- ---- a number that was told

told_not : (bytes : List ℕ) (number : ℕ) (values : List ℕ) → accepted (tells bytes) ≡ refused number values → ⊥
told_not bytes number values e = cc

run_agreed : (first : Bool) (used rest : List Bool) (events : List Event) (bytes handed : List ℕ) → Runs number_script used events (accepted (tells bytes)) handed
    → NumberAgreed (first ∷ (used ++ rest)) bytes
unfolding number_script
run_agreed first used rest events bytes handed h =
    let a = reset_passed (told_not bytes 13 []) h in
    let s = send_passed (bits_of_bytes (0x33 ∷ [])) (read_bytes 8 judging) a.runs in
    let b = bytes_passed 8 judging s.goes.runs in
    let c = check_passed (crc8_agrees b.value) (told_not bytes 14 []) b.goes.runs in
    let f = check_passed (family_agrees b.value) (told_not bytes 15 []) c.1 in
    let e = given_is (onward a (onward s.goes (onward b.goes (reset_passed (told_not bytes 13 []) f.1)))) in
    let same : b.value ≡ bytes = let q : accepted (tells bytes) ≡ accepted (tells b.value) = e.2 in cc in
    subst (NumberAgreed (first ∷ (used ++ rest))) same
    (record {
      first = first;
      ignored = s.value;
      rest = rest;
      is = ap (λ (l : List Bool). first ∷ (l ++ rest)) e.0;
      command = s.fine ∙ bytes_length (0x33 ∷ []);
      eight = b.fine.0;
      small = b.fine.1;
      crc = c.0;
      family = f.0;
    })

pub number_agreed : (replies : List Bool) (before later : List (Outcome Next)) (bytes : List ℕ)
    → number_answers_to number_begun replies ≡ before ++ (accepted (tells bytes) ∷ later) → NumberAgreed replies bytes
number_agreed [] [] later bytes e = cc
number_agreed [] (x ∷ before) later bytes e = cc
number_agreed (first ∷ rs) before later bytes e =
    let h = told_ended number_script first rs (accepted (tells bytes)) before later refl (sym (number_plays (first ∷ rs)) ∙ e) in
    subst (λ (l : List Bool). NumberAgreed (first ∷ l) bytes) (sym h.is) (run_agreed first h.used h.rest h.events bytes h.bytes h.runs)

-- ---- joined to a chip

abbrev number_replies : List ℕ → List Bool
number_replies number = (false ∷ bits_of 8 0x33) ++ bits_of_bytes number

-- the replies of a number bring the script to where it is judged
number_runs : (number : List ℕ) → length number ≡ 8 → Bytes number → Passes number_script (number_replies number) number_slots (judging number)
unfolding number_script bits_of_bytes bits_of
number_runs number eight small =
    reset_runs and-then send_runs (bits_of_bytes (0x33 ∷ [])) (bits_of 8 0x33) refl and-then bytes_runs 8 number judging eight small

module _ (n : ℕ) (whole : n % 8 ≡ 0) (c : Chip) (ok : Ready n c) (small : Bytes c.state.number) where
  abbrev number : List ℕ
  number = c.state.number

  -- reset, Read ROM, 64 read slots
  draws : Reaches n c number_slots (number_replies number) (c at awaiting_memory)
  unfolding bits_of_bytes bits_of
  draws =
      let l : length (bits_of_bytes number) ≡ 64 = omega (arith, bytes_length number, ok.eight) in
      rw (lines_read 64 (bits_of_bytes number) l) at (rw (slots_append (bits_of 8 0x33) (ones 64)) at (selects n whole c ok (read (ones 64) refl)))

  -- and what follows
  ends : {rs : List Bool} {es : List Event} {told : Outcome Next} {d : Chip} → Reaches n (c at awaiting_memory) es rs d → Runs (judging number) rs es told []
      → play_on (next n) (line_at n) number_script c ≡ record { events = number_slots ++ es; told = told; bytes = [] }
  ends {rs} {es} {told} g h = runs_on (next n) (line_at n) c ((number_runs number ok.eight small).run rs es told [] h) (bus_hears n (draws then g)).replies

  does : (crc family : Bool) → crc8_agrees number ≡ crc → family_agrees number ≡ family
      → play_on (next n) (line_at n) number_script c ≡ record { events = number_events_for number; told = number_verdict number; bytes = [] }
  unfolding bits_of_bytes bits_of
  does false family e f = simp e (ends stays (simp e stopped))
  does true false e f = simp (e, f) (ends stays (simp (e, f) stopped))
  does true true e f = simp (e, f) (ends (resets n whole (c at awaiting_memory) (ready n whole ok draws)) (simp (e, f) (sent given)))

  pub number_joined : (replies : List Bool) → Good (next n) (line_at n) out_of c (number_answers_to number_begun replies) replies
      → number_answers_to number_begun replies ≡ telling (number_events_for number) (number_verdict number) (length replies)
  number_joined replies good =
      let d = does (crc8_agrees number) (family_agrees number) refl refl in
      script_laws.on_bus (next n) (line_at n) number_state number_answer number_plays c replies good
      ∙ ap (λ (p : Played). telling p.events p.told (length replies)) d
