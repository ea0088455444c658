-- What follows from the script whatever the replies: how many events, no pulse, and what a verdict that is told says of the replies.
use Prim.Native.Nat.{ℕ, zero, suc, ◌+◌, ◌-◌, ◌*◌, ◌<◌, ◌≤◌}
use mathlib.Core.Bool.{Bool, true, false, cond}
use mathlib.Core.List.{List, [], ◌∷◌, ◌++◌, append-nil}
use mathlib.Core.Path.{◌≡◌, refl, sym, ap, ap₂, ◌∙◌, subst, subst₂}
use native.Mathlib.Omega.{arith}
use lib.Dec.{eqb, ltb}
use lib.ListN.{length}
use borrow.Author.Tests.{lt-ltb, eqb-true, eqb-false, ltb-true, ltb-false}
use Rattle.base_types.specs.Bits.{bits_of, bits_of_bytes}
use Rattle.base_types.specs.Outcome.{Outcome, refused, accepted}
use Rattle.base_types.specs.declared.verdict.Verdict.{Verdict}
use Rattle.base_types.specs.declared.verdict.Verdict.TheVariants.{Final, Loop, Outside}
use Rattle.base_types.specs.Verdict.{final, loops, outside}
use Rattle.bus_events.specs.declared.Event.{Event}
use Rattle.chip_chain.specs.Walk.{named_by}
use Rattle.bus_scripts.specs.Next.{Next, tells, out_of, events_of}
use Rattle.bus_scripts.specs.Joint.{quiet}
use Rattle.bus_scripts.specs.Script.{Script, stops, gives, check_with, reset, read_crc, play, left_by}
use Rattle.bus_scripts.proofs.Runs.{Runs, stopped_is}
use Rattle.bus_scripts.proofs.Ended.{told_ended, runs_events, runs_left}
use Rattle.bus_scripts.proofs.Bounded.{Bounded, stopping, giving, bounded, more_bounded, check_bounded, reset_bounded, send_bounded, read_bounded, bytes_bounded, crc_bounded}
use Rattle.chip_entries.specs.Run.{Chip, run}
use Rattle.chip_session_laws.proofs.Unpulsed.{NoPulse, unpulsed}
use Rattle.master_page_laws.specs.Script.{read_command, crc_word}
use Rattle.master_page_laws.specs.Script.{visit_script, final_script, by_byte, walk_script, page_script}
use Rattle.master_page_laws.specs.Heard.{visit_events, visit_replies, data_events, Redirects, Heard, at_final, at_outside, at_loop, at_next}
use Rattle.master_page.specs.Held.{page_started}
use Rattle.master_page_laws.specs.Laws.{page_answers_to, page_after, verdict_outcome, PageAgreed, most_events}
use Rattle.master_page_laws.proofs.Blocks.{Verdicts, command_length, visit_passed, final_passed}
use Rattle.master_page_laws.proofs.Plays.{page_plays, page_leaves}

-- ---- counts

pub visit_counted : (p : ℕ) → length (visit_events p) ≡ 57
unfolding bits_of bits_of_bytes
visit_counted p = refl

pub page_counted : length data_events ≡ 273
page_counted = refl

-- ---- a verdict tells no event

pub quiet_verdict : (v : Verdict) → out_of (verdict_outcome v) ≡ quiet
quiet_verdict (Final p hops) = refl
quiet_verdict Loop = refl
quiet_verdict (Outside k) = refl

-- ---- how many events, and no pulse

final_bounded : (p hops : ℕ) → Bounded NoPulse 273 (final_script p hops)
unfolding final_script
final_bounded p hops =
    bytes_bounded (λ bit. refl) 32 (λ bytes. read_crc (crc_word bytes) (reset (gives (p ∷ hops ∷ []) bytes))) 273 (omega arith)
    (λ bytes. crc_bounded (λ bit. refl) (crc_word bytes) 17 (omega arith) (reset_bounded refl (giving {k = 0})))

visit_bounded : (p k : ℕ) (on : ℕ → Script) → ((byte : ℕ) → Bounded NoPulse k (on byte)) → Bounded NoPulse (57 + k) (visit_script p on)
unfolding visit_script
visit_bounded p k on h =
    let e : suc (56 + k) ≡ 57 + k = omega arith in
    rw e at (reset_bounded refl (send_bounded (λ bit. refl) (bits_of_bytes (0xCC ∷ read_command p)) (56 + k) (omega (arith, command_length p))
    (read_bounded (λ bit. refl) 8 (λ byte. read_crc (crc_word (read_command p ++ (byte ∷ []))) (on byte)) (24 + k) (omega arith)
    (λ byte. crc_bounded (λ bit. refl) (crc_word (read_command p ++ (byte ∷ []))) (16 + k) (omega arith) (h byte)))))

module _ (n : ℕ) where
  byte_bounded : (p hops k : ℕ) (on : ℕ → Script) (byte : ℕ) → 273 ≤ k → ((named : ℕ) → Bounded NoPulse k (on named)) → Bounded NoPulse k (by_byte n p hops on byte)
  byte_bounded p hops k on byte l h = go (eqb byte 255)
    where
      go : (t : Bool) → Bounded NoPulse k (cond t (final_script p hops) (check_with (ltb (255 - byte) n) 5 ((255 - byte) ∷ []) (on (255 - byte))))
      go true = more_bounded k l (final_bounded p hops)
      go false = check_bounded (ltb (255 - byte) n) 5 ((255 - byte) ∷ []) (h (255 - byte))

  walk_bounded : (more p hops : ℕ) → Bounded NoPulse (57 * (more + 1) + 273) (walk_script n more p hops)
  unfolding walk_script
  walk_bounded zero p hops = visit_bounded p 273 _ (λ byte. byte_bounded p hops 273 (λ named. stops 4 []) byte (omega arith) (λ named. stopping))
  walk_bounded (suc more) p hops =
      let k : ℕ = 57 * (more + 1) + 273 in
      let e : 57 + (57 * (more + 1) + 273) ≡ 57 * (suc more + 1) + 273 = omega arith in
      rw e at (visit_bounded p k _ (λ byte. byte_bounded p hops k (λ named. walk_script n more named (hops + 1)) byte (omega arith) (λ named. walk_bounded more named (hops + 1))))

  page_bounded : 0 < n → (p : ℕ) → Bounded NoPulse (most_events n) (page_script n p)
  unfolding page_script
  page_bounded some p =
      let e : 57 * (n - 1 + 1) + 273 ≡ 57 * n + 273 = omega arith in
      check_bounded (ltb p n) 3 [] (rw e at (walk_bounded (n - 1) p 0))

  -- ---- a verdict that was told

  verdicts : (v : Verdict) → Verdicts (verdict_outcome v)
  verdicts (Final p hops) = record { present = λ e. cc; sound = λ e. cc }
  verdicts Loop = record { present = λ e. cc; sound = λ e. cc }
  verdicts (Outside k) = record { present = λ e. cc; sound = λ e. cc }

  -- a verdict by what is told of it
  is_final : (v : Verdict) (p hops : ℕ) → verdict_outcome v ≡ accepted (tells (p ∷ hops ∷ [])) → final p hops ≡ v
  is_final (Final q h) p hops e = ap₂ final (cc) (cc)
  is_final Loop p hops e = cc
  is_final (Outside k) p hops e = cc

  is_loop : (v : Verdict) → verdict_outcome v ≡ refused 4 [] → loops ≡ v
  is_loop (Final q h) e = cc
  is_loop Loop e = refl
  is_loop (Outside k) e = cc

  is_outside : (v : Verdict) (k : ℕ) → verdict_outcome v ≡ refused 5 (k ∷ []) → outside k ≡ v
  is_outside (Final q h) k e = cc
  is_outside Loop k e = cc
  is_outside (Outside j) k e = cc

  module _ (v : Verdict) (handed : List ℕ) (p hops : ℕ) (on : ℕ → Script)
      (further : (ignored : List Bool) (byte : ℕ) (rs : List Bool) (es : List Event) → length ignored ≡ 32 → Redirects byte → named_by byte < n
      → Runs (on (named_by byte)) rs es (verdict_outcome v) handed → Heard n p hops (visit_replies ignored p byte ++ rs) (visit_events p ++ es) v handed) where
    byte_heard : (final? inside : Bool) (ignored : List Bool) (byte : ℕ) (rs : List Bool) (es : List Event) → length ignored ≡ 32 → byte < 256
        → eqb byte 255 ≡ final? → ltb (255 - byte) n ≡ inside
        → Runs (cond final? (final_script p hops) (check_with inside 5 ((255 - byte) ∷ []) (on (255 - byte)))) rs es (verdict_outcome v) handed
        → Heard n p hops (visit_replies ignored p byte ++ rs) (visit_events p ++ es) v handed
    byte_heard true inside ignored byte rs es l small e f h =
        let d = final_passed p hops (verdicts v) h in
        let b : byte ≡ 255 = eqb-true byte 255 e in
        subst (λ (w : Verdict). Heard n p hops (visit_replies ignored p byte ++ rs) (visit_events p ++ es) w handed) (is_final v p hops d.end)
        (rw (b, d.replies, d.events) (at_final ignored handed l d.long d.small))
    byte_heard false true ignored byte rs es l small e f h = further ignored byte rs es l (record { small = small; other = eqb-false byte 255 e }) (ltb-true (255 - byte) n f) h
    byte_heard false false ignored byte rs es l small e f h =
        let d = stopped_is h in
        rw (d.0, d.1, d.3, append-nil (visit_replies ignored p byte), append-nil (visit_events p))
        (subst (λ (w : Verdict). Heard n p hops (visit_replies ignored p byte) (visit_events p) w []) (is_outside v (255 - byte) d.2)
        (at_outside ignored byte l (record { small = small; other = eqb-false byte 255 e }) (ltb-false (255 - byte) n f)))

    visit_heard : (rs : List Bool) (es : List Event) → Runs (visit_script p (by_byte n p hops on)) rs es (verdict_outcome v) handed → Heard n p hops rs es v handed
    visit_heard rs es h =
        let x = visit_passed p (by_byte n p hops on) (verdicts v) h in
        subst₂ (λ (qs : List Bool) (fs : List Event). Heard n p hops qs fs v handed) (sym x.goes.replies) (sym x.goes.events)
        (byte_heard (eqb x.byte 255) (ltb (255 - x.byte) n) x.ignored x.byte x.goes.later x.goes.after x.long x.small refl refl x.goes.runs)

  walk_heard : (more p hops : ℕ) (v : Verdict) (handed : List ℕ) (rs : List Bool) (es : List Event) → hops + more + 1 ≡ n
      → Runs (walk_script n more p hops) rs es (verdict_outcome v) handed → Heard n p hops rs es v handed
  unfolding walk_script
  walk_heard zero p hops v handed rs es fuel h =
      visit_heard v handed p hops (λ named. stops 4 [])
      (λ ignored byte qs fs l r inside g.
      let d = stopped_is g in
      rw (d.0, d.1, d.3, append-nil (visit_replies ignored p byte), append-nil (visit_events p))
      (subst (λ (w : Verdict). Heard n p hops (visit_replies ignored p byte) (visit_events p) w []) (is_loop v d.2)
      (at_loop ignored byte l r inside (omega arith)))) rs es h
  walk_heard (suc more) p hops v handed rs es fuel h =
      visit_heard v handed p hops (λ named. walk_script n more named (hops + 1))
      (λ ignored byte qs fs l r inside g. at_next ignored byte l r inside (omega arith) (walk_heard more (named_by byte) (hops + 1) v handed qs fs (omega arith) g)) rs es h

  page_heard : 0 < n → (p : ℕ) → p < n → (v : Verdict) (handed : List ℕ) (rs : List Bool) (es : List Event)
      → Runs (page_script n p) rs es (verdict_outcome v) handed → Heard n p 0 rs es v handed
  unfolding page_script
  page_heard some p below v handed rs es h = walk_heard (n - 1) p 0 v handed rs es (omega arith) (simp (lt-ltb p n below) at h)

  -- ---- of the calls

  module _ (some : 0 < n) (p : ℕ) (lent : List ℕ) (room : length lent ≡ 32) where
    pub page_at_most : (replies : List Bool) → length (events_of (page_answers_to n (page_started n p lent) replies)) ≤ most_events n
    page_at_most replies = rw (page_plays n some p lent room replies) (bounded replies (page_bounded some p)).0

    pub page_image_stays : (c : Chip) (replies : List Bool) → (run n c (events_of (page_answers_to n (page_started n p lent) replies))).image ≡ c.image
    page_image_stays c replies = unpulsed n _ c (rw (page_plays n some p lent room replies) (bounded replies (page_bounded some p)).1)

    pub page_agreed : p < n → (first : Bool) (replies : List Bool) (v : Verdict) (before later : List (Outcome Next))
        → page_answers_to n (page_started n p lent) (first ∷ replies) ≡ before ++ (verdict_outcome v ∷ later)
        → PageAgreed n p v lent replies (page_answers_to n (page_started n p lent) (first ∷ replies)) (page_after n (page_started n p lent) (first ∷ replies)).buffer
    page_agreed below first replies v before later e =
        let played = page_plays n some p lent room (first ∷ replies) in
        let h = told_ended (page_script n p) first replies (verdict_outcome v) before later (quiet_verdict v) (sym played ∙ e) in
        let cut = ap (λ (l : List Bool). first ∷ l) h.is in
        record {
          used = h.used;
          rest = h.rest;
          events = h.events;
          page = h.bytes;
          is = h.is;
          heard = page_heard some p below v h.bytes h.used h.events h.runs;
          sent = ap events_of (played ∙ ap (play (page_script n p)) cut) ∙ runs_events first h.rest h.runs;
          buffer = page_leaves n some p lent room (first ∷ replies) ∙ ap (λ (l : List Bool). left_by (λ _. page_script n p) l lent) cut ∙ runs_left first h.rest lent h.runs;
        }
