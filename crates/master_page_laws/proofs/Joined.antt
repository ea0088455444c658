-- Joined to a chip, the script's run is that of the walk over the chip's image.
use Prim.Native.Nat.{ℕ, zero, suc, ◌+◌, ◌-◌, ◌*◌, ◌%◌, ◌<◌, ◌≤◌}
use mathlib.Core.Path.{◌≡◌, refl, ap, ◌∙◌, subst}
use mathlib.Core.Bool.{Bool, true, false, cond}
use mathlib.Core.List.{List, [], ◌∷◌, ◌++◌}
use native.Mathlib.Omega.{arith}
use lib.Dec.{eqb, ltb}
use lib.ListN.{length, take, drop}
use lib.Seq.{get_or-drop}
use borrow.Author.Tests.{lt-ltb, ltb-true}
use Rattle.base_types.specs.Outcome.{Outcome}
use Rattle.base_types.specs.declared.verdict.Verdict.{Verdict}
use Rattle.base_types.specs.Verdict.{final, loops, outside}
use Rattle.bus_events.specs.declared.Event.{Event}
use Rattle.chip_memory.specs.Image.{redirection_of, page_bytes}
use Rattle.chip_memory.proofs.Pages.{page_length}
use Rattle.chip_chain.specs.Walk.{named_by, walk_from, walk_of}
use Rattle.bus_scripts.specs.Next.{Next, out_of}
use Rattle.bus_scripts.specs.Joint.{Good}
use Rattle.bus_scripts.specs.Script.{Script, stops, Played, play_on, telling, leaving}
use Rattle.bus_scripts.proofs.Runs.{Runs, stopped, runs_on}
use Rattle.bus_scripts.proofs.Scripts.{good_does}
use Rattle.chip_entries.specs.declared.event.Stage.{Stage}
use Rattle.chip_entries.specs.declared.event.Stage.TheVariants.{Memory}
use Rattle.chip_entries.specs.Event.{awaiting_rom}
use Rattle.chip_entries.specs.Run.{Chip, next, line_at}
use Rattle.chip_session_laws.specs.Session.{Ready, Bytes, ◌at◌, Reaches}
use Rattle.chip_session_laws.proofs.Bus.{bus_hears}
use Rattle.chip_session_laws.proofs.Runs.{◌then◌, stays}
use Rattle.chip_session_laws.proofs.Slots.{ready}
use Rattle.master_page_laws.specs.Script.{visit_script, by_byte, walk_script, page_script}
use Rattle.master_page_laws.specs.Heard.{visit_events, visit_replies, data_events, page_events_from, page_events_for}
use Rattle.master_page.specs.Held.{page_started}
use Rattle.master_page_laws.specs.Laws.{page_answers_to, verdict_outcome, verdict_bytes, PageJoined}
use Rattle.master_page_laws.proofs.Blocks.{command_length, visit_runs, final_runs}
use Rattle.master_page_laws.proofs.Hears.{echoed, Visit, visits}
use Rattle.master_page_laws.proofs.Plays.{page_plays, page_leaves}

-- the bytes of a part are bytes
part_small : (k : ℕ) (l : List ℕ) → Bytes l → Bytes (take k l)
part_small zero l small i = omega arith
part_small (suc k) [] small i = small i
part_small (suc k) (x ∷ l) small zero = small 0
part_small (suc k) (x ∷ l) small (suc i) = part_small k l (λ j. small (suc j)) i

page_small : (img : List ℕ) (p : ℕ) → Bytes img → Bytes (page_bytes img p)
unfolding page_bytes
page_small img p small = part_small 32 (drop (32 * p) img) (λ i. rw (get_or-drop (32 * p) img i 0) (small (32 * p + i)))

-- the chip draws replies with which the script sends these events, tells the verdict and hands its bytes over
record Reads (n : ℕ) (c : Chip) (script : Script) (events : List Event) (v : Verdict) : Type 0 where
  replies : List Bool
  last : Stage
  runs : Runs script replies events (verdict_outcome v) (verdict_bytes v c.image)
  goes : Reaches n c events replies (c at last)

module _ (n : ℕ) (whole : n % 8 ≡ 0) (low : n ≤ 256) where
  module _ (c : Chip) (ok : Ready n c) (small : Bytes c.image) (p hops : ℕ) (below : p < n) where
    abbrev byte : ℕ
    byte = redirection_of n c.image p

    byte_small : byte < 256
    unfolding redirection_of
    byte_small = small _

    v : Visit n c p
    v = visits n whole low c p below ok

    -- one page, where what follows is known
    visiting : (on : ℕ → Script) (more : List Event) (verdict : Verdict)
        → (named_by byte < n → Reads n (c at Memory v.after) (on (named_by byte)) more verdict)
        → Reads n c (visit_script p (by_byte n p hops on)) (visit_events p ++ cond (eqb byte 255) data_events (cond (ltb (named_by byte) n) more []))
        (cond (eqb byte 255) (final p hops) (cond (ltb (named_by byte) n) verdict (outside (named_by byte))))
    visiting on more verdict rest = go (eqb byte 255) (ltb (named_by byte) n) refl refl
      where
        -- the visit, and then what its byte leads to
        visited : {rs : List Bool} {es : List Event} {w : Verdict} (last : Stage) → Runs (by_byte n p hops on byte) rs es (verdict_outcome w) (verdict_bytes w c.image)
            → Reaches n (c at Memory v.after) es rs (c at last) → Reads n c (visit_script p (by_byte n p hops on)) (visit_events p ++ es) w
        visited {rs} {es} last runs goes =
            record {
              replies = visit_replies (echoed p) p byte ++ rs;
              last = last;
              runs = (visit_runs p byte (echoed p) (by_byte n p hops on) (command_length p) byte_small).run rs es _ _ runs;
              goes = v.visit then goes;
            }

        go : (x y : Bool) → eqb byte 255 ≡ x → ltb (named_by byte) n ≡ y
            → Reads n c (visit_script p (by_byte n p hops on)) (visit_events p ++ cond x data_events (cond y more [])) (cond x (final p hops) (cond y verdict (outside (named_by byte))))
        go true y e f = visited awaiting_rom (simp e (final_runs p hops (page_bytes c.image p) (page_length n c.image p ok.sized below) (page_small c.image p small))) v.page
        go false true e f = let r = rest (ltb-true (named_by byte) n f) in visited r.last (simp (e, f) r.runs) r.goes
        go false false e f = visited (Memory v.after) (simp (e, f) stopped) stays

  reads_from : (more : ℕ) (c : Chip) → Ready n c → Bytes c.image → (p hops : ℕ) → p < n
      → Reads n c (walk_script n more p hops) (page_events_from (redirection_of n c.image) n (suc more) p) (walk_from (redirection_of n c.image) n (suc more) p hops)
  unfolding walk_script page_events_from walk_from
  reads_from zero c ok small p hops below =
      visiting c ok small p hops below (λ named. stops 4 []) [] loops
      (λ inside. record { replies = []; last = Memory (v c ok small p hops below).after; runs = stopped; goes = stays })
  reads_from (suc more) c ok small p hops below =
      visiting c ok small p hops below (λ named. walk_script n more named (hops + 1)) _ _
      (λ inside. reads_from more (c at Memory (v c ok small p hops below).after) (ready n whole ok (v c ok small p hops below).visit) small (named_by
      (redirection_of n c.image p)) (hops + 1) inside)

  -- the script on the chip
  on_chip : 0 < n → (c : Chip) → Ready n c → Bytes c.image → (p : ℕ) → p < n
      → play_on (next n) (line_at n) (page_script n p) c
      ≡ record { events = page_events_for n c.image p; told = verdict_outcome (walk_of n c.image p); bytes = verdict_bytes (walk_of n c.image p) c.image }
  unfolding page_script walk_of
  on_chip some c ok small p below =
      let e : suc (n - 1) ≡ n = omega arith in
      let r = reads_from (n - 1) c ok small p 0 below in
      simp (lt-ltb p n below) (rw e at (runs_on (next n) (line_at n) c r.runs (bus_hears n r.goes).replies))

  pub page_joined : 0 < n → (c : Chip) (p : ℕ) (lent : List ℕ) (replies : List Bool) → Ready n c → Bytes c.image → p < n → length lent ≡ 32
      → Good (next n) (line_at n) out_of c (page_answers_to n (page_started n p lent) replies) replies → PageJoined n c p lent replies
  page_joined some c p lent replies ok small below room good =
      let script = page_script n p in
      let played = page_plays n some p lent room replies in
      let drawn = subst (λ (l : List (Outcome Next)). Good (next n) (line_at n) out_of c l replies) played good in
      let does = on_chip some c ok small p below in
      let does-so = good_does (next n) (line_at n) script c replies drawn in
      record {
        answers = played ∙ does-so.0 ∙ ap (λ (x : Played). telling x.events x.told (length replies)) does;
        buffer = page_leaves n some p lent room replies ∙ does-so.1 lent ∙ ap (λ (x : Played). leaving x.events x.bytes (length replies) lent) does;
      }
