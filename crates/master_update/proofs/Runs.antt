-- The loop over later calls, one turn at a time; and a publisher that has ended, which returns no event, however many calls follow.
use Prim.Native.Nat.{ℕ, zero, suc, ◌-◌, ◌≤◌, ◌<◌}
use mathlib.Core.Path.{◌≡◌, refl, sym, ap, ◌∙◌}
use mathlib.Core.Bool.{Bool, true, false}
use mathlib.Core.List.{List, [], ◌∷◌}
use native.Mathlib.Omega.{arith}
use Rattle.base_types.specs.Outcome.{Outcome, accepted, refused}
use Rattle.bus_events.specs.declared.Event.{Event}
use Rattle.bus_scripts.specs.Next.{Next, send, tells, out_of, events_of}
use Rattle.bus_scripts.specs.Joint.{reached, drawn_replies}
use Rattle.master_publisher.specs.declared.Stage.{Stage}
use Rattle.master_publisher.specs.declared.Stage.TheVariants.{Running, Done, Stopped}
use Rattle.master_publisher.specs.declared.Publisher.{Publisher}
use Rattle.master_publisher.specs.Code.Turn.{plan_in, total_in, turn_of}
use Rattle.master_publisher.specs.Call.{turn_outcome, publisher_in_range, call_answer, call_state}
use Rattle.chip_entries.specs.Run.{Chip, next, line_at, run}
use Rattle.master_call_laws.specs.Calls.{update_answers}
use Rattle.master_call_laws.proofs.Ranges.{called_is, told_is, call_outside}
use Rattle.master_update.specs.declared.Joined.{Joined}
use Rattle.master_update.specs.Update.{chip_of, handed_on, handed_image, called, image_called, is_running, replies_for, run_for}

-- what a call told, handed on, is the first event of those that follow, if it is one
handed : (n : ℕ) (c : Chip) (a : Outcome Next) (rest : List (Outcome Next)) → run n (reached (next n) (line_at n) (out_of a) c) (events_of rest) ≡ run n c (events_of (a ∷ rest))
unfolding run events_of
handed n c (accepted (send e)) rest = refl
handed n c (accepted (tells values)) rest = refl
handed n c (refused k values) rest = refl

one_turn : (n k : ℕ) (j : Joined) (img : List ℕ) → run_for n k (called n j img) (image_called n j img) ≡ run_for n (suc k) j img
unfolding run_for drawn_replies called image_called handed_on handed_image
one_turn n k j img =
    ap (λ (c : Chip). c.image)
    (handed n (chip_of j img) (call_answer n j.publisher j.reply)
    (update_answers n (call_state n j.publisher j.reply) (replies_for n k (called n j img) (image_called n j img))))

pub run_next : (n left : ℕ) (j : Joined) (img : List ℕ) → 0 < left → run_for n left j img ≡ run_for n (left - 1) (called n j img) (image_called n j img)
run_next n zero j img lt = absurd (omega arith)
run_next n (suc k) j img lt = let e : suc k - 1 ≡ k = omega arith in rw e (sym (one_turn n k j img))

pub run_none : (n left : ℕ) (j : Joined) (img : List ℕ) → left ≤ 0 → run_for n left j img ≡ img
unfolding run_for drawn_replies run events_of
run_none n zero j img le = refl
run_none n (suc k) j img le = absurd (omega arith)

-- ---- a publisher that has ended

stays : (s : Publisher) (g : Stage) (reply : Bool) (rest : List (Outcome Next)) → is_running g ≡ false
    → ((turn_of (total_in s) (plan_in s) s g reply).state ≡ s) × (events_of (turn_outcome (turn_of (total_in s) (plan_in s) s g reply).answer ∷ rest) ≡ events_of rest)
unfolding is_running turn_of events_of
stays s (Running k good) reply rest h = cc
stays s Done reply rest h = (refl, refl)
stays s (Stopped r) reply rest h = (refl, refl)

silent : (n : ℕ) (s : Publisher) → is_running s.stage ≡ false → (rs : List Bool) → events_of (update_answers n s rs) ≡ []
unfolding events_of
silent n s h [] = refl
silent n s h (r ∷ rs) = go (publisher_in_range n s) refl (silent n s h rs)
  where
    go : (b : Bool) → publisher_in_range n s ≡ b → events_of (update_answers n s rs) ≡ [] → events_of (call_answer n s r ∷ update_answers n (call_state n s r) rs) ≡ []
    go true e more =
        let t = stays s s.stage r (update_answers n s rs) h in
        rw (told_is n s r e, called_is n s r e, t.0) (t.1 ∙ more)
    go false e more = let o = call_outside n s r e in rw (o.0, o.1) more

pub run_ended : (n k : ℕ) (j : Joined) (img : List ℕ) → is_running j.publisher.stage ≡ false → run_for n k j img ≡ img
unfolding run_for run
run_ended n k j img h = ap (λ (es : List Event). (run n (chip_of j img) es).image) (silent n j.publisher h (replies_for n k j img))
