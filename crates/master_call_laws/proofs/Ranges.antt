-- Every start and every call keep to the ranges; within them a call takes its turn.
use Prim.Native.Nat.{ℕ, ◌+◌, ◌-◌, ◌<◌}
use mathlib.Core.Bool.{Bool, true, false, not, cond, ◌&&◌}
use mathlib.Core.List.{List, []}
use mathlib.Core.Path.{◌≡◌, refl, sym, ap, ◌∙◌, subst}
use native.Mathlib.Omega.{arith}
use lib.Dec.{eqb, ltb}
use lib.ListN.{length, get_or}
use borrow.Author.Tests.{lt-ltb, le-ltb, le-leb, ltb-true}
use Rattle.std.specs.Prelude.{Option, Some, None, Ok, Err}
use Rattle.base_types.specs.Bits.{same}
use Rattle.base_types.specs.Refusal.{number_of}
use Rattle.base_types.specs.Outcome.{Outcome, refused, accepted}
use Rattle.base_types.specs.declared.address.Page.{Page}
use Rattle.base_types.specs.declared.verdict.Verdict.{Verdict}
use Rattle.base_types.specs.declared.verdict.Verdict.TheVariants.{Final, Loop as Looping, Outside as Leaving}
use Rattle.base_types.specs.declared.write_mode.WriteMode.{WriteMode}
use Rattle.base_types.specs.declared.write_mode.WriteMode.TheVariants.{Ordinary, Quick}
use Rattle.base_types.proofs.Tests.{either}
use Rattle.chip_memory.specs.declared.layout.Field.TheVariants.{DataProtection, RedirectionProtection}
use Rattle.chip_memory.specs.Layout.{is_image, is_page}
use Rattle.chip_memory.specs.Image.{redirection_of, page_bit}
use Rattle.chip_chain.specs.Walk.{walk_of}
use Rattle.chip_chain.proofs.Walks.{final_means, outside_means}
use Rattle.chip_chain_laws.proofs.Relink.{final_below}
use Rattle.bus_scripts.specs.Next.{Next}
use Rattle.master_plan.specs.declared.Wanted.{Wanted}
use Rattle.master_plan.specs.declared.Wanted.TheVariants.{Anything, Presence, Bit, LastCrcBit, LastBackBit}
use Rattle.master_plan.specs.declared.kind.UpdateKind.{UpdateKind}
use Rattle.master_plan.specs.Kind.{total_of}
use Rattle.master_plan.specs.Plan.{reset_step, plan_of}
use Rattle.master_plan.proofs.Checks.{judges_crc, no_crc}
use Rattle.master_publisher.specs.declared.PublisherStop.{PublisherStop}
use Rattle.master_publisher.specs.declared.PublisherStop.TheVariants.{ImageLength, PageNumber, Loop, Outside, Crc16, ReadBack, NoFreePage}
use Rattle.master_publisher.specs.declared.PublisherStop.TheVariants.{RedirectionProtected, BufferLength, NoPresence, DataProtected}
use Rattle.master_publisher.specs.declared.Stage.{Stage}
use Rattle.master_publisher.specs.declared.Stage.TheVariants.{Running, Done, Stopped}
use Rattle.master_publisher.specs.declared.Publisher.{Publisher}
use Rattle.master_publisher.specs.Stop.{publisher_refusal}
use Rattle.master_publisher.specs.Start.{Choice, target_by, found_choice, choice_free, choice_final, choice_walked, choice_of, ready, stopped_by, choice_state, publisher_state}
use Rattle.master_publisher.specs.Code.Turn.{Judged, Turn, plan_in, total_in, judged_last, judged_of, step_of, wanted_of, at_stage, gone_on, judged_turn, turn_of}
use Rattle.master_publisher.specs.Call.{reads_crc, stop_in_range, stage_in_range, publisher_in_range, turn_outcome, call_answer, call_state}
use Rattle.master_plan_laws.proofs.Starts.{placed_means}
use Rattle.master_call_laws.specs.Ranges.{tells_number}

-- ---- what a start holds

module _ (n : ℕ) (some : 0 < n) (kind : UpdateKind) (img new : List ℕ) where
  -- the state of a choice is within the ranges
  abbrev FitChoice : Choice → Type 0
  FitChoice c = publisher_in_range n (choice_state n kind img new c) ≡ true

  stopped_fit : (r : PublisherStop) → stop_in_range kind.mode n r ≡ true → FitChoice (Err r)
  unfolding choice_state stopped_by publisher_in_range is_page
  stopped_fit r h = simp (lt-ltb 0 n some, h)

  ready_fit : (l t : Page) → l.0 < n → t.0 < n → FitChoice (Ok (l, t))
  unfolding choice_state ready publisher_in_range is_page
  ready_fit l t a b = simp (lt-ltb l.0 n a, lt-ltb t.0 n b, le-leb 0 (total_of kind) (omega arith))

  found_fit : (l : Page) (f : Option Page) → l.0 < n → target_by kind.placement n img l.0 ≡ f → FitChoice (found_choice l f)
  unfolding found_choice
  found_fit l (Some t) a e = ready_fit l t a (placed_means kind.placement n img l.0 t.0 e).on_chip
  found_fit l None a e = stopped_fit NoFreePage refl

  final_fit : (l : Page) → l.0 < n → FitChoice (choice_final n kind.placement img l)
  unfolding choice_final choice_free is_page
  final_fit l a =
      either FitChoice (page_bit n DataProtection img l.0) _ _
      (λ _. either FitChoice (page_bit n RedirectionProtection img l.0) _ _
      (λ _. found_fit l (target_by kind.placement n img l.0) a refl)
      (λ _. stopped_fit (RedirectionProtected l) (lt-ltb l.0 n a)))
      (λ _. stopped_fit (DataProtected l) (lt-ltb l.0 n a))

  walked_fit : (p : ℕ) (v : Verdict) → p < n → walk_of n img p ≡ v → FitChoice (choice_walked n kind.placement img v)
  unfolding choice_walked walk_of is_page
  walked_fit p (Final l hops) a e =
      final_fit l (final_below n (redirection_of n img) p l.0 hops a ((final_means (redirection_of n img) n p l.0 hops a).0 e))
  walked_fit p Looping a e = stopped_fit Loop refl
  walked_fit p (Leaving x) a e =
      stopped_fit (Outside x) (simp (le-ltb x n ((outside_means (redirection_of n img) n p x a).0 e).beyond))

  pub start_fits : (p : ℕ) → publisher_in_range n (publisher_state n kind img new p) ≡ true
  unfolding choice_of is_page
  start_fits p =
      either FitChoice (is_image n img) _ _
      (λ _. either FitChoice (eqb (length new) 32) _ _
      (λ _. either FitChoice (ltb p n) _ _ (λ e. walked_fit p (walk_of n img p) (ltb-true p n e) refl) (λ _. stopped_fit PageNumber refl))
      (λ _. stopped_fit BufferLength refl))
      (λ _. stopped_fit ImageLength refl)

-- ---- what a call keeps

-- what the ranges ask of the stage, and that they ask nothing else that changes
stage_held : (a b g : Bool) → cond a (cond b g false) false ≡ true → (g ≡ true) × ((h : Bool) → h ≡ true → cond a (cond b h false) false ≡ true)
stage_held true true g e = (e, λ h f. f)
stage_held true false g e = (cc, λ h f. e)
stage_held false b g e = (cc, λ h f. e)

-- what stops it for a reply is within the ranges
abbrev MayStop : WriteMode → ℕ → Judged → Type 0
MayStop mode n (Ok good) = Unit {0}
MayStop mode n (Err stop) = stop_in_range mode n stop ≡ true

wanted_stop : (mode : WriteMode) (n : ℕ) (w : Wanted) (good reply : Bool) → (judges_crc w ≡ true → reads_crc mode ≡ true) → MayStop mode n (judged_of w good reply)
unfolding judged_of judged_last
wanted_stop mode n Anything good reply f = tt
wanted_stop mode n Presence good reply f = either (MayStop mode n) (not reply) _ _ (λ _. tt) (λ _. refl)
wanted_stop mode n (Bit b) good reply f = tt
wanted_stop mode n (LastCrcBit b) good reply f = either (MayStop mode n) (good && same b reply) _ _ (λ _. tt) (λ _. f refl)
wanted_stop mode n (LastBackBit b) good reply f = either (MayStop mode n) (good && same b reply) _ _ (λ _. tt) (λ _. refl)

-- only a plan that reads CRCs judges one
reads_crc_lem : (kind : UpdateKind) (mode : WriteMode) → kind.mode ≡ mode → (l t used : ℕ) (new : List ℕ) (k : ℕ)
    → judges_crc (wanted_of (plan_of kind l t used new) k) ≡ true → reads_crc mode ≡ true
unfolding wanted_of step_of
reads_crc_lem kind Ordinary m l t used new k h = refl
reads_crc_lem kind Quick m l t used new k h =
    either (λ (w : Wanted). judges_crc w ≡ true → false ≡ true) (eqb k 0) Anything (get_or (plan_of kind l t used new) (k - 1) reset_step).wanted
    (λ _. λ e. e) (λ _. λ e. sym (no_crc kind m l t used new (k - 1)) ∙ e) h

may_stop : (n : ℕ) (s : Publisher) (k : ℕ) (good reply : Bool) → MayStop s.kind.mode n (judged_of (wanted_of (plan_in s) k) good reply)
may_stop n s k good reply =
    wanted_stop s.kind.mode n (wanted_of (plan_in s) k) good reply
    (reads_crc_lem s.kind s.kind.mode refl s.superseded.0 s.target.0 s.used s.new k)

-- the number of what stops it
stop_number : (mode : WriteMode) (n : ℕ) (stop : PublisherStop) → stop_in_range mode n stop ≡ true → tells_number mode (number_of (publisher_refusal stop)) ≡ true
stop_number mode n ImageLength h = refl
stop_number mode n PageNumber h = refl
stop_number mode n Loop h = refl
stop_number mode n (Outside x) h = refl
stop_number mode n Crc16 h = h
stop_number mode n ReadBack h = refl
stop_number mode n NoFreePage h = refl
stop_number mode n (RedirectionProtected l) h = refl
stop_number mode n BufferLength h = refl
stop_number mode n NoPresence h = refl
stop_number mode n (DataProtected l) h = refl

abbrev FineOutcome : WriteMode → Outcome Next → Type 0
FineOutcome mode (refused number values) = tells_number mode number ≡ true
FineOutcome mode (accepted a) = Unit {0}

-- ---- a turn keeps to the ranges, and tells no other number

abbrev FitTurn : ℕ → WriteMode → Turn → Type 0
FitTurn n mode t = (publisher_in_range n t.state ≡ true) × FineOutcome mode (turn_outcome t.answer)

module _ (n : ℕ) (s : Publisher) (h : publisher_in_range n s ≡ true) where
  held : (stage_in_range s.kind n s.stage ≡ true) × ((g : Stage) → stage_in_range s.kind n g ≡ true → publisher_in_range n (at_stage s g) ≡ true)
  unfolding publisher_in_range
  held =
      let p = stage_held (is_page n s.superseded.0) (is_page n s.target.0) (stage_in_range s.kind n s.stage) h in
      (p.0, λ g e. p.1 (stage_in_range s.kind n g) e)

  gone_fit : (k : ℕ) (good : Bool) → FitTurn n s.kind.mode (gone_on (total_in s) (plan_in s) s k good)
  unfolding gone_on
  gone_fit k good =
      either (FitTurn n s.kind.mode) (ltb k (total_in s)) _ _
      (λ e. (held.1 (Running (k + 1) good) (le-leb (k + 1) (total_in s) (omega (arith, ltb-true k (total_in s) e))), tt))
      (λ _. (held.1 Done refl, tt))

  judged_fit : (k : ℕ) (j : Judged) → MayStop s.kind.mode n j → FitTurn n s.kind.mode (judged_turn (total_in s) (plan_in s) s k j)
  unfolding judged_turn
  judged_fit k (Ok good) f = gone_fit k good
  judged_fit k (Err r) f = (held.1 (Stopped r) f, stop_number s.kind.mode n r f)

  turn_fit : (g : Stage) (reply : Bool) → stage_in_range s.kind n g ≡ true → FitTurn n s.kind.mode (turn_of (total_in s) (plan_in s) s g reply)
  unfolding turn_of
  turn_fit (Running k good) reply f = judged_fit k _ (may_stop n s k good reply)
  turn_fit Done reply f = (h, tt)
  turn_fit (Stopped r) reply f = (h, stop_number s.kind.mode n r f)

-- within the ranges a call takes its turn
abbrev pub turn_in : Publisher → Bool → Turn
turn_in s reply = turn_of (total_in s) (plan_in s) s s.stage reply

pub called_is : (n : ℕ) (s : Publisher) (reply : Bool) → publisher_in_range n s ≡ true → call_state n s reply ≡ (turn_in s reply).state
unfolding call_state
called_is n s reply h = simp h

pub told_is : (n : ℕ) (s : Publisher) (reply : Bool) → publisher_in_range n s ≡ true → call_answer n s reply ≡ turn_outcome (turn_in s reply).answer
unfolding call_answer
told_is n s reply h = simp h

call_fit : (n : ℕ) (s : Publisher) (reply : Bool) → publisher_in_range n s ≡ true → FitTurn n s.kind.mode (turn_in s reply)
call_fit n s reply h = turn_fit n s h s.stage reply (held n s h).0

pub call_keeps : (n : ℕ) (s : Publisher) (reply : Bool) → publisher_in_range n s ≡ true → publisher_in_range n (call_state n s reply) ≡ true
call_keeps n s reply h = rw (called_is n s reply h) (call_fit n s reply h).0

pub call_outside : (n : ℕ) (s : Publisher) (reply : Bool) → publisher_in_range n s ≡ false → (call_answer n s reply ≡ refused 2 []) × (call_state n s reply ≡ s)
unfolding call_answer call_state
call_outside n s reply h = (simp h, simp h)

pub call_numbers : (n : ℕ) (s : Publisher) (reply : Bool) (number : ℕ) (values : List ℕ) → publisher_in_range n s ≡ true → call_answer n s reply ≡ refused number values
    → tells_number s.kind.mode number ≡ true
call_numbers n s reply number values h e = subst (FineOutcome s.kind.mode) (sym (told_is n s reply h) ∙ e) (call_fit n s reply h).1

pub call_never : (n : ℕ) (s : Publisher) (reply : Bool) (values : List ℕ) → publisher_in_range n s ≡ true → call_answer n s reply ≡ refused 2 values → ⊥
call_never n s reply values h e = cc (call_numbers n s reply 2 values h e)

pub call_no_crc : (n : ℕ) (s : Publisher) (reply : Bool) (values : List ℕ) → s.kind.mode ≡ Quick → call_answer n s reply ≡ refused 6 values → ⊥
call_no_crc n s reply values quick e = go (publisher_in_range n s) refl
  where
    go : (t : Bool) → publisher_in_range n s ≡ t → ⊥
    go true h = cc (sym (ap reads_crc quick) ∙ call_numbers n s reply 6 values h e)
    go false h = cc ((call_outside n s reply h).0)
