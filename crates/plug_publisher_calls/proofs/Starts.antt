-- An update's start.
use Prim.Native.Nat.{ℕ}
use mathlib.Core.Path.{◌≡◌}
use mathlib.Core.Bool.{true}
use mathlib.Core.List.{List}
use lib.Dec.{lit<}
use Rattle.master_plan.specs.declared.kind.Placement.{Placement}
use Rattle.master_plan.specs.declared.kind.UpdateKind.{UpdateKind}
use Rattle.master_publisher.specs.Start.{choice_of, publisher_state}
use Rattle.master_publisher.specs.Call.{publisher_in_range}
use Rattle.master_call_laws.proofs.Laws.{call_laws}
use Rattle.plug_answers.specs.Calls.{page_number}
use Rattle.plug_answers.proofs.Pages.{same_at}

-- it chooses the same for a page number that no byte holds and for 255
pub choice_same : (img : List ℕ) (place : Placement) (new : List ℕ) (p : ℕ) → choice_of 64 place img new (page_number p) ≡ choice_of 64 place img new p
unfolding choice_of
choice_same img place new = same_at (choice_of 64 place img new) (λ p q e f. simp (e, f))

-- its state is within its ranges
pub starts : (kind : UpdateKind) (img new : List ℕ) (p : ℕ) → publisher_in_range 64 (publisher_state 64 kind img new p) ≡ true
starts kind img new p = (call_laws 64 (lit< tt)).starts kind img new p
