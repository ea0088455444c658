-- Runs of events compose; and one event on a chip that is within its ranges and has an image of the right length.
use Prim.Native.Nat.{ℕ}
use mathlib.Core.Path.{◌≡◌, refl, sym, ap, ap₂, ◌∙◌}
use mathlib.Core.Bool.{Bool, true}
use mathlib.Core.List.{List, [], ◌∷◌, ◌++◌, map}
use lib.ListN.{length}
use borrow.Author.Tests.{eq-eqb}
use Rattle.base_types.specs.Outcome.{accepted}
use Rattle.bus_events.specs.declared.Event.{Event}
use Rattle.chip_memory.specs.Layout.{image_size, is_image}
use Rattle.chip_entries.specs.Event.{reply_of}
use Rattle.chip_entries.specs.Run.{Chip, next, draws, run, answers}
use Rattle.chip_entries.proofs.Kept.{accepts, after_event, next_is}
use Rattle.chip_session_laws.specs.Session.{Ready, Reaches}

pub map_append : {A B : Type 0} (f : A → B) (xs ys : List A) → map f (xs ++ ys) ≡ map f xs ++ map f ys
map_append f [] ys = refl
map_append f (x ∷ xs) ys = ap (λ l. f x ∷ l) (map_append f xs ys)

pub run_append : (n : ℕ) (c : Chip) (xs ys : List Event) → run n c (xs ++ ys) ≡ run n (run n c xs) ys
unfolding run
run_append n c [] ys = refl
run_append n c (e ∷ xs) ys = run_append n (next n c e) xs ys

pub answers_append : (n : ℕ) (c : Chip) (xs ys : List Event) → answers n c (xs ++ ys) ≡ answers n c xs ++ answers n (run n c xs) ys
unfolding run answers
answers_append n c [] ys = refl
answers_append n c (e ∷ xs) ys = ap (λ l. draws n c e ∷ l) (answers_append n (next n c e) xs ys)

module _ {n : ℕ} where
  pub stays : {c : Chip} → Reaches n c [] [] c
  stays = record { told = unfold answers in refl; there = unfold run in refl }

  infixr 20 ◌then◌
  pub ◌then◌ : {c d e : Chip} {xs ys : List Event} {us vs : List Bool} → Reaches n c xs us d → Reaches n d ys vs e → Reaches n c (xs ++ ys) (us ++ vs) e
  ◌then◌ {c} {d} {e} {xs} {ys} {us} {vs} p q =
      record {
        told = answers_append n c xs ys ∙ ap₂ ◌++◌ p.told (ap (λ x. answers n x ys) p.there ∙ q.told) ∙ sym (map_append accepted us vs);
        there = run_append n c xs ys ∙ ap (λ x. run n x ys) p.there ∙ q.there;
      }

  -- a run and what further events draw
  pub further : {c d : Chip} {xs : List Event} {us : List Bool} (ys : List Event) (vs : List Bool) → Reaches n c xs us d
      → answers n d ys ≡ map accepted vs → answers n c (xs ++ ys) ≡ map accepted (us ++ vs)
  further {c} {d} {xs} {us} ys vs p q =
      answers_append n c xs ys ∙ ap₂ ◌++◌ p.told (ap (λ x. answers n x ys) p.there ∙ q) ∙ sym (map_append accepted us vs)

module _ (n : ℕ) (c : Chip) (ok : Ready n c) where
  whole_image_lem : is_image n c.image ≡ true
  unfolding is_image
  whole_image_lem = eq-eqb (length c.image) (image_size n) ok.sized

  pub ready_next : (e : Event) → next n c e ≡ after_event n c e
  ready_next e = next_is n c whole_image_lem ok.ranged e

  pub event : (e : Event) → Reaches n c (e ∷ []) (reply_of c.state.stage e c.state.number ∷ []) (after_event n c e)
  event e = record { told = unfold answers in ap (λ a. a ∷ []) (accepts n c whole_image_lem ok.ranged e); there = unfold run in ready_next e }
