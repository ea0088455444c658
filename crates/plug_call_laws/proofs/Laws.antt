use Prim.Native.Nat.{ℕ, ◌<◌, ◌≤◌}
use mathlib.Core.Path.{◌≡◌, refl, sym, ap, ◌∙◌}
use mathlib.Core.Bool.{Bool, true, false, cond}
use mathlib.Core.List.{List, [], ◌∷◌, ◌++◌, map}
use lib.Dec.{eqb, ltb}
use lib.ListN.{length, length-map}
use borrow.Author.Tests.{eq-eqb, lt-ltb, le-ltb}
use Rattle.std.proofs.Common.{Err}
use Rattle.std.proofs.Math.Bool.{and-false}
use Rattle.base_types.specs.Bits.{one}
use Rattle.base_types.specs.Outcome.{accepted, done}
use Rattle.chip_memory.specs.Layout.{is_image, is_page}
use Rattle.master_number.specs.NumberRead.{number_begun}
use Rattle.master_page.specs.PageRead.{start_answer}
use Rattle.master_page.specs.Held.{page_started}
use Rattle.master_publisher.specs.Start as publish
use Rattle.master_plan.specs.declared.kind.UpdateKind.{UpdateKind}
use Rattle.master_publisher.specs.declared.PublisherStop.TheVariants.{ImageLength}
use Rattle.master_runs.specs.Calls.{are_replies, replies_at, call_code, last_from, to_come}
use Rattle.master_number_laws.specs.Laws as number_laws
use Rattle.master_page_laws.specs.Laws as page_laws
use Rattle.master_call_laws.specs.Calls as call_laws
use Rattle.plug_answers.specs.Answers.{is_answer}
use Rattle.plug_reader_calls.specs.Number.{number_run_judged, number_run_outcome, number_run_events}
use Rattle.plug_reader_calls.specs.Page.{page_run_judged, page_run_outcome, page_run_events, page_run_buffer}
use Rattle.plug_publisher_calls.specs.Publisher.{publisher_run_judged, publisher_run_outcome, publisher_run_events}
use Rattle.plug_call_laws.specs.Laws.{given, Buffers, Shows, RunLaws}

-- ---- the premises as the judgements have them

are : (replies : List Bool) → are_replies (given replies) ≡ true
unfolding are_replies
are [] = refl
are (true ∷ replies) = are replies
are (false ∷ replies) = are replies

mean : (replies : List Bool) → replies_at (given replies) ≡ replies
mean [] = refl
mean (true ∷ replies) = ap (λ (l : List Bool). true ∷ l) (mean replies)
mean (false ∷ replies) = ap (λ (l : List Bool). false ∷ l) (mean replies)

are_not : (first later : List ℕ) (b : ℕ) → 2 ≤ b → are_replies (first ++ (b ∷ later)) ≡ false
unfolding are_replies
are_not [] later b h = simp (le-ltb b 2 h)
are_not (c ∷ first) later b h = rw (are_not first later b h) (and-false (ltb c 2))

sized : (n : ℕ) (kind : UpdateKind) (img new : List ℕ) (p : ℕ) → publish.publisher_answer n kind img new p ≡ accepted [] → is_image n img ≡ true
unfolding publish.choice_of
sized n kind img new p e = go (is_image n img) _ e
  where
    go : (b : Bool) (rest : publish.Choice) → publish.choice_outcome (cond b rest (Err ImageLength)) ≡ accepted [] → b ≡ true
    go true rest e = refl
    go false rest e = cc

module _ (replies : List Bool) (events answer : List ℕ) (l : Buffers replies events answer) where
  sixteen : is_answer answer ≡ true
  unfolding is_answer
  sixteen = eq-eqb (length answer) 16 l.sixteen

  many : eqb (length events) (length (given replies)) ≡ true
  many = eq-eqb (length events) (length (given replies)) (l.many ∙ sym (length-map replies one))

  number_run : Shows (number_laws.number_answers_to number_begun replies) (number_run_outcome (given replies) events answer) (number_run_events (given replies) events answer)
  unfolding number_run_judged number_run_outcome number_run_events
  number_run =
      let same = ap (λ (r : List Bool). number_laws.number_answers_to number_begun r) (mean replies) in
      record {
        events = simp (are replies, sixteen, many) (ap (map call_code) same);
        told = simp (are replies, sixteen, many) (ap (last_from to_come) same);
      }

  module _ (n p : ℕ) (buffer : List ℕ) (below : p < n) (right : length buffer ≡ 32) where
    page_accepted : page_run_judged n p (given replies) events buffer answer ≡ accepted done
    unfolding page_run_judged start_answer is_page
    page_accepted = simp (are replies, sixteen, many, eq-eqb (length buffer) 32 right, lt-ltb p n below)

    page_run : Shows (page_laws.page_answers_to n (page_started n p buffer) replies)
        (page_run_outcome n p (given replies) events buffer answer)
        (page_run_events n p (given replies) events buffer answer)
    unfolding page_run_outcome page_run_events
    page_run =
        let same = ap (λ (r : List Bool). page_laws.page_answers_to n (page_started n p buffer) r) (mean replies) in
        record { events = simp page_accepted (ap (map call_code) same); told = simp page_accepted (ap (last_from to_come) same) }

    page_left : page_run_buffer n p (given replies) events buffer answer ≡ (page_laws.page_after n (page_started n p buffer) replies).buffer
    unfolding page_run_buffer
    page_left =
        simp page_accepted (ap (λ (r : List Bool). (page_laws.page_after n (page_started n p buffer) r).buffer) (mean replies))

  publisher_run : (n : ℕ) (kind : UpdateKind) (img new : List ℕ) (p : ℕ) → publish.publisher_answer n kind img new p ≡ accepted []
      → Shows (call_laws.update_answers n (publish.publisher_state n kind img new p) replies)
      (publisher_run_outcome n kind img new p (given replies) events answer)
      (publisher_run_events n kind img new p (given replies) events answer)
  unfolding publisher_run_outcome publisher_run_events publisher_run_judged
  publisher_run n kind img new p e =
      let same = ap (λ (r : List Bool). call_laws.update_answers n (publish.publisher_state n kind img new p) r) (mean replies) in
      record {
        events = simp (sized n kind img new p e, are replies, sixteen, many, e) (ap (map call_code) same);
        told = simp (sized n kind img new p e, are replies, sixteen, many, e) (ap (last_from to_come) same);
      }

pub run_laws : (n : ℕ) → RunLaws n
unfolding number_run_judged number_run_outcome number_run_events page_run_judged page_run_outcome page_run_events page_run_buffer publisher_run_judged publisher_run_outcome publisher_run_events
run_laws n =
    record {
      number = number_run;
      page = λ p replies events buffer answer l below right. page_run replies events answer l n p buffer below right;
      page_buffer_law = λ p replies events buffer answer l below right. page_left replies events answer l n p buffer below right;
      publisher = λ kind img new p replies events answer l e. publisher_run replies events answer l n kind img new p e;
      number_byte = λ first later events answer b h. record { told = simp (are_not first later b h); kept = simp (are_not first later b h) };
      page_byte = λ p first later events buffer answer b h. record { told = simp (are_not first later b h); kept = simp (are_not first later b h) };
      page_byte_buffer = λ p first later events buffer answer b h. simp (are_not first later b h);
      publisher_byte = λ kind img new p first later events answer b h e. record {
        told = simp (e, are_not first later b h);
        kept = simp (e, are_not first later b h);
      };
      publisher_image = λ kind img new p codes events answer e. record { told = simp e; kept = simp e };
    }
