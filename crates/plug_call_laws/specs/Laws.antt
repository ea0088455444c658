-- What a run in C tells are the answers of the master's calls, one for each reply: those that demands 2 and 3 speak of. n is the page count.
use Rattle.std.specs.Prelude.{ℕ, ◌<◌, ◌≤◌, ◌≡◌, Bool, true, false, List, [], ◌∷◌, ◌++◌, map, length}
use Rattle.base_types.specs.Bits.{one}
use Rattle.base_types.specs.Outcome.{Outcome, refused, accepted}
use Rattle.master_plan.specs.declared.kind.UpdateKind.{UpdateKind}
use Rattle.chip_memory.specs.Layout.{is_image}
use Rattle.bus_scripts.specs.Next.{Next}
use Rattle.master_number.specs.NumberRead.{number_begun}
use Rattle.master_page.specs.Held.{page_started}
use Rattle.master_publisher.specs.Start.{publisher_answer, publisher_state}
use Rattle.master_runs.specs.Calls.{call_code, last_from, to_come}
use Rattle.master_number_laws.specs.Laws as number_laws
use Rattle.master_page_laws.specs.Laws as page_laws
use Rattle.master_call_laws.specs.Calls as call_laws
use Rattle.plug_reader_calls.specs.Number.{number_run_outcome, number_run_events}
use Rattle.plug_reader_calls.specs.Page.{page_run_outcome, page_run_events, page_run_buffer}
use Rattle.plug_publisher_calls.specs.Publisher.{publisher_run_outcome, publisher_run_events}

-- replies as a caller in C gives them: a byte each, 0 or 1
abbrev pub given : List Bool → List ℕ
given replies = map one replies

-- a buffer with a byte for each reply, and one for the answer
pub record Buffers (replies : List Bool) (events answer : List ℕ) : Type 0 where
  pub many : length events ≡ length replies
  pub sixteen : length answer ≡ 16

-- a byte for each answer stands in the events' buffer, and the last answer is what the run tells by its code and in the answer's buffer
pub record Shows (answers : List (Outcome Next)) (end : Outcome Next) (written : List ℕ) : Type 0 where
  pub events : written ≡ map call_code answers
  pub told : end ≡ last_from to_come answers

-- a refusal that gives nothing back, and a buffer that stays as it was
pub record Refuses (number : ℕ) (end : Outcome Next) (before after : List ℕ) : Type 0 where
  pub told : end ≡ refused number []
  pub kept : after ≡ before

pub record RunLaws (n : ℕ) : Type 0 where
  pub number : (replies : List Bool) (events answer : List ℕ) → Buffers replies events answer
      → Shows (number_laws.number_answers_to number_begun replies) (number_run_outcome (given replies) events answer) (number_run_events (given replies) events answer)
  pub page : (p : ℕ) (replies : List Bool) (events buffer answer : List ℕ) → Buffers replies events answer → p < n → length buffer ≡ 32
      → Shows (page_laws.page_answers_to n (page_started n p buffer) replies)
      (page_run_outcome n p (given replies) events buffer answer)
      (page_run_events n p (given replies) events buffer answer)
  -- and the page's buffer is the one after these calls
  pub page_buffer_law : (p : ℕ) (replies : List Bool) (events buffer answer : List ℕ) → Buffers replies events answer → p < n → length buffer ≡ 32
      → page_run_buffer n p (given replies) events buffer answer ≡ (page_laws.page_after n (page_started n p buffer) replies).buffer
  -- of every kind
  pub publisher : (kind : UpdateKind) (img new : List ℕ) (p : ℕ) (replies : List Bool) (events answer : List ℕ) → Buffers replies events answer
      → publisher_answer n kind img new p ≡ accepted []
      → Shows (call_laws.update_answers n (publisher_state n kind img new p) replies)
      (publisher_run_outcome n kind img new p (given replies) events answer)
      (publisher_run_events n kind img new p (given replies) events answer)
  -- a byte that is neither 0 nor 1 draws 2, whatever the buffers' lengths, and nothing is written
  pub number_byte : (first later events answer : List ℕ) (b : ℕ) → 2 ≤ b
      → Refuses 2 (number_run_outcome (first ++ (b ∷ later)) events answer) events (number_run_events (first ++ (b ∷ later)) events answer)
  pub page_byte : (p : ℕ) (first later events buffer answer : List ℕ) (b : ℕ) → 2 ≤ b
      → Refuses 2 (page_run_outcome n p (first ++ (b ∷ later)) events buffer answer) events (page_run_events n p (first ++ (b ∷ later)) events buffer answer)
  pub page_byte_buffer : (p : ℕ) (first later events buffer answer : List ℕ) (b : ℕ) → 2 ≤ b
      → page_run_buffer n p (first ++ (b ∷ later)) events buffer answer ≡ buffer
  pub publisher_byte : (kind : UpdateKind) (img new : List ℕ) (p : ℕ) (first later events answer : List ℕ) (b : ℕ) → 2 ≤ b → is_image n img ≡ true
      → Refuses 2 (publisher_run_outcome n kind img new p (first ++ (b ∷ later)) events answer)
      events
      (publisher_run_events n kind img new p (first ++ (b ∷ later)) events answer)
  -- an image of another length draws 1, whatever else is given
  pub publisher_image : (kind : UpdateKind) (img new : List ℕ) (p : ℕ) (codes events answer : List ℕ) → is_image n img ≡ false
      → Refuses 1 (publisher_run_outcome n kind img new p codes events answer) events (publisher_run_events n kind img new p codes events answer)
