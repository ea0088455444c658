-- The page read's start draws the same of a page number that no byte holds and of 255.
use Prim.Native.Nat.{ℕ}
use mathlib.Core.Path.{◌≡◌}
use mathlib.Core.Bool.{true}
use Rattle.chip_memory.specs.Layout.{is_page}
use Rattle.master_page.specs.PageRead.{page_in_range, start_answer, start_state}
use Rattle.master_page_laws.proofs.Ds2505.{page_read}
use Rattle.plug_answers.specs.Calls.{page_number}
use Rattle.plug_answers.proofs.Pages.{same_at}

pub page_same : (p : ℕ) → is_page 64 (page_number p) ≡ is_page 64 p
page_same = same_at (is_page 64) (λ p q e f. simp (e, f))

pub start_same : (p : ℕ) → start_answer 64 (page_number p) ≡ start_answer 64 p
unfolding start_answer
start_same = same_at (start_answer 64) (λ p q e f. simp (e, f))

pub state_same : (p : ℕ) → start_state 64 (page_number p) ≡ start_state 64 p
unfolding start_state
state_same = same_at (start_state 64) (λ p q e f. simp (e, f))

-- a start's state is within its ranges
pub starts : (p : ℕ) → page_in_range 64 (start_state 64 p) ≡ true
starts p = page_read.starts p
