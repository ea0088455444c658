-- Calls one after the other, all lent one buffer, over the page count n.
use Rattle.std.specs.Prelude.{ℕ, Bool, List}
use Rattle.base_types.specs.Outcome.{Outcome}
use Rattle.bus_scripts.specs.Next.{Next}
use Rattle.master_page.specs.declared.PageRead.{PageRead}
use Rattle.master_page.specs.PageRead.{start_state, read_answer, read_state, read_buffer}

-- what a caller holds between the calls: the state, and the buffer
pub record PageHeld : Type 0 where
  pub state : PageRead
  pub buffer : List ℕ

abbrev pub page_held : PageRead → List ℕ → PageHeld
page_held s lent = record { state = s; buffer = lent }

abbrev pub page_told : ℕ → PageHeld → Bool → Outcome Next
page_told n h reply = read_answer n h.state reply h.buffer

abbrev pub page_called : ℕ → PageHeld → Bool → PageHeld
page_called n h reply = page_held (read_state n h.state reply h.buffer) (read_buffer n h.state reply h.buffer)

-- a page read of page p that has been started, with the buffer that its calls are lent
abbrev pub page_started : ℕ → ℕ → List ℕ → PageHeld
page_started n p lent = page_held (start_state n p) lent
