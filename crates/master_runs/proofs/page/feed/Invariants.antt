use Rattle.master_page.specs.Held.{page_held, page_told, page_called}
use Rattle.master_page.specs.PageRead.{read_outcome}
use Rattle.master_runs.proofs.Runs.{Midway}
use Rattle.master_runs.proofs.page.feed.Given as goal

abbrev pub invariant-loop-i : goal.invariant-loop-i
invariant-loop-i l =
    Midway (page_called 64) (page_told 64) (page_held l.fn.start l.fn.buffer) l.replies l.i (page_held l.last.state l.buffer) (read_outcome l.last.answer) l.events
