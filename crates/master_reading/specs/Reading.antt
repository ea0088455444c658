-- A whole page read on an image, over the page count n: what is told is the walk's verdict, and the events are those along the chain.
use Rattle.std.specs.Prelude.{ℕ, List, [], ◌∷◌, Result, Ok, Err, eqb, length}
use Rattle.base_types.specs.declared.address.Page.{Page}
use Rattle.base_types.specs.declared.refusal.Refusal.{Refusal}
use Rattle.base_types.specs.Outcome.{Outcome, accepted, refusing, judge, Done, done, unless_refused, following}
use Rattle.bus_scripts.specs.Next.{Next, tells}
use Rattle.bus_scripts.specs.Script.{left_in}
use Rattle.chip_chain.specs.Walk.{walk_of}
use Rattle.chip_memory.specs.Layout.{is_image, is_page}
use Rattle.master_page_laws.specs.Heard.{page_events_for}
use Rattle.master_page_laws.specs.Laws.{verdict_outcome, verdict_bytes}

-- what the end of a read tells: the final page and the hops, or a refusal
abbrev pub end_told : Result (Page × ℕ) Refusal → Outcome Next
end_told (Ok e) = accepted (tells (e.0.0 ∷ e.1 ∷ []))
end_told (Err r) = refusing r

-- 1, 10, 3
abbrev pub reading_judged : ℕ → List ℕ → ℕ → List ℕ → Outcome Done
reading_judged n img p lent = judge (is_image n img) 1 (judge (eqb (length lent) 32) 10 (judge (is_page n p) 3 (accepted done)))

-- what the walk says, 4 and 5 among it
abbrev pub reading_end : ℕ → List ℕ → ℕ → List ℕ → Outcome Next
reading_end n img p lent = following (reading_judged n img p lent) (verdict_outcome (walk_of n img p))

-- how many events there are: 57 for each page of the chain, and 273 for the data of a valid one
abbrev pub reading_events : ℕ → List ℕ → ℕ → List ℕ → ℕ
reading_events n img p lent = unless_refused (reading_judged n img p lent) (length (page_events_for n img p)) 0

-- under Final the page's bytes, else the buffer as it was
abbrev pub reading_buffer : ℕ → List ℕ → ℕ → List ℕ → List ℕ
reading_buffer n img p lent = unless_refused (reading_judged n img p lent) (left_in (verdict_bytes (walk_of n img p) img) lent) lent
