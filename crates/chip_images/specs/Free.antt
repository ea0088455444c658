-- What the entries on free pages tell, over the page count n.
use Rattle.std.specs.Prelude.{ℕ, List, [], Option, Some, None}
use Rattle.base_types.specs.Outcome.{Outcome, refused, accepted, judge}
use Rattle.base_types.specs.declared.address.Page.{Page}
use Rattle.chip_memory.specs.Layout.{is_image}
use Rattle.chip_chain.specs.Walk.{redirected_count}
use Rattle.chip_chain.specs.Free.{lowest_free, free_count}
use Rattle.chip_images.specs.declared.free.PageCounts.{PageCounts}
use Rattle.chip_images.specs.Page.{on_page}

-- 8 where none is found
abbrev pub found_outcome : Option Page → Outcome Page
found_outcome (Some p) = accepted p
found_outcome None = refused 8 []

-- 1, 3, 8, or the lowest free page other than the one given
unfoldable pub free_answer : ℕ → List ℕ → ℕ → Outcome Page
free_answer n img other = on_page n img other (found_outcome (lowest_free n img other))

-- 1, or the counts
unfoldable pub counts_answer : ℕ → List ℕ → Outcome PageCounts
counts_answer n img =
    judge (is_image n img) 1 (accepted (record { redirected = redirected_count n img; free = free_count n img }))
