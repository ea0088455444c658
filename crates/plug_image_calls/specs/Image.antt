-- The entries on an image, over the page count n. Buffers that only callers in C have are judged after 1, with 10.
use Rattle.std.specs.Prelude.{ℕ, true, List, [], ◌∷◌}
use Rattle.base_types.specs.Outcome.{Outcome, refused, accepted, following, in_order}
use Rattle.base_types.specs.declared.address.Page.{Page}
use Rattle.base_types.specs.declared.verdict.Verdict.{Verdict}
use Rattle.base_types.specs.declared.verdict.Verdict.TheVariants.{Final, Loop, Outside}
use Rattle.chip_memory.specs.Layout.{is_image}
use Rattle.chip_images.specs.Walk.{walk_answer}
use Rattle.chip_images.specs.Free.{free_answer}
use Rattle.plug_answers.specs.Answers.{is_answer}

-- Final gives the page and the hops; 4; 5 with the number
abbrev pub verdict_values : Verdict → Outcome (List ℕ)
verdict_values (Final q hops) = accepted (q.0 ∷ hops ∷ [])
verdict_values Loop = refused 4 []
verdict_values (Outside x) = refused 5 (x ∷ [])

abbrev pub walked_values : Outcome Verdict → Outcome (List ℕ)
walked_values (refused number values) = refused number values
walked_values (accepted v) = verdict_values v

-- 1, 10 for the answer's buffer, 3, 4, 5, or the final page and the hops
unfoldable pub walk_values : ℕ → List ℕ → ℕ → List ℕ → Outcome (List ℕ)
walk_values n img p answer = following (in_order (is_image n img) true (is_answer answer)) (walked_values (walk_answer n img p))

abbrev pub found_values : Outcome Page → Outcome (List ℕ)
found_values (refused number values) = refused number values
found_values (accepted p) = accepted (p.0 ∷ [])

-- 1, 10 for the answer's buffer, 3, 8, or the lowest free page other than the one given
unfoldable pub free_values : ℕ → List ℕ → ℕ → List ℕ → Outcome (List ℕ)
free_values n img other answer = following (in_order (is_image n img) true (is_answer answer)) (found_values (free_answer n img other))
