-- What a caller in C is told: a code, and the bytes of an answer.
use Rattle.std.specs.Prelude.{ℕ, Bool, List, [], ◌∷◌, Result, Ok, Err, eqb, length, get_or}
use Rattle.base_types.specs.declared.address.Page.{Page}
use Rattle.base_types.specs.declared.refusal.Refusal.{Refusal}
use Rattle.base_types.specs.Outcome.{Outcome, refused, accepted, refusing}
use Rattle.bus_events.specs.Codes.{code_of}
use Rattle.bus_scripts.specs.Next.{Next, send, tells}
use Rattle.chip_memory.specs.Page.{copied}

-- the code of an answer: 0, or the refusal's number
abbrev pub code_in : {A : Type 0} → Outcome A → ℕ
code_in (refused number values) = number
code_in (accepted a) = 0

-- what a result of the code tells, where values_of are the values of what it holds
abbrev pub told_by : {A : Type 0} → (A → List ℕ) → Result A Refusal → Outcome (List ℕ)
told_by values_of (Ok a) = accepted (values_of a)
told_by values_of (Err r) = refusing r

-- the values of a page; of a page and the hops to it; of L and T
abbrev pub page_values : Page → List ℕ
page_values page = page.0 ∷ []

abbrev pub final_values : Page × ℕ → List ℕ
final_values found = found.0.0 ∷ found.1 ∷ []

abbrev pub update_pages : Page × Page → List ℕ
update_pages pages = pages.0.0 ∷ pages.1.0 ∷ []

-- a buffer for an answer has sixteen bytes
unfoldable pub is_answer : List ℕ → Bool
is_answer answer = eqb (length answer) 16

-- The answer's first byte is the event, or FFh where none is told, and the values follow. A refusal that gives back no value, and what
-- is past the values, leaves the buffer as it was.
unfoldable pub answered : Outcome (List ℕ) → List ℕ → List ℕ
answered (accepted values) answer = copied (0xFF ∷ values) answer
answered (refused number []) answer = answer
answered (refused number (v ∷ values)) answer = copied (0xFF ∷ v ∷ values) answer

unfoldable pub next_answered : Outcome Next → List ℕ → List ℕ
next_answered (accepted (send e)) answer = copied (code_of e ∷ []) answer
next_answered (accepted (tells values)) answer = answered (accepted values) answer
next_answered (refused number values) answer = answered (refused number values) answer

-- the first eight bytes of a list, which is all of a registration number
unfoldable pub eight_of : List ℕ → List ℕ
eight_of b = get_or b 0 0 ∷ get_or b 1 0 ∷ get_or b 2 0 ∷ get_or b 3 0 ∷ get_or b 4 0 ∷ get_or b 5 0 ∷ get_or b 6 0 ∷ get_or b 7 0 ∷ []

-- a number has eight bytes
unfoldable pub is_number_buffer : List ℕ → Bool
is_number_buffer b = eqb (length b) 8
