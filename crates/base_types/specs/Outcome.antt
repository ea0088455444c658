-- What a public entry tells its caller: a refusal, by document 01's number with the values given back, or what was asked for.
-- Every contract of an entry that may refuse is an equation between what the code's result tells and one of these.
use Rattle.std.specs.Prelude.{ℕ, Bool, true, false, List, [], Result, Ok, Err, ⊤}
use Rattle.base_types.specs.declared.refusal.Refusal.{Refusal}
use Rattle.base_types.specs.Refusal.{number_of, values_of}

pub data Outcome (A : Type 0) : Type 0 where
  refused : (number : ℕ) → (values : List ℕ) → Outcome A
  accepted : A → Outcome A

-- what a case of the code's enum of refusals tells
abbrev pub refusing : {A : Type 0} → Refusal → Outcome A
refusing r = refused (number_of r) (values_of r)

-- where the test fails, the refusal of that number, which gives back nothing else; else what follows
abbrev pub judge : {A : Type 0} → Bool → ℕ → Outcome A → Outcome A
judge true number rest = rest
judge false number rest = refused number []

-- what a result of the code tells
abbrev pub outcome_of : {A : Type 0} → Result A Refusal → Outcome A
outcome_of (Ok a) = accepted a
outcome_of (Err r) = refusing r

-- nothing more than that it is accepted
abbrev pub Done : Type 0
Done = ⊤

abbrev pub done : Done
done = tt

-- a buffer or a state: the new one where the answer is not refused, and else the old one
abbrev pub unless_refused : {A B : Type 0} → Outcome A → B → B → B
unless_refused (accepted a) new old = new
unless_refused (refused k vs) new old = old

-- what is told next, where the answer is not refused
abbrev pub following : {A B : Type 0} → Outcome A → Outcome B → Outcome B
following (accepted a) rest = rest
following (refused k vs) rest = refused k vs

-- The order of every entry that judges these: 1 for an image of another length, 2 for a state or a byte outside its range, 10 for any
-- other buffer of a wrong length. All other refusals come after them.
abbrev pub in_order : Bool → Bool → Bool → Outcome Done
in_order image ranges lengths = judge image 1 (judge ranges 2 (judge lengths 10 (accepted done)))
