-- Rows that one statement covers: in each, what a definition gives, and what it has to be.
use Rattle.std.specs.Prelude.{◌≡◌, List, map}

pub record Row (A : Type 0) : Type 0 where
  pub given : A
  pub wanted : A

infix 20 ◌gives◌
abbrev pub ◌gives◌ : {A : Type 0} → A → A → Row A
x gives y = record { given = x; wanted = y }

-- all the rows, in one equation
abbrev pub Hold : {A : Type 0} → List (Row A) → Type 0
Hold {A} rows = map (λ (r : Row A). r.given) rows ≡ map (λ (r : Row A). r.wanted) rows
