use Rattle.std.proofs.Common.{◌≡◌, ℕ, List, [], ◌∷◌, length, refl, ap, arith}
use Rattle.chip_memory.specs.Page.{copied}
use Rattle.plug_answers.specs.Answers.{answered}
use Rattle.plug_answers.proofs.answer.ArrayU8Values.tell.Goals as goal

pub returns-in-Some : goal.returns-in-Some
unfolding answered copied
returns-in-Some g c =
    let parts : c.args.answer.now ≡ c.in-Some.first.now ∷ c.in-Some.rest.now = c.in-Some.ensures.cases.0 in
    rw parts (ap (λ (rest : List ℕ). 255 ∷ rest) c.copy.ensures)

-- there is no room in an empty buffer
no_room : (byte : ℕ) (bytes old : List ℕ) → length old ≡ 0 → old ≡ copied (byte ∷ bytes) old
unfolding copied
no_room byte bytes [] e = refl
no_room byte bytes (o ∷ old) e = absurd (omega arith)

pub returns-in_default : goal.returns-in_default
unfolding answered
returns-in_default g c = no_room _ _ _ c.in_default.ensures.cases
