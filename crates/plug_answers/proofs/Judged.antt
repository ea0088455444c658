-- Judgements one after another.
use Prim.Native.Nat.{ℕ}
use mathlib.Core.Path.{◌≡◌, refl, sym}
use mathlib.Core.Bool.{Bool, true, false, ◌&&◌}
use mathlib.Core.List.{List}
use Rattle.base_types.specs.Outcome.{Outcome, refused, Done, judge, following, in_order}

-- the answer's buffer is judged with the other buffers: what these and what comes before them refuse is refused with it too
pub refused_first : (ranges lengths answer : Bool) {n : ℕ} {vs : List ℕ}
    → refused n vs ≡ in_order true ranges lengths → in_order true ranges (answer && lengths) ≡ refused n vs
refused_first false lengths answer e = sym e
refused_first true false false e = sym e
refused_first true true false e = cc
refused_first true lengths true e = sym e

-- judged one after the other, or all at once
pub answer_judged_lem : (image ranges lengths answer : Bool) (rest : Outcome Done)
    → following (in_order image ranges lengths) (judge answer 10 rest) ≡ following (in_order image ranges (answer && lengths)) rest
answer_judged_lem false ranges lengths answer rest = refl
answer_judged_lem true false lengths answer rest = refl
answer_judged_lem true true true true rest = refl
answer_judged_lem true true true false rest = refl
answer_judged_lem true true false true rest = refl
answer_judged_lem true true false false rest = refl
