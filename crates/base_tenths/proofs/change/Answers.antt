use mathlib.Core.Path.{◌≡◌, sym, ◌∙◌}
use mathlib.Core.Bool.{Bool}
use native.Mathlib.Omega.{arith}
use lib.IntN.{ℤ}
use mir.Syntax.{w32}
use mir.Val.{SFits, to_z, of_z}
use mir.ValLaws.{to_z-of_z}
use Rattle.base_tenths.specs.Tenths.{is_value, change_answer}
use Rattle.base_tenths.proofs.Integers.{difference_fits}
use Rattle.base_tenths.proofs.Laws.{folds}
use Rattle.base_tenths.proofs.change.Goals as goal

-- what is_value told of a number
judged : (v : ℤ) → SFits w32 v → {t : Bool} → t ≡ is_value (to_z w32 (of_z w32 v)) → is_value v ≡ t
judged v f e = rw (to_z-of_z w32 v f) at (sym e)

pub overflow_sub-new : goal.overflow_sub-new
overflow_sub-new c =
    let o = judged _ c.ranges.old c.if-is_value.ensures in
    let n = judged _ c.ranges.new c.if-is_value-2.ensures in
    rw (to_z-of_z w32 c.args.old c.ranges.old, to_z-of_z w32 c.args.new c.ranges.new) (difference_fits c.args.old c.args.new o n)

pub returns-then-is_value-2-clause-answer : goal.returns-then-is_value-2-clause-answer
unfolding change_answer
returns-then-is_value-2-clause-answer c =
    let o = judged _ c.ranges.old c.if-is_value.ensures in
    let n = judged _ c.ranges.new c.if-is_value-2.ensures in
    let d = difference_fits c.args.old c.args.new o n in
    let f : SFits w32 c.fold.result = record { sfits = c.fold.type_inv } in
    simp (o, n) (grind (arith, to_z-of_z))

pub returns-then-is_value-2-clause-turns : goal.returns-then-is_value-2-clause-turns
returns-then-is_value-2-clause-turns c = λ d told. folds c.args.old c.args.new d (sym (returns-then-is_value-2-clause-answer c) ∙ told)
