use Prim.Native.Nat.{ℕ}
use mathlib.Core.List.{List}
use mathlib.Core.Path.{refl, ap, ◌∙◌}
use native.Mathlib.Numerals.{add-one}
use native.Mathlib.Omega.{arith}
use lib.ListN.{get_or, set, length-set}
use Rattle.chip_memory.proofs.Pages.{copied_none, copied_next, copied_all}
use Rattle.chip_memory.proofs.page.copy.Goals as goal

pub loop-i-init : goal.loop-i-init
loop-i-init c = (omega arith, refl, copied_none c.args.page.now c.args.buffer.now)

pub loop-i-preserved : goal.loop-i-preserved
loop-i-preserved c = let args = c.args in
    let inv = c.loop-i.invariant in (
      omega arith,
      simp length-set inv.1,
      rw add-one (ap (λ (l : List ℕ). set l c.loop-i.i (get_or args.page.now c.loop-i.i 0)) inv.2 ∙ copied_next
          args.page.now args.buffer.now c.loop-i.i (omega (arith, c.min-i-end.ensures)) (omega (arith, c.min-i-end.ensures))),
    )

pub returns : goal.returns
returns c = let args = c.args in
    c.loop-i.invariant.2 ∙ copied_all args.page.now args.buffer.now c.loop-i.i (omega (arith, c.min-i-end.ensures))
