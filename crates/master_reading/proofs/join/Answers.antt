use mathlib.Core.Path.{◌≡◌, refl, sym, ap, ap₂, ◌∙◌}
use lib.ListN.{length}
use borrow.Author.Rules.{rules}
use native.Mathlib.Omega.{arith}
use Rattle.chip_memory.proofs.Sizes.{image_length, page_below}
use Rattle.chip_entries.specs.Run.{line_of}
use Rattle.chip_session_laws.specs.Session.{Bytes}
use Rattle.master_page.specs.Held.{page_held}
use Rattle.master_reading.proofs.Turns.{turned, more, ended, below, begins_as, at_most}
use Rattle.master_reading.proofs.join.Invariants.{chip_of}
use Rattle.master_reading.proofs.join.Goals as goal

pub loop-e-init : goal.loop-e-init
loop-e-init c = let a = c.args in
    let sized = image_length 64 a.image.now c.requires.0 in
    let inside = page_below 64 a.page.0 c.requires.2 in
    let small : Bytes a.image.now = λ i. (c.type_inv.image i).fits in
    let eight : length a.number ≡ 8 = search rules in (
      begins_as a.number a.image.now a.buffer.now a.page.0 sized small eight inside c.requires.1 _ _ c.start.ensures.state
          c.power_up-chip.ensures,
      at_most a.number a.image.now a.buffer.now a.page.0 sized small eight inside c.requires.1,
    )

pub overflow_add-events : goal.overflow_add-events
overflow_add-events c = omega (arith, below _ _ _ _ _ _ _ c.loop-e.invariant.0)

pub loop-e-smaller : goal.loop-e-smaller
loop-e-smaller c = let l = c.loop-e in
    let told = sym (rw (c.in-Ok-Send.is, rw c.in-Ok-Send.is at c.in-Ok-Send.field-0-is) at c.call-called.ensures.answer) in
    omega (arith, more _ _ _ _ _ _ _ l.invariant.0 _ told)

pub loop-e-preserved : goal.loop-e-preserved
loop-e-preserved c = let l = c.loop-e in
    let told = sym (rw (c.in-Ok-Send.is, rw c.in-Ok-Send.is at c.in-Ok-Send.field-0-is) at c.call-called.ensures.answer) in (
      turned _ _ _ _ _ _ _ l.invariant.0 _ told _ _ _
          (ap₂ page_held c.call-called.ensures.state c.call-called.ensures.buffer) (ap₂ chip_of c.event-stepped.ensures.state c.event-stepped.ensures.image)
          (c.line_of-reply.ensures ∙ ap line_of c.event-stepped.ensures.answer),
      l.invariant.1,
    )

pub returns-in-Ok-End : goal.returns-in-Ok-End
returns-in-Ok-End c = let told = sym (rw (c.in-Ok-End.is, rw c.in-Ok-End.is at c.in-Ok-End.field-0-is) at c.call-called.ensures.answer) in
    let e = ended _ _ _ _ _ _ _ c.loop-e.invariant.0 _ told refl in record { end = e.ends; events = e.all; buffer = c.call-called.ensures.buffer ∙ e.handed; image = e.kept }

pub returns-in-Err : goal.returns-in-Err
returns-in-Err c = let told = sym (rw c.in-Err.is at c.call-called.ensures.answer) in
    let e = ended _ _ _ _ _ _ _ c.loop-e.invariant.0 _ told refl in record { end = e.ends; events = e.all; buffer = c.call-called.ensures.buffer ∙ e.handed; image = e.kept }
