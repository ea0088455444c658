use native.Mathlib.Omega.{arith}
use mathlib.Core.Path.{refl}
use borrow.Author.Tests.{le-leb}
use Rattle.plug_sheet.specs.List.{refusal_answer, refusal_buffer}
use Rattle.plug_sheet.proofs.Puts.{gains_whole}
use Rattle.plug_sheet.proofs.Texts.{refused_length}
use Rattle.plug_sheet.proofs.list.write_refusal.Goals as goal

pub returns : goal.returns
unfolding refusal_answer refusal_buffer
returns c =
    let room = le-leb _ _ c.if-text-lt-ROOM.false in
    let whole = gains_whole c.put_refused.ensures refl (omega (arith, refused_length c.number.result)) in
    record { answer = simp (room, whole.0, c.number.ensures); text = simp room (grind (arith, whole.1, c.number.ensures, c.put_refused.ensures.same)) }
