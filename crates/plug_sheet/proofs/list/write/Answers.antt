use mathlib.Core.Path.{refl, sym, ◌∙◌}
use native.Mathlib.Omega.{arith}
use borrow.Author.Tests.{le-leb}
use Rattle.plug_sheet.specs.List.{list_answer, list_buffer}
use Rattle.plug_sheet.specs.Stored.{image_part}
use Rattle.plug_sheet.proofs.Puts.{gains_whole}
use Rattle.plug_sheet.proofs.Texts.{list_length}
use Rattle.plug_sheet.proofs.list.write.Goals as goal

pub returns : goal.returns
unfolding list_answer list_buffer
returns c =
    let room = le-leb _ _ c.if-text-lt-ROOM.false in
    let sheet = sym c.is_sheet.ensures.value ∙ c.if-not-is_sheet.false in
    let list = rw c.image.ensures at c.put_list.ensures in
    let whole = gains_whole list refl (omega (arith, list_length 64 (image_part 64 c.args.sheet.now))) in
    record { answer = simp (room, sheet, whole.0); text = simp (room, sheet) (grind (arith, whole.1, list.same)) }
