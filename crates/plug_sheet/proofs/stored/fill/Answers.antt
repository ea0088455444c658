use mathlib.Core.Path.{◌∙◌}
use native.Mathlib.Omega.{arith}
use lib.ListN.{length-drop}
use Rattle.chip_memory.proofs.Pages.{copied_same}
use Rattle.chip_memory.specs.Layout.{page_count}
use Rattle.plug_sheet.proofs.Sheets.{header_length, parts_fill}
use Rattle.plug_sheet.specs.Stored.{header_of, sheet_of}
use Rattle.plug_sheet.proofs.stored.fill.Goals as goal

pub returns : goal.returns
unfolding sheet_of
returns c = let a = c.args in
    let front = c.copy_from_slice.ensures.after ∙ c.header.ensures in
    let rest = c.copy.ensures ∙ copied_same _ _ (let e = length-drop 24 a.sheet.now in omega (arith, c.requires)) in
    rw (front, c.copy_from_slice-2.ensures.after, rest)
    (parts_fill (header_of (page_count a.last)) a.number.now a.image.now a.sheet.now (header_length (page_count a.last)) c.told-number c.requires)
