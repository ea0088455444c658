use mathlib.Core.Path.{◌≡◌, sym, ap, ◌∙◌}
use mathlib.Core.Bool.{true}
use native.Mathlib.Omega.{arith}
use borrow.Author.Tests.{eqb-true, eq-eqb}
use lib.ListN.{length}
use Rattle.chip_memory.specs.Layout.{page_count}
use Rattle.plug_sheet.specs.Stored.{sheet_size, starts_with, header_of, gaps_blank, is_sheet}
use Rattle.plug_sheet.proofs.Sheets.{front_is, rest_whole}
use Rattle.plug_sheet.proofs.stored.is_sheet.Goals as goal
use Rattle.plug_sheet.proofs.stored.is_sheet.Goals.{then-sheet-sheet_size, else-sheet-sheet_size}

pub returns-then-starts_with-clause-value : goal.returns-then-starts_with-clause-value
unfolding is_sheet
returns-then-starts_with-clause-value c =
    let n = page_count c.args.last in
    let s = c.args.sheet.now in
    elim c.if-sheet-sheet_size.branch [
      | then-sheet-sheet_size w ↦
          let size : length s ≡ sheet_size n = omega arith in
          let front : starts_with (header_of n) s ≡ true =
          ap (λ f. starts_with f s) (sym w.header.ensures) ∙ sym (front_is w.header.result s) ∙ sym w.starts_with.ensures.value ∙ sym w.value-is ∙ c.if-starts_with.true in
          c.gaps_blank.ensures ∙ ap (gaps_blank n) (rest_whole 24 s) ∙ sym (simp (eq-eqb _ _ size, front))
      | else-sheet-sheet_size w ↦ absurd (w.if-sheet-sheet_size.false (eqb-true _ _ (sym w.value-is ∙ c.if-starts_with.true)))
    ]
