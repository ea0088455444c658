use Rattle.chip_memory.specs.Memory.{bytes, pages}
use Rattle.plug_sheet.specs.List.{page_lines}
use Rattle.plug_sheet.specs.Writer.{Gains}
use Rattle.plug_sheet.proofs.list.Text.put_lines.Given as goal

abbrev pub invariant-loop-p : goal.invariant-loop-p
invariant-loop-p l = Gains l.initial.self (page_lines (pages l.memory) (bytes l.memory) l.p 0) l.self
