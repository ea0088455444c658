use Rattle.chip_memory.proofs.Pages.{part_of}
use Rattle.chip_memory.proofs.page.part.Goals as goal

pub returns : goal.returns
returns c = part_of _ _ _ _ c.min-start.ensures c.min-end.ensures
