-- The page read's laws at the DS2505's 64 pages: never more than 3,921 events.
use mathlib.Core.Path.{◌≡◌, refl}
use lib.Dec.{lit<, lit≤}
use Rattle.master_page_laws.specs.Laws.{PageLaws, most_events}
use Rattle.master_page_laws.proofs.Demand.{page_laws}

pub page_read : PageLaws 64
page_read = page_laws 64 refl (lit< tt) (lit≤ tt)

pub most : most_events 64 ≡ 3921
most = refl
