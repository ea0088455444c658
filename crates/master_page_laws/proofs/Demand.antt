-- Demand 2 for the page read, over the page count.
use Prim.Native.Nat.{ℕ, ◌%◌, ◌<◌, ◌≤◌}
use mathlib.Core.Path.{◌≡◌}
use Rattle.bus_scripts.proofs.Scripts.{script_laws}
use Rattle.master_page.specs.Held.{page_called, page_told}
use Rattle.master_page_laws.specs.Laws.{PageLaws}
use Rattle.master_page_laws.proofs.Ranges.{start_ready, start_refused, page_starts, page_keeps, page_listed, page_outside, other_buffer, page_never_2}
use Rattle.master_page_laws.proofs.Plays.{page_plays_lent, page_plays, page_leaves}
use Rattle.master_page_laws.proofs.Derived.{visit_counted, page_counted, page_at_most, page_agreed, page_image_stays}
use Rattle.master_page_laws.proofs.Joined.{page_joined}

pub page_laws : (n : ℕ) → n % 8 ≡ 0 → 0 < n → n ≤ 256 → PageLaws n
page_laws n whole some low =
    record {
      start_ready = start_ready n;
      start_refused = start_refused n;
      starts = page_starts n some;
      keeps = page_keeps n;
      listed = page_listed n;
      outside = page_outside n;
      other_buffer = other_buffer n;
      never_2 = page_never_2 n;
      plays_lent = page_plays_lent n some;
      plays = λ p lent replies room. page_plays n some p lent room replies;
      leaves = λ p lent replies room. page_leaves n some p lent room replies;
      visit_counted = visit_counted;
      page_counted = page_counted;
      at_most = λ p lent replies room. page_at_most n some p lent room replies;
      agreed = λ p lent first replies v before later below room. page_agreed n some p lent room below first replies v before later;
      image_stays = λ c p lent replies room. page_image_stays n some p lent room c replies;
      plays_on = λ react line p lent b replies room good. script_laws.on_bus react line (page_called n) (page_told n) (page_plays n some p lent room) b replies good;
      joined = page_joined n whole low some;
    }
