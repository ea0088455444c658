-- The laws of the plan of an accepted update.
use Prim.Native.Nat.{ℕ, ◌%◌, ◌≤◌}
use mathlib.Core.Path.{◌≡◌}
use mathlib.Core.List.{List}
use Rattle.base_types.specs.declared.address.Page.{Page}
use Rattle.master_plan.specs.declared.kind.UpdateKind.{UpdateKind}
use Rattle.master_plan.proofs.Lengths.{plan_length}
use Rattle.master_publisher.specs.Start.{bitmap_byte}
use Rattle.chip_entries.specs.Run.{Chip}
use Rattle.master_plan_laws.specs.Plan.{Accepts, PlanLaws}
use Rattle.master_plan_laws.proofs.Starts.{chosen_means, is_accepted, is_free_lem, not_target}
use Rattle.master_plan_laws.proofs.Readings.{pulse_shows, plan_fits, plan_leaves, plan_reads}

pub plan_laws : (n : ℕ) (kind : UpdateKind) (c : Chip) (new : List ℕ) (p : ℕ) (l t : Page) → n % 8 ≡ 0 → n ≤ 256 → Accepts n kind c new p l t → PlanLaws n kind c new p l t
plan_laws n kind c new p l t whole low a =
    let m = chosen_means l t n kind c.image new p a.chosen in
    let ok = is_accepted n kind c.image new p l t low m in
    let free = is_free_lem n kind c.image new p l t low m in
    record {
      hops = m.hops;
      asked = m.walk;
      superseded_page = ok.superseded;
      target_page = ok.target;
      apart = not_target n kind c.image new p l t low m;
      long = m.long;
      counted = plan_length kind l.0 t.0 (bitmap_byte n c.image t.0) new m.long;
      shows = pulse_shows kind l.0 t.0 (bitmap_byte n c.image t.0) new m.long;
      fits = plan_fits n whole kind c new l.0 t.0 ok free m.redirection_open a.new_bytes a.ready;
      leaves = plan_leaves n whole kind c new l.0 t.0 ok free m.redirection_open a.new_bytes a.ready;
      reads = plan_reads n whole kind c new l.0 t.0 ok free m.redirection_open a.new_bytes a.ready;
    }
