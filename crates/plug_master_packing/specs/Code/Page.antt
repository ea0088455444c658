-- The bytes from a place of a page read's state to the end of the enum's are those of what stands there.
use Rattle.std.specs.Prelude.{List, Bool, ℕ}
use Rattle.master_page.specs.Page.{page_stop}
use Rattle.plug_fields.specs.Fields.{padded, same, is_refusal}
use Rattle.plug_master_packing.specs.Page.{part_bytes, part_of, page_stop_of, phase_bytes, phase_of}

unfoldable pub part_own : List ℕ → Bool
part_own b = same 4 (padded 4 (part_bytes (part_of b))) b

unfoldable pub phase_own : List ℕ → Bool
phase_own b = same 0 (padded 8 (phase_bytes (phase_of b))) b

-- a number and a value are those of the refusal of what stopped it
unfoldable pub stop_own : ℕ → ℕ → Bool
stop_own number value = is_refusal (page_stop (page_stop_of number value)) number value
