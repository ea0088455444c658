-- The bytes from a place of a publisher's state to the end of the enum's are those of what stands there.
use Rattle.std.specs.Prelude.{List, Bool, ℕ}
use Rattle.master_publisher.specs.Stop.{publisher_refusal}
use Rattle.plug_fields.specs.Fields.{padded, same, is_refusal}
use Rattle.plug_master_packing.specs.Publisher.{stop_of, stage_bytes, stage_of}

unfoldable pub stage_own : List ℕ → Bool
stage_own b = same 0 (padded 8 (stage_bytes (stage_of b))) b

-- a number and a value are those of the refusal of what stopped it
unfoldable pub stop_own : ℕ → ℕ → Bool
stop_own number value = is_refusal (publisher_refusal (stop_of number value)) number value
