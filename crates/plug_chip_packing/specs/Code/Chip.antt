-- The bytes from a place of a chip state's to the end of the enum's are those of what stands there.
use Rattle.std.specs.Prelude.{List, Bool, ℕ}
use Rattle.plug_fields.specs.Fields.{padded, same}
use Rattle.plug_chip_packing.specs.Chip.{incoming_bytes, incoming_of, outgoing_bytes, outgoing_of, chip_stage_bytes, chip_stage_of}

unfoldable pub incoming_own : List ℕ → Bool
incoming_own b = same 5 (padded 7 (incoming_bytes (incoming_of b))) b

unfoldable pub outgoing_own : List ℕ → Bool
outgoing_own b = same 6 (padded 6 (outgoing_bytes (outgoing_of b))) b

unfoldable pub chip_stage_own : List ℕ → Bool
chip_stage_own b = same 0 (padded 12 (chip_stage_bytes (chip_stage_of b))) b
