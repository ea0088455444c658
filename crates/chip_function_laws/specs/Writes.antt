-- The commands that write, over whole sessions: what the bytes after the command and its address do.
use Rattle.std.specs.Prelude.{ℕ, ◌+◌, List, [], ◌∷◌}
use Rattle.base_types.specs.declared.address.Space.{Space}
use Rattle.chip_memory.specs.Write.{programmed}
use Rattle.chip_stage.specs.Limits.{target_at}

-- the image after bytes were written from address a of a memory on
unfoldable pub written_from : ℕ → List ℕ → Space → ℕ → List ℕ → List ℕ
written_from n img space a [] = img
written_from n img space a (byte ∷ bytes) = written_from n (programmed n img (target_at space a) byte) space (a + 1) bytes
