-- A list whose elements are replaced one after the other.
use Rattle.std.specs.Prelude.{ℕ, ◌+◌, List, [], ◌∷◌, set}

-- the bytes from place k on; past the end nothing changes
abbrev pub filled : List ℕ → ℕ → List ℕ → List ℕ
filled bytes k [] = bytes
filled bytes k (d ∷ ds) = filled (set bytes k d) (k + 1) ds
