-- The number read's laws, joined to a DS2505.
use mathlib.Core.Path.{refl}
use Rattle.master_number_laws.specs.Laws.{NumberLaws}
use Rattle.master_number_laws.proofs.Demand.{number_laws}

pub number_read : NumberLaws 64
number_read = number_laws 64 refl
