-- A byte that can be written: in which memory it lies, and at which address.
use Rattle.std.specs.Prelude.{ℕ}
use Rattle.base_types.specs.declared.address.Space.{Space}
use Rattle.base_types.specs.declared.address.Space.TheVariants.{Data, Status}
use Rattle.base_types.specs.declared.address.Target.{Target}
use Rattle.base_types.specs.declared.address.Target.TheVariants.{Data as DataTarget, Status as StatusTarget}

abbrev pub space_of : Target → Space
space_of (DataTarget a) = Data
space_of (StatusTarget a) = Status

abbrev pub address_of : Target → ℕ
address_of (DataTarget a) = a.0
address_of (StatusTarget a) = a.0
