-- The numbers of the codes that waits name, from 0.
use Rattle.std.specs.Prelude.{ℕ}
use Rattle.servers.specs.declared.units.Code.{Code}
use Rattle.servers.specs.declared.units.Code.TheVariants.{InUse, NotInUse, Empty, NotEmpty, Full, NotFull}

abbrev pub code_number : Code → ℕ
code_number InUse = 0
code_number NotInUse = 1
code_number Empty = 2
code_number NotEmpty = 3
code_number Full = 4
code_number NotFull = 5
