-- `holds` meets its contract, code by code.
use Rattle.std.proofs.Common.{inl, inr}
use Rattle.std.specs.Prelude.{◌⊎◌}
use Rattle.machine.specs.All.{ℕ, ◌≡◌, ltb, eqb}
use Rattle.servers_laws.specs.Units.{status_of}
use Rattle.servers.specs.Codes.{code_number}
use Rattle.servers.specs.declared.units.Code.{Code}
use Rattle.servers.specs.declared.units.Code.TheVariants.{InUse, NotInUse, Empty, NotEmpty}
use Rattle.servers.proofs.units.Code.holds.Goals as goal

some : (code : Code) (units all : ℕ) → (code ≡ InUse) ⊎ (code ≡ NotEmpty) → ltb 0 units ≡ status_of (code_number code) units all
unfolding status_of
some code units all (inl e) = rw e
some code units all (inr e) = rw e

none : (code : Code) (units all : ℕ) → (code ≡ NotInUse) ⊎ (code ≡ Empty) → eqb units 0 ≡ status_of (code_number code) units all
unfolding status_of
none code units all (inl e) = rw e
none code units all (inr e) = rw e

pub returns-in-InUse : goal.returns-in-InUse
returns-in-InUse c = some _ _ _ c.in-InUse.is

pub returns-in-NotInUse : goal.returns-in-NotInUse
returns-in-NotInUse c = none _ _ _ c.in-NotInUse.is

pub returns-in-Full : goal.returns-in-Full
unfolding status_of
returns-in-Full c = rw c.in-Full.is

pub returns-in-NotFull : goal.returns-in-NotFull
unfolding status_of
returns-in-NotFull c = rw c.in-NotFull.is
