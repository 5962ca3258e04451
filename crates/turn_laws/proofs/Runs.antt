-- When rows and trace buffer stand for a state of the machine and its records.
use Rattle.machine.specs.All.{ℕ, List, State}
use Rattle.state.specs.All.{Stands}
use Rattle.turn_laws.specs.{Traced}
use Rattle.turn_laws.specs.Writes.{Writes}

pub record Runs (tape_bytes before : List ℕ) (a : Traced) (s : State) : Type 0 where
  pub stands : Stands tape_bytes a.rows s.moving s
  pub writes : Writes before a.trace s
