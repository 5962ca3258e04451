-- `set` meets its contract: by its bound.
use Rattle.machine.specs.All.{lt-ltb, arith}
use Rattle.rows_laws.specs.All.{store}
use Rattle.rows.proofs.cells.set.Goals as goal

pub returns : goal.returns
unfolding store
returns c = rw (lt-ltb c.args.i 16384 (omega arith))
