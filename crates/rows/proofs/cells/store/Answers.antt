-- `store` meets its contract: by its bound.
use Rattle.machine.specs.All.{lt-ltb, le-ltb}
use Rattle.rows_laws.specs.All.{store}
use Rattle.rows.proofs.cells.store.Goals as goal

pub returns-then-i-lt-WORK_NUMBERS : goal.returns-then-i-lt-WORK_NUMBERS
unfolding store
returns-then-i-lt-WORK_NUMBERS c = rw (lt-ltb _ 16384 c.if-i-lt-WORK_NUMBERS.true)

pub returns-else-i-lt-WORK_NUMBERS : goal.returns-else-i-lt-WORK_NUMBERS
unfolding store
returns-else-i-lt-WORK_NUMBERS c = rw (le-ltb _ 16384 c.if-i-lt-WORK_NUMBERS.false)
