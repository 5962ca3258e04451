-- `columns::restore::later` meets its contract: the test decides which of the two.
use Rattle.machine.specs.All.{lt-ltb, le-ltb, arith}
use Rattle.columns_laws.specs.Walks.{later}
use Rattle.columns.proofs.restore.later.Goals as goal

pub returns-then-clock-difference : goal.returns-then-clock-difference
unfolding later
returns-then-clock-difference c =
    record {
      value = rw (lt-ltb _ _ c.if-clock-difference.true);
      upper_bound = omega arith;
    }

pub returns : goal.returns
unfolding later
returns c =
    record {
      value = rw (le-ltb _ _ c.if-clock-difference.false);
      upper_bound = omega arith;
    }
