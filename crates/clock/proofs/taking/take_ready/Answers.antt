-- `take_ready` meets its contract, by cases on the first of REL.
use Rattle.machine.specs.All.{le-ltb, sym, ◌∙◌}
use Rattle.clock.specs.{ready_scalars}
use Rattle.clock.proofs.Steps.{ready-taken}
use Rattle.clock.proofs.taking.take_ready.Goals as goal

pub returns-in_default : goal.returns-in_default
unfolding ready_scalars
returns-in_default c =
    record {
      scalars = rw (le-ltb _ _ c.in_default.ensures.row);
      rows = c.take_first.ensures.rows;
    }

pub returns : goal.returns
returns c =
    record {
      scalars = ready-taken _ _ _ _ c.by_fields-y.ensures (c.of-y.ensures ∙ sym c.in-Some.ensures.row.0) (rw c.of-y.ensures c.in-Some.ensures.row.1);
      rows = c.take_first.ensures.rows;
    }
