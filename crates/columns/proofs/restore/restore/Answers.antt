-- `columns::restore::restore` meets its contract: four numbers read, four written one after the other.
use Rattle.columns_laws.proofs.Restoring.{restored}
use Rattle.columns.proofs.restore.restore.Goals as goal

pub returns : goal.returns
returns c =
    record {
      out_after = restored _ c.args.t _ _ _ _ _ _ _ _ _ _ _ _ _ _ c.number_at-difference.ensures c.number_at-transaction.ensures
          c.number_at-block.ensures c.number_at-outcome.ensures
          c.later-clock.ensures.value c.write_number-p1.ensures c.write_number-p2.ensures
          c.write_number-p3.ensures c.write_number-at.ensures;
      clock_le_max_clock = c.later-clock.ensures.upper_bound;
    }
