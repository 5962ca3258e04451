-- `columns::place::place` meets its contract: four numbers written one after the other.
use Rattle.columns_laws.proofs.Placing.{placed}
use Rattle.columns.proofs.place.place.Goals as goal

pub returns : goal.returns
returns c =
    placed _ _ c.record_at-at.ensures c.args.t _ _ _ _ _ _ _ _ _ _ c.saturating_sub.ensures
    c.write_number-differences.ensures c.write_number-transactions.ensures c.write_number-blocks.ensures
    c.write_number-outcomes.ensures
