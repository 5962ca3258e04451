-- `pass` meets its contract, by cases on whether the row moves.
use Rattle.rows_laws.specs.All.{pass_rows, pass_cell}
use Rattle.rows.proofs.wake.pass.Goals as goal

pub returns-then-moves : goal.returns-then-moves
unfolding pass_rows pass_cell
returns-then-moves c =
    record {
      cell = rw c.if-moves.true;
      rows = rw c.if-moves.true c.wake_at.ensures;
    }

pub returns : goal.returns
unfolding pass_rows pass_cell
returns c = record {
  cell = rw c.if-moves.false c.after.ensures;
  rows = rw c.if-moves.false;
}
