-- `set_returning` meets its contract: a mark that stands stays; else what is written is made of what was read.
use Rattle.machine.specs.All.{sym, ap, ◌∙◌, ◌%◌}
use Rattle.rows_laws.proofs.Buffer.Store.{returning_kept}
use Rattle.rows.proofs.cells.set_returning.Goals as goal

pub returns-then-standing-mark : goal.returns-then-standing-mark
returns-then-standing-mark c = sym (returning_kept _ _ _ (ap (λ n. n % 2) (sym c.read-standing.ensures) ∙ c.if-standing-mark.true))

pub returns : goal.returns
returns c =
    rw (← c.read-standing.ensures) c.write.ensures
