-- `row_waits` meets its contract, by cases on the mark.
use Rattle.machine.specs.All.{refl, eq-eqb, ne_eqb}
use Rattle.moves.specs.{with_outcome, put_back, wait_on}
use Rattle.moves.proofs.row_waits.Goals as goal

pub returns-then-read-eq1 : goal.returns-then-read-eq1
unfolding with_outcome put_back wait_on
returns-then-read-eq1 c =
    λ x e f. rw (e, ← c.read.ensures, eq-eqb _ _ c.if-read-eq1.true, c.line_up.ensures)

pub returns : goal.returns
unfolding wait_on
returns c =
    λ x e f.
    rw (e, f, ← c.read.ensures, ne_eqb _ _ c.if-read-eq1.false) (c.row_begins_wait.ensures _ refl refl)
