-- `wait` meets its contract, by cases on the kind of the block.
use Rattle.machine.specs.All.{ap, eq-eqb, ne_eqb, ◌∙◌, sym}
use Rattle.watch.specs.{Walked, walked, wait_marks}
use Rattle.watch.proofs.reads.wait.Goals as goal

pub returns-then-number : goal.returns-then-number
unfolding wait_marks
returns-then-number c = rw (← c.number.ensures, ne_eqb _ 9 (λ e. c.if-number.true (e ∙ sym c.number-2.ensures)))

pub returns : goal.returns
unfolding wait_marks walked
returns c =
    rw (← c.number.ensures, eq-eqb _ 9 (c.if-number.false ∙ c.number-2.ensures)) (ap (λ (w : Walked). w.marks) c.terms.ensures)
