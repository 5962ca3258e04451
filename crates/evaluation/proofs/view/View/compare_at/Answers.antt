-- `view::View::compare_at` meets its contract: a term of a block takes two numbers.
use Rattle.machine.specs.All.{◌∙◌}
use Rattle.evaluation.specs.{compare_at}
use Rattle.evaluation.proofs.Signs.{back}
use Rattle.evaluation.proofs.view.View.compare_at.Goals as goal

pub returns : goal.returns
unfolding compare_at
returns c =
    let left = back _ c.term_at-left.type_inv ∙ c.term_at-left.ensures in
    c.holds.ensures ∙ c.of.ensures _ _ ∙ rw (left, (back _ c.term_at-right.type_inv ∙ c.term_at-right.ensures), c.number.ensures)
