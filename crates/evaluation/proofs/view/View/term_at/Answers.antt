-- `view::View::term_at` meets its contract: what `term` gives where no bracket may open.
use Rattle.machine.specs.All.{ap, arith, ◌<◌, ◌∙◌}
use lib.Signed.{mag}
use Rattle.evaluation.specs.{Worth, term_at}
use Rattle.evaluation.proofs.Signs.{back}
use Rattle.evaluation.proofs.view.View.term_at.Goals as goal

pub returns : goal.returns
unfolding term_at
returns c =
    let w : mag c.term-t.result.worth < 2147483648 = omega arith in
    back _ w ∙ ap (λ (w : Worth). w.worth) c.term-t.ensures
