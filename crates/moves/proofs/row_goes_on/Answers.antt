-- `row_goes_on` meets its contract: the row goes to the next block plus one.
use Rattle.machine.specs.All.{refl, ap, ◌∙◌}
use Rattle.moves.specs.{go_on_lem, go_to}
use Rattle.moves.specs.Motion.{next32}
use Rattle.moves.proofs.row_goes_on.Goals as goal

pub returns : goal.returns
unfolding go_on_lem
returns c =
    λ x e.
    rw e (c.row_goes_to.ensures _ refl ∙ ap (go_to _ _) (c.saturating_add-next.ensures ∙ ap next32 c.read.ensures))
