-- `arrive_on` meets its contract: on, then the new one.
use Rattle.rows_laws.specs.All.{next_field, read}
use Rattle.machine.specs.All.{refl, ap, ◌∙◌}
use Rattle.moves.specs.Motion.{moved}
use Rattle.flow_laws.specs.Kinds.{arrive_on}
use Rattle.flow.proofs.generating.arrive_on.Goals as goal

pub returns : goal.returns
unfolding arrive_on moved
returns c = rw (c.one_made.ensures, ← (c.read-block.ensures ∙ ap (read c.args.work.now next_field) c.row.ensures), ← c.go_on-y.ensures)
    (c.arrives-made.ensures _ refl refl refl)
