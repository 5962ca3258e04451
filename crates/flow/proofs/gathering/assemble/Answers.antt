-- `assemble` meets its contract: its operand, its list and the cell of its family.
use Rattle.machine.specs.All.{ap, ◌∙◌}
use Rattle.rows_laws.specs.All.{family_field, read}
use Rattle.flow_laws.specs.Gathering.{list_at_lem, assemble_rows}
use Rattle.flow.proofs.gathering.assemble.Goals as goal

pub returns : goal.returns
unfolding assemble_rows
returns c = rw (
  ← c.number-n.ensures,
  ← (c.list_at-p.ensures ∙ ap (list_at_lem c.args.work.now) c.row-k.ensures),
  ← (c.read-family.ensures ∙ ap (read c.args.work.now family_field) c.row-k.ensures),
  ← c.family_cell-c.ensures,
)
    c.gather.ensures
