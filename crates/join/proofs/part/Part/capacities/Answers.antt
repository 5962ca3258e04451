-- `join::part::Part::capacities` meets its contract. The invariant: the capacities that are left, written behind what stands, give the whole.
use Rattle.machine.specs.All.{◌∙◌}
use Rattle.join_laws.proofs.RowSteps.{cells-start, cells-step, cells-done}
use Rattle.join.proofs.part.Part.capacities.Goals as goal

pub loop-k-init : goal.loop-k-init
loop-k-init c = cells-start _ _ _ _

pub loop-k-preserved : goal.loop-k-preserved
loop-k-preserved c =
    cells-step _ _ _ _ _ _ _ _ c.loop-k-test.true c.loop-k.invariant (c.from.ensures ∙ c.number.ensures) c.write_number-next.ensures

pub returns : goal.returns
returns c = cells-done _ _ _ _ _ _ c.loop-k-test.false c.loop-k.invariant
