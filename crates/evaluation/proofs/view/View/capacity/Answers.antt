-- `view::View::capacity` meets its contract.
use Rattle.machine.specs.All.{◌∙◌}
use Rattle.layout.specs.Layout as Layout
use Rattle.evaluation.specs.{servers}
use Rattle.evaluation.proofs.Parts.{part-at}
use Rattle.evaluation.proofs.view.View.capacity.Goals as goal

pub returns : goal.returns
returns c = c.from.ensures ∙ c.number.ensures ∙ part-at c.args.self.now.tables.now Layout.capacities servers c.args.v
