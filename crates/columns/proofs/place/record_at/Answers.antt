-- `columns::place::record_at` meets its contract: what the reader answers.
use Rattle.machine.specs.All.{◌∙◌}
use Rattle.columns_laws.proofs.Placing.{entry-found}
use Rattle.columns.proofs.place.record_at.Goals as goal

pub returns : goal.returns
returns c =
    c.unwrap_or.ensures ∙ rw (c.flatten.ensures, c.ok.ensures.value) (entry-found _ _ c.read_record.ensures)
