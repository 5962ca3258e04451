-- `columns::restore::number_at` meets its contract: what the codec answers.
use Rattle.machine.specs.All.{◌∙◌, arith}
use Rattle.columns_laws.proofs.Restoring.{number_read}
use Rattle.columns.proofs.restore.number_at.Goals as goal

pub returns : goal.returns
returns c =
    c.unwrap_or.ensures
    ∙ number_read _ _ c.read_number.ensures.result_value (λ v next h. omega (arith, c.read_number.ensures.inside v next h))
