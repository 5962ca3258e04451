-- `reader::behind` meets its contract, by the cases of the reader's answer.
use Rattle.machine.specs.All.{rules}
use Rattle.reader.specs.Position.{position_behind, reading_by}
use Rattle.reader.proofs.behind.Goals as goal

pub returns-in-Ok-Some : goal.returns-in-Ok-Some
unfolding position_behind reading_by
returns-in-Ok-Some c = λ number. search rules

pub returns-in-Ok-None : goal.returns-in-Ok-None
unfolding position_behind reading_by
returns-in-Ok-None c = λ number. search rules

pub returns-in-Err : goal.returns-in-Err
unfolding position_behind reading_by
returns-in-Err c = λ number. search rules
