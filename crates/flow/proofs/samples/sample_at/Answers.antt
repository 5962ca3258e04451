-- `sample_at` meets its contract: by cases on the number read.
use Rattle.flow_laws.proofs.Answers.{sample-refused, sample-read}
use Rattle.flow.proofs.samples.sample_at.Goals as goal

pub returns-in-Some : goal.returns-in-Some
returns-in-Some c = sample-read _ _ _ c.read_number.ensures.result_value _ _ c.in-Some.is
    (c.read_number.ensures.inside _ _ c.in-Some.is).1

pub returns-in-None : goal.returns-in-None
returns-in-None c = sample-refused _ _ _ c.read_number.ensures.result_value c.in-None.is
