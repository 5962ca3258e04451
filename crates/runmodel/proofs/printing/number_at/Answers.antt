-- By cases on the number read.
use Rattle.runmodel.proofs.Counting.{field-none, field-read}
use Rattle.runmodel.proofs.printing.number_at.Goals as goal

pub returns-in-Some : goal.returns-in-Some
returns-in-Some c =
    field-read _ _ _ c.read_report_number.ensures.result_value _ _ c.in-Some.is
    (c.read_report_number.ensures.inside _ _ c.in-Some.is).1

pub returns-in-None : goal.returns-in-None
returns-in-None c = field-none _ _ _ c.read_report_number.ensures.result_value c.in-None.is
