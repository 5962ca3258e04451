-- `codec::read_report_number` meets its contract: that of `read_shortest`, in the paper's terms.
use Rattle.machine.specs.All.{max_report_number_bytes, max_report_number}
use Rattle.codec.proofs.Answers.{number-answer, number-inside}
use Rattle.codec.proofs.read_report_number.Goals as goal

pub returns : goal.returns
returns c = record {
  result_value = number-answer _ max_report_number_bytes max_report_number _ _ c.read_shortest.ensures;
  inside = number-inside _ max_report_number_bytes max_report_number _ _ c.read_shortest.ensures;
}
