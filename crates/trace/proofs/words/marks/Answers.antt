-- `words::marks` meets its contract: the law of a word's marks, at the word that these bytes make.
use Rattle.machine.specs.All.{rules}
use Rattle.trace.proofs.WordLaws.{word-marks, bytes_made}
use Rattle.trace.proofs.words.marks.Goals as goal

pub returns : goal.returns
returns c =
    let bytes = bytes_made c.args.word c.from_le_bytes.result (search rules) (search rules) c.from_le_bytes.ensures in
    rw bytes at (word-marks c.from_le_bytes.result)
