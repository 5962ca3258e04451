-- `words::count_words` meets its contract. The loop's invariant: what was added are the marks of the words so far.
use Rattle.std.specs.List.{concat}
use Rattle.machine.specs.All.{◌*◌, take}
use Rattle.trace.specs.{Marks}
use Rattle.trace.proofs.words.count_words.Given as goal

abbrev pub invariant-loop-word : goal.invariant-loop-word
invariant-loop-word l = Marks (8 * l.word-index) (concat (take l.word-index l.words)) l.marked
