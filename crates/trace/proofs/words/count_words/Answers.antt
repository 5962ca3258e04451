-- `words::count_words` meets its contract. The loop's invariant: what was added are the marks of the words so far.
use Rattle.machine.specs.All.{arith}
use Rattle.trace.proofs.WordLaws.{marks_more, no_marks}
use Rattle.trace.proofs.words.count_words.Goals as goal

pub loop-word-init : goal.loop-word-init
loop-word-init c = no_marks

pub overflow_add-marked : goal.overflow_add-marked
overflow_add-marked c = omega (arith, c.loop-word.invariant.small, c.marks-marked.ensures.small)

pub loop-word-preserved : goal.loop-word-preserved
loop-word-preserved c = marks_more _ _ c.loop-word-test.true (omega arith) c.loop-word.invariant c.marks-marked.ensures
