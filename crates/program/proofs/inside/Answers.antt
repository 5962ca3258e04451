-- `inside` meets its contract. The loop's invariant: none of the groups up to c reaches over the block.
use Rattle.program.proofs.Question.{inside-none, inside_found, inside-next}
use Rattle.program.proofs.inside.Goals as goal

pub loop-c-init : goal.loop-c-init
loop-c-init c = inside-none _ _ _

pub returns-then-reaches : goal.returns-then-reaches
returns-then-reaches c = inside_found _ _ _ _ _ c.loop-c-test.true (cc (c.reaches.ensures, c.if-reaches.true))

pub loop-c-preserved : goal.loop-c-preserved
loop-c-preserved c = inside-next _ _ _ _ (cc (c.reaches.ensures, c.if-reaches.false)) c.loop-c.invariant
