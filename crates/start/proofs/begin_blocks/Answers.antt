-- `begin_blocks` meets its contract. The invariant: the blocks from here on leave what all leave.
use Rattle.machine.specs.All.{sym, ◌∙◌, arith}
use Rattle.start.proofs.BlockSteps.{begin-first, begin-end, begin-again}
use Rattle.start.proofs.begin_blocks.Goals as goal

pub loop-b-init : goal.loop-b-init
loop-b-init c = begin-first _ _ _ _

pub loop-b-preserved : goal.loop-b-preserved
loop-b-preserved c = begin-again _ _ _ _ _ _ c.begin_block-y.ensures c.loop-b-test.true ∙ c.loop-b.invariant

pub returns : goal.returns
returns c = sym (begin-end _ _ _ _ _ (omega arith)) ∙ c.loop-b.invariant
