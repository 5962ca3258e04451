-- `inside` meets its contract. The loop's invariant: none of the groups up to c reaches over the block.
use Rattle.machine.specs.All.{◌≡◌, false}
use Rattle.program.specs.{inside_from}
use Rattle.program.proofs.inside.Given as goal

abbrev pub invariant-loop-c : goal.invariant-loop-c
invariant-loop-c l = inside_from l.tables l.blocks l.t l.c ≡ false
