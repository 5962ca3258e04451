-- `begin_blocks` meets its contract. The invariant: the blocks from here on leave what all leave.
use Rattle.machine.specs.All.{◌-◌, ◌≡◌}
use Rattle.state.specs.All.{rows_of}
use Rattle.start.specs.{begin_blocks}
use Rattle.start.proofs.begin_blocks.Given as goal

abbrev pub invariant-loop-b : goal.invariant-loop-b
invariant-loop-b l =
    begin_blocks (l.blocks - l.b) l.tables l.tape (rows_of l.y l.work l.tally) l.b
    ≡ begin_blocks l.blocks l.tables l.tape (rows_of l.initial.y l.initial.work l.initial.tally) 0
