-- `blocks` meets its contract. The loop's invariant: the blocks from b on give what all blocks give, and the capacities stand
-- as they did.
use Rattle.machine.specs.All.{◌≡◌, in_force, block_field}
use Rattle.parse_values.specs.Shapes.{counts_of}
use Rattle.program.specs.Formed.{Formed}
use Rattle.program.specs.{block_shape, capacities_of}
use Rattle.parse_values.proofs.Filled.{Leads}
use Rattle.program.proofs.blocks.Given as goal

abbrev pub invariant-loop-b : goal.invariant-loop-b
invariant-loop-b l =
    (capacities_of l.m l.tables ≡ capacities_of l.m l.initial.tables)
    × Leads (block_shape l.m.blocks) (Formed l.m.blocks) (λ i. block_field l.s in_force.kinds (counts_of l.m) (capacities_of l.m l.initial.tables)) 8 0
    l.m.blocks l.initial.q l.initial.tables l.b l.q l.tables
