-- One name that unfolds the numbers of a block and what is asked of it, for a block whose kind is known.
use Rattle.machine.specs.All.{share_server, share_units, arrivals, unconditional, compared, facts, all_of}
use Rattle.layout.specs.Numbers.{take_numbers, free_numbers, move_numbers, wait_numbers, count_kind, block_numbers}
use Rattle.layout.specs.Represents.{small_block}

unfoldable pub block_forms : Unit {0}
unfolding share_server share_units arrivals unconditional compared facts all_of take_numbers free_numbers move_numbers wait_numbers count_kind
    block_numbers small_block
block_forms = tt
