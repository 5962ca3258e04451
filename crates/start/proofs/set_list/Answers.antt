-- `set_list` meets its contract: its two numbers.
use Rattle.start.specs.{list_set}
use Rattle.start.proofs.set_list.Goals as goal

pub returns : goal.returns
unfolding list_set
returns c =
    rw (c.set_count-2.ensures, c.set_count.ensures, c.count.ensures, c.count-2.ensures)
