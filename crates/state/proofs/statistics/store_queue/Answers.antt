-- `store_queue` meets its contract: the numbers are read, then stored.
use Rattle.state.specs.All.{store_queue}
use Rattle.state.proofs.statistics.store_queue.Goals as goal

pub returns : goal.returns
unfolding store_queue
returns c =
    rw (c.see.ensures, c.set_count-2.ensures, c.set_count.ensures, c.longest_now-longest.ensures, c.sum_now-filled.ensures)
