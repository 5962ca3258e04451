-- `store_server` meets its contract: the numbers are read, then stored.
use Rattle.state.specs.All.{store_server}
use Rattle.state.proofs.statistics.store_server.Goals as goal

pub returns : goal.returns
unfolding store_server
returns c =
    rw (c.see.ensures, c.set_count-3.ensures, c.set_count-2.ensures, c.set_count.ensures, c.longest_now-longest.ensures, c.sum_now-waited.ensures, c.sum_now-units.ensures)
