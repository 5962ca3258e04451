-- `wake_some` meets its contract: all at once, or one by one.
use Rattle.servers_laws.specs.Waking.{woken_rows, woken_length}
use Rattle.servers.proofs.waking.wake_some.Goals as goal

pub returns-then-at_once : goal.returns-then-at_once
unfolding woken_rows woken_length
returns-then-at_once c =
    record {
      rows = rw (← c.at_once.ensures, c.if-at_once.true) (rw c.queue.ensures at c.wake_whole.ensures);
      stays = rw (← c.at_once.ensures, c.if-at_once.true);
    }

pub returns : goal.returns
unfolding woken_rows woken_length
returns c =
    record {
      rows = rw (← c.at_once.ensures, c.if-at_once.false) c.wake_ql.ensures.rows;
      stays = rw (← c.at_once.ensures, c.if-at_once.false) c.wake_ql.ensures.stays;
    }
