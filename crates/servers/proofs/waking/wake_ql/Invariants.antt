-- `wake_ql` meets its contract. The invariant: what is left to wake from here is all of it, and who stays is counted.
use Rattle.machine.specs.All.{◌+◌, ◌-◌, ◌≤◌, ◌≡◌}
use Rattle.rows_laws.specs.All.{head, wake_walk}
use Rattle.servers_laws.specs.Waking.{member_fits, member_left, steps, wake_stays}
use Rattle.servers.proofs.waking.wake_ql.Given as goal

abbrev pub invariant-loop : goal.invariant-loop
invariant-loop l =
    record {
      rows : wake_walk (member_fits l.tables) (member_left l.tables l.edition) (steps - l.counter) l.left l.work l.queue l.c
          ≡ wake_walk (member_fits l.tables) (member_left l.tables l.edition) steps l.all l.initial.work l.fn.v (head l.fn.v);
      stays : l.stay + wake_stays (member_fits l.tables) (member_left l.tables l.edition) (steps - l.counter) l.left l.work l.queue l.c
          ≡ wake_stays (member_fits l.tables) (member_left l.tables l.edition) steps l.all l.initial.work l.fn.v (head l.fn.v);
      few : l.stay ≤ l.counter;
    }
