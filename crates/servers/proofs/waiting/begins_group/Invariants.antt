-- `begins_group` meets its contract. The invariant: the answer is that of the blocks from the c-th behind it on.
use Rattle.machine.specs.All.{◌+◌, ◌*◌, ◌-◌, ◌≡◌}
use Rattle.servers_laws.specs.WaitServer.{begins_from}
use Rattle.servers.proofs.waiting.begins_group.Given as goal

abbrev pub invariant-loop-c : goal.invariant-loop-c
invariant-loop-c l = begins_from l.tables (l.at + 8 * l.c) l.c (8 - l.c) ≡ begins_from l.tables (l.at + 8) 1 7
