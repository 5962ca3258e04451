-- Behind the servers or queues that are left is behind all of them.
use Rattle.std.proofs.Common.{◌≡◌, ◌-◌}
use Rattle.runmodel.specs.Fields.{behind_things}
use Rattle.runmodel.proofs.printing.skip_all.Given as goal

abbrev pub invariant-loop : goal.invariant-loop
invariant-loop l = behind_things l.report l.count (l.things - l.counter) l.next ≡ behind_things l.report l.count l.things l.at
