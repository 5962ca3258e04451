-- Behind what is left of the numbers is behind all of them.
use Rattle.std.proofs.Common.{◌≡◌, ◌-◌}
use Rattle.runmodel.specs.Fields.{behind_numbers}
use Rattle.runmodel.proofs.printing.skip.Given as goal

abbrev pub invariant-loop : goal.invariant-loop
invariant-loop l = behind_numbers l.report (l.count - l.counter) l.next ≡ behind_numbers l.report l.count l.at
