-- Behind the numbers that are left is behind all of them, and these stored behind what stands are all of them stored.
use Rattle.std.proofs.Common.{◌≡◌, ◌-◌, ◌+◌}
use Rattle.machine.specs.All.{sets}
use Rattle.runmodel.specs.Fields.{numbers_at, behind_numbers}
use Rattle.runmodel.proofs.printing.read_fields.Given as goal

abbrev pub invariant-loop-i : goal.invariant-loop-i
invariant-loop-i l = record {
  behind : behind_numbers l.report (l.count - l.i) l.next ≡ behind_numbers l.report l.count l.at;
  stored : sets l.numbers (l.i + 1) (numbers_at l.report (l.count - l.i) l.next)
      ≡ sets l.initial.numbers 1 (numbers_at l.report l.count l.at);
}
