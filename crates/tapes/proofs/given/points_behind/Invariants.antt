-- `tapes::points_behind` meets its contract. The invariant: the points that are left answer as all of them.
use Rattle.machine.specs.All.{◌≡◌}
use Rattle.std.proofs.Common.{◌-◌}
use Rattle.tapes_laws.specs.{Given.points_behind, Answers.is_given}
use Rattle.tapes.proofs.given.points_behind.Given as goal

abbrev pub invariant-loop : goal.invariant-loop
invariant-loop l =
    is_given (points_behind l.numbers (l.count - l.counter) l.at l.last) ≡ is_given (points_behind l.numbers l.count l.start l.fn.first)
