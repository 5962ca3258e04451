-- `held` meets its contract. The invariant: the first f are counted.
use Rattle.machine.specs.All.{◌≤◌, ◌≡◌}
use Rattle.flow_laws.specs.Questions.{held_by}
use Rattle.flow.proofs.questions.held.Given as goal

abbrev pub invariant-loop-f : goal.invariant-loop-f
invariant-loop-f l = (l.n ≡ held_by l.tally l.f l.number) × (l.n ≤ l.f)
