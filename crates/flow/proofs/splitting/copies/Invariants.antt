-- `copies` meets its contract. The invariant: the copies left from here are all of them, and the same transaction moves.
use Rattle.machine.specs.All.{◌-◌, ◌≡◌}
use Rattle.flow_laws.specs.Kinds.{copies_of}
use Rattle.flow.proofs.splitting.copies.Given as goal

abbrev pub invariant-loop : goal.invariant-loop
invariant-loop l =
    l.fn.x.moving ≡ l.k
    → (l.y.moving ≡ l.k) × (copies_of (l.n - l.counter) l.work l.y l.target ≡ copies_of l.n l.initial.work l.fn.x l.target)
