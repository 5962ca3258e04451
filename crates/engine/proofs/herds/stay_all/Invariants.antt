-- `stay_all` meets its contract. The loop's invariant: it is amid the herd, `Amid`.
use Rattle.machine.specs.All.{◌-◌}
use Rattle.engine_laws.proofs.Herding.{Amid}
use Rattle.engine.proofs.herds.stay_all.Given as goal

abbrev pub invariant-loop : goal.invariant-loop
invariant-loop l = Amid l.budget l.room l.block l.initial.y l.left l.initial.work l.y (l.left - l.counter) l.work
