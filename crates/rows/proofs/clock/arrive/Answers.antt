-- `arrive` meets its contract. The invariant: the rest of the arrivals from here are all of them.
use Rattle.machine.specs.All.{sym, ◌∙◌, arith}
use Rattle.rows_laws.proofs.Steps.{arrive-end, arrive-stop, arrive-next}
use Rattle.rows.proofs.clock.arrive.Goals as goal

pub returns-then-not-is_due : goal.returns-then-not-is_due
returns-then-not-is_due c =
    sym (arrive-stop _ _ _ _ (sym c.if-not-is_due.ensures)) ∙ c.loop.invariant.rest

pub loop-preserved : goal.loop-preserved
loop-preserved c = record {
  rest = rw c.arrive_first.ensures
      (sym (arrive-next _ _ _ _ _ (omega arith) (sym c.if-not-is_due.ensures)) ∙ c.loop.invariant.rest);
  given = omega arith;
}

pub returns : goal.returns
returns c = sym (arrive-end _ _ _ _ (omega arith)) ∙ c.loop.invariant.rest
