-- `side` meets its contract, by cases on whether there is an answer for all.
use Rattle.machine.specs.All.{◌<◌, ◌∙◌, arith, lt-ltb}
use Rattle.evaluation.proofs.Signs.{back, cast-signed-is}
use Rattle.values_queues_laws.specs.Sides.{side_by}
use Rattle.values_queues.proofs.sides.side.Goals as goal

pub returns-in-Some : goal.returns-in-Some
unfolding side_by
returns-in-Some c =
    let small : c.in-Some.bits < 4294967296 = omega arith in
    rw (c.in-Some.is, lt-ltb c.in-Some.bits 4294967296 small)
    (back _ c.cast_signed.type_inv ∙ c.cast_signed.ensures ∙ cast-signed-is _ small)

pub returns-in-None : goal.returns-in-None
unfolding side_by
returns-in-None c = rw c.in-None.is (back _ c.own.type_inv ∙ c.own.ensures)
