-- `turns_left` meets its contract: the least of three.
use Rattle.machine.specs.All.{arith}
use Rattle.engine_laws.specs.Turns.{turns_left}
use Rattle.engine.proofs.herds.turns_left.Goals as goal

pub returns-then-bought-most : goal.returns-then-bought-most
unfolding turns_left
returns-then-bought-most c =
    rw (← c.saturating_sub.ensures, ← c.min-most.ensures, ← c.saturating_sub-bought.ensures) (omega (arith, c.if-bought-most.true))

pub returns-else-bought-most : goal.returns-else-bought-most
unfolding turns_left
returns-else-bought-most c =
    rw (← c.saturating_sub.ensures, ← c.min-most.ensures, ← c.saturating_sub-bought.ensures) (omega (arith, c.if-bought-most.false))
