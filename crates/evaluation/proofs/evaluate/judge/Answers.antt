-- `evaluate::judge` meets its contract.
use Rattle.std.proofs.Common.{to_z-of_z}
use Rattle.evaluation.proofs.Signs.{back, one_if-is}
use Rattle.evaluation.proofs.evaluate.judge.Goals as goal

pub returns : goal.returns
returns c =
    rw (
      back _ c.from.type_inv,
      c.from.ensures,
      c.holds.ensures,
      c.of.ensures _ _,
      one_if-is _,
      to_z-of_z c.ranges.a,
      to_z-of_z c.ranges.b,
    )
