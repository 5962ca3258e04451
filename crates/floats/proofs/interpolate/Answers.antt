-- `floats::interpolate` meets its contract: the operations are those of the definition, and `Lines` bounds their error.
use Rattle.std.proofs.Common.{refl}
use Rattle.floats.specs.{line_double}
use Rattle.floats.proofs.Lines.{line_on}
use Rattle.floats.proofs.interpolate.Goals as goal

pub returns : goal.returns
unfolding line_double
returns c =
    record {
      value = refl;
      near = λ v0 t0 v1 t1 v ends u from to. line_on _ _ _ _ _ v0 t0 v1 t1 v ends u from to;
    }
