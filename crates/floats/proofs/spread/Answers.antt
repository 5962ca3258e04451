-- `floats::spread` meets its contract: every operation is exact.
use Rattle.std.proofs.Common.{refl}
use Rattle.floats.specs.{spread_double}
use Rattle.floats.proofs.Lines.{spread_exactly}
use Rattle.floats.proofs.spread.Goals as goal

pub returns : goal.returns
unfolding spread_double
returns c =
    record {
      value = refl;
      exact = λ m h v width u inside. spread_exactly _ _ _ m h v width u inside;
    }
