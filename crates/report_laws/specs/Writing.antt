-- Numbers written one after another into the report buffer, each where there is room for it (`put` of crate codec).
use Rattle.std.specs.Prelude.{◌∷◌}
use Rattle.machine.specs.All.{ℕ, List, []}
pub use Rattle.codec.specs.Writing.{Written}
unfoldable pub use Rattle.codec.specs.Writing.{written, put}

unfoldable pub put_all : List ℕ → Written → Written
put_all [] w = w
put_all (v ∷ l) w = put_all l (put v w)
