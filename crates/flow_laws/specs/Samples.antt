-- The next time of a sample list: the number that stands in the tape where the tally says, read and then used.
use Rattle.std.specs.Prelude.{◌+◌, ◌-◌}
use Rattle.machine.specs.All.{ℕ, List, Option, none, some, get_or, set, drop, max_number_bytes, five_groups, Number, read_number}
use Rattle.layout.specs.All.{list_at_lem, list_left}
use Rattle.flow_laws.specs.declared.samples.Sample.{Sample}

unfoldable pub sample_of : ℕ → Option Number → Sample
sample_of at none = record { time = 0; next = at }
sample_of at (some n) = record { time = n.value; next = at + n.size }

unfoldable pub sample_at : List ℕ → ℕ → Sample
sample_at tape at = sample_of at (read_number max_number_bytes five_groups (drop at tape))

unfoldable pub next_sample : List ℕ → List ℕ → ℕ → Sample
next_sample tape tally list = sample_at tape (get_or tally (list_at_lem + list) 0)

-- the list goes on at a position, and has one time less
unfoldable pub use_time : List ℕ → ℕ → ℕ → List ℕ
use_time tally list next = set (set tally (list_at_lem + list) next) (list_left + list) (get_or tally (list_left + list) 0 - 1)
