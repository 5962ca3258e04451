-- When tables and tally show what a view of the machine holds. All of it but the clock is below 2 to the 31, so that it is a signed
-- number.
use Rattle.machine.specs.All.{ℕ, List, [], length, get_or, max_blocks, max_queues, idle_server, empty_queue, View, signed}
use Rattle.std.specs.Prelude.{ℤ, ◌+◌, ◌≤◌, ◌<◌, ◌∷◌, ◌≡◌}
use Rattle.layout.specs.Layout as Layout
use Rattle.evaluation.specs.Evaluation.{servers}

-- parameters as the machine has them
unfoldable pub parameters_of : List ℕ → List ℤ
parameters_of [] = []
parameters_of (n ∷ l) = signed n ∷ parameters_of l

-- these numbers of a list, at `begin`, are those that f gives, each below 2 to the 31
pub record Shows (f : ℕ → ℕ) (l : List ℕ) (begin size : ℕ) : Type 0 where
  pub shown : (i : ℕ) → i < size → f i ≡ get_or l (begin + i) 0
  pub small : (i : ℕ) → i < size → f i < 2147483648

pub record Sees (w : View) (tables tally : List ℕ) (clock : ℕ) : Type 0 where
  pub time : w.clock ≡ clock
  pub entries : Shows (λ b. get_or w.entries b 0) tally Layout.entries max_blocks
  pub entries-size : length w.entries ≤ max_blocks
  pub contents : Shows (λ q. (get_or w.queues q empty_queue).content) tally Layout.content max_queues
  pub queues-size : length w.queues ≤ max_queues
  pub in_use : Shows (λ v. (get_or w.servers v (idle_server 0)).in_use) tally Layout.in_use servers
  pub capacities : Shows (λ v. (get_or w.servers v (idle_server 0)).capacity) tables Layout.capacities servers
  pub servers-size : length w.servers ≤ servers
