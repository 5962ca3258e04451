-- `server_at` meets its contract: a server of what the tables hold.
use Rattle.machine.specs.All.{ℕ, ◌%◌, ap, ◌∙◌}
use Rattle.servers_laws.specs.Units.{server_at}
use Rattle.servers.proofs.units.server_at.Goals as goal

pub returns : goal.returns
unfolding server_at
returns c = c.of.ensures ∙ ap (λ (n : ℕ). n % 64) c.number.ensures
