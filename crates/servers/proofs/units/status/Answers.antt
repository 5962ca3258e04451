-- `status` meets its contract: a code of 6 and more is none of the first five, as 5 is.
use Rattle.machine.specs.All.{◌≤◌, arith, ne_eqb}
use Rattle.servers_laws.specs.Units.{status_of}
use Rattle.servers.proofs.units.status.Goals as goal

pub returns-else-code-lt-CODES : goal.returns-else-code-lt-CODES
unfolding status_of
returns-else-code-lt-CODES c =
    let large : 6 ≤ c.args.code = c.if-code-lt-CODES.false in
    rw (
      ne_eqb c.args.code 0 (omega arith),
      ne_eqb c.args.code 1 (omega arith),
      ne_eqb c.args.code 2 (omega arith),
      ne_eqb c.args.code 3 (omega arith),
      ne_eqb c.args.code 4 (omega arith),
    )
    c.holds-else-code-lt-CODES.ensures
