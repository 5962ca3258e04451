-- `wait_server` meets its contract: code and server that the block names.
use Rattle.machine.specs.All.{◌∙◌, ◌%◌, ap}
use Rattle.servers_laws.specs.WaitServer.{wait_server_rows}
use Rattle.servers.proofs.waiting.wait_server.Goals as goal

pub returns : goal.returns
unfolding wait_server_rows
returns c =
    let code = c.of-code.ensures ∙ ap (λ n. n % 6) c.number.ensures in
    rw (
      ← c.server_at-v.ensures,
      ← code,
      ← c.in_use.ensures,
      ← c.capacity.ensures.capacity,
      ← c.holds-holds.ensures,
      ← c.number-2.ensures.same,
      ← c.watching.ensures,
    )
    c.wait_while.ensures
