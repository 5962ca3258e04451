-- `back_count` meets its contract: by the kind, where the back count stands.
use Rattle.machine.specs.All.{sym, ◌∙◌, eq-eqb, ne_eqb}
use Rattle.servers_laws.specs.WaitServer.{back_of}
use Rattle.servers.proofs.waiting.back_count.Goals as goal

pub returns-then-number : goal.returns-then-number
unfolding back_of
returns-then-number c =
    rw (← c.number.ensures, eq-eqb _ 17 (c.if-number.true ∙ c.number-2.ensures)) c.number-then-number.ensures

pub returns-else-number : goal.returns-else-number
unfolding back_of
returns-else-number c = rw (← c.number.ensures, ne_eqb _ 17 (λ e. c.if-number.false (e ∙ sym c.number-2.ensures)))
