-- `too_many` meets its contract, by cases on the kind and the server.
use Rattle.machine.specs.All.{sym, ◌∙◌, eq-eqb, ne_eqb}
use Rattle.servers_laws.specs.Waking.{too_many_lem}
use Rattle.servers.proofs.waking.too_many.Goals as goal

pub returns-then-number : goal.returns-then-number
unfolding too_many_lem
returns-then-number c = rw (← c.number.ensures, ne_eqb _ 6 (λ e. c.if-number.true (e ∙ sym c.number-2.ensures)))

pub returns-then-eq : goal.returns-then-eq
unfolding too_many_lem
returns-then-eq c =
    rw (
      ← c.number.ensures,
      eq-eqb _ 6 (c.if-number.false ∙ c.number-2.ensures),
      ← c.server_at.ensures,
      ← c.if-eq.ensures,
      ← c.number-then-eq.ensures,
    )

pub returns-else-eq : goal.returns-else-eq
unfolding too_many_lem
returns-else-eq c =
    rw (← c.number.ensures, eq-eqb _ 6 (c.if-number.false ∙ c.number-2.ensures), ← c.server_at.ensures, ← c.if-eq.ensures)
    c.if-eq.false
