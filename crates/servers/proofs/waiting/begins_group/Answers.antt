-- `begins_group` meets its contract. The invariant: the answer is that of the blocks from the c-th behind it on.
use Rattle.machine.specs.All.{arith, sym, ◌∙◌}
use Rattle.servers_laws.proofs.Begins.{look-found, look-other, look-next, look-end}
use Rattle.servers.proofs.waiting.begins_group.Goals as goal

pub returns-then-kind-number : goal.returns-then-kind-number
returns-then-kind-number c =
    rw c.number-then-kind-number.ensures
    (look-found _ _ _ (omega arith) (sym c.number-kind.ensures ∙ c.if-kind-number.true ∙ c.number.ensures) ∙ c.loop-c.invariant)

pub returns-then-kind-number-2 : goal.returns-then-kind-number-2
returns-then-kind-number-2 c =
    look-other _ _ _ _ (omega arith) c.number-kind.ensures (λ e. c.if-kind-number.false (e ∙ sym c.number.ensures))
    (λ e. c.if-kind-number-2.true (e ∙ sym c.number-in-loop-c.ensures))
    ∙ c.loop-c.invariant

pub loop-c-preserved : goal.loop-c-preserved
loop-c-preserved c =
    look-next _ _ _ (omega arith) (sym c.number-kind.ensures ∙ c.if-kind-number-2.false ∙ c.number-in-loop-c.ensures)
    ∙ c.loop-c.invariant

pub returns : goal.returns
returns c = look-end _ _ _ (omega arith) ∙ c.loop-c.invariant
