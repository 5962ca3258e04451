-- `leaves` meets its contract, by cases on the block at which the row stands.
use Rattle.machine.specs.All.{ap, sym, ◌∙◌, not, lt-ltb, le-ltb, eq-eqb, ne_eqb}
use Rattle.values_queues_laws.specs.Scheme.{leaves_from, leaves_by_lem}
use Rattle.values_queues_laws.proofs.Sharing.{held-related}
use Rattle.values_queues.proofs.scheme.leaves.Goals as goal

pub returns-then-at-blocks : goal.returns-then-at-blocks
unfolding leaves_by_lem leaves_from
returns-then-at-blocks c = rw (le-ltb _ _ c.if-at-blocks.true)

pub returns-then-number : goal.returns-then-number
unfolding leaves_by_lem leaves_from
returns-then-number c =
    rw (lt-ltb _ _ c.if-at-blocks.false, ← c.number.ensures, ne_eqb _ 9 (λ e. c.if-number.true (e ∙ sym c.number-2.ensures)))

pub returns : goal.returns
unfolding leaves_by_lem leaves_from
returns c =
    rw (lt-ltb _ _ c.if-at-blocks.false, ← c.number.ensures, eq-eqb _ 9 (c.if-number.false ∙ c.number-2.ensures))
    (ap not
    (held-related (c.holds.ensures ∙ c.of.ensures _ _) c.number-3.ensures c.side-a.type_inv c.side-a.ensures c.side-b.type_inv
    c.side-b.ensures))
