-- `ws` meets its contract. The invariant: the rest of the walk from here is the whole walk, and the answers for all are those of the
-- block that was seen last.
use Rattle.machine.specs.All.{sym, ◌∙◌, arith, eq-eqb, ne_eqb}
use Rattle.rows_laws.proofs.Steps.{wake_all-end, wake_all-stop, wake_all-next}
use Rattle.state.proofs.Ends.{ended, goes-on}
use Rattle.values_queues_laws.specs.{Scheme.ws_scheme}
use Rattle.values_queues_laws.proofs.Sharing.{leaves_by, for-all-past}
use Rattle.values_queues.proofs.scheme.ws.Goals as goal

pub returns-then-ended : goal.returns-then-ended
unfolding ws_scheme
returns-then-ended c = rw (ne_eqb _ 0 (ended _ (sym c.ended.ensures ∙ c.if-ended.true)))

pub loop-init : goal.loop-init
loop-init c = record {
  rest = rw c.head-cell.ensures.cell;
  low = omega arith;
  left = for-all-past (omega arith);
  right = for-all-past (omega arith);
}

pub returns-in_default : goal.returns-in_default
unfolding ws_scheme
returns-in_default c =
    rw (eq-eqb _ 0 (goes-on _ (sym c.ended.ensures ∙ c.if-ended.false))) (sym (wake_all-stop _ _ _ _ _ (omega arith)) ∙ c.loop.invariant.rest)

pub loop-preserved : goal.loop-preserved
loop-preserved c =
    let left = c.shared-left.ensures c.loop.invariant.left in
    let right = c.shared-right.ensures c.loop.invariant.right in
    record {
      rest =
          rw (
            c.step-cell.ensures.rows,
            c.step-cell.ensures.cell,
            leaves_by _ _ _ _ _ _ c.block_of-at.ensures.block left right,
            ← c.in-Some.ensures.0,
          )
          (sym (wake_all-next _ _ _ _ _ _ (omega arith) (omega arith)) ∙ c.loop.invariant.rest);
      low = c.block_of-at.ensures.most;
      left = left;
      right = right;
    }

pub returns : goal.returns
unfolding ws_scheme
returns c = rw (eq-eqb _ 0 (goes-on _ (sym c.ended.ensures ∙ c.if-ended.false))) (sym (wake_all-end _ _ _ _ _ (omega arith)) ∙ c.loop.invariant.rest)
