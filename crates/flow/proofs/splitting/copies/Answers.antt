-- `copies` meets its contract. The invariant: the copies left from here are all of them, and the same transaction moves.
use Rattle.machine.specs.All.{sym, ◌∙◌, arith}
use Rattle.flow_laws.proofs.Copies.{copies-begin, copies-end, copies-again, copy-moved}
use Rattle.flow.proofs.splitting.copies.Goals as goal

pub loop-init : goal.loop-init
loop-init c = λ e. (e, copies-begin _ _ _ _)

pub loop-preserved : goal.loop-preserved
loop-preserved c = λ e.
    let one = c.copy_one-y.ensures (c.loop.invariant e).0 in (
      copy-moved _ _ _ _ _ one ∙ (c.loop.invariant e).0,
      copies-again _ _ _ _ _ one _ _ (omega arith) ∙ (c.loop.invariant e).1,
    )

pub returns : goal.returns
returns c = λ e. sym (copies-end _ _ _ _ (omega arith)) ∙ (c.loop.invariant e).1
