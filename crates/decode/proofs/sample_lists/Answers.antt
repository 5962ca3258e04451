-- `sample_lists` meets its contract. The loop's invariant: what the lists from k on give is what all lists give.
use Rattle.decode.proofs.Lists.{lists-begin, lists-none, lists-stop, lists-step, lists-passed}
use Rattle.decode.proofs.sample_lists.Goals as goal

pub loop-k-init : goal.loop-k-init
loop-k-init c = lists-begin _ _ _

pub returns-in_err-next : goal.returns-in_err-next
returns-in_err-next c =
    lists-passed c.from_residual.ensures.1
    (c.loop-k.invariant _ _ (lists-stop _ _ _ _ _ _ _ c.loop-k-test.true c.sample_list.ensures _ c.in_err-next.was))

pub loop-k-preserved : goal.loop-k-preserved
loop-k-preserved c =
    λ after r h. c.loop-k.invariant after r
    (lists-step _ _ _ _ _ _ _ c.loop-k-test.true c.sample_list.ensures c.in_ok-next.was after r h)

pub returns : goal.returns
returns c = c.loop-k.invariant _ _ (lists-none _ _ _ _ _ c.loop-k-test.false)
