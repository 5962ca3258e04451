-- `whole_tape` meets its contract: the lists, from empty cells, and then nothing.
use Rattle.decode.proofs.Lists.{tape-stop, tape_long, tape-kept, lists-passed}
use Rattle.decode.proofs.whole_tape.Goals as goal

pub returns-in_err-end : goal.returns-in_err-end
returns-in_err-end c =
    lists-passed c.from_residual.ensures.1
    (tape-stop _ _ (rw c.clear_lists.ensures at c.sample_lists.ensures) c.in_err-end.was)

pub returns-then-end-s : goal.returns-then-end-s
returns-then-end-s c = tape_long _ _ (rw c.clear_lists.ensures at c.sample_lists.ensures) c.in_ok-end.was c.if-end-s.true

pub returns : goal.returns
returns c = tape-kept _ _ (rw c.clear_lists.ensures at c.sample_lists.ensures) c.in_ok-end.was c.if-end-s.false
