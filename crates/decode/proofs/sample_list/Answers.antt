-- `sample_list` meets its contract: a count, its two cells and its times.
use Rattle.decode.proofs.Lists.{list-stop, list-kept, list-passed}
use Rattle.decode.proofs.sample_list.Goals as goal

pub returns-in_err-count : goal.returns-in_err-count
returns-in_err-count c =
    λ i j. list-passed c.from_residual.ensures.1 (list-stop _ _ _ _ _ c.tape_field.ensures _ i j c.in_err-count.was)

pub returns : goal.returns
returns c = list-kept _ _ _ _ _ c.tape_field.ensures c.in_ok-count.was c.sample_times.ensures
