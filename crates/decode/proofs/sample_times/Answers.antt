-- `sample_times` meets its contract. The loop's invariant: what the times that are left give is what all times give.
use Rattle.machine.specs.All.{◌+◌, ◌-◌, ◌≡◌, arith}
use Rattle.decode.proofs.Lists.{times_none, times-stop, times-step, skips-passed}
use Rattle.decode.proofs.sample_times.Goals as goal

pub returns-in_err-after : goal.returns-in_err-after
returns-in_err-after c =
    λ i j. skips-passed c.from_residual.ensures.1
    (c.loop.invariant i j _ (times-stop _ _ _ _ (omega arith) c.tape_field.ensures i j c.in_err-after.was))

pub loop-preserved : goal.loop-preserved
loop-preserved c =
    let fewer : c.args.count - (c.loop.counter + 1) ≡ c.args.count - c.loop.counter - 1 = omega arith in
    λ i j r h. c.loop.invariant i j r
    (times-step _ _ _ _ (omega arith) c.tape_field.ensures c.in_ok-after.was i j r (rw fewer at h))

pub returns : goal.returns
returns c = λ i j. c.loop.invariant i j _ (times_none _ _ _ i j (omega arith))
