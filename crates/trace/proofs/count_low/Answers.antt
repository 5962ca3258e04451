-- `trace::count_low` meets its contract. The invariants: the groups so far are counted, and the bytes so far behind the words.
use Rattle.machine.specs.All.{◌+◌, ◌≡◌, take, count_low, arith, take_all}
use Rattle.trace.proofs.Counting.{in_groups, in_groups-more, in_groups-part, in-all, count_low-part, count_low-most, one_more}
use Rattle.trace.proofs.count_low.Goals as goal

pub loop-group-init : goal.loop-group-init
unfolding in_groups
loop-group-init c = omega arith

pub overflow_add-count : goal.overflow_add-count
overflow_add-count c =
    let first = c.as_chunks.ensures in
    let second = c.as_chunks-2.ensures in
    let all = in-all 8 16 c.args.s.now _ _ first.front first.back second.front second.back in
    omega (
      arith,
      all,
      count_low-most c.args.s.now,
      in_groups-more _ _ c.loop-group-test.true,
      in_groups-part (c.loop-group.group-index + 1) c.as_chunks-2.result.0.now,
    )

pub loop-group-preserved : goal.loop-group-preserved
loop-group-preserved c = omega (arith, in_groups-more _ _ c.loop-group-test.true, c.loop-group.invariant)

pub loop-b-init : goal.loop-b-init
unfolding count_low
loop-b-init c = omega arith

pub overflow_add-count-in-loop-b : goal.overflow_add-count-in-loop-b
overflow_add-count-in-loop-b c =
    let first = c.as_chunks.ensures in
    let second = c.as_chunks-2.ensures in
    let all = in-all 8 16 c.args.s.now _ _ first.front first.back second.front second.back in
    let groups : take c.loop-group.group-index c.as_chunks-2.result.0.now ≡ c.as_chunks-2.result.0.now = take_all _ _ (omega arith) in
    let one = rw groups at c.loop-group.invariant in
    omega (
      arith,
      all,
      one,
      c.loop-b.invariant,
      count_low-most c.args.s.now,
      one_more _ _ c.loop-b-test.true,
      count_low-part (c.loop-b.b-index + 1) c.as_chunks.result.1.now,
    )

pub loop-b-preserved : goal.loop-b-preserved
loop-b-preserved c = omega (arith, one_more _ _ c.loop-b-test.true, c.loop-b.invariant)

pub returns : goal.returns
returns c =
    let first = c.as_chunks.ensures in
    let second = c.as_chunks-2.ensures in
    let all = in-all 8 16 c.args.s.now _ _ first.front first.back second.front second.back in
    let groups : take c.loop-group.group-index c.as_chunks-2.result.0.now ≡ c.as_chunks-2.result.0.now = take_all _ _ (omega arith) in
    let ends : take c.loop-b.b-index c.as_chunks.result.1.now ≡ c.as_chunks.result.1.now = take_all _ _ (omega arith) in
    let one = rw groups at c.loop-group.invariant in
    let two = rw ends at c.loop-b.invariant in
    omega (arith, all, one, two)
