-- `columns::restore::write_trace` meets its contract. The loop's invariant: what the records that are left give is what all records give,
-- and the clock is within its limit.
use Rattle.machine.specs.All.{suc, ◌+◌, ◌-◌, ◌≤◌, ◌≡◌, refl, ◌∙◌, arith}
use Rattle.columns_laws.proofs.Restoring.{restore-more, restore-none}
use Rattle.columns.proofs.restore.write_trace.Goals as goal

pub loop-init : goal.loop-init
loop-init c =
    let all : c.args.count - 0 ≡ c.args.count = omega arith in
    rw all (refl, refl, c.requires)

pub restore-t-requires : goal.restore-t-requires
restore-t-requires c = c.loop.invariant.2

pub loop-preserved : goal.loop-preserved
loop-preserved c =
    let one : c.args.count - c.loop.counter ≡ suc (c.args.count - (c.loop.counter + 1)) = omega arith in (
      omega arith,
      restore-more _ _ _ _ _ _ _ one c.restore-t.ensures.out_after ∙ c.loop.invariant.1,
      c.restore-t.ensures.clock_le_max_clock,
    )

pub returns : goal.returns
returns c =
    let none : c.args.count - c.loop.counter ≤ 0 = omega arith in
    restore-none _ _ _ _ none ∙ c.loop.invariant.1
