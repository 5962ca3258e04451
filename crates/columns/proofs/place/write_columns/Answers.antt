-- `columns::place::write_columns` meets its contract. The loop's invariant: what the records that are left give is what all records give.
use Rattle.machine.specs.All.{suc, ◌+◌, ◌-◌, ◌≤◌, ◌≡◌, refl, ◌∙◌, arith}
use Rattle.columns_laws.proofs.Placing.{place-more, place_none}
use Rattle.columns.proofs.place.write_columns.Goals as goal

pub loop-init : goal.loop-init
loop-init c =
    let all : c.args.count - 0 ≡ c.args.count = omega arith in
    rw all (refl, refl)

pub loop-preserved : goal.loop-preserved
loop-preserved c =
    let one : c.args.count - c.loop.counter ≡ suc (c.args.count - (c.loop.counter + 1)) = omega arith in
    (omega arith, place-more _ _ _ _ _ _ _ one c.place-t.ensures ∙ c.loop.invariant.1)

pub returns : goal.returns
returns c =
    let none : c.args.count - c.loop.counter ≤ 0 = omega arith in
    place_none _ _ _ _ none ∙ c.loop.invariant.1
