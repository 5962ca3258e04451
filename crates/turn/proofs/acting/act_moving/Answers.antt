-- `act_moving` meets its contract, by who moves.
use Rattle.machine.specs.All.{◌∙◌, ap, lt-ltb, le-ltb}
use Rattle.rows_laws.specs.All.{number_field, next_field, read}
use Rattle.turn_laws.specs.Turn.{act_moving}
use Rattle.turn.proofs.acting.act_moving.Goals as goal

pub returns-in_default : goal.returns-in_default
unfolding act_moving
returns-in_default c =
    rw (le-ltb _ 1024 c.in_default.ensures)

pub returns : goal.returns
unfolding act_moving
returns c =
    let m = c.in-Some.ensures in
    let number = c.read-number.ensures ∙ ap (read c.args.work.now number_field) c.row-k.ensures in
    let next = c.read-block.ensures ∙ ap (read c.args.work.now next_field) c.row-k.ensures in
    rw (← m.0, lt-ltb _ 1024 (rw (← m.0) at m.1), ← number, ← next) c.act.ensures
