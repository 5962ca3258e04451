-- `move_clock` meets its contract.
use Rattle.clock.proofs.Steps.{clock-moved}
use Rattle.clock.proofs.taking.move_clock.Goals as goal

pub returns : goal.returns
returns c =
    clock-moved _ _ _ _ _ _ _ _ c.by_fields-y.ensures c.count_move.ensures c.arrive-serial.ensures
