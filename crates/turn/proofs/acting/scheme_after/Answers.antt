-- `scheme_after` meets its contract, by cases on whether somebody is on the WSL.
use Rattle.turn_laws.proofs.Parts.{scheme-none}
use Rattle.turn.proofs.acting.scheme_after.Goals as goal

pub returns-in_default : goal.returns-in_default
returns-in_default c = scheme-none _ _ _ _ _ _ _ c.in_default.ensures

pub returns : goal.returns
returns c =
    rw (← c.asked-asks.ensures) c.scheme.ensures
