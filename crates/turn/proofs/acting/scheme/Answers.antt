-- `scheme` meets its contract, by cases on whether they are asked.
use Rattle.turn_laws.proofs.Parts.{scheme-not, scheme_so}
use Rattle.turn.proofs.acting.scheme.Goals as goal

pub returns-then-asks : goal.returns-then-asks
returns-then-asks c = scheme_so _ _ _ _ _ _ _ _ c.if-asks.true c.ws.ensures

pub returns-else-asks : goal.returns-else-asks
returns-else-asks c = scheme-not _ _ _ _ _ _ _ c.if-asks.false
