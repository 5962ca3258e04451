-- `tapes::make` meets its contract: 41 first, then the tape from the state where the stream begins.
use Rattle.machine.specs.All.{sym, ◌∙◌}
use Rattle.std.proofs.lemmas.Result.{err_from_is_err_and}
use Rattle.tapes_laws.proofs.Accepted.{contract-refused, contract-made}
use Rattle.tapes.proofs.make.Goals as goal

pub returns-in_err-state : goal.returns-in_err-state
returns-in_err-state c =
    let p = err_from_is_err_and c.from_residual.result c.from_residual.ensures.1 in
    rw (p.1, p.2) (contract-refused _ _ _ _ _ (sym c.start.ensures ∙ c.in_err-state.was))

pub returns : goal.returns
returns c = contract-made _ _ _ _ _ _ _ (sym c.start.ensures ∙ c.in_ok-state.was) c.make_from.ensures
