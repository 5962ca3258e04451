-- `pass_or_back` meets its contract: by back count and stamp it goes back or enters.
use Rattle.machine.specs.All.{sym, ◌∙◌}
use Rattle.servers_laws.specs.WaitServer.{pass_or_back}
use Rattle.servers.proofs.waiting.pass_or_back.Goals as goal

pub returns-then-late : goal.returns-then-late
unfolding pass_or_back
returns-then-late c =
    rw (← c.back_count-c.ensures, sym c.late.ensures ∙ c.if-late.true) c.back_from.ensures

pub returns : goal.returns
unfolding pass_or_back
returns c =
    rw (← c.back_count-c.ensures, sym c.late.ensures ∙ c.if-late.false, ← c.begins_group-begins.ensures)
    c.pass_on.ensures
