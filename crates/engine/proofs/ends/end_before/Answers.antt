-- `end_before` meets its contract: the end of the turn before, dry, the limits.
use Rattle.machine.specs.All.{sym, ◌∙◌, ne_eqb, eq-eqb}
use Rattle.state.proofs.Ends.{ended, goes-on}
use Rattle.engine_laws.specs.Ends.{end_rows}
use Rattle.engine.proofs.ends.end_before.Goals as goal

pub returns-then-ended : goal.returns-then-ended
unfolding end_rows
returns-then-ended c =
    sym (rw (ne_eqb _ 0 (ended _ (sym c.ended.ensures ∙ c.if-ended.true))))

pub returns-then-nobody_left : goal.returns-then-nobody_left
unfolding end_rows
returns-then-nobody_left c =
    sym (rw (
      c.at.ensures,
      eq-eqb _ 0 (goes-on _ (sym c.ended.ensures ∙ c.if-ended.false)),
      sym c.nobody_left.ensures ∙ c.if-nobody_left.true,
    ))

pub returns : goal.returns
unfolding end_rows
returns c =
    sym (rw (
      eq-eqb _ 0 (goes-on _ (sym c.ended.ensures ∙ c.if-ended.false)),
      sym c.nobody_left.ensures ∙ c.if-nobody_left.false,
      ← c.limit.ensures,
    ))
