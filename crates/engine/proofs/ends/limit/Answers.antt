-- `limit` meets its contract: limit by limit.
use Rattle.machine.specs.All.{sym, ◌∙◌, le-leb, lt-leb}
use Rattle.engine_laws.specs.Ends.{limit_rows}
use Rattle.engine.proofs.ends.limit.Goals as goal

pub returns-then-worn_out : goal.returns-then-worn_out
unfolding limit_rows
returns-then-worn_out c =
    sym (rw (c.at.ensures, sym c.worn_out.ensures ∙ c.if-worn_out.true))

pub returns-then-budget-x : goal.returns-then-budget-x
unfolding limit_rows
returns-then-budget-x c =
    sym (rw (c.at-then-budget-x.ensures, sym c.worn_out.ensures ∙ c.if-worn_out.false, le-leb _ _ c.if-budget-x.true))

pub returns-then-trace_full : goal.returns-then-trace_full
unfolding limit_rows
returns-then-trace_full c =
    sym (rw (
      c.at-then-trace_full.ensures,
      sym c.worn_out.ensures ∙ c.if-worn_out.false,
      lt-leb _ _ c.if-budget-x.false,
      sym c.trace_full.ensures ∙ c.if-trace_full.true,
    ))

pub returns : goal.returns
unfolding limit_rows
returns c =
    sym (rw (
      c.none.ensures,
      sym c.worn_out.ensures ∙ c.if-worn_out.false,
      lt-leb _ _ c.if-budget-x.false,
      sym c.trace_full.ensures ∙ c.if-trace_full.false,
    ))
