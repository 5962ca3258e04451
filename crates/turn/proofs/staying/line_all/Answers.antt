-- `line_all` meets its contract: nobody where a question stops it, else `lines-all`.
use Rattle.machine.specs.All.{◌≡◌, sym, ◌∙◌, arith}
use Rattle.rows_laws.specs.All.{place, store}
use Rattle.turn_laws.proofs.Lining.{lines_none, lines-all}
use Rattle.turn.proofs.staying.line_all.Goals as goal

pub returns-then-most-eq0-clause-lines : goal.returns-then-most-eq0-clause-lines
returns-then-most-eq0-clause-lines c = λ there. lines_none

pub returns-then-number-ne1-clause-lines : goal.returns-then-number-ne1-clause-lines
returns-then-number-ne1-clause-lines c = λ there. lines_none

pub returns-then-back_to-block-clause-lines : goal.returns-then-back_to-block-clause-lines
returns-then-back_to-block-clause-lines c = λ there. lines_none

pub returns-in_default-clause-lines : goal.returns-in_default-clause-lines
returns-in_default-clause-lines c = λ there. lines_none

pub returns-then-not-ends_at-clause-lines : goal.returns-then-not-ends_at-clause-lines
returns-then-not-ends_at-clause-lines c = λ there. lines_none

pub returns-then-m-lt-ROWS-clause-lines : goal.returns-then-m-lt-ROWS-clause-lines
returns-then-m-lt-ROWS-clause-lines c = λ there. lines_none

pub returns-clause-lines : goal.returns-clause-lines
returns-clause-lines c =
    let call = c.line_on.ensures in
    let v = c.number-3.ensures in
    let first : c.set.new.w ≡ store (store c.args.work.now c.get-c.result c.in-Some.k) (place c.in-Some.k) c.server_of-v.result =
    cc (c.set.ensures, c.store.ensures, c.place.ensures.cell, c.number-2.ensures.same, v.same) in
    λ there. lines-all c.requires.room (sym c.server_of-v.ensures) (rw v.same at v.small)
    (sym c.number.ensures ∙ c.if-number-ne1.false) (sym c.back_to.ensures ∙ c.if-back_to-block.false) c.in-Some.ensures.0
    (rw (c.tail.ensures.cell, c.queue.ensures) at (sym c.get-c.ensures)) (sym c.ends_at.ensures ∙ c.if-not-ends_at.false)
    (sym c.load-m.ensures) c.if-m-lt-ROWS.false first call.lines call.some there
