-- `line_on` meets its contract. The invariant: it is amid those who come with row k, `Lining`.
use Rattle.machine.specs.All.{◌≡◌, ◌%◌, sym, ap, ◌∙◌, arith}
use Rattle.rows_laws.specs.All.{place, load, store}
use Rattle.turn_laws.proofs.Lining.{lining-none, lining-next, lining-done}
use Rattle.turn.proofs.staying.line_on.Goals as goal

pub loop-i-init : goal.loop-i-init
loop-i-init c =
    rw (c.read-serial.ensures, c.read-standing.ensures) (lining-none c.requires.room c.requires.le_most)

pub returns-in_default : goal.returns-in_default
returns-in_default c =
    let inv = c.loop-i.invariant in
    record {
      lines = λ none odd. lining-done inv _ c.tie.ensures none (ap (λ z. z % 2) c.read-standing.ensures ∙ odd);
      some = inv.some;
      few = inv.few;
    }

pub loop-i-preserved : goal.loop-i-preserved
loop-i-preserved c =
    let row = c.in-Some.ensures in
    let moved : c.set.new.w ≡ store c.loop-i.work (place c.in-Some.n) c.args.v =
    cc (c.set.ensures, c.place.ensures.cell, c.number.ensures.same) in
    lining-next c.loop-i.invariant (rw c.number.ensures.same at c.number.ensures.small) c.link.ensures.small _
    (sym row.0 ∙ c.get.ensures ∙ ap (load c.loop-i.work) c.link.ensures.cell)
    (sym (c.comes_with.ensures row.1) ∙ c.if-comes_with.true) c.loop-i-test.true _ moved _ c.read-serial-in-Some.ensures

pub returns : goal.returns
returns c =
    let inv = c.loop-i.invariant in
    let all : c.loop-i.i ≡ c.args.most = omega (arith, inv.few) in
    record {
      lines = λ none odd. rw all at (lining-done inv _ c.tie-2.ensures none (ap (λ z. z % 2) c.read-standing.ensures ∙ odd));
      some = c.requires.le_most;
      few = omega arith;
    }
