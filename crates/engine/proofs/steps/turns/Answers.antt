-- `turns` meets its contract. The invariant of both loops: the rest of the run from here is the run from where the loop began, and the
-- buffers keep their lengths; of the inner one also that a turn was taken where it ends. The measures are the steps left. Assumes nothing.
use Rattle.machine.specs.All.{refl, sym, ap, ◌∙◌, true≢false, arith}
use Rattle.state.proofs.Ends.{ended, goes-on}
use Rattle.engine_laws.specs.{Ends.end_rows}
use Rattle.engine_laws.proofs.Herding.{onward-on}
use Rattle.engine_laws.proofs.TurnsLaws.{turns-none, turns-on, turns-off, turns-joined}
use Rattle.engine.proofs.steps.turns.Goals as goal

pub loop-left-init : goal.loop-left-init
loop-left-init c = (refl, refl, refl)

pub loop-plain-init : goal.loop-plain-init
loop-plain-init c =
    (refl, refl, refl, omega arith, λ e. absurd (true≢false e))

pub shape_of-work-then-left-eq0 : goal.shape_of-work-then-left-eq0
shape_of-work-then-left-eq0 c =
    c.loop-plain.invariant.1 ∙ c.loop-left.invariant.1

pub shape_of-trace-then-left-eq0 : goal.shape_of-trace-then-left-eq0
shape_of-trace-then-left-eq0 c =
    c.loop-plain.invariant.2 ∙ c.loop-left.invariant.2

pub returns-then-left-eq0 : goal.returns-then-left-eq0
returns-then-left-eq0 c =
    let at = c.loop-plain in
    let out = c.loop-left in
    sym (turns-none _ _ _ _ _ _ _ _ _ at.left (omega arith))
    ∙ turns-joined _ _ _ _ _ _ _ _ _ _ _ out.invariant.2 at.invariant.0 out.invariant.0

pub shape_of-work-then-ended : goal.shape_of-work-then-ended
shape_of-work-then-ended c =
    c.loop-plain.invariant.1 ∙ c.loop-left.invariant.1

pub shape_of-trace-then-ended : goal.shape_of-trace-then-ended
shape_of-trace-then-ended c =
    c.loop-plain.invariant.2 ∙ c.loop-left.invariant.2

pub returns-then-ended : goal.returns-then-ended
returns-then-ended c =
    let at = c.loop-plain in
    let out = c.loop-left in
    let told = c.end_before-end.ensures ∙ ap (end_rows at.work at.y c.args.budget) (at.invariant.2 ∙ out.invariant.2) in
    rw c.close.ensures
    (sym (turns-off _ _ _ _ _ _ _ _ _ at.left _ (omega arith) told (ended _ (sym c.ended.ensures ∙ c.if-ended.true)))
    ∙ turns-joined _ _ _ _ _ _ _ _ _ _ _ out.invariant.2 at.invariant.0 out.invariant.0)

pub loop-plain-preserved : goal.loop-plain-preserved
loop-plain-preserved c =
    let at = c.loop-plain in
    let a = c.args in
    let call = c.turn-y in
    let told = c.end_before-end.ensures ∙ ap (end_rows at.work at.y a.budget) at.invariant.2 in (
      turns-on a.model a.tables.now a.tape.now a.budget _ at.y at.work _ _ at.left _ (omega arith) told
          (goes-on _ (sym c.ended.ensures ∙ c.if-ended.false)) _ _ call.ensures at.invariant.0,
      omega (arith, at.invariant.1),
      omega (arith, at.invariant.2),
      omega (arith, at.invariant.3),
      λ e. omega (arith, at.invariant.3),
    )

pub overflow_sub-left-in-loop-left-2 : goal.overflow_sub-left-in-loop-left-2
overflow_sub-left-in-loop-left-2 c =
    omega (arith, c.herd-done.ensures.least, c.herd-done.ensures.most)

pub loop-left-smaller : goal.loop-left-smaller
loop-left-smaller c =
    omega (arith, c.loop-plain.invariant.4 c.loop-plain-test.false)

pub loop-left-preserved : goal.loop-left-preserved
loop-left-preserved c =
    let at = c.loop-plain in
    let out = c.loop-left in
    let a = c.args in
    let herd = c.herd-done in
    let same = at.invariant.2 ∙ out.invariant.2 in (
      rw c.after-y.ensures (onward-on a.model a.tables.now a.tape.now _ a.budget _ at.y at.left _ _ herd.result _ _ _ _ same
          (herd.ensures.by_index a.tape.now _) (turns-joined _ _ _ _ _ _ _ _ _ _ _ out.invariant.2 at.invariant.0 out.invariant.0)),
      omega (arith, at.invariant.1, out.invariant.1),
      same,
    )

pub shape_of-work : goal.shape_of-work
shape_of-work c = c.loop-left.invariant.1

pub shape_of-trace : goal.shape_of-trace
shape_of-trace c = c.loop-left.invariant.2

pub returns : goal.returns
returns c =
    let at = c.loop-left in
    sym (turns-none _ _ _ _ _ _ _ _ _ at.left (omega arith)) ∙ at.invariant.0
