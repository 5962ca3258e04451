-- `stay_all` meets its contract. The loop's invariant: it is amid the herd, `Amid`.
use Rattle.machine.specs.All.{◌-◌, ◌+◌, ◌≡◌, sym, ◌∙◌, arith}
use Rattle.state.proofs.Ends.{goes-on}
use Rattle.engine_laws.proofs.Herding.{turns-below, amid-none, amid-next, amid-done}
use Rattle.engine.proofs.herds.stay_all.Goals as goal

pub loop-init : goal.loop-init
loop-init c =
    let whole : c.args.left - 0 ≡ c.args.left = omega arith in rw whole amid-none

pub shape_of-work-then-ended : goal.shape_of-work-then-ended
shape_of-work-then-ended c = c.loop.invariant.kept

pub returns-then-ended : goal.returns-then-ended
returns-then-ended c =
    let h = amid-done c.loop.invariant in record { where_all_wait = h.0; least = h.1.0; most = h.1.1 }

pub shape_of-work-then-back_to-block : goal.shape_of-work-then-back_to-block
shape_of-work-then-back_to-block c = c.loop.invariant.kept

pub returns-then-back_to-block : goal.returns-then-back_to-block
returns-then-back_to-block c =
    let h = amid-done c.loop.invariant in record { where_all_wait = h.0; least = h.1.0; most = h.1.1 }

pub overflow_add-turns : goal.overflow_add-turns
overflow_add-turns c =
    omega (arith, turns-below _ _ _ _ (sym c.end_before.ensures ∙ goes-on _ (sym c.ended.ensures ∙ c.if-ended.false)))

pub loop-preserved : goal.loop-preserved
loop-preserved c =
    let fewer : (c.args.left - c.loop.counter) - 1 ≡ c.args.left - (c.loop.counter + 1) = omega arith in
    rw (fewer, ← c.after-y.ensures) at
    (amid-next c.loop.invariant (omega arith) (sym c.end_before.ensures ∙ goes-on _ (sym c.ended.ensures ∙ c.if-ended.false)) (sym c.back_to.ensures ∙ c.if-back_to-block.false)
    c.stay.ensures (omega arith))

pub shape_of-work : goal.shape_of-work
shape_of-work c = c.loop.invariant.kept

pub returns : goal.returns
returns c =
    let h = amid-done c.loop.invariant in record { where_all_wait = h.0; least = h.1.0; most = h.1.1 }
