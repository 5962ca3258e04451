-- `resume` meets its contract: the steps in order. The moving row stays.
use Rattle.machine.specs.All.{ℕ, ◌≡◌, List, refl, sym, ap, ◌∙◌}
use Rattle.state.specs.declared.scalars.Scalars.{Scalars}
use Rattle.moves.specs.Motion.{Moved, moved}
use Rattle.flow_laws.specs.Sending.{to_future}
use Rattle.preempt_laws.specs.Preempting.{resume_on, resume_rows}
use Rattle.preempt.proofs.resume.Goals as goal

stays : (w after : List ℕ) (x y : Scalars) (v j : ℕ) → moved y after ≡ resume_on w x v j → y.moving ≡ x.moving
unfolding resume_on to_future moved
stays w after x y v j e = ap (λ (z : Moved). z.scalars.moving) e

pub returns : goal.returns
unfolding resume_rows moved
returns c =
    let on = rw c.scalars.ensures.same at c.resume_on-y.ensures in
    rw (
      c.with_outcome.ensures,
      c.of.ensures,
      ← c.in_use-units.ensures,
      ← c.capacity-all.ensures.capacity,
      ← c.read-who.ensures,
      ← on,
    )
    (rw c.number.ensures.same at (c.hold_units.ensures c.resume_on-y.result (stays _ _ _ _ _ _ on ∙ sym c.row-k.ensures) refl))
