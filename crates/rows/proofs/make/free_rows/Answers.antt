-- `free_rows` meets its contract. The invariant: those before this one are done.
use Rattle.machine.specs.All.{ℕ, refl, ap, ◌∙◌, arith, add-one}
use Rattle.rows_laws.specs.All.{free_rows}
use Rattle.rows.proofs.make.free_rows.Goals as goal
use Rattle.rows.proofs.make.free_rows.Goals.{in-Some, in_default}

pub loop-k-init : goal.loop-k-init
unfolding free_rows
loop-k-init c = refl

pub loop-k-preserved : goal.loop-k-preserved
unfolding free_rows
loop-k-preserved c =
    rw (add-one c.loop-k.k, ← c.loop-k.invariant)
    (
    elim c.match-of.branch [
      | in-Some w ↦ w.w-is ∙ rw (← w.in-Some.ensures.0) at w.free_row.ensures
      | in_default w ↦ absurd (omega arith)
    ]
    )

pub returns : goal.returns
returns c = c.loop-k.invariant ∙ ap (λ (n : ℕ). free_rows n c.args.w.now) (omega arith)
