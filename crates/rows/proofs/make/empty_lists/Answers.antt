-- `empty_lists` meets its contract. The invariant: those before this one are done.
use Rattle.machine.specs.All.{ℕ, refl, ap, ◌∙◌, arith, add-one}
use Rattle.rows_laws.specs.All.{empty_lists}
use Rattle.rows.proofs.make.empty_lists.Goals as goal
use Rattle.rows.proofs.make.empty_lists.Goals.{in-Some, in_default}

pub loop-p-init : goal.loop-p-init
unfolding empty_lists
loop-p-init c = refl

pub loop-p-preserved : goal.loop-p-preserved
unfolding empty_lists
loop-p-preserved c =
    rw (add-one c.loop-p.p, ← c.loop-p.invariant)
    (
    elim c.match-of.branch [
      | in-Some w ↦ w.w-is ∙ rw w.in-Some.ensures at w.empty_list.ensures
      | in_default w ↦ absurd (omega arith)
    ]
    )

pub returns : goal.returns
returns c = c.loop-p.invariant ∙ ap (λ (n : ℕ). empty_lists n c.args.w.now) (omega arith)
