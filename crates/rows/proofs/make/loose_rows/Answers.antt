-- `loose_rows` meets its contract. The invariant: those before this one are done.
use Rattle.machine.specs.All.{ℕ, refl, ap, ◌∙◌, List, arith, add-one}
use Rattle.rows_laws.specs.All.{loose_rows, place, nowhere, store}
use Rattle.rows.proofs.make.loose_rows.Goals as goal

pub loop-k-init : goal.loop-k-init
unfolding loose_rows
loop-k-init c = refl

pub loop-k-preserved : goal.loop-k-preserved
unfolding loose_rows
loop-k-preserved c =
    rw (add-one c.loop-k.k)
    (c.set.ensures ∙ ap (λ (v : List ℕ). store v (place c.loop-k.k) nowhere) c.loop-k.invariant)

pub returns : goal.returns
returns c = c.loop-k.invariant ∙ ap (λ (n : ℕ). loose_rows n c.args.w.now) (omega arith)
