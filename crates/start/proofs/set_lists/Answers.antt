-- `set_lists` meets its contract. The invariant: the first lists are set.
use Rattle.machine.specs.All.{ℕ, refl, ap, ◌∙◌, arith, add-one}
use Rattle.start.specs.{lists_set}
use Rattle.start.proofs.set_lists.Goals as goal

pub loop-l-init : goal.loop-l-init
unfolding lists_set
loop-l-init c = refl

pub loop-l-preserved : goal.loop-l-preserved
unfolding lists_set
loop-l-preserved c = rw add-one (cc (c.set_list.ensures, c.loop-l.invariant))

pub returns : goal.returns
returns c = c.loop-l.invariant ∙ ap (λ (n : ℕ). lists_set n c.args.lists.now c.args.tally.now) (omega arith)
