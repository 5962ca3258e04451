-- `begin_block` meets its contract: by cases on the kind.
use Rattle.machine.specs.All.{sym, ◌∙◌, eq-eqb, ne_eqb}
use Rattle.start.specs.{begin_block}
use Rattle.start.proofs.begin_block.Goals as goal

pub returns-then-number : goal.returns-then-number
unfolding begin_block
returns-then-number c = rw (← c.number.ensures, ne_eqb _ 1 (λ e. c.if-number.true (e ∙ sym c.number-2.ensures)))

pub returns : goal.returns
unfolding begin_block
returns c = rw (← c.number.ensures, eq-eqb _ 1 (c.if-number.false ∙ c.number-2.ensures)) c.begin_list.ensures
