-- `all_wait` meets its contract, by cases on the block.
use Rattle.machine.specs.All.{◌-◌, ◌∙◌, sym, arith, ltb-true}
use Rattle.turn_laws.specs.Staying.{all_wait}
use Rattle.turn_laws.proofs.Staying.{quiet_is}
use Rattle.turn.proofs.staying.all_wait.Goals as goal

pub returns-then-not-quiet : goal.returns-then-not-quiet
unfolding all_wait
returns-then-not-quiet c =
    rw (← c.quiet.ensures, c.if-not-quiet.true)

pub held_by_all-requires : goal.held_by_all-requires
held_by_all-requires c =
    let a = c.args in
    omega (
      arith,
      c.saturating_sub-b.ensures,
      ltb-true (a.block - 1) 256 (quiet_is a.tables.now 9 a.block (sym c.quiet.ensures ∙ c.if-not-quiet.false)).below,
    )

pub returns : goal.returns
unfolding all_wait
returns c =
    rw (← c.quiet.ensures, c.if-not-quiet.false, ← c.saturating_sub-b.ensures) c.held_by_all.ensures
