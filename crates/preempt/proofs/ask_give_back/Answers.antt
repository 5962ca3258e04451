-- `ask_give_back` meets its contract: 24, then 27, then 22.
use Rattle.machine.specs.All.{lt-ltb, le-ltb, eq-eqb, ne_eqb}
use Rattle.preempt_laws.specs.Preempting.{ask_give_back}
use Rattle.preempt.proofs.ask_give_back.Goals as goal

pub returns-then-in_use-lt1 : goal.returns-then-in_use-lt1
unfolding ask_give_back
returns-then-in_use-lt1 c = rw (← c.in_use.ensures, lt-ltb _ 1 c.if-in_use-lt1.true)

pub returns-then-preempted-eq0 : goal.returns-then-preempted-eq0
unfolding ask_give_back
returns-then-preempted-eq0 c =
    rw (← c.in_use.ensures, le-ltb _ 1 c.if-in_use-lt1.false, ← c.preempted.ensures, eq-eqb _ 0 c.if-preempted-eq0.true)

pub returns-then-holder-number : goal.returns-then-holder-number
unfolding ask_give_back
returns-then-holder-number c =
    rw (
      ← c.in_use.ensures,
      le-ltb _ 1 c.if-in_use-lt1.false,
      ← c.preempted.ensures,
      ne_eqb _ 0 c.if-preempted-eq0.false,
      ← c.holder.ensures,
      ne_eqb _ _ c.if-holder-number.true,
    )

pub returns : goal.returns
unfolding ask_give_back
returns c =
    rw (
      ← c.in_use.ensures,
      le-ltb _ 1 c.if-in_use-lt1.false,
      ← c.preempted.ensures,
      ne_eqb _ 0 c.if-preempted-eq0.false,
      ← c.holder.ensures,
      eq-eqb _ _ c.if-holder-number.false,
    )
    (c.ask_resume.ensures _ (rw c.interrupted.ensures at c.first.ensures))
