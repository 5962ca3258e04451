-- `cell` meets its contract: each tag is its line of the definition.
use Rattle.machine.specs.All.{inl, inr, lt-ltb, le-ltb}
use Rattle.watch.specs.{cell_of}
use Rattle.watch.proofs.walk.cell.Goals as goal

pub returns-in-Constant : goal.returns-in-Constant
unfolding cell_of
returns-in-Constant c = elim c.in-Constant.is [ inl e ↦ rw e | inr e ↦ rw e ]

pub returns-in-Parameter : goal.returns-in-Parameter
unfolding cell_of
returns-in-Parameter c = rw c.in-Parameter.is

pub returns-in-Clock : goal.returns-in-Clock
unfolding cell_of
returns-in-Clock c = rw c.in-Clock.is

pub returns-in-Entries : goal.returns-in-Entries
unfolding cell_of
returns-in-Entries c = rw c.in-Entries.is

pub returns-in-Content : goal.returns-in-Content
unfolding cell_of
returns-in-Content c = rw c.in-Content.is

pub returns-in-UnitsInUse : goal.returns-in-UnitsInUse
unfolding cell_of
returns-in-UnitsInUse c =
    elim c.in-UnitsInUse.is [ inl e ↦ rw e | inr f ↦ elim f [ inl e ↦ rw e | inr e ↦ rw e ] ]

pub returns-then-i-lower : goal.returns-then-i-lower
unfolding cell_of
returns-then-i-lower c =
    elim c.in-Value.is [
      | inl e ↦ rw (e, lt-ltb _ _ c.if-i-lower.true)
      | inr f ↦ elim f [
        | inl e ↦ rw (e, lt-ltb _ _ c.if-i-lower.true)
        | inr e ↦ rw (e, lt-ltb _ _ c.if-i-lower.true)
      ]
    ]

pub returns-else-i-lower : goal.returns-else-i-lower
unfolding cell_of
returns-else-i-lower c =
    elim c.in-Value.is [
      | inl e ↦ rw (e, le-ltb _ _ c.if-i-lower.false)
      | inr f ↦ elim f [
        | inl e ↦ rw (e, le-ltb _ _ c.if-i-lower.false)
        | inr e ↦ rw (e, le-ltb _ _ c.if-i-lower.false)
      ]
    ]
