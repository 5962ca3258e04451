-- `operands` meets its contract: each arm is its kind's line of the machine's `operands`.
use Rattle.machine.specs.All.{inl, inr}
use Rattle.program.proofs.Steps.{kind_1, kind_2, kind_3, kind-4, kind-5, kind-6, kind-7, kind-8, kind-9, kind-11, kind-13, kind-14, kind-15, kind-16, kind-18, kind-19, kind-20}
use Rattle.program.proofs.operands.Goals as goal

pub returns-in-Generate : goal.returns-in-Generate
returns-in-Generate c = rw c.in-Generate.is (kind_1 _ _ _ _ _ c.range-list.ensures c.range-priority.ensures c.pair.ensures)

pub returns-in-Advance : goal.returns-in-Advance
returns-in-Advance c = rw c.in-Advance.is (kind_2 _ _ _ c.single.ensures)

pub returns-in-Terminate : goal.returns-in-Terminate
returns-in-Terminate c = rw c.in-Terminate.is (kind_3 _ _ _ c.single-in-Terminate.ensures)

pub returns-in-Seize : goal.returns-in-Seize
returns-in-Seize c =
    elim c.in-Seize.is [
      | inl seize ↦ rw seize (kind-4 _ _ _ c.single-in-Seize.ensures)
      | inr more ↦ elim more [
        | inl release ↦ rw release (kind-5 _ _ _ c.single-in-Seize.ensures)
        | inr others ↦ elim others [
          | inl preempt ↦ rw preempt (kind-19 _ _ _ c.single-in-Seize.ensures)
          | inr return ↦ rw return (kind-20 _ _ _ c.single-in-Seize.ensures)
        ]
      ]
    ]

pub returns-in-Enter : goal.returns-in-Enter
returns-in-Enter c =
    elim c.in-Enter.is [
      | inl enter ↦ rw enter (kind-6 _ _ _ c.units.ensures)
      | inr leave ↦ rw leave (kind-7 _ _ _ c.units.ensures)
    ]

pub returns-in-WaitServer : goal.returns-in-WaitServer
returns-in-WaitServer c = rw c.in-WaitServer.is (kind-8 _ _ _ c.watched.ensures)

pub returns-in-WaitTerms : goal.returns-in-WaitTerms
returns-in-WaitTerms c = rw c.in-WaitTerms.is (kind-9 _ _ _ c.compared.ensures)

pub returns-in-Goto : goal.returns-in-Goto
returns-in-Goto c = rw c.in-Goto.is (kind-11 _ _ _ c.single-in-Goto.ensures)

pub returns-in-Priority : goal.returns-in-Priority
returns-in-Priority c = rw c.in-Priority.is (kind-13 _ _ _ c.single-in-Priority.ensures)

pub returns-in-Split : goal.returns-in-Split
returns-in-Split c = rw c.in-Split.is (kind-14 _ _ _ _ _ c.range-copies.ensures c.range-target.ensures c.pair-in-Split.ensures)

pub returns-in-Arrive : goal.returns-in-Arrive
returns-in-Arrive c =
    elim c.in-Arrive.is [
      | inl arrive ↦ rw arrive (kind-15 _ _ _ c.single-in-Arrive.ensures)
      | inr depart ↦ rw depart (kind-16 _ _ _ c.single-in-Arrive.ensures)
    ]

pub returns-in-Assemble : goal.returns-in-Assemble
returns-in-Assemble c = rw c.in-Assemble.is (kind-18 _ _ _ c.single-in-Assemble.ensures)
