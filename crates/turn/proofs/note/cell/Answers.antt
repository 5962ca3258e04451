-- `cell` meets its contract, by the outcome.
use Rattle.std.proofs.Common.{inl, inr}
use Rattle.std.specs.Prelude.{◌⊎◌}
use Rattle.machine.specs.All.{◌≡◌, ◌≤◌, arith, ne_eqb}
use Rattle.state.specs.Notes.{note_number}
use Rattle.state.specs.declared.scalars.Note.{Note}
use Rattle.state.specs.declared.scalars.Note.TheVariants.{Waits, NoRecord}
use Rattle.turn_laws.specs.Note.{cell_of}
use Rattle.turn.proofs.note.cell.Goals as goal

later : (o : Note) → (o ≡ Waits) ⊎ (o ≡ NoRecord) → 1 ≤ note_number o
later o (inl e) = rw e (omega arith)
later o (inr e) = rw e (omega arith)

pub returns-in-Entered : goal.returns-in-Entered
unfolding cell_of
returns-in-Entered c =
    let entered : c.args.outcome ≡ 0 = omega (arith, rw c.in-Entered.is at c.note.ensures) in
    rw entered c.saturating_sub-b.ensures

pub returns-in-Waits : goal.returns-in-Waits
unfolding cell_of
returns-in-Waits c =
    let waits : 1 ≤ c.args.outcome = omega (arith, later _ c.in-Waits.is, c.note.ensures) in
    rw (c.saturating_sub-b.ensures, ne_eqb c.args.outcome 0 (omega arith))
