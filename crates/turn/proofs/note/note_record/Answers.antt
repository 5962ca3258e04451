-- `note_record` meets its contract: a count, then the record's bytes.
use Rattle.machine.specs.All.{◌<◌, ◌≢◌, refl, arith, le-ltb}
use Rattle.state.specs.Notes.{note_number}
use Rattle.state.specs.declared.scalars.Note.{Note}
use Rattle.state.specs.declared.scalars.Note.TheVariants.{Entered, Waits, NoRecord}
use Rattle.turn_laws.specs.Note.{note_record}
use Rattle.turn_laws.proofs.Notes.{notes}
use Rattle.turn.proofs.note.note_record.Goals as goal

-- there is a record
low : (o : Note) → o ≢ NoRecord → note_number o < 2
low Entered d = omega arith
low Waits d = omega arith
low NoRecord d = absurd (d refl)

pub returns-in-NoRecord : goal.returns-in-NoRecord
unfolding note_record
returns-in-NoRecord c = rw (le-ltb c.args.x.note 2 (omega (arith, rw c.in-NoRecord.is at c.note.ensures)))

pub returns : goal.returns
returns c =
    notes _ _ _ _ _ _ _ _ (omega (arith, low _ c.in_default.not-NoRecord, c.note.ensures)) c.count_record.ensures
    c.append_record-used.ensures
