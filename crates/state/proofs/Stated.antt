-- What is stated: the numbers of ends and notes, and what is chosen between two that are.
use Rattle.std.specs.Prelude.{◌≤◌, Some}
use Rattle.machine.specs.All.{ℕ, ap, Bool, arith, cond}
use Rattle.machine.proofs.Basic.Bools.{cond_cases}
use Rattle.constants.specs.{Numbers.end_number, declared.ends.End.End}
use Rattle.state.specs.declared.scalars.Note.{Note}
use Rattle.state.specs.declared.scalars.Note.TheVariants.{Entered, Waits, NoRecord}
use Rattle.state.specs.{declared.scalars.Scalars.Scalars, Notes.note_number, Notes.NoneOrEnd, Notes.Stated, Notes.end_or_0, Notes.end-back}
use Rattle.state.specs.All.{Rows}

-- the number of an end is that of none or one
pub number-stated : (e : End) → NoneOrEnd (end_number e)
number-stated e = ap end_or_0 (end-back (Some e))

-- a note has one of three numbers
pub note-small : (n : Note) → note_number n ≤ 2
note-small Entered = omega arith
note-small Waits = omega arith
note-small NoRecord = omega arith

-- a chosen number is none or an end, if both are
pub if-end : (b : Bool) (m n : ℕ) → NoneOrEnd m → NoneOrEnd n → NoneOrEnd (cond b m n)
if-end b m n h g = cond_cases NoneOrEnd b m n (λ e. h) (λ e. g)

-- chosen scalars are stated, if both are
pub if-stated : (b : Bool) (x y : Scalars) → Stated x → Stated y → Stated (cond b x y)
if-stated b x y h g = cond_cases Stated b x y (λ e. h) (λ e. g)

-- so are those of chosen rows
pub if-rows : (b : Bool) (r q : Rows) → Stated r.scalars → Stated q.scalars → Stated (cond b r q).scalars
if-rows b r q h g = cond_cases (λ (s : Rows). Stated s.scalars) b r q (λ e. h) (λ e. g)
