-- The numbers of notes and ends, and the ends of numbers.
use Rattle.std.specs.Prelude.{ℕ, ◌≡◌, ◌≤◌, refl, Option, Some, None, Result, Ok, Err}
use Rattle.machine.specs.All.{cond, eqb}
use Rattle.constants.specs.{Numbers.end_number, declared.ends.End.End}
use Rattle.constants.specs.declared.ends.End.TheVariants.{Dry, Counted, Budget, TraceFull, NoPlace, TooLate, NoTime, NotInUse, NoContent, WornOut, NotHolder, Holding}
use Rattle.state.specs.declared.scalars.Note.{Note}
use Rattle.state.specs.declared.scalars.Note.TheVariants.{Entered, Waits, NoRecord}
use Rattle.state.specs.declared.scalars.Scalars.{Scalars}

-- 0 entered, 1 began to wait, 2 no record
abbrev pub note_number : Note → ℕ
note_number Entered = 0
note_number Waits = 1
note_number NoRecord = 2

-- the number of an end, 0 for none
abbrev pub end_or_0 : Option End → ℕ
end_or_0 None = 0
end_or_0 (Some e) = end_number e

-- of a question, 0 for yes
abbrev pub number_of_no : Result Unit End → ℕ
number_of_no (Ok u) = 0
number_of_no (Err e) = end_number e

-- back from the number of an end
abbrev pub end_of_number : ℕ → Option End
end_of_number n =
    (cond (eqb n 1) (Some Dry)
    (cond (eqb n 2) (Some Counted)
    (cond (eqb n 3) (Some Budget)
    (cond (eqb n 4) (Some TraceFull)
    (cond (eqb n 21) (Some NoPlace)
    (cond (eqb n 22) (Some TooLate)
    (cond (eqb n 23) (Some NoTime)
    (cond (eqb n 24) (Some NotInUse)
    (cond (eqb n 25) (Some NoContent)
    (cond (eqb n 26) (Some WornOut)
    (cond (eqb n 27) (Some NotHolder)
    (cond (eqb n 28) (Some Holding)
    None))))))))))))

pub end-back : (e : Option End) → end_of_number (end_or_0 e) ≡ e
end-back None = refl
end-back (Some Dry) = refl
end-back (Some Counted) = refl
end-back (Some Budget) = refl
end-back (Some TraceFull) = refl
end-back (Some NoPlace) = refl
end-back (Some TooLate) = refl
end-back (Some NoTime) = refl
end-back (Some NotInUse) = refl
end-back (Some NoContent) = refl
end-back (Some WornOut) = refl
end-back (Some NotHolder) = refl
end-back (Some Holding) = refl

-- the number of no end, or of one
abbrev pub NoneOrEnd : ℕ → Type 0
NoneOrEnd n = end_or_0 (end_of_number n) ≡ n

-- what `Option End` and `Note` would say of scalars: their end is none or one of `End`, their note one of the three
pub record Stated (x : Scalars) : Type 0 where
  pub end : NoneOrEnd x.end
  pub note : x.note ≤ 2
