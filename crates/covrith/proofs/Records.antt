-- The answers of reader and writer as numbers, for each case of the covered functions' answers.
use Rattle.machine.specs.All.{ℕ, ◌≤◌, ◌∙◌, List, [], ◌∷◌, ◌≡◌, refl, sym, length, length-take-le}
use Rattle.machine.specs.Trace as machine
use Rattle.std.specs.Prelude.{Option, Some, None, Result, Ok, Err, MatchResult}
use Rattle.constants.specs.{declared.refusals.Refusal.Refusal, Numbers.refusal_number}
use Rattle.trace.specs.{Answers.reading_of, Answers.writing_of, declared.Record.Record}
use Rattle.covrith.specs.{read_answer, read_numbers, write_answer, write_count}

-- ---- Reader

module _ {x : Result (Option (Record × ℕ)) Refusal} {wanted : machine.Reading} (e : reading_of x ≡ wanted) (before : List ℕ) where
  pub read-taken : (r : Record) (next : ℕ) → x ≡ Ok (Some (r, next)) →
      (0 ≡ read_answer wanted) × (r.clock ∷ r.transaction ∷ r.block ∷ r.outcome ∷ next ∷ [] ≡ read_numbers wanted before)
  unfolding read_answer read_numbers
  read-taken r next case = rw (← e, case) (refl, refl)

  -- a refused read leaves the caller's numbers
  pub read-refused : (r : Refusal) → x ≡ Err r → (refusal_number r ≡ read_answer wanted) × (before ≡ read_numbers wanted before)
  unfolding read_answer read_numbers
  read-refused r case = rw (← e, case) (refl, refl)

  -- 30 at the trace's end
  pub read-no_more : x ≡ Ok None → (30 ≡ read_answer wanted) × (before ≡ read_numbers wanted before)
  unfolding read_answer read_numbers
  read-no_more case = rw (← e, case) (refl, refl)

-- ---- Writer

pub told-written : (rest : List ℕ) (x : Result ℕ Refusal) {wanted : machine.Writing} → writing_of rest x ≡ wanted →
    ((n : ℕ) → x ≡ Ok n → n ≤ length rest) → {answer count : ℕ} →
    MatchResult x (λ n. (answer ≡ 0) × (count ≡ n)) (λ r. (answer ≡ refusal_number r) × (count ≡ 0)) →
    (answer ≡ write_answer wanted) × (count ≡ write_count wanted)
unfolding write_answer write_count
told-written rest (Ok n) e room (a, c) = rw (← e) (a, c ∙ sym (length-take-le n rest (room n refl)))
told-written rest (Err r) e room (a, c) = rw (← e) (a, c)
