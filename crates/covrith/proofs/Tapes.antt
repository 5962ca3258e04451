-- The answers of the tape maker in the numbers that cross the boundary.
use Rattle.machine.specs.All.{ℕ, ◌≡◌, refl}
use Rattle.std.specs.Prelude.{Result, Ok, Err}
use Rattle.constants.specs.Numbers.{refusal_number}
use Rattle.constants.specs.declared.refusals.Refusal.{Refusal}
use Rattle.tapes_laws.specs.{Tape.Making, Tape.made, Tape.refusal, Answers.Says}
use Rattle.covrith.specs.{tape_answer, tape_count}

module _ (x : Result ℕ Refusal) (m : Making) (says : Says x m) where
  pub made-bytes : (n : ℕ) → x ≡ Ok n → (0 ≡ tape_answer m) × (n ≡ tape_count m)
  unfolding tape_answer tape_count
  made-bytes n case = go m (rw case at says)
    where
      go : (m : Making) → Says (Ok n) m → (0 ≡ tape_answer m) × (n ≡ tape_count m)
      go (made b) h = (refl, h)
      go (refusal k) h = absurd h

  pub made-nothing : (e : Refusal) → x ≡ Err e → (refusal_number e ≡ tape_answer m) × (0 ≡ tape_count m)
  unfolding tape_answer tape_count
  made-nothing e case = go m (rw case at says)
    where
      go : (m : Making) → Says (Err e) m → (refusal_number e ≡ tape_answer m) × (0 ≡ tape_count m)
      go (made b) h = absurd h
      go (refusal k) h = (h, refl)
