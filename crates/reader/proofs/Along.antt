-- Calls of `next`, one after the other.
use Rattle.machine.specs.All.{ℕ, zero, suc, ◌+◌, List, [], ◌∷◌, map, Option, none, some, ◌≡◌, refl, ap, ◌∙◌, subst, arith, length, replicate, in_force, Record, Reading, taken, refusal, no_more, read_record}
use denote.Ref.{Bor}
use Rattle.trace.specs.Whole.{ends, takes}
use Rattle.reader.specs.declared.Reader.{Reader}
use Rattle.reader.specs.{position_behind, position_after, moved, answer, answers, record_in, ReadsAlong, Stays}

module _ (bytes : Bor (List ℕ)) where
  abbrev reader : ℕ → Reader
  reader at = record { bytes = bytes; at = at }

  -- the position that an answer leaves
  behind-is : (at : ℕ) (a : Reading) → read_record in_force bytes.now at ≡ a → moved (reader at) ≡ reader (position_behind at a)
  unfolding moved position_after
  behind-is at a e = ap (λ (x : Reading). reader (position_behind at x)) e

  stays_at : (at : ℕ) (a : Reading) → record_in a ≡ none → reader (position_behind at a) ≡ reader at
  unfolding position_behind record_in
  stays_at at (taken x next) e = absurd (subst (λ (y : Option Record). elim y as (λ _. Type 0) [ none ↦ ⊥ | some _ ↦ Unit {0} ]) e tt)
  stays_at at (refusal n) e = refl
  stays_at at no_more e = refl

  pub stays : (at : ℕ) → Stays (reader at)
  unfolding answer
  stays at e = behind-is at _ refl ∙ stays_at at _ e

  -- ---- A whole trace

  at-end : (at : ℕ) → read_record in_force bytes.now at ≡ no_more → (k : ℕ) → map record_in (answers k (reader at)) ≡ replicate k none
  unfolding answers answer record_in position_behind
  at-end at e zero = refl
  at-end at e (suc k) = rw (e, behind-is at no_more e, at-end at e k) refl

  pub reads-along : (at : ℕ) (l : List Record) → ReadsAlong (reader at) l
  unfolding answers answer record_in position_behind
  reads-along at [] (ends e) k = ap (λ (n : ℕ). map record_in (answers n (reader at))) (none_more k) ∙ at-end at e k
    where
      none_more : (k : ℕ) → 0 + k ≡ k
      none_more k = omega arith
  reads-along at (x ∷ l) (takes {next = next} e t) k =
      ap (λ (n : ℕ). map record_in (answers n (reader at))) (one_more (length l) k)
      ∙ rw (e, behind-is at (taken x next) e, reads-along next l t k) refl
    where
      one_more : (n k : ℕ) → suc n + k ≡ suc (n + k)
      one_more n k = omega arith
