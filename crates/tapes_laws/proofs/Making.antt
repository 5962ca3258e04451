-- The answers of the tape maker, pure, in their order.
use Rattle.machine.specs.All.{ℕ, ◌/◌, ◌%◌, ◌≤◌, ◌<◌, zero-add, arith, List, ◌≡◌, refl, sym, ◌∙◌, length, sets, sets-eq, le-leb, lt-leb, eq-eqb, ne_eqb, ◌++◌, ap, drop}
use Rattle.std.specs.Prelude.{Option, None as none, Some as some}
use lib.Ieee.{Float}
use Rattle.std.specs.Prelude.{Ok, Err, min}
use Rattle.std.specs.Simd.{first_chunks}
use Rattle.constants.specs.declared.refusals.Refusal.TheVariants.{ListRules, TapeRoom}
use Rattle.tapes_laws.proofs.Fours.{fours-in}
use Rattle.tapes_laws.specs.{most_lists, numbers_per_list, continue, ask, Listed, lists_from, lists_of, made, refusal, fitted, from_lists, lists_in, leaves, tape_bytes, Maker, Making}

-- ---- The lists

module _ (lists : List ℕ) (numbers : List Float) where
  abbrev count : ℕ
  count = length lists / numbers_per_list

  -- 42: a number of fields that no lists have
  pub uneven : (length lists % numbers_per_list ≡ 0 → ⊥) → lists_of lists numbers ≡ none
  unfolding lists_of continue ask
  uneven h = rw (ne_eqb _ 0 h)

  module _ (even : length lists % numbers_per_list ≡ 0) where
    pub seventeenth : most_lists < count → lists_of lists numbers ≡ none
    unfolding lists_of continue ask
    seventeenth h = rw (eq-eqb _ 0 even, lt-leb count most_lists h)

    module _ (few : count ≤ most_lists) where
      pub all-lists : lists_of lists numbers ≡ lists_from lists numbers count 0
      unfolding lists_of continue ask
      all-lists = rw (eq-eqb _ 0 even, le-leb count most_lists few)

      -- the four numbers of each
      pub in-fours : (fours : List (List ℕ)) → fours ≡ first_chunks 4 count lists → lists_of lists numbers ≡ lists_in fours numbers
      in-fours fours e = all-lists ∙ sym (fours-in lists numbers count 0) ∙ ap (λ (f : List (List ℕ)). lists_in f numbers) (sym e)

-- ---- The answer and the bytes

module _ (o : Option (List Listed)) (state : ℕ) (before : List ℕ) where
  pub answer-42 : o ≡ none → Maker o state before (Err ListRules) before
  unfolding from_lists leaves
  answer-42 e = rw e (record { answered = refl; bytes = refl })

  module _ (ls : List Listed) (e : o ≡ some ls) (n : ℕ) (en : n ≡ min (length (tape_bytes ls state)) 18446744073709551615) where
    pub answer-43 : length before < n → Maker o state before (Err TapeRoom) before
    unfolding from_lists fitted leaves
    answer-43 h =
        let it : from_lists o state (length before) ≡ refusal 43 =
        rw (e, lt-leb (length (tape_bytes ls state)) (length before) (omega arith)) in
        record { answered = rw it refl; bytes = sym (ap (λ (m : Making). leaves m before) it) }

    -- the tape fits the buffer, and the bytes behind it stay
    pub answer-made : n ≤ length before → length before < 18446744073709551615 → (behind : List ℕ) → behind ≡ sets before 0 (tape_bytes ls state)
        → Maker o state before (Ok n) behind
    unfolding from_lists fitted leaves
    answer-made h room behind eb =
        let b = tape_bytes ls state in
        let it : from_lists o state (length before) ≡ made b = rw (e, le-leb (length b) (length before) (omega arith)) in
        record {
          answered = rw it (omega arith);
          bytes =
              eb ∙ sets-eq b before 0 (omega arith) ∙ ap (λ (i : ℕ). b ++ drop i before) (zero-add (length b))
              ∙ sym (ap (λ (m : Making). leaves m before) it);
        }
