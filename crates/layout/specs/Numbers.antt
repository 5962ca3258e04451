-- The numbers that stand for a term, a sum or a block in the tables. Whatever is used as an index (a parameter, a block whose
-- entries are asked for, a queue, a server, a value, a list) is stored from 0; targets are block numbers, from 1.
use Rattle.std.specs.Prelude.{◌-◌, ◌∷◌, ◌++◌}
use Rattle.machine.specs.All.{ℕ, zero, suc, List, [], Relation, equal, unequal, less, at_most, greater, at_least, Term, constant, minus_constant, parameter, clock_term, entries_of, content_of, units_in_use, units_free, facility_in_use, value, comparison, bracket, Condition, always, when_true, Sum, nothing, plus, minus, Code, code_index, Share, facility, storage, Change, up, down, Block, generate, advance, terminate, takes, frees, wait_server, wait_terms, moves, assign, priority, split, counts, assemble, preempt, give_back}

unfoldable pub relation_number : Relation → ℕ
relation_number equal = 1
relation_number unequal = 2
relation_number less = 3
relation_number at_most = 4
relation_number greater = 5
relation_number at_least = 6

unfoldable pub terms : Sum → ℕ
terms nothing = 0
terms (plus t e) = suc (terms e)
terms (minus t e) = suc (terms e)

-- a sum is its count of terms and then each term behind its sign
unfoldable mutual
  pub term_numbers : Term → List ℕ
  term_numbers (constant n) = 0 ∷ n ∷ []
  term_numbers (minus_constant n) = 1 ∷ n ∷ []
  term_numbers (parameter k) = 2 ∷ (k - 1) ∷ []
  term_numbers clock_term = 3 ∷ 0 ∷ []
  term_numbers (entries_of b) = 4 ∷ (b - 1) ∷ []
  term_numbers (content_of q) = 5 ∷ (q - 1) ∷ []
  term_numbers (units_in_use v) = 6 ∷ (v - 1) ∷ []
  term_numbers (units_free v) = 7 ∷ (v - 1) ∷ []
  term_numbers (facility_in_use v) = 8 ∷ (v - 1) ∷ []
  term_numbers (value k) = 9 ∷ (k - 1) ∷ []
  term_numbers (comparison r a b) = 10 ∷ relation_number r ∷ (term_numbers a ++ term_numbers b)
  term_numbers (bracket e) = 11 ∷ terms e ∷ signed_terms e

  pub signed_terms : Sum → List ℕ
  signed_terms nothing = []
  signed_terms (plus t e) = 0 ∷ (term_numbers t ++ signed_terms e)
  signed_terms (minus t e) = 1 ∷ (term_numbers t ++ signed_terms e)

unfoldable pub sum_numbers : Sum → List ℕ
sum_numbers e = terms e ∷ signed_terms e

-- the kind of a block is its number in document 01
unfoldable pub take_numbers : Share → List ℕ
take_numbers (facility v) = 4 ∷ (v - 1) ∷ []
take_numbers (storage v b) = 6 ∷ (v - 1) ∷ b ∷ []

unfoldable pub free_numbers : Share → List ℕ
free_numbers (facility v) = 5 ∷ (v - 1) ∷ []
free_numbers (storage v b) = 7 ∷ (v - 1) ∷ b ∷ []

unfoldable pub move_numbers : Condition → ℕ → List ℕ
move_numbers always target = 11 ∷ target ∷ []
move_numbers (when_true a r b) target = 10 ∷ (term_numbers a ++ (relation_number r ∷ (term_numbers b ++ (target ∷ []))))

-- 8 without a back count, 17 with one
unfoldable pub wait_numbers : Code → (server back : ℕ) → List ℕ
wait_numbers code v zero = 8 ∷ code_index code ∷ (v - 1) ∷ []
wait_numbers code v (suc c) = 17 ∷ code_index code ∷ (v - 1) ∷ suc c ∷ []

unfoldable pub count_kind : Change → ℕ
count_kind up = 15
count_kind down = 16

unfoldable pub block_numbers : Block → List ℕ
block_numbers (generate list p) = 1 ∷ (list - 1) ∷ p ∷ []
block_numbers (advance list) = 2 ∷ (list - 1) ∷ []
block_numbers (terminate a) = 3 ∷ a ∷ []
block_numbers (takes x) = take_numbers x
block_numbers (frees x) = free_numbers x
block_numbers (wait_server code v c) = wait_numbers code v c
block_numbers (wait_terms a r b) = 9 ∷ (term_numbers a ++ (relation_number r ∷ term_numbers b))
block_numbers (moves c target) = move_numbers c target
block_numbers (assign k a) = 12 ∷ (k - 1) ∷ term_numbers a
block_numbers (priority p) = 13 ∷ p ∷ []
block_numbers (split n target) = 14 ∷ n ∷ target ∷ []
block_numbers (counts c q) = count_kind c ∷ (q - 1) ∷ []
block_numbers (assemble n) = 18 ∷ n ∷ []
block_numbers (preempt f) = 19 ∷ (f - 1) ∷ []
block_numbers (give_back f) = 20 ∷ (f - 1) ∷ []
