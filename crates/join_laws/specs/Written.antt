-- A model as document 01 stores it: Bytes, "Model: edition (1); facilities 0..32; .." and Blocks, "Kind and operands as stored".
-- The bytes of a joined model are read as that model again (../proofs/Accepted.antt).
use Rattle.std.specs.Prelude.{◌-◌, ◌∷◌, ◌++◌}
use Rattle.machine.specs.All.{ℕ, zero, suc, cond, List, [], map, leb, length, flat, number_bytes, Term, constant, minus_constant, parameter, clock_term, entries_of, content_of, units_in_use, units_free, facility_in_use, value, comparison, bracket, Sum, nothing, plus, minus, Condition, always, when_true, Code, code_index, Share, facility, storage, Change, up, down, Block, generate, advance, terminate, takes, frees, wait_server, wait_terms, moves, assign, priority, split, counts, assemble, preempt, give_back, BlockModel}
use Rattle.layout.specs.All.{relation_number, terms}

module _ (facilities : ℕ) where
  -- "numbered from 1": a server by its number among the facilities, or among the storages
  unfoldable pub own_number : (server : ℕ) → ℕ
  own_number v = cond (leb v facilities) v (v - facilities)

  -- "Terms are a tag and a number", "tag 11 and a sum; tag 10, a relation, two terms"
  unfoldable mutual
    pub stored_term : Term → List ℕ
    stored_term (constant n) = 0 ∷ n ∷ []
    stored_term (minus_constant n) = 1 ∷ n ∷ []
    stored_term (parameter k) = 2 ∷ k ∷ []
    stored_term clock_term = 3 ∷ 0 ∷ []
    stored_term (entries_of b) = 4 ∷ b ∷ []
    stored_term (content_of q) = 5 ∷ q ∷ []
    stored_term (units_in_use v) = 6 ∷ own_number v ∷ []
    stored_term (units_free v) = 7 ∷ own_number v ∷ []
    stored_term (facility_in_use v) = 8 ∷ v ∷ []
    stored_term (value k) = 9 ∷ k ∷ []
    stored_term (comparison r a b) = 10 ∷ relation_number r ∷ (stored_term a ++ stored_term b)
    stored_term (bracket e) = 11 ∷ terms e ∷ stored_terms e

    -- "each stored as a sign (0 plus, 1 minus), then its tag and number"
    pub stored_terms : Sum → List ℕ
    stored_terms nothing = []
    stored_terms (plus t e) = 0 ∷ (stored_term t ++ stored_terms e)
    stored_terms (minus t e) = 1 ∷ (stored_term t ++ stored_terms e)

  -- "A value is a sum: a count of terms"
  unfoldable pub stored_sum : Sum → List ℕ
  stored_sum e = terms e ∷ stored_terms e

  unfoldable pub stored_take : Share → List ℕ
  stored_take (facility f) = 4 ∷ f ∷ []
  stored_take (storage v b) = 6 ∷ own_number v ∷ b ∷ []

  unfoldable pub stored_free : Share → List ℕ
  stored_free (facility f) = 5 ∷ f ∷ []
  stored_free (storage v b) = 7 ∷ own_number v ∷ b ∷ []

  -- 8 without a back count, 17 with one
  unfoldable pub stored_wait : Code → (server back : ℕ) → List ℕ
  stored_wait code v zero = 8 ∷ suc (code_index code) ∷ own_number v ∷ []
  stored_wait code v (suc c) = 17 ∷ suc (code_index code) ∷ own_number v ∷ suc c ∷ []

  unfoldable pub stored_move : Condition → (target : ℕ) → List ℕ
  stored_move (when_true a r b) target = 10 ∷ (stored_term a ++ (relation_number r ∷ (stored_term b ++ (target ∷ []))))
  stored_move always target = 11 ∷ target ∷ []

  unfoldable pub stored_count : Change → (queue : ℕ) → List ℕ
  stored_count up q = 15 ∷ q ∷ []
  stored_count down q = 16 ∷ q ∷ []

  unfoldable pub stored_block : Block → List ℕ
  stored_block (generate list p) = 1 ∷ list ∷ p ∷ []
  stored_block (advance list) = 2 ∷ list ∷ []
  stored_block (terminate a) = 3 ∷ a ∷ []
  stored_block (takes x) = stored_take x
  stored_block (frees x) = stored_free x
  stored_block (wait_server code v c) = stored_wait code v c
  stored_block (wait_terms a r b) = 9 ∷ (stored_term a ++ (relation_number r ∷ stored_term b))
  stored_block (moves c target) = stored_move c target
  stored_block (assign k a) = 12 ∷ k ∷ stored_term a
  stored_block (priority p) = 13 ∷ p ∷ []
  stored_block (split n target) = 14 ∷ n ∷ target ∷ []
  stored_block (counts c q) = stored_count c q
  stored_block (assemble n) = 18 ∷ n ∷ []
  stored_block (preempt f) = 19 ∷ f ∷ []
  stored_block (give_back f) = 20 ∷ f ∷ []

-- "edition; facilities; storages and each capacity; queues; values and their sums; lists; counter; blocks and each block"
unfoldable pub stored_model : BlockModel → List ℕ
stored_model m =
    m.edition ∷ m.facilities ∷ length m.capacities
    ∷ (m.capacities
    ++ (m.queues ∷ length m.values
    ∷ (flat (map (stored_sum m.facilities) m.values)
    ++ (m.lists ∷ m.counter ∷ length m.blocks ∷ flat (map (stored_block m.facilities) m.blocks)))))

unfoldable pub numbers_bytes : List ℕ → List ℕ
numbers_bytes l = flat (map number_bytes l)

abbrev pub model_bytes : BlockModel → List ℕ
model_bytes m = numbers_bytes (stored_model m)
