-- What the entry points give is what the machine says of the blocks that have terms: LET, WAITIF and IF. For callers.
use Rattle.machine.specs.All.{ℕ, ◌+◌, ◌*◌, ◌<◌, arith, true, List, ◌∷◌, ◌++◌, ◌≡◌, refl, ap, subst, T, length, get_or, View, Relation, Term, constant, minus_constant, parameter, clock_term, entries_of, content_of, units_in_use, units_free, facility_in_use, value, comparison, bracket, evaluate, compare, Block, branch, assign, terminate, BlockModel, ◌&&◌, [], worths}
use Rattle.layout.specs.All.{block_forms, relation_number, term_numbers, block_numbers, At, small_term, small_block, Represents}
use Rattle.layout.specs.Layout as Layout
use Rattle.evaluation.specs.{Worth, term_at, compare_at, nested_term, nested_block, parameters_of}
use Rattle.evaluation.specs.{Nested.Nested, Sees.Sees}
use Rattle.evaluation.proofs as our
use our.Found.{at_first, at_front, at_back}
use our.Terms.{and_left, and_right, related-by, term_found}
use our.Values.{Values, all_found}

-- a term with no bracket is two numbers
pub two-numbers : (t : Term) → T (nested_term 0 t) → length (term_numbers t) ≡ 2
unfolding nested_term term_numbers
two-numbers (constant n) h = refl
two-numbers (minus_constant n) h = refl
two-numbers (parameter k) h = refl
two-numbers clock_term h = refl
two-numbers (entries_of b) h = refl
two-numbers (content_of q) h = refl
two-numbers (units_in_use v) h = refl
two-numbers (units_free v) h = refl
two-numbers (facility_in_use v) h = refl
two-numbers (value k) h = refl
two-numbers (comparison r a b) h = absurd h
two-numbers (bracket e) h = absurd h

module _ {m : BlockModel} {tape : List (List ℕ)} {tape_bytes tables lists : List ℕ} (r : Represents m tape tape_bytes tables lists)
    (n : Nested m)
    {w : View} {tally : List ℕ} {clock : ℕ} (s : Sees w tables tally clock) (p : List ℕ) where
  values : Values m.values tables
  values = record { stored = r.values; small = r.small-values; nested = n.values }

  -- a term at a position
  pub term_law : (t : Term) (at : ℕ) → At tables at (term_numbers t) → T (small_term t) → T (nested_term 0 t) →
      term_at tables tally (length m.values) clock p at ≡ evaluate m.values w (parameters_of p) t
  unfolding term_at evaluate
  term_law t at h small nested =
      ap (λ (x : Worth). x.worth)
      (term_found s p (worths w (parameters_of p) m.values []) _ (all_found s p values) t 0 at h small nested)

  -- left, relation and right from a position on
  pub compare_law : (a : Term) (o : Relation) (b : Term) (rest : List ℕ) (at : ℕ)
      → At tables at (term_numbers a ++ (relation_number o ∷ (term_numbers b ++ rest))) →
      T (small_term a) → T (small_term b) → T (nested_term 0 a) → T (nested_term 0 b) →
      compare_at tables tally (length m.values) clock p at ≡ compare m.values w (parameters_of p) a o b
  unfolding compare_at compare
  compare_law a o b rest at h sa sb na nb =
      let back : At tables (at + 2) (relation_number o ∷ (term_numbers b ++ rest)) =
      subst (λ (k : ℕ). At tables (at + k) (relation_number o ∷ (term_numbers b ++ rest))) (two-numbers a na)
      (at_back tables at (term_numbers a) (relation_number o ∷ (term_numbers b ++ rest)) h) in
      let f = at_first tables (at + 2) (relation_number o) (term_numbers b ++ rest) back in
      let next : at + 2 + 1 ≡ at + 3 = omega arith in
      let right : At tables (at + 3) (term_numbers b) =
      subst (λ (k : ℕ). At tables k (term_numbers b)) next (at_front tables (at + 2 + 1) (term_numbers b) rest f.after) in
      rw (
        ← f.found,
        term_law a at (at_front tables at (term_numbers a) (relation_number o ∷ (term_numbers b ++ rest)) h) sa na,
        term_law b (at + 3) right sb nb,
      )
      (related-by o _ _)

  -- ---- Block i (from 0), by its kind

  module _ (i : ℕ) (inside : i < length m.blocks) where
    numbers : (b : Block) → get_or m.blocks i (terminate 0) ≡ b → At tables (Layout.block_width * i) (block_numbers b)
    numbers b e = rw e at (r.blocks i inside)

    small : (b : Block) → get_or m.blocks i (terminate 0) ≡ b → T (small_block b)
    small b e = rw e at (r.small-blocks i)

    nested : (b : Block) → get_or m.blocks i (terminate 0) ≡ b → T (nested_block b)
    nested b e = rw e at (n.blocks i)

    -- 12 LET k, a
    pub let_law : (k : ℕ) (a : Term) → get_or m.blocks i (terminate 0) ≡ assign k a →
        term_at tables tally (length m.values) clock p (Layout.block_width * i + 2) ≡ evaluate m.values w (parameters_of p) a
    unfolding nested_block block_forms
    let_law k a e =
        let base = Layout.block_width * i in
        let f = at_first tables base 12 _ (numbers _ e) in
        let g = at_first tables (base + 1) _ _ f.after in
        let next : base + 1 + 1 ≡ base + 2 = omega arith in
        term_law a _ (rw next at g.after)
        (and_left (small_term a) true (small _ e)) (and_left (nested_term 0 a) true (nested _ e))

    -- 10 IF a, o, b, target
    pub if_law : (a : Term) (o : Relation) (b : Term) (target : ℕ) → get_or m.blocks i (terminate 0) ≡ branch a o b target →
        compare_at tables tally (length m.values) clock p (Layout.block_width * i + 1) ≡ compare m.values w (parameters_of p) a o b
    unfolding nested_block block_forms
    if_law a o b target e =
        let block = branch a o b target in
        let f = at_first tables (Layout.block_width * i) 10 (term_numbers a ++ (relation_number o ∷ (term_numbers b ++ (target ∷ []))))
        (numbers block e) in
        compare_law a o b (target ∷ []) (Layout.block_width * i + 1) f.after
        (and_left (small_term a) (small_term b && true) (small block e))
        (and_left (small_term b) true (and_right (small_term a) (small_term b && true) (small block e)))
        (and_left (nested_term 0 a) (nested_term 0 b && true) (nested block e))
        (and_left (nested_term 0 b) true (and_right (nested_term 0 a) (nested_term 0 b && true) (nested block e)))
