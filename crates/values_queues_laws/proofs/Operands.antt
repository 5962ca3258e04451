-- The terms of block i (from 0) in the tables, and what stands behind them.
use Rattle.machine.specs.All.{ℕ, ◌+◌, ◌*◌, ◌<◌, ◌≡◌, sym, ap, ◌∙◌, subst, true, List, [], ◌++◌, arith, T, length, get_or, Term, Relation, Block, branch, assign, terminate, BlockModel}
use Rattle.layout.specs.All.{block_forms, term_numbers, block_numbers, At, small_term, small_block, Represents}
use Rattle.layout.specs.Layout as Layout
use Rattle.evaluation.specs.Nested.{nested_term, nested_block, Nested}
use Rattle.evaluation.proofs.{Found.at_first, Found.at_back, Terms.and_left, Terms.and_right, Laws.two-numbers}
use mathlib.Core.Bool.{◌&&◌}
use mathlib.Core.List.{◌∷◌}
use Rattle.layout.specs.Numbers.{relation_number}

module _ {m : BlockModel} {tape : List (List ℕ)} {tape_bytes tables lists : List ℕ}
    (rep : Represents m tape tape_bytes tables lists) (i : ℕ) (inside : i < length m.blocks) where
  pub numbers : (b : Block) → get_or m.blocks i (terminate 0) ≡ b → At tables (Layout.block_width * i) (block_numbers b)
  numbers b e = subst (λ (x : Block). At tables (Layout.block_width * i) (block_numbers x)) e (rep.blocks i inside)

  module _ (nested : Nested m) where
    -- a term of a LET: small constants, no brackets
    pub assign-term : (k : ℕ) (a : Term) → get_or m.blocks i (terminate 0) ≡ assign k a → T (small_term a) × T (nested_term 0 a)
    unfolding nested_block block_forms
    assign-term k a e = (
      and_left (small_term a) true (subst (λ (x : Block). T (small_block x)) e (rep.small-blocks i)),
      and_left (nested_term 0 a) true (subst (λ (x : Block). T (nested_block x)) e (nested.blocks i)),
    )

    -- the target of an IF stands behind two terms and a relation
    pub branch-target : (a : Term) (o : Relation) (b : Term) (target : ℕ) → get_or m.blocks i (terminate 0) ≡ branch a o b target
        → get_or tables (Layout.block_width * i + 6) 0 ≡ target
    unfolding nested_block block_forms
    branch-target a o b target e =
        let base = Layout.block_width * i in
        let both : T (nested_block (branch a o b target)) = subst (λ (x : Block). T (nested_block x)) e (nested.blocks i) in
        let left = two-numbers a (and_left (nested_term 0 a) (nested_term 0 b && true) both) in
        let right = two-numbers b (and_left (nested_term 0 b) true (and_right (nested_term 0 a) (nested_term 0 b && true) both)) in
        let rest = term_numbers b ++ (target ∷ []) in
        let first = (at_first tables base 10 (term_numbers a ++ (relation_number o ∷ rest)) (numbers (branch a o b target) e)).after in
        let relation = at_back tables (base + 1) (term_numbers a) (relation_number o ∷ rest) first in
        let last =
        at_back tables (base + 1 + length (term_numbers a) + 1) (term_numbers b) (target ∷ [])
        (at_first tables (base + 1 + length (term_numbers a)) (relation_number o) rest relation).after in
        let place : base + 6 ≡ base + 1 + length (term_numbers a) + 1 + length (term_numbers b) = omega (arith, left, right) in
        ap (λ (n : ℕ). get_or tables n 0) place
        ∙ sym (at_first tables (base + 1 + length (term_numbers a) + 1 + length (term_numbers b)) target [] last).found
