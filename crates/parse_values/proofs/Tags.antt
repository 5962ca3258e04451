-- The number after a tag from 0 to 9, pure: its range, the term that it makes and how that term is kept.
use Rattle.machine.specs.All.{ℕ, zero, suc, ◌+◌, ◌-◌, ◌≤◌, max, arith, ◌≡◌, refl, ap, cond, List, [], ◌∷◌, eqb, T, le-leb, Cursor, parsed, Parser, continue, field, Term, value, Counts, simple_term, value_number, mention_field, mentioned, relation_of}
use Rattle.layout.specs.All.{term_numbers, relation_number, small_term}
use Rattle.parse_values.specs.{range_of, term_of, operand_field, term_named}

-- a law of every tag is a law of each
pub by-tag : (P : ℕ → Type 0) → P 0 → P 1 → P 2 → P 3 → P 4 → P 5 → P 6 → P 7 → P 8 → P 9 → (tag : ℕ) → tag ≤ 9 → P tag
by-tag P a b c d e f g h i j zero l = a
by-tag P a b c d e f g h i j (suc zero) l = b
by-tag P a b c d e f g h i j (suc (suc zero)) l = c
by-tag P a b c d e f g h i j (suc (suc (suc zero))) l = d
by-tag P a b c d e f g h i j (suc (suc (suc (suc zero)))) l = e
by-tag P a b c d e f g h i j (suc (suc (suc (suc (suc zero))))) l = f
by-tag P a b c d e f g h i j (suc (suc (suc (suc (suc (suc zero)))))) l = g
by-tag P a b c d e f g h i j (suc (suc (suc (suc (suc (suc (suc zero))))))) l = h
by-tag P a b c d e f g h i j (suc (suc (suc (suc (suc (suc (suc (suc zero)))))))) l = i
by-tag P a b c d e f g h i j (suc (suc (suc (suc (suc (suc (suc (suc (suc zero))))))))) l = j
by-tag P a b c d e f g h i j (suc (suc (suc (suc (suc (suc (suc (suc (suc (suc n)))))))))) l = absurd (omega arith)

module _ (n : Counts) where
  -- what a block's term reads after its tag
  pub block-operand : (s : List ℕ) (c : Cursor) (tag : ℕ) → tag ≤ 9 →
      cond (eqb tag 9) (λ (d : Cursor). continue (field s 3 1 n.values d) (λ k e. parsed (value k) e)) (simple_term (field s 3) n tag) c
      ≡ continue (field s 3 (range_of n tag).lo (range_of n tag).hi c) (λ k d. parsed (term_of n tag k) d)
  unfolding simple_term range_of term_of
  block-operand s c =
      by-tag
      (λ tag. cond (eqb tag 9) (λ (d : Cursor). continue (field s 3 1 n.values d) (λ k e. parsed (value k) e))
      (simple_term (field s 3) n tag) c
      ≡ continue (field s 3 (range_of n tag).lo (range_of n tag).hi c) (λ k d. parsed (term_of n tag k) d))
      refl refl refl refl refl refl refl refl refl refl

  -- the same inside a value
  abbrev pub operand_rest : List ℕ → ℕ → ℕ → Parser Term
  operand_rest s tag k = cond (eqb tag 9) (λ c. continue (mentioned s k c) (λ m d. parsed (value m) d)) (λ c. parsed (term_of n tag k) c)

  pub value-operand : (s : List ℕ) (c : Cursor) (tag : ℕ) → tag ≤ 9 →
      operand_field s n tag c ≡ continue (value_number s (range_of n tag).lo (range_of n tag).hi c) (λ k d. operand_rest s tag k d)
  unfolding simple_term mention_field range_of term_of
  value-operand s c =
      by-tag
      (λ tag. operand_field s n tag c ≡ continue (value_number s (range_of n tag).lo (range_of n tag).hi c) (λ k d. operand_rest s tag k d))
      refl refl refl refl refl refl refl refl refl refl

  module _ (k : ℕ) where
    abbrev In : ℕ → Type 0
    In tag = ((range_of n tag).lo ≤ k) × (k ≤ (range_of n tag).hi)

    abbrev stored : ℕ → List ℕ
    stored tag = ((range_of n tag).plus + (k - (range_of n tag).lo)) ∷ []

    -- the numbers stored of a term with one operand are its tag and that number
    pub operand-numbers : (tag : ℕ) → tag ≤ 9 → In tag → term_numbers (term_of n tag k) ≡ tag ∷ stored tag
    unfolding range_of term_of term_numbers
    operand-numbers =
        by-tag (λ tag. In tag → term_numbers (term_of n tag k) ≡ tag ∷ stored tag)
        (λ h. ap (λ (x : ℕ). 0 ∷ x ∷ []) (omega arith))
        (λ h. ap (λ (x : ℕ). 1 ∷ x ∷ []) (omega arith))
        (λ h. ap (λ (x : ℕ). 2 ∷ x ∷ []) (omega arith))
        (λ h. ap (λ (x : ℕ). 3 ∷ x ∷ []) (omega arith))
        (λ h. ap (λ (x : ℕ). 4 ∷ x ∷ []) (omega arith))
        (λ h. ap (λ (x : ℕ). 5 ∷ x ∷ []) (omega arith))
        (λ h. ap (λ (x : ℕ). 6 ∷ x ∷ []) (omega arith))
        (λ h. ap (λ (x : ℕ). 7 ∷ x ∷ []) (omega arith))
        (λ h. ap (λ (x : ℕ). 8 ∷ x ∷ []) (omega arith))
        (λ h. ap (λ (x : ℕ). 9 ∷ x ∷ []) (omega arith))

    -- only tag 4, the entries of a block, names a block
    pub operand-named : (before : ℕ) (tag : ℕ) → tag ≤ 9 → term_named before (term_of n tag k) ≡ cond (eqb tag 4) (max before k) before
    unfolding term_of term_named
    operand-named before =
        by-tag (λ tag. term_named before (term_of n tag k) ≡ cond (eqb tag 4) (max before k) before)
        refl refl refl refl refl refl refl refl refl refl

    -- its operand fits the cell
    pub operand_small : (tag : ℕ) → tag ≤ 9 → In tag → T (small_term (term_of n tag k))
    unfolding range_of term_of small_term
    operand_small =
        by-tag (λ tag. In tag → T (small_term (term_of n tag k)))
        (λ h. rw (le-leb _ _ h.1) tt)
        (λ h. rw (le-leb _ _ h.1) tt)
        (λ h. tt) (λ h. tt) (λ h. tt) (λ h. tt) (λ h. tt) (λ h. tt) (λ h. tt) (λ h. tt)

-- a relation is stored as its number
pub relation-number : (v : ℕ) → 1 ≤ v → v ≤ 6 → relation_number (relation_of v) ≡ v
unfolding relation_number relation_of
relation-number v l h =
    by-tag (λ t. 1 ≤ t → t ≤ 6 → relation_number (relation_of t) ≡ t)
    (λ a b. absurd (omega arith)) (λ a b. refl) (λ a b. refl) (λ a b. refl) (λ a b. refl) (λ a b. refl) (λ a b. refl)
    (λ a b. absurd (omega arith)) (λ a b. absurd (omega arith)) (λ a b. absurd (omega arith))
    v (omega arith) l h
