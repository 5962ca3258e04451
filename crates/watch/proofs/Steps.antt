-- One step of the walk over terms, pure: what each way through `term` and `terms` gives.
use Rattle.machine.specs.All.{ℕ, zero, suc, ◌+◌, ◌-◌, ◌≤◌, ◌<◌, arith, List, ◌≡◌, refl, eqb, length, get_or, set, lt-ltb, le-ltb, ne_eqb, Bool, true, false, cond, ap}
use Rattle.watch.specs.{cell_of, Walked, walked, terms_from, tagged_term, term_from}

module _ (tables : List ℕ) (lower at : ℕ) (marks : List ℕ) where
  -- a walk behind the tables marks nothing
  pub term-past : (depth : ℕ) → length tables ≤ at → term_from tables lower depth at marks ≡ walked at marks
  unfolding term_from tagged_term
  term-past zero h = rw (le-ltb at (length tables) h)
  term-past (suc d) h = rw (le-ltb at (length tables) h)

  module _ (inl : at < length tables) (tag n : ℕ) (et : tag ≡ get_or tables at 0) (en : n ≡ get_or tables (at + 1) 0) where
    -- a term with one operand marks the cell that it reads
    pub term_simple : (depth : ℕ) → tag < 10 → term_from tables lower depth at marks ≡ walked (at + 2) (set marks (cell_of lower tag n) 1)
    unfolding term_from tagged_term
    term_simple zero h = rw (lt-ltb at (length tables) inl, ← et, lt-ltb tag 10 h, ← en)
    term_simple (suc d) h = rw (lt-ltb at (length tables) inl, ← et, lt-ltb tag 10 h, ← en)

    -- too deep
    pub term_deep : (depth : ℕ) → depth ≡ 0 → 10 ≤ tag → term_from tables lower depth at marks ≡ walked (at + 2) marks
    unfolding term_from tagged_term
    term_deep zero z h = rw (lt-ltb at (length tables) inl, ← et, le-ltb tag 10 h) (cond_same (eqb tag 10))
      where
        cond_same : (b : Bool) → cond {A = List ℕ → Walked} b (λ m. walked (at + 2) m) (λ m. walked (at + 2) m) marks
            ≡ walked (at + 2) marks
        cond_same true = refl
        cond_same false = refl
    term_deep (suc d) z h = absurd (omega arith)

    pub term-comparison : (depth : ℕ) → (depth ≡ 0 → ⊥) → tag ≡ 10
        → term_from tables lower depth at marks ≡ terms_from tables (term_from tables lower (depth - 1)) 0 2 (at + 2) marks
    unfolding term_from tagged_term
    term-comparison zero z h = absurd (z refl)
    term-comparison (suc d) z h =
        let below : d ≡ suc d - 1 = omega arith in
        rw (lt-ltb at (length tables) inl, ← et, h) (ap (λ (k : ℕ). terms_from tables (term_from tables lower k) 0 2 (at + 2) marks) below)

    pub term-bracket : (depth : ℕ) → (depth ≡ 0 → ⊥) → 10 ≤ tag → (tag ≡ 10 → ⊥)
        → term_from tables lower depth at marks ≡ terms_from tables (term_from tables lower (depth - 1)) 1 n (at + 2) marks
    unfolding term_from tagged_term
    term-bracket zero z h h10 = absurd (z refl)
    term-bracket (suc d) z h h10 =
        let below : d ≡ suc d - 1 = omega arith in
        rw (lt-ltb at (length tables) inl, ← et, le-ltb tag 10 h, ne_eqb tag 10 h10, ← en)
        (ap (λ (k : ℕ). terms_from tables (term_from tables lower k) 1 n (at + 2) marks) below)

module _ (tables : List ℕ) (term : ℕ → List ℕ → Walked) (skip at : ℕ) (marks : List ℕ) where
  pub terms-none : (left : ℕ) → left ≡ 0 → terms_from tables term skip left at marks ≡ walked at marks
  unfolding terms_from
  terms-none zero h = refl
  terms-none (suc left) h = absurd (omega arith)

  pub terms-past : (left : ℕ) → length tables ≤ at → terms_from tables term skip left at marks ≡ walked at marks
  unfolding terms_from
  terms-past zero h = refl
  terms-past (suc left) h = rw (le-ltb at (length tables) h)

  -- one term, and the walk over the others
  pub terms-more : (left : ℕ) → (left ≡ 0 → ⊥) → at < length tables → (next : ℕ) (after : List ℕ)
      → walked next after ≡ term (at + skip) marks
      → terms_from tables term skip left at marks ≡ terms_from tables term skip (left - 1) next after
  unfolding terms_from walked
  terms-more zero z h next after e = absurd (z refl)
  terms-more (suc left) z h next after e =
      let fewer : left ≡ suc left - 1 = omega arith in
      rw (lt-ltb at (length tables) h, ← e) (ap (λ (k : ℕ). terms_from tables term skip k next after) fewer)
