-- One step of the evaluation over the tables, pure: what each way through `term`, `sum` and `value` gives.
use Rattle.machine.specs.All.{ℕ, zero, suc, ◌+◌, ◌-◌, ◌*◌, ◌≤◌, ◌<◌, arith, List, ◌≡◌, refl, sym, ap, ◌∙◌, eqb, length, get_or, lt-ltb, le-ltb, ne_eqb, eqb-true, eqb-false, max_brackets, one_if, Bool, true, false, cond}
use Rattle.std.proofs.Common.{ℤ, pos}
use Rattle.layout.specs.Layout as Layout
use Rattle.evaluation.specs.{Worth, worth_at, joined, judged, related_by, sum_from, comparison_from, bracket_from, pair_from, nothing_at, tagged_term, term_from, value_by, value_below}

-- ---- A term by its tag

module _ (tables : List ℕ) (simple : ℕ → ℕ → ℤ) (mention : ℕ → ℤ) (at : ℕ) where
  module _ (compared bracketed : ℕ → Worth) where
    -- a term by its tag: behind the tables,
    pub tagged-past : length tables ≤ at → tagged_term tables simple mention compared bracketed at ≡ worth_at (pos 0) at
    unfolding tagged_term nothing_at
    tagged-past h = rw (le-ltb at (length tables) h)

    module _ (inl : at < length tables) (tag n : ℕ) (et : tag ≡ get_or tables at 0) (en : n ≡ get_or tables (at + 1) 0) where
      -- one operand,
      pub tagged_simple : tag < 9 → tagged_term tables simple mention compared bracketed at ≡ worth_at (simple tag n) (at + 2)
      unfolding tagged_term pair_from
      tagged_simple h = rw (lt-ltb at (length tables) inl, ← et, lt-ltb tag 9 h, en)

      -- a lower value,
      pub tagged_mention : tag ≡ 9 → tagged_term tables simple mention compared bracketed at ≡ worth_at (mention n) (at + 2)
      unfolding tagged_term pair_from
      tagged_mention h = rw (lt-ltb at (length tables) inl, ← et, h, en)

      -- a comparison in brackets,
      pub tagged-comparison : tag ≡ 10 → tagged_term tables simple mention compared bracketed at ≡ compared (at + 1)
      unfolding tagged_term
      tagged-comparison h = rw (lt-ltb at (length tables) inl, ← et, h)

      -- and a sum in brackets
      pub tagged-bracket : 9 ≤ tag → (tag ≡ 9 → ⊥) → (tag ≡ 10 → ⊥)
          → tagged_term tables simple mention compared bracketed at ≡ bracketed (at + 1)
      unfolding tagged_term
      tagged-bracket h h9 h10 = rw (lt-ltb at (length tables) inl, ← et, le-ltb tag 9 h, ne_eqb tag 9 h9, ne_eqb tag 10 h10)

  pub term-past : (depth : ℕ) → length tables ≤ at → term_from tables simple mention depth at ≡ worth_at (pos 0) at
  unfolding term_from
  term-past zero h = tagged-past _ _ h
  term-past (suc d) h = tagged-past _ _ h

  module _ (inl : at < length tables) (tag n : ℕ) (et : tag ≡ get_or tables at 0) (en : n ≡ get_or tables (at + 1) 0) where
    pub term_simple : (depth : ℕ) → tag < 9 → term_from tables simple mention depth at ≡ worth_at (simple tag n) (at + 2)
    unfolding term_from
    term_simple zero h = tagged_simple _ _ inl tag n et en h
    term_simple (suc d) h = tagged_simple _ _ inl tag n et en h

    pub term_mention : (depth : ℕ) → tag ≡ 9 → term_from tables simple mention depth at ≡ worth_at (mention n) (at + 2)
    unfolding term_from
    term_mention zero h = tagged_mention _ _ inl tag n et en h
    term_mention (suc d) h = tagged_mention _ _ inl tag n et en h

    -- too deep
    pub term_deep : (depth : ℕ) → depth ≡ 0 → 9 ≤ tag → (tag ≡ 9 → ⊥) → term_from tables simple mention depth at ≡ worth_at (pos 0) (at + 1)
    unfolding term_from nothing_at
    term_deep zero z h h9 = go (eqb tag 10) refl
      where
        go : (t : Bool) → eqb tag 10 ≡ t
            → tagged_term tables simple mention (nothing_at tables) (nothing_at tables) at ≡ worth_at (pos 0) (at + 1)
        go true e = tagged-comparison _ _ inl tag n et en (eqb-true tag 10 e)
        go false e = tagged-bracket _ _ inl tag n et en h h9 (eqb-false tag 10 e)
    term_deep (suc d) z h h9 = absurd (omega arith)

    pub term-comparison : (depth : ℕ) → (depth ≡ 0 → ⊥) → tag ≡ 10 →
        term_from tables simple mention depth at ≡ comparison_from tables (term_from tables simple mention (depth - 1)) (at + 1)
    unfolding term_from
    term-comparison zero z h = absurd (z refl)
    term-comparison (suc d) z h =
        let below : d ≡ suc d - 1 = omega arith in
        tagged-comparison _ _ inl tag n et en h
        ∙ ap (λ (k : ℕ). comparison_from tables (term_from tables simple mention k) (at + 1)) below

    pub term-bracket : (depth : ℕ) → (depth ≡ 0 → ⊥) → 9 ≤ tag → (tag ≡ 9 → ⊥) → (tag ≡ 10 → ⊥) →
        term_from tables simple mention depth at ≡ sum_from tables (term_from tables simple mention (depth - 1)) n (pos 0) (at + 2)
    unfolding term_from bracket_from
    term-bracket zero z h h9 h10 = absurd (z refl)
    term-bracket (suc d) z h h9 h10 =
        let next : at + 1 + 1 ≡ at + 2 = omega arith in
        let below : d ≡ suc d - 1 = omega arith in
        tagged-bracket _ _ inl tag n et en h h9 h10
        ∙ rw (← en, next) (ap (λ (k : ℕ). sum_from tables (term_from tables simple mention k) n (pos 0) (at + 2)) below)

-- ---- Sums

module _ (tables : List ℕ) (term : ℕ → Worth) (so_far : ℤ) (at : ℕ) where
  pub sum-none : (left : ℕ) → left ≡ 0 → sum_from tables term left so_far at ≡ worth_at so_far at
  unfolding sum_from
  sum-none zero h = refl
  sum-none (suc left) h = absurd (omega arith)

  pub sum_past : (left : ℕ) → length tables ≤ at → sum_from tables term left so_far at ≡ worth_at so_far at
  unfolding sum_from
  sum_past zero h = refl
  sum_past (suc left) h = rw (le-ltb at (length tables) h)

  pub sum_more : (left : ℕ) → (left ≡ 0 → ⊥) → at < length tables →
      sum_from tables term left so_far at
      ≡ sum_from tables term (left - 1) (joined (get_or tables at 0) so_far (term (at + 1)).worth) (term (at + 1)).next
  unfolding sum_from
  sum_more zero z h = absurd (z refl)
  sum_more (suc left) z h =
      let fewer : left ≡ suc left - 1 = omega arith in
      rw (lt-ltb at (length tables) h)
      (ap (λ (k : ℕ). sum_from tables term k (joined (get_or tables at 0) so_far (term (at + 1)).worth) (term (at + 1)).next) fewer)

-- ---- Values

module _ (tables : List ℕ) (simple : ℕ → ℕ → ℤ) (k : ℕ) where
  -- a value that is not lower counts as 0
  pub value_none : (lower : ℕ) → lower ≤ k → value_below tables simple lower k ≡ pos 0
  unfolding value_below
  value_none zero h = refl
  value_none (suc l) h = rw (ne_eqb k l (λ e. omega arith)) (value_none l (omega arith))

  -- a lower one is worth its sum, in which again only lower ones count
  pub value-some : (lower : ℕ) → k < lower → value_below tables simple lower k ≡ value_by tables simple (value_below tables simple k) k
  unfolding value_below
  value-some zero h = absurd (omega arith)
  value-some (suc l) h = go (eqb k l) refl (value-some l)
    where
      go : (t : Bool) → eqb k l ≡ t → (k < l → value_below tables simple l k ≡ value_by tables simple (value_below tables simple k) k) →
          cond t (value_by tables simple (value_below tables simple l)) (value_below tables simple l) k
          ≡ value_by tables simple (value_below tables simple k) k
      go true e ih = rw (← eqb-true k l e)
      go false e ih = let ne = eqb-false k l e in ih (omega arith)

-- ---- The same of what calls return

module _ (tables : List ℕ) (term : ℕ → Worth) (at n : ℕ) (en : n ≡ get_or tables at 0) where
  -- first side, then the second from where it ended, then the relation
  pub comparison-step : (a : Worth) → a ≡ term (at + 1) → (next : ℕ) → next ≡ a.next → (b : Worth) → b ≡ term next → (r : Worth)
      → r ≡ judged n a b →
      r ≡ comparison_from tables term at
  unfolding comparison_from judged
  comparison-step a ea next ex b eb r er = er ∙ rw (eb, ex, ea, en)

  -- one signed term, and the others
  pub sum_step : (left : ℕ) → (left ≡ 0 → ⊥) → at < length tables → (so_far : ℤ) (t : Worth) → t ≡ term (at + 1) →
      (x y z : ℤ) → x ≡ so_far → y ≡ t.worth → z ≡ joined n x y → (next : ℕ) → next ≡ t.next →
      (r : Worth) → r ≡ sum_from tables term (left - 1) z next → r ≡ sum_from tables term left so_far at
  sum_step left ne inl so_far t et x y z ex ey ez next ex' r er =
      er ∙ rw (ez, ey, ex, en, ex', et) (sym (sum_more tables term so_far at left ne inl))

-- what a comparison is worth, and where its second term ended
pub judged-is : (n : ℕ) (a b : Worth) (z : ℤ) → z ≡ one_if (related_by n a.worth b.worth) → worth_at z b.next ≡ judged n a b
unfolding judged
judged-is n a b z e = ap (λ (y : ℤ). worth_at y b.next) e

-- past the tables a sum of nothing
pub value-past : (tables : List ℕ) (simple : ℕ → ℕ → ℤ) (k lower : ℕ) → k < lower
    → length tables ≤ Layout.values + Layout.value_width * k + 1 →
    pos 0 ≡ value_below tables simple lower k
unfolding value_by bracket_from
value-past tables simple k lower h past =
    sym (value-some tables simple k lower h ∙ ap (λ (w : Worth). w.worth) (sum_past tables _ (pos 0) _ _ past))

-- a value's count of terms, then its sum
pub value-step : (tables : List ℕ) (simple : ℕ → ℕ → ℤ) (k lower : ℕ) → k < lower → (count : ℕ) →
    count ≡ get_or tables (Layout.values + Layout.value_width * k) 0 → (r : Worth) →
    r ≡ sum_from tables (term_from tables simple (value_below tables simple k) max_brackets) count (pos 0)
    (Layout.values + Layout.value_width * k + 1) →
    r.worth ≡ value_below tables simple lower k
unfolding value_by bracket_from
value-step tables simple k lower h count ec r er =
    ap (λ (w : Worth). w.worth) (rw ec at er) ∙ sym (value-some tables simple k lower h)
