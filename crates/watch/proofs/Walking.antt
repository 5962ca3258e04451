-- The walk marks the cells of what a term or a sum names, where its numbers stand in the tables.
use Rattle.machine.specs.All.{ℕ, suc, ◌+◌, ◌-◌, ◌%◌, ◌≤◌, ◌<◌, arith, cond, List, [], ◌∷◌, ◌++◌, ◌≡◌, refl, sym, ap, ap₂, ◌∙◌, subst, ltb, lit<, lit≤, length, set, length-append, Term, constant, minus_constant, parameter, clock_term, entries_of, content_of, units_in_use, units_free, facility_in_use, value, comparison, bracket, Sum, nothing, plus, minus}
use Rattle.layout.specs.All.{relation_number, terms, term_numbers, signed_terms, At}
use Rattle.evaluation.proofs.Found.{at_first, at_front, at_back}
use Rattle.watch.specs.{queue_marks, server_marks, value_marks, clock_mark, own_mark, no_mark, cell_of, Walked, walked, terms_from, term_from}
use Rattle.watch.proofs.Steps.{term_simple, term-comparison, term-bracket, terms-none, terms-more}

-- ---- Cells

-- one after the other
unfoldable pub mark_all : List ℕ → List ℕ → List ℕ
mark_all [] marks = marks
mark_all (c ∷ l) marks = mark_all l (set marks c 1)

pub mark_all-append : (a b marks : List ℕ) → mark_all (a ++ b) marks ≡ mark_all b (mark_all a marks)
unfolding mark_all
mark_all-append [] b marks = refl
mark_all-append (c ∷ a) b marks = mark_all-append a b (set marks c 1)

unfoldable pub value_cell_lem : (lower k : ℕ) → ℕ
value_cell_lem lower k = cond (ltb k lower) (value_marks + k % 8) no_mark

-- the cells of what a term or a sum names
module _ (lower : ℕ) where
  unfoldable mutual
    pub term_cells : Term → List ℕ
    term_cells (constant n) = no_mark ∷ []
    term_cells (minus_constant n) = no_mark ∷ []
    term_cells (parameter k) = own_mark ∷ []
    term_cells clock_term = clock_mark ∷ []
    term_cells (entries_of b) = (b - 1) % 256 ∷ []
    term_cells (content_of q) = (queue_marks + (q - 1) % 32) ∷ []
    term_cells (units_in_use v) = (server_marks + (v - 1) % 64) ∷ []
    term_cells (units_free v) = (server_marks + (v - 1) % 64) ∷ []
    term_cells (facility_in_use v) = (server_marks + (v - 1) % 64) ∷ []
    term_cells (value k) = value_cell_lem lower (k - 1) ∷ []
    term_cells (comparison r a b) = term_cells a ++ term_cells b
    term_cells (bracket e) = sum_cells e

    pub sum_cells : Sum → List ℕ
    sum_cells nothing = []
    sum_cells (plus t e) = term_cells t ++ sum_cells e
    sum_cells (minus t e) = term_cells t ++ sum_cells e

-- ---- The walk

module _ (tables : List ℕ) (lower : ℕ) where
  -- a tag and a number
  simple : (depth at : ℕ) (tag n c : ℕ) (marks : List ℕ) → At tables at (tag ∷ n ∷ []) → tag < 10 → cell_of lower tag n ≡ c
      → term_from tables lower depth at marks ≡ walked (at + 2) (mark_all (c ∷ []) marks)
  unfolding mark_all
  simple depth at tag n c marks h l e =
      let f = at_first tables at tag (n ∷ []) h in
      let g = at_first tables (at + 1) n [] f.after in
      term_simple tables lower at marks f.inside tag n f.found g.found depth l
      ∙ ap (λ (i : ℕ). walked (at + 2) (set marks i 1)) e

  -- two terms of a comparison
  both : (term : ℕ → List ℕ → Walked) (at next after : ℕ) (marks marks₁ marks₂ : List ℕ) → at < length tables → next < length tables
      → term at marks ≡ walked next marks₁ → term next marks₁ ≡ walked after marks₂
      → terms_from tables term 0 2 at marks ≡ walked after marks₂
  both term at next after marks marks₁ marks₂ h k e f =
      let none : (n : ℕ) → n + 0 ≡ n = λ n. omega arith in
      terms-more tables term 0 at marks 2 (λ z. omega arith) h next marks₁ (sym (ap (λ (i : ℕ). term i marks) (none at) ∙ e))
      ∙ terms-more tables term 0 next marks₁ 1 (λ z. omega arith) k after marks₂ (sym (ap (λ (i : ℕ). term i marks₁) (none next) ∙ f))
      ∙ terms-none tables term 0 after marks₂ 0 refl

  -- a term stands where it begins
  inside : (t : Term) (at : ℕ) → At tables at (term_numbers t) → at < length tables
  unfolding term_numbers
  inside (constant n) at h = (at_first tables at _ _ h).inside
  inside (minus_constant n) at h = (at_first tables at _ _ h).inside
  inside (parameter k) at h = (at_first tables at _ _ h).inside
  inside clock_term at h = (at_first tables at _ _ h).inside
  inside (entries_of b) at h = (at_first tables at _ _ h).inside
  inside (content_of q) at h = (at_first tables at _ _ h).inside
  inside (units_in_use v) at h = (at_first tables at _ _ h).inside
  inside (units_free v) at h = (at_first tables at _ _ h).inside
  inside (facility_in_use v) at h = (at_first tables at _ _ h).inside
  inside (value k) at h = (at_first tables at _ _ h).inside
  inside (comparison r a b) at h = (at_first tables at _ _ h).inside
  inside (bracket e) at h = (at_first tables at _ _ h).inside

  -- a sum, from its first term and the rest
  next-term : (sign : ℕ) (t : Term) (e : Sum) (depth at : ℕ) (marks : List ℕ) → At tables at (sign ∷ (term_numbers t ++ signed_terms e))
      → term_from tables lower depth (at + 1) marks ≡ walked (at + 1 + length (term_numbers t)) (mark_all (term_cells lower t) marks)
      → terms_from tables (term_from tables lower depth) 1 (terms e) (at + 1 + length (term_numbers t)) (mark_all (term_cells lower t) marks)
      ≡ walked (at + 1 + length (term_numbers t) + length (signed_terms e)) (mark_all (sum_cells lower e) (mark_all (term_cells lower t) marks))
      → terms_from tables (term_from tables lower depth) 1 (suc (terms e)) at marks
      ≡ walked (at + suc (length (term_numbers t ++ signed_terms e))) (mark_all (term_cells lower t ++ sum_cells lower e) marks)
  next-term sign t e depth at marks h first rest =
      let f = at_first tables at sign (term_numbers t ++ signed_terms e) h in
      let one : suc (terms e) - 1 ≡ terms e = omega arith in
      let end : at + 1 + length (term_numbers t) + length (signed_terms e) ≡ at + suc (length (term_numbers t ++ signed_terms e))
      = omega (arith, length-append (term_numbers t) (signed_terms e)) in
      terms-more tables (term_from tables lower depth) 1 at marks (suc (terms e)) (λ z. omega arith) f.inside _ _ (sym first)
      ∙ ap (λ (n : ℕ). terms_from tables (term_from tables lower depth) 1 n (at + 1 + length (term_numbers t))
      (mark_all (term_cells lower t) marks)) one
      ∙ rest ∙ ap₂ walked end (sym (mark_all-append (term_cells lower t) (sum_cells lower e) marks))

  none-walked : (depth at : ℕ) (marks : List ℕ)
      → terms_from tables (term_from tables lower depth) 1 0 at marks ≡ walked (at + 0) (mark_all [] marks)
  unfolding mark_all
  none-walked depth at marks =
      let end : at ≡ at + 0 = omega arith in
      terms-none tables (term_from tables lower depth) 1 at marks 0 refl ∙ ap (λ (n : ℕ). walked n marks) end

  mutual
    unfolding terms term_numbers term_cells cell_of value_cell_lem

    -- the walk over a term's numbers marks its cells and ends behind them
    pub term-walked : (t : Term) (depth at : ℕ) (marks : List ℕ) → At tables at (term_numbers t) → length (term_numbers t) ≤ depth
        → term_from tables lower depth at marks ≡ walked (at + length (term_numbers t)) (mark_all (term_cells lower t) marks)
    term-walked (constant n) depth at marks h room = simple depth at 0 n _ marks h (lit< tt) refl
    term-walked (minus_constant n) depth at marks h room = simple depth at 1 n _ marks h (lit< tt) refl
    term-walked (parameter k) depth at marks h room = simple depth at 2 (k - 1) _ marks h (lit< tt) refl
    term-walked clock_term depth at marks h room = simple depth at 3 0 _ marks h (lit< tt) refl
    term-walked (entries_of b) depth at marks h room = simple depth at 4 (b - 1) _ marks h (lit< tt) refl
    term-walked (content_of q) depth at marks h room = simple depth at 5 (q - 1) _ marks h (lit< tt) refl
    term-walked (units_in_use v) depth at marks h room = simple depth at 6 (v - 1) _ marks h (lit< tt) refl
    term-walked (units_free v) depth at marks h room = simple depth at 7 (v - 1) _ marks h (lit< tt) refl
    term-walked (facility_in_use v) depth at marks h room = simple depth at 8 (v - 1) _ marks h (lit< tt) refl
    term-walked (value k) depth at marks h room = simple depth at 9 (k - 1) _ marks h (lit< tt) refl
    term-walked (comparison r a b) depth at marks h room =
        let f = at_first tables at 10 (relation_number r ∷ (term_numbers a ++ term_numbers b)) h in
        let g = at_first tables (at + 1) (relation_number r) (term_numbers a ++ term_numbers b) f.after in
        let two : at + 1 + 1 ≡ at + 2 = omega arith in
        let rest : At tables (at + 2) (term_numbers a ++ term_numbers b) =
        subst (λ (i : ℕ). At tables i (term_numbers a ++ term_numbers b)) two g.after in
        let atA = at_front tables (at + 2) (term_numbers a) (term_numbers b) rest in
        let at_b = at_back tables (at + 2) (term_numbers a) (term_numbers b) rest in
        let size = length-append (term_numbers a) (term_numbers b) in
        let end : at + 2 + length (term_numbers a) + length (term_numbers b) ≡ at + suc (suc (length (term_numbers a ++ term_numbers b))) =
        omega arith in
        term-comparison tables lower at marks f.inside 10 (relation_number r) f.found g.found depth (λ z. omega arith) refl
        ∙ both (term_from tables lower (depth - 1)) (at + 2) (at + 2 + length (term_numbers a))
        (at + 2 + length (term_numbers a) + length (term_numbers b))
        marks (mark_all (term_cells lower a) marks) (mark_all (term_cells lower b) (mark_all (term_cells lower a) marks))
        (inside a (at + 2) atA) (inside b (at + 2 + length (term_numbers a)) at_b)
        (term-walked a (depth - 1) (at + 2) marks atA (omega arith))
        (term-walked b (depth - 1) (at + 2 + length (term_numbers a)) (mark_all (term_cells lower a) marks) at_b (omega arith))
        ∙ ap₂ walked end (sym (mark_all-append (term_cells lower a) (term_cells lower b) marks))
    term-walked (bracket e) depth at marks h room =
        let f = at_first tables at 11 (terms e ∷ signed_terms e) h in
        let g = at_first tables (at + 1) (terms e) (signed_terms e) f.after in
        let two : at + 1 + 1 ≡ at + 2 = omega arith in
        let rest : At tables (at + 2) (signed_terms e) = subst (λ (i : ℕ). At tables i (signed_terms e)) two g.after in
        let end : at + 2 + length (signed_terms e) ≡ at + suc (suc (length (signed_terms e))) = omega arith in
        term-bracket tables lower at marks f.inside 11 (terms e) f.found g.found depth (λ z. omega arith) (lit≤ tt)
        (λ z. omega arith)
        ∙ sum-walked e (depth - 1) (at + 2) marks rest (omega arith)
        ∙ ap (λ (n : ℕ). walked n (mark_all (sum_cells lower e) marks)) end

    -- and so of a sum
    pub sum-walked : (e : Sum) (depth at : ℕ) (marks : List ℕ) → At tables at (signed_terms e) → length (signed_terms e) ≤ depth
        → terms_from tables (term_from tables lower depth) 1 (terms e) at marks
        ≡ walked (at + length (signed_terms e)) (mark_all (sum_cells lower e) marks)
    sum-walked nothing depth at marks h room = none-walked depth at marks
    sum-walked (plus t e) depth at marks h room =
        let rest = (at_first tables at 0 (term_numbers t ++ signed_terms e) h).after in
        let size = length-append (term_numbers t) (signed_terms e) in
        next-term 0 t e depth at marks h
        (term-walked t depth (at + 1) marks (at_front tables (at + 1) (term_numbers t) (signed_terms e) rest) (omega arith))
        (sum-walked e depth (at + 1 + length (term_numbers t)) (mark_all (term_cells lower t) marks)
        (at_back tables (at + 1) (term_numbers t) (signed_terms e) rest) (omega arith))
    sum-walked (minus t e) depth at marks h room =
        let rest = (at_first tables at 1 (term_numbers t ++ signed_terms e) h).after in
        let size = length-append (term_numbers t) (signed_terms e) in
        next-term 1 t e depth at marks h
        (term-walked t depth (at + 1) marks (at_front tables (at + 1) (term_numbers t) (signed_terms e) rest) (omega arith))
        (sum-walked e depth (at + 1 + length (term_numbers t)) (mark_all (term_cells lower t) marks)
        (at_back tables (at + 1) (term_numbers t) (signed_terms e) rest) (omega arith))

  -- the two terms of a WAITIF: behind its kind, and behind the relation
  pub wait-walked : (kind relation : ℕ) (a b : Term) (depth at : ℕ) (marks : List ℕ)
      → At tables at (kind ∷ (term_numbers a ++ (relation ∷ term_numbers b))) → length (term_numbers a) ≤ depth
      → length (term_numbers b) ≤ depth
      → (terms_from tables (term_from tables lower depth) 1 2 at marks).marks ≡ mark_all (term_cells lower a ++ term_cells lower b) marks
  unfolding walked
  wait-walked kind relation a b depth at marks h roomA roomB =
      let f = at_first tables at kind (term_numbers a ++ (relation ∷ term_numbers b)) h in
      let atA = at_front tables (at + 1) (term_numbers a) (relation ∷ term_numbers b) f.after in
      let g = at_first tables (at + 1 + length (term_numbers a)) relation (term_numbers b)
      (at_back tables (at + 1) (term_numbers a) (relation ∷ term_numbers b) f.after) in
      let first = term-walked a depth (at + 1) marks atA roomA in
      let second = term-walked b depth (at + 1 + length (term_numbers a) + 1) (mark_all (term_cells lower a) marks) g.after roomB in
      ap (λ (w : Walked). w.marks)
      (terms-more tables (term_from tables lower depth) 1 at marks 2 (λ z. omega arith) f.inside _ _ (sym first)
      ∙ terms-more tables (term_from tables lower depth) 1 (at + 1 + length (term_numbers a)) (mark_all (term_cells lower a) marks) 1
      (λ z. omega arith) g.inside _ _ (sym second)
      ∙ terms-none tables (term_from tables lower depth) 1 _ _ 0 refl)
      ∙ sym (mark_all-append (term_cells lower a) (term_cells lower b) marks)
