-- The numbers that are written for a value are those that the joined model stores for it.
use Rattle.machine.specs.All.{ℕ, suc, ◌+◌, ◌-◌, ◌≤◌, ◌<◌, add-zero, arith, ◌≡◌, refl, sym, ap, subst, ◌∙◌, Bool, true, false, ◌&&◌, List, [], ◌∷◌, ◌++◌, append_assoc, append-nil, le-leb, lt-leb, ltb-true, T, ltb, length, get_or, length-append, Term, constant, minus_constant, parameter, clock_term, entries_of, content_of, units_in_use, units_free, facility_in_use, value, comparison, bracket, Sum, nothing, plus, minus, ap₂}
use Rattle.machine.proofs.Decoding.Groups.{and_left, and_right}
use Rattle.layout.specs.All.{relation_number, term_numbers, signed_terms, terms, At}
use Rattle.evaluation.specs.Nested.{nested_term, nested_sum}
use Rattle.evaluation.proofs.Found.{at_first, at_back}
use Rattle.codec.specs.Writing.{written}
use Rattle.joined.specs.Join.{Part, term_in, sum_in}
use Rattle.join_laws.specs.declared.shift.Shift.{Shift}
use Rattle.join_laws.specs.{stored_term, stored_terms, moved_by, items, behind, opened, signs_in, sign_at, item_at, items_from}
use Rattle.join_laws.proofs as our
use our.Numbered.{Numbered, NumberedSum}
use our.RowSteps.{inner, inner-more, one_more, items-end}
use our.CarriedValues.{terms_in}
use our.BlockRows.{Moves, pair}

module _ (tables : List ℕ) (by : Shift) where
  -- ---- One term, by its tag

  item-is : (from signs tag n : ℕ) → tag ≡ get_or tables (from + signs) 0 → n ≡ get_or tables (from + signs + 1) 0
      → item_at tables by from signs ≡ sign_at tables by from signs ++ (tag ∷ moved_by by tag n ∷ [])
  unfolding item_at moved_by
  item-is from signs tag n et en = sym (ap₂ (λ t m. sign_at tables by from signs ++ (t ∷ moved_by by t m ∷ [])) et en)

  module _ (d left signs from tag n : ℕ) (within : from < length tables) (et : tag ≡ get_or tables (from + signs) 0)
      (en : n ≡ get_or tables (from + signs + 1) 0) where
    abbrev next : ℕ
    next = from + signs + 2

    step-plain : tag ≤ 9
        → items_from tables by d (suc left) signs from ≡ behind (sign_at tables by from signs ++ (tag ∷ moved_by by tag n ∷ []))
        (items_from tables by d left signs next)
    step-plain small =
        let e : suc left - 1 ≡ left = omega arith in
        one_more tables by d (suc left) signs from (written 0 []) (λ z. omega arith)
        ∙ rw (lt-leb (length tables) from within, le-leb (get_or tables (from + signs) 0) 9 (omega (arith, et)))
        (ap₂ (λ l i. behind l (items_from tables by d i signs next)) (item-is from signs tag n et en) e)

    step_open : (depth : ℕ) → d ≡ suc depth → 9 < tag
        → items_from tables by d (suc left) signs from
        ≡ behind (sign_at tables by from signs ++ (tag ∷ moved_by by tag n ∷ []))
        (behind (items_from tables by depth (opened tag n) (signs_in tag) next).numbers
        (items_from tables by d left signs (items_from tables by depth (opened tag n) (signs_in tag) next).next))
    step_open depth ed large =
        let e : suc left - 1 ≡ left = omega arith in
        one_more tables by d (suc left) signs from (written 0 []) (λ z. omega arith)
        ∙ rw (lt-leb (length tables) from within, lt-leb (get_or tables (from + signs) 0) 9 (omega (arith, et)))
        (ap₂ (λ l x. behind l (behind x.numbers (items_from tables by d (suc left - 1) signs x.next)))
        (item-is from signs tag n et en) opens_are
        ∙ ap (λ i. behind (sign_at tables by from signs ++ (tag ∷ moved_by by tag n ∷ []))
        (behind (items_from tables by depth (opened tag n) (signs_in tag) next).numbers
        (items_from tables by d i signs (items_from tables by depth (opened tag n) (signs_in tag) next).next))) e)
      where
        opens_are : inner tables by d (opened (get_or tables (from + signs) 0) (get_or tables (from + signs + 1) 0))
            (signs_in (get_or tables (from + signs) 0)) (from + signs + 2)
            ≡ items_from tables by depth (opened tag n) (signs_in tag) (from + signs + 2)
        opens_are =
            ap (λ k. inner tables by k (opened (get_or tables (from + signs) 0) (get_or tables (from + signs + 1) 0))
            (signs_in (get_or tables (from + signs) 0)) (from + signs + 2)) ed
            ∙ inner-more tables by depth _ _ _
            ∙ sym (ap₂ (λ t m. items_from tables by depth (opened t m) (signs_in t) (from + signs + 2)) et en)

-- ---- Terms and sums

module _ (p : Part) (by : Shift) (joint : ℕ) (same : Moves p by joint) (tables : List ℕ) where
  -- what a term writes, before what is left
  abbrev Writes : Term → Type 0
  Writes t =
      (d left signs from : ℕ) (rest : List ℕ) → T (nested_term d t) → signs ≤ 1 → At tables (from + signs) (term_numbers t ++ rest)
      → items_from tables by d (suc left) signs from
      ≡ behind (sign_at tables by from signs ++ stored_term joint (term_in p t))
      (items_from tables by d left signs (from + signs + length (term_numbers t)))

  simple : (t : Term) → T (nested_term 0 t) → Numbered p.facilities t → Writes t
  simple t flat k d left signs from rest h one at =
      let x = pair p by joint same t flat k in
      let there : At tables (from + signs) (x.tag ∷ x.number ∷ rest) =
      subst (λ l. At tables (from + signs) (l ++ rest)) x.numbers at in
      let f = at_first tables (from + signs) x.tag (x.number ∷ rest) there in
      let g = at_first tables (from + signs + 1) x.number rest f.after in
      step-plain tables by d left signs from x.tag x.number (omega (arith, f.inside)) f.found g.found x.small
      ∙ ap₂ (λ l i. behind (sign_at tables by from signs ++ l) (items_from tables by d left signs (from + signs + i))) (sym x.stored)
      (sym (ap length x.numbers))

  deeper : (d : ℕ) → ltb 0 d ≡ true → d ≡ suc (d - 1)
  deeper d e = omega (arith, ltb-true 0 d e)

  is_true : (b : Bool) → T b → b ≡ true
  is_true true h = refl
  is_true false h = absurd h

  -- two terms without signs, of a comparison
  two : (a b : Term) → Writes a → Writes b → (d from : ℕ) (rest : List ℕ) → T (nested_term d a && nested_term d b)
      → At tables from ((term_numbers a ++ term_numbers b) ++ rest)
      → items_from tables by d 2 0 from ≡ items (stored_term joint (term_in p a) ++ stored_term joint (term_in p b))
      (from + length (term_numbers a ++ term_numbers b))
  unfolding sign_at
  two a b wa wb d from rest h at =
      let l = term_numbers a in
      let k = term_numbers b in
      let at₁ : At tables (from + 0) (l ++ (k ++ rest)) =
      subst (λ i. At tables i (l ++ (k ++ rest))) (sym (add-zero from)) (subst (At tables from) (append_assoc l k rest) at) in
      let at₂ : At tables (from + 0 + length l + 0) (k ++ rest) =
      subst (λ i. At tables i (k ++ rest)) (sym (add-zero (from + 0 + length l))) (at_back tables (from + 0) l (k ++ rest) at₁) in
      let end : from + 0 + length l + 0 + length k ≡ from + length (l ++ k) = omega (arith, length-append l k) in
      wa d 1 0 from (k ++ rest) (and_left (nested_term d a) _ h) (omega arith) at₁
      ∙ ap (behind (stored_term joint (term_in p a))) (wb d 0 0 (from + 0 + length l) rest (and_right (nested_term d a) _ h) (omega arith) at₂)
      ∙ ap (λ i. behind (stored_term joint (term_in p a)) (behind (stored_term joint (term_in p b)) i))
      (items-end tables by d 0 (from + 0 + length l + 0 + length k))
      ∙ ap₂ (λ u i. items (stored_term joint (term_in p a) ++ u) i) (append-nil (stored_term joint (term_in p b))) end

  -- a bracket or a comparison, by what it opens
  opening : (tag n : ℕ) (numbers stored : List ℕ) → 9 < tag → moved_by by tag n ≡ n → (d left signs from : ℕ) (rest : List ℕ)
      → ltb 0 d ≡ true → signs ≤ 1
      → At tables (from + signs) (tag ∷ n ∷ (numbers ++ rest))
      → ((at : ℕ) → At tables at (numbers ++ rest) → items_from tables by (d - 1) (opened tag n) (signs_in tag) at ≡ items stored
      (at + length numbers))
      → items_from tables by d (suc left) signs from
      ≡ behind (sign_at tables by from signs ++ (tag ∷ n ∷ stored))
      (items_from tables by d left signs (from + signs + suc (suc (length numbers))))
  opening tag n numbers stored large plain d left signs from rest deep one at inside =
      let f = at_first tables (from + signs) tag (n ∷ (numbers ++ rest)) at in
      let g = at_first tables (from + signs + 1) n (numbers ++ rest) f.after in
      let place : from + signs + 1 + 1 ≡ from + signs + 2 = omega arith in
      let i = inside (from + signs + 2) (subst (λ j. At tables j (numbers ++ rest)) place g.after) in
      let end : from + signs + 2 + length numbers ≡ from + signs + suc (suc (length numbers)) = omega arith in
      step_open tables by d left signs from tag n (omega (arith, f.inside)) f.found g.found (d - 1) (deeper d deep) large
      ∙ ap (λ x. behind (sign_at tables by from signs ++ (tag ∷ moved_by by tag n ∷ []))
      (behind x.numbers (items_from tables by d left signs x.next))) i
      ∙ ap₂ (λ m j. behind (sign_at tables by from signs ++ (tag ∷ m ∷ [])) (behind stored (items_from tables by d left signs j))) plain end
      ∙ ap (λ l. items l (items_from tables by d left signs (from + signs + suc (suc (length numbers)))).next) shuffle
    where
      shuffle : (sign_at tables by from signs ++ (tag ∷ n ∷ [])) ++ (stored ++ (items_from tables by d left signs
          (from + signs + suc (suc (length numbers)))).numbers)
          ≡ (sign_at tables by from signs ++ (tag ∷ n ∷ stored)) ++ (items_from tables by d left signs
          (from + signs + suc (suc (length numbers)))).numbers
      shuffle =
          append_assoc (sign_at tables by from signs) (tag ∷ n ∷ []) _
          ∙ sym (append_assoc (sign_at tables by from signs) (tag ∷ n ∷ stored) _)

  -- a sign and its term, before the terms that are left
  signed-writes : (sign : ℕ) (t : Term) (e : Sum) → Writes t → (d : ℕ)
      → ((at : ℕ) (rest : List ℕ) → T (nested_sum d e) → At tables at (signed_terms e ++ rest) → items_from tables by d (terms e) 1 at ≡ items
      (stored_terms joint (sum_in p e)) (at + length (signed_terms e)))
      → (from : ℕ) (rest : List ℕ) → T (nested_term d t) → T (nested_sum d e)
      → At tables from (sign ∷ ((term_numbers t ++ signed_terms e) ++ rest))
      → items_from tables by d (suc (terms e)) 1 from ≡ items (sign ∷ (stored_term joint (term_in p t) ++ stored_terms joint (sum_in p e)))
      (from + suc (length (term_numbers t ++ signed_terms e)))
  unfolding sign_at moved_by
  signed-writes sign t e wt d we from rest ht he at =
      let l = term_numbers t in
      let k = signed_terms e in
      let f = at_first tables from sign ((l ++ k) ++ rest) at in
      let at₁ : At tables (from + 1) (l ++ (k ++ rest)) = subst (At tables (from + 1)) (append_assoc l k rest) f.after in
      let at₂ : At tables (from + 1 + length l) (k ++ rest) = at_back tables (from + 1) l (k ++ rest) at₁ in
      let end : from + 1 + length l + length k ≡ from + suc (length (l ++ k)) = omega (arith, length-append l k) in
      wt d (terms e) 1 from (k ++ rest) ht (omega arith) at₁
      ∙ ap (behind (get_or tables from 0 ∷ stored_term joint (term_in p t))) (we (from + 1 + length l) rest he at₂)
      ∙ ap₂ (λ s i. items (s ∷ (stored_term joint (term_in p t) ++ stored_terms joint (sum_in p e))) i) (sym f.found) end

  mutual
    unfolding nested_term term_numbers terms term_in stored_term moved_by opened signs_in

    pub term-writes : (t : Term) → Numbered p.facilities t → Writes t
    term-writes (constant n) k d left signs from rest h one at = simple (constant n) tt k d left signs from rest h one at
    term-writes (minus_constant n) k d left signs from rest h one at = simple (minus_constant n) tt k d left signs from rest h one at
    term-writes (parameter n) k d left signs from rest h one at = simple (parameter n) tt k d left signs from rest h one at
    term-writes clock_term k d left signs from rest h one at = simple clock_term tt k d left signs from rest h one at
    term-writes (entries_of b) k d left signs from rest h one at = simple (entries_of b) tt k d left signs from rest h one at
    term-writes (content_of q) k d left signs from rest h one at = simple (content_of q) tt k d left signs from rest h one at
    term-writes (units_in_use v) k d left signs from rest h one at = simple (units_in_use v) tt k d left signs from rest h one at
    term-writes (units_free v) k d left signs from rest h one at = simple (units_free v) tt k d left signs from rest h one at
    term-writes (facility_in_use v) k d left signs from rest h one at = simple (facility_in_use v) tt k d left signs from rest h one at
    term-writes (value n) k d left signs from rest h one at = simple (value n) tt k d left signs from rest h one at
    term-writes (comparison r a b) k d left signs from rest h one at =
        opening 10 (relation_number r) (term_numbers a ++ term_numbers b) (stored_term joint (term_in p a) ++ stored_term joint (term_in p b))
        (omega arith) refl d left signs from rest
        (is_true (ltb 0 d) (and_left (ltb 0 d) _ h)) one at (λ i there. two a b (λ x l g i r y o z. term-writes a k.0 x l g i r y o z)
        (λ x l g i r y o z. term-writes b k.1 x l g i r y o z) (d - 1) i rest (and_right (ltb 0 d) _ h) there)
    term-writes (bracket e) k d left signs from rest h one at =
        opening 11 (terms e) (signed_terms e) (stored_terms joint (sum_in p e)) (omega arith) refl d left signs from rest
        (is_true (ltb 0 d) (and_left (ltb 0 d) _ h)) one at
        (λ i there. sum-writes e k (d - 1) i rest (and_right (ltb 0 d) _ h) there)
        ∙ ap (λ m. behind (sign_at tables by from signs ++ (11 ∷ m ∷ stored_terms joint (sum_in p e)))
        (items_from tables by d left signs (from + signs + suc (suc (length (signed_terms e)))))) (sym (terms_in p e))

    -- by recursion on the sum, a level deeper for each term that holds others
    pub sum-writes : (e : Sum) → NumberedSum p.facilities e → (d from : ℕ) (rest : List ℕ) → T (nested_sum d e)
        → At tables from (signed_terms e ++ rest)
        → items_from tables by d (terms e) 1 from ≡ items (stored_terms joint (sum_in p e)) (from + length (signed_terms e))
    sum-writes nothing k d from rest h at = items-end tables by d 1 from ∙ ap (items []) (sym (add-zero from))
    sum-writes (plus t e) k d from rest h at =
        signed-writes 0 t e (λ x l g i r y o z. term-writes t k.0 x l g i r y o z) d
        (λ i r x y. sum-writes e k.1 d i r x y) from rest (and_left (nested_term d t) _ h) (and_right (nested_term d t) _ h) at
    sum-writes (minus t e) k d from rest h at =
        signed-writes 1 t e (λ x l g i r y o z. term-writes t k.0 x l g i r y o z) d
        (λ i r x y. sum-writes e k.1 d i r x y) from rest (and_left (nested_term d t) _ h) (and_right (nested_term d t) _ h) at
