-- What each function of the crate keeps, pure: from what its calls kept, by the definitions of the machine's parsers.
use Rattle.machine.specs.All.{ℕ, zero, suc, ◌+◌, ◌-◌, ◌≤◌, ◌<◌, max, arith, ◌≡◌, refl, ap, ◌∙◌, Bool, true, false, cond, ◌&&◌, List, [], ◌∷◌, ◌++◌, eqb, T, length, drop, set, length-append, sets, lt-ltb, le-ltb, eq-eqb, ne_eqb, eqb-true, eqb-false, Cursor, Parsed, parsed, refused, Parser, continue, field, Term, value, comparison, bracket, Sum, plus, minus, Counts, value_number, counted, mentioned, comparison_field, bracket_field, sum_field, sum_terms, tagged_term, value_term, value_field, block_term, sym, relation_of, simple_term}
use Rattle.std.specs.Prelude.{Result, Ok, Err}
use Rattle.constants.specs.{declared.refusals.Refusal.Refusal}
use Rattle.constants.specs.declared.refusals.Refusal.TheVariants.{LargeValue}
use Rattle.codec.specs.Answers.{parsed_of}
use Rattle.layout.specs.All.{term_numbers, signed_terms, sum_numbers, terms, relation_number, small_term, small_sum}
use Rattle.parse_values.specs.declared.Place.{Place}
use Rattle.parse_values.specs.{cursor_of, place_of, Taken, Stored, Shape, Takes, Stores, plain_shape, number_shape, counted_shape, range_of, term_of, operand_field, term_named, sum_named, term_shape, operand_shape, sum_shape, terms_shape, value_shape, block_term_shape}
use Rattle.parse_values.proofs as our
use our.Binds.{takes-refused, takes-known, takes-stop, takes_bind, stores-stop, stores_bind, stores-last, stores_as}
use our.Tags.{block-operand, value-operand, operand-numbers, operand-named, operand_small, relation-number}

-- ---- Cells and truths

pub sets-append : (xs ys l : List ℕ) (i j : ℕ) → j ≡ i + length xs → sets (sets l i xs) j ys ≡ sets l i (xs ++ ys)
sets-append [] ys l i j e = let f : j ≡ i = omega arith in rw f
sets-append (x ∷ xs) ys l i j e = sets-append xs ys (set l i x) (suc i) j (omega arith)

-- stored one after the other
pub sets_then : (l₀ : List ℕ) {l₁ l₂ : List ℕ} (xs ys : List ℕ) (i j : ℕ) → l₁ ≡ sets l₀ i xs → l₂ ≡ sets l₁ j ys → j ≡ i + length xs
    → l₂ ≡ sets l₀ i (xs ++ ys)
sets_then l₀ xs ys i j e f h = f ∙ rw e (sets-append xs ys l₀ i j h)

pub both : (a b : Bool) → T a → T b → T (a && b)
both true b s t = t
both false b s t = s

-- ---- Numbers

module _ {p : Place} {r : Result (ℕ × ℕ) Refusal} {P : Parsed ℕ} (e : parsed_of p.numbers p.mentions r ≡ P) where
  -- a number outside its range is not taken
  pub number-refused : {d : Refusal} (sh : Shape ℕ) → r ≡ Err d → Takes sh p 0 [] [] (Err d) P
  unfolding parsed_of
  number-refused sh told = rw (← e, told) (record { held = refl })

  pub number_read : {v next lo hi : ℕ} → r ≡ Ok (v, next) → lo ≤ v → v ≤ hi →
      Takes (plain_shape lo hi) p 0 [] []
      (Ok (v, record { position = next; numbers = p.numbers; mentions = p.mentions; named = p.named })) P
  unfolding parsed_of
  number_read told l h = rw (← e, told) (record { held = (refl, refl, (l, h, refl)) })

module _ {sh : Shape ℕ} {p : Place} {to : ℕ} {cells after : List ℕ} {r : Taken} {P : Parsed ℕ} (k : Takes sh p to cells after r P) where
  -- nothing is stored where the number is not taken
  pub keep-refused : {d : Refusal} (sh' : Shape ℕ) (p' : Place) (to' : ℕ) (cells' after' : List ℕ) → r ≡ Err d
      → Takes sh' p' to' cells' after' (Err d) P
  keep-refused sh' p' to' cells' after' told = rw (takes-refused P k told) (record { held = refl })

module _ {p : Place} {lo hi : ℕ} {r : Taken} {P : Parsed ℕ} (k : Takes (plain_shape lo hi) p 0 [] [] r P) where
  -- it is stored as it is, less the range's begin, above a given number
  pub keep-read : {v : ℕ} {q : Place} (above to : ℕ) (l : List ℕ) → r ≡ Ok (v, q) →
      Takes (number_shape lo hi above) p to l (set l to (above + (v - lo))) (Ok (v, q)) P
  keep-read {v} {q} above to l told =
      takes-known (Takes _ _ _ _ _ _) P k told
      (λ named cells fact. record { held = (ap (λ (n : ℕ). Ok (v, place_of (cursor_of q) n)) named, refl, fact) })

module _ (s : List ℕ) {p : Place} {lo hi : ℕ} {r : Taken} (k : Takes (plain_shape lo hi) p 0 [] [] r (field s 3 lo hi (cursor_of p))) where
  pub counted-refused : {d : Refusal} (sh : Shape ℕ) (to : ℕ) (cells after : List ℕ) → r ≡ Err d
      → Takes sh p to cells after (Err d) (value_number s lo hi (cursor_of p))
  unfolding value_number
  counted-refused sh to cells after told = takes-stop (Takes _ _ _ _ _ _) _ _ k told (record { held = refl })

  -- question 5: a value of more than 64 numbers
  pub counted-past : {v : ℕ} {q : Place} (sh : Shape ℕ) (to : ℕ) (cells after : List ℕ) → r ≡ Ok (v, q) → 64 ≤ q.numbers →
      Takes sh p to cells after (Err LargeValue) (value_number s lo hi (cursor_of p))
  unfolding value_number counted
  counted-past sh to cells after told h =
      takes_bind (Takes _ _ _ _ _ _) _ _ k told (λ named kept fact. rw (le-ltb _ _ h) (record { held = refl }))

  -- the number is stored at the value's next cell
  pub counted-read : {v : ℕ} {q : Place} (above base : ℕ) (l : List ℕ) → r ≡ Ok (v, q) → q.numbers < 64 →
      Takes (counted_shape lo hi above) p (base + p.numbers) l (set l (base + q.numbers) (above + (v - lo)))
      (Ok (v, record { position = q.position; numbers = q.numbers + 1; mentions = q.mentions; named = q.named }))
      (value_number s lo hi (cursor_of p))
  unfolding value_number counted
  counted-read {v} {q} above base l told h =
      takes_bind (Takes _ _ _ _ _ _) _ _ k told
      (λ named kept fact.
      rw (lt-ltb _ _ h, fact.2, named)
      (record {
        held = (
          ap (λ (n : ℕ). Ok (v, record { position = q.position; numbers = n; mentions = q.mentions; named = p.named }))
              (omega arith),
          refl,
          (fact.0, fact.1, refl, omega arith),
        );
      }))

-- ---- Terms of blocks

module _ (s : List ℕ) (n : Counts) {p : Place} {to : ℕ} {l₀ l₁ : List ℕ} {r₁ : Taken}
    (k₁ : Takes (number_shape 0 9 0) p to l₀ l₁ r₁ (field s 3 0 9 (cursor_of p))) where
  -- the tag of a block's term fails
  pub block-stop : {d : Refusal} (after : List ℕ) → r₁ ≡ Err d → Stores block_term_shape p to l₀ after (Err d) (block_term s n (cursor_of p))
  unfolding block_term
  block-stop after told = takes-stop (Stores _ _ _ _ _ _) _ _ k₁ told (record { held = refl })

  module _ {tag : ℕ} {q : Place} {l₂ : List ℕ} {r₂ : Taken} (told₁ : r₁ ≡ Ok (tag, q))
      (k₂ : Takes (number_shape (range_of n tag).lo (range_of n tag).hi (range_of n tag).plus) q (to + 1) l₁ l₂ r₂
      (field s 3 (range_of n tag).lo (range_of n tag).hi (cursor_of q))) where
    -- its number fails
    pub block-stop-2 : {d : Refusal} → r₂ ≡ Err d → Stores block_term_shape p to l₀ l₂ (Err d) (block_term s n (cursor_of p))
    unfolding block_term
    block-stop-2 told =
        takes_bind (Stores _ _ _ _ _ _) _ _ k₁ told₁
        (λ named cells fact.
        rw (block-operand n s (cursor_of q) tag fact.1) (takes-stop (Stores _ _ _ _ _ _) _ _ k₂ told (record { held = refl })))

    -- tag and number
    pub block_read : {v : ℕ} {after : Place} → r₂ ≡ Ok (v, after)
        → Stores block_term_shape p to l₀ l₂ (Ok after) (block_term s n (cursor_of p))
    unfolding block_term
    block_read {v} {after} told =
        takes_bind (Stores _ _ _ _ _ _) _ _ k₁ told₁
        (λ named₁ cells₁ fact₁.
        rw (block-operand n s (cursor_of q) tag fact₁.1)
        (takes_bind (Stores _ _ _ _ _ _) _ _ k₂ told
        (λ named₂ cells₂ fact₂.
        let e = operand-numbers n v tag fact₁.1 (fact₂.0, fact₂.1) in
        let t : 0 + (tag - 0) ≡ tag = omega arith in
        record {
          held = (
            ap (λ (m : ℕ). Ok (place_of (cursor_of after) m)) (named₂ ∙ named₁),
            rw e (sets_then l₀ (tag ∷ []) (((range_of n tag).plus + (v - (range_of n tag).lo)) ∷ []) to (to + 1) (rw t at cells₁) cells₂ refl),
            (ap length e, operand_small n v tag fact₁.1 (fact₂.0, fact₂.1)),
          );
        })))

-- ---- Operands inside a value

module _ (s : List ℕ) (n : Counts) (tag base : ℕ) (h : tag ≤ 9) {p : Place} {l₀ l₁ : List ℕ} {r₁ : Taken}
    (k : Takes (counted_shape (range_of n tag).lo (range_of n tag).hi (range_of n tag).plus) p (base + p.numbers) l₀ l₁ r₁
    (value_number s (range_of n tag).lo (range_of n tag).hi (cursor_of p))) where
  pub operand-stop : {d : Refusal} → r₁ ≡ Err d
      → Stores (operand_shape tag) p (base + p.numbers) l₀ l₁ (Err d) (operand_field s n tag (cursor_of p))
  operand-stop told = rw (value-operand n s (cursor_of p) tag h) (takes-stop (Stores _ _ _ _ _ _) _ _ k told (record { held = refl }))

  module _ {v : ℕ} {q : Place} (told : r₁ ≡ Ok (v, q)) where
    -- question 5: a third mention of values
    pub operand_third : tag ≡ 9 → 2 ≤ q.mentions
        → Stores (operand_shape tag) p (base + p.numbers) l₀ l₁ (Err LargeValue) (operand_field s n tag (cursor_of p))
    unfolding mentioned continue
    operand_third e m =
        rw (value-operand n s (cursor_of p) tag h)
        (takes_bind (Stores _ _ _ _ _ _) _ _ k told (λ named cells fact. rw (eq-eqb tag 9 e, le-ltb _ _ m) (record { held = refl })))

    -- the term that was read is kept
    kept : (c : Cursor) (r : Stored) → q.named ≡ p.named
        → l₁ ≡ sets l₀ (base + p.numbers) (((range_of n tag).plus + (v - (range_of n tag).lo)) ∷ []) →
        ((range_of n tag).lo ≤ v) × (v ≤ (range_of n tag).hi) × (q.numbers ≡ suc p.numbers) × (p.numbers < 64) →
        c.numbers ≡ q.numbers → r ≡ Ok (place_of c (cond (eqb tag 4) (max p.named v) p.named)) →
        Stores (operand_shape tag) p (base + p.numbers) l₀ l₁ r (parsed (term_of n tag v) c)
    kept c r named cells fact m a =
        let e = operand-numbers n v tag h (fact.0, fact.1) in
        record {
          held = (
            rw (operand-named n v p.named tag h) a,
            rw e cells,
            (
              record { grown = rw e (omega arith); within = omega arith },
              operand_small n v tag h (fact.0, fact.1),
              rw e refl,
            ),
          );
        }

    pub operand_mention : tag ≡ 9 → q.mentions < 2 →
        Stores (operand_shape tag) p (base + p.numbers) l₀ l₁
        (Ok (record { position = q.position; numbers = q.numbers; mentions = q.mentions + 1; named = q.named }))
        (operand_field s n tag (cursor_of p))
    unfolding mentioned continue
    operand_mention e m =
        rw (value-operand n s (cursor_of p) tag h)
        (takes_bind (Stores _ _ _ _ _ _) _ _ k told
        (λ named cells fact.
        let t : value v ≡ term_of n tag v = unfold term_of in rw e refl in
        let four : eqb tag 4 ≡ false = ne_eqb tag 4 (omega arith) in
        rw (eq-eqb tag 9 e, lt-ltb _ _ m, t)
        (kept (record { position = q.position; numbers = q.numbers; mentions = suc q.mentions }) _ named cells fact refl
        (rw (four, named)
        (ap (λ (x : ℕ). Ok (record { position = q.position; numbers = q.numbers; mentions = x; named = p.named })) (omega arith))))))

    -- tags 0 to 8
    other : (r : Stored) → (tag ≡ 9 → ⊥)
        → (q.named ≡ p.named → r ≡ Ok (place_of (cursor_of q) (cond (eqb tag 4) (max p.named v) p.named))) →
        Stores (operand_shape tag) p (base + p.numbers) l₀ l₁ r (operand_field s n tag (cursor_of p))
    other r e a =
        rw (value-operand n s (cursor_of p) tag h)
        (takes_bind (Stores _ _ _ _ _ _) _ _ k told
        (λ named cells fact. rw (ne_eqb tag 9 e) (kept (cursor_of q) r named cells fact refl (a named))))

    -- tag 4 names a block
    pub operand-entries : {largest : ℕ} → (tag ≡ 9 → ⊥) → tag ≡ 4 → largest ≡ max q.named v →
        Stores (operand_shape tag) p (base + p.numbers) l₀ l₁
        (Ok (record { position = q.position; numbers = q.numbers; mentions = q.mentions; named = largest }))
        (operand_field s n tag (cursor_of p))
    operand-entries e f g =
        other _ e (λ named. rw (eq-eqb tag 4 f, g, named) refl)

    pub operand-other : (tag ≡ 9 → ⊥) → (tag ≡ 4 → ⊥) →
        Stores (operand_shape tag) p (base + p.numbers) l₀ l₁ (Ok q) (operand_field s n tag (cursor_of p))
    operand-other e f = other _ e (λ named. rw (ne_eqb tag 4 f) (ap (λ (x : ℕ). Ok (place_of (cursor_of q) x)) named))

-- ---- Comparisons

module _ (s : List ℕ) (inner : Parser Term) (base : ℕ) {p : Place} {l₀ l₁ : List ℕ} {r₁ : Taken}
    (k₁ : Takes (counted_shape 1 6 1) p (base + p.numbers) l₀ l₁ r₁ (value_number s 1 6 (cursor_of p))) where
  pub comparison-stop : {d : Refusal} (after : List ℕ) → r₁ ≡ Err d →
      Stores (operand_shape 10) p (base + p.numbers) l₀ after (Err d) (comparison_field s inner (cursor_of p))
  unfolding comparison_field
  comparison-stop after told = takes-stop (Stores _ _ _ _ _ _) _ _ k₁ told (record { held = refl })

  module _ {v : ℕ} {q : Place} {l₂ : List ℕ} {r₂ : Stored} (told₁ : r₁ ≡ Ok (v, q))
      (k₂ : Stores term_shape q (base + q.numbers) l₁ l₂ r₂ (inner (cursor_of q))) where
    pub comparison-stop-2 : {d : Refusal} (after : List ℕ) → r₂ ≡ Err d →
        Stores (operand_shape 10) p (base + p.numbers) l₀ after (Err d) (comparison_field s inner (cursor_of p))
    unfolding comparison_field
    comparison-stop-2 after told =
        takes_bind (Stores _ _ _ _ _ _) _ _ k₁ told₁
        (λ named cells fact. stores-stop (Stores _ _ _ _ _ _) _ _ k₂ told (record { held = refl }))

    -- term, relation, term
    pub comparison-kept : {left : Place} {l₃ : List ℕ} {r₃ : Stored} → r₂ ≡ Ok left →
        Stores term_shape left (base + left.numbers) l₂ l₃ r₃ (inner (cursor_of left)) →
        Stores (operand_shape 10) p (base + p.numbers) l₀ l₃ r₃ (comparison_field s inner (cursor_of p))
    unfolding comparison_field term_numbers term_named small_term
    comparison-kept {left} {l₃} {r₃} told₂ k₃ =
        takes_bind (Stores _ _ _ _ _ _) _ _ k₁ told₁
        (λ named₁ cells₁ fact₁.
        stores_bind (Stores _ _ _ _ _ _) _ _ k₂ told₂
        (λ a named₂ cells₂ fact₂.
        stores-last (operand_shape 10) p (base + p.numbers) l₀ (λ b. comparison (relation_of v) a b) _ k₃
        (λ b c cells₃ fact₃.
        let x : 1 + (v - 1) ≡ relation_number (relation_of v) = omega (arith, relation-number v fact₁.0 fact₁.1) in
        let g₂ = fact₂.0.grown in
        let g₃ = fact₃.0.grown in (
          ap (λ (m : ℕ). term_named m b) (named₂ ∙ ap (λ (m : ℕ). term_named m a) named₁),
          sets_then l₀ (relation_number (relation_of v) ∷ []) (term_numbers a ++ term_numbers b) (base + p.numbers) (base + q.numbers)
              (rw x at cells₁)
              (sets_then l₁ (term_numbers a) (term_numbers b) (base + q.numbers) (base + left.numbers) cells₂ cells₃ (omega arith))
              (omega arith),
          (
            record { grown = simp length-append (omega arith); within = omega (arith, fact₂.0.within, fact₃.0.within) },
            both (small_term a) (small_term b) fact₂.1 fact₃.1,
            refl,
          ),
        ))))

-- ---- Sums

module _ (s : List ℕ) (inner : Parser Term) (base : ℕ) {p : Place} {l₀ l₁ : List ℕ} {r₁ : Taken}
    (k₁ : Takes (counted_shape 1 8 1) p (base + p.numbers) l₀ l₁ r₁ (value_number s 1 8 (cursor_of p))) where
  -- the count of terms fails
  pub sum-stop : {d : Refusal} (after : List ℕ) → r₁ ≡ Err d
      → Stores sum_shape p (base + p.numbers) l₀ after (Err d) (sum_field s inner (cursor_of p))
  unfolding sum_field
  sum-stop after told = takes-stop (Stores _ _ _ _ _ _) _ _ k₁ told (record { held = refl })

  -- the count, then so many terms
  pub sum_kept : {count : ℕ} {q : Place} {l₂ : List ℕ} {r₂ : Stored} → r₁ ≡ Ok (count, q) →
      Stores (terms_shape count) q (base + q.numbers) l₁ l₂ r₂ (sum_terms s count inner (cursor_of q)) →
      Stores sum_shape p (base + p.numbers) l₀ l₂ r₂ (sum_field s inner (cursor_of p))
  unfolding sum_field sum_numbers
  sum_kept {count} {q} {l₂} {r₂} told k₂ =
      takes_bind (Stores _ _ _ _ _ _) _ _ k₁ told
      (λ named cells fact.
      stores_as sum_shape p (base + p.numbers) l₀ _ k₂
      (λ e c cells₂ fact₂.
      let x : 1 + (count - 1) ≡ terms e = omega (arith, fact₂.2) in
      let g = fact₂.0.grown in (
        ap (λ (m : ℕ). sum_named m e) named,
        sets_then l₀ (terms e ∷ []) (signed_terms e) (base + p.numbers) (base + q.numbers) (rw x at cells) cells₂ (omega arith),
        (record { grown = omega arith; within = omega (arith, fact₂.0.within) }, fact₂.1),
      )))

-- the terms of a sum
module _ (s : List ℕ) (inner : Parser Term) (base : ℕ) where
  pub terms-none : (left : ℕ) (p : Place) (l : List ℕ) → left ≡ 0
      → Stores (terms_shape left) p (base + p.numbers) l l (Ok p) (sum_terms s left inner (cursor_of p))
  unfolding sum_terms signed_terms terms small_sum sum_named
  terms-none left p l e = rw e (record { held = (refl, refl, (record { grown = omega arith; within = omega arith }, tt, refl)) })

  module _ {left : ℕ} {p : Place} {l₀ l₁ : List ℕ} {r₁ : Taken}
      (k₁ : Takes (counted_shape 0 1 0) p (base + p.numbers) l₀ l₁ r₁ (value_number s 0 1 (cursor_of p))) (some : left ≡ 0 → ⊥) where
    more : left ≡ suc (left - 1)
    more = omega arith

    pub terms-stop : {d : Refusal} (after : List ℕ) → r₁ ≡ Err d →
        Stores (terms_shape left) p (base + p.numbers) l₀ after (Err d) (sum_terms s left inner (cursor_of p))
    unfolding sum_terms
    terms-stop after told = rw more (takes-stop (Stores _ _ _ _ _ _) _ _ k₁ told (record { held = refl }))

    module _ {sign : ℕ} {q : Place} {l₂ : List ℕ} {r₂ : Stored} (told₁ : r₁ ≡ Ok (sign, q))
        (k₂ : Stores term_shape q (base + q.numbers) l₁ l₂ r₂ (inner (cursor_of q))) where
      pub terms-stop-2 : {d : Refusal} (after : List ℕ) → r₂ ≡ Err d →
          Stores (terms_shape left) p (base + p.numbers) l₀ after (Err d) (sum_terms s left inner (cursor_of p))
      unfolding sum_terms
      terms-stop-2 after told =
          rw more
          (takes_bind (Stores _ _ _ _ _ _) _ _ k₁ told₁
          (λ named cells fact. stores-stop (Stores _ _ _ _ _ _) _ _ k₂ told (record { held = refl })))

      -- a term behind its sign
      signed : (b : Bool) → eqb sign 0 ≡ b → sign ≤ 1 → (t : Term) (e : Sum) →
          (signed_terms (cond b (plus t e) (minus t e)) ≡ sign ∷ (term_numbers t ++ signed_terms e))
          × ((m : ℕ) → sum_named m (cond b (plus t e) (minus t e)) ≡ sum_named (term_named m t) e)
          × (small_sum (cond b (plus t e) (minus t e)) ≡ (small_term t && small_sum e))
          × (terms (cond b (plus t e) (minus t e)) ≡ suc (terms e))
      unfolding signed_terms sum_named small_sum terms
      signed true f h t e = let z : sign ≡ 0 = eqb-true sign 0 f in (rw z, λ m. refl, refl, refl)
      signed false f h t e = let z : sign ≡ 1 = omega (arith, eqb-false sign 0 f) in (rw z, λ m. refl, refl, refl)

      -- sign, term, and the other terms
      pub terms-kept : {after : Place} {l₃ : List ℕ} {r₃ : Stored} → r₂ ≡ Ok after →
          Stores (terms_shape (left - 1)) after (base + after.numbers) l₂ l₃ r₃ (sum_terms s (left - 1) inner (cursor_of after)) →
          Stores (terms_shape left) p (base + p.numbers) l₀ l₃ r₃ (sum_terms s left inner (cursor_of p))
      unfolding sum_terms
      terms-kept {after} {l₃} {r₃} told₂ k₃ =
          rw more
          (takes_bind (Stores _ _ _ _ _ _) _ _ k₁ told₁
          (λ named₁ cells₁ fact₁.
          stores_bind (Stores _ _ _ _ _ _) _ _ k₂ told₂
          (λ t named₂ cells₂ fact₂.
          stores-last (terms_shape (suc (left - 1))) p (base + p.numbers) l₀ (λ e. cond (eqb sign 0) (plus t e) (minus t e)) _ k₃
          (λ e c cells₃ fact₃.
          let i = signed (eqb sign 0) refl fact₁.1 t e in
          let x : 0 + (sign - 0) ≡ sign = omega arith in
          let g₂ = fact₂.0.grown in
          let g₃ = fact₃.0.grown in (
            ap (λ (m : ℕ). sum_named m e) (named₂ ∙ ap (λ (m : ℕ). term_named m t) named₁) ∙ sym (i.1 p.named),
            rw i.0
                (sets_then l₀ (sign ∷ []) (term_numbers t ++ signed_terms e) (base + p.numbers) (base + q.numbers) (rw x at cells₁)
                (sets_then l₁ (term_numbers t) (signed_terms e) (base + q.numbers) (base + after.numbers) cells₂ cells₃ (omega arith))
                (omega arith)),
            (
              rw i.0 (record { grown = simp length-append (omega arith); within = omega (arith, fact₂.0.within, fact₃.0.within) }),
              rw i.2 (both (small_term t) (small_sum e) fact₂.1 fact₃.1),
              i.3 ∙ ap suc fact₃.2,
            ),
          )))))

-- ---- Terms of values

module _ (s : List ℕ) (n : Counts) where
  -- what tags 10 and 11 lead to where so many brackets may open
  abbrev compared : ℕ → Parser Term
  compared zero = λ c. refused 5
  compared (suc d) = comparison_field s (value_term s n d)

  abbrev bracketed : ℕ → Parser Term
  bracketed zero = λ c. refused 5
  bracketed (suc d) = bracket_field s (value_term s n d)

  term_tagged : (depth : ℕ) (c : Cursor) → value_term s n depth c ≡ tagged_term s n (compared depth) (bracketed depth) c
  unfolding value_term
  term_tagged zero c = refl
  term_tagged (suc d) c = refl

  compared-more : (depth : ℕ) → (depth ≡ 0 → ⊥) → compared depth ≡ comparison_field s (value_term s n (depth - 1))
  compared-more zero h = absurd (h refl)
  compared-more (suc d) h = let e : suc d - 1 ≡ d = omega arith in rw e

  bracketed-more : (depth : ℕ) → (depth ≡ 0 → ⊥) → bracketed depth ≡ bracket_field s (value_term s n (depth - 1))
  bracketed-more zero h = absurd (h refl)
  bracketed-more (suc d) h = let e : suc d - 1 ≡ d = omega arith in rw e

  module _ (base depth : ℕ) {p : Place} {l₀ l₁ : List ℕ} {r₁ : Taken}
      (k₁ : Takes (counted_shape 0 11 0) p (base + p.numbers) l₀ l₁ r₁ (value_number s 0 11 (cursor_of p))) where
    -- the tag fails
    pub term-stop : {d : Refusal} (after : List ℕ) → r₁ ≡ Err d
        → Stores term_shape p (base + p.numbers) l₀ after (Err d) (value_term s n depth (cursor_of p))
    unfolding tagged_term
    term-stop after told = rw (term_tagged depth (cursor_of p)) (takes-stop (Stores _ _ _ _ _ _) _ _ k₁ told (record { held = refl }))

    module _ {tag : ℕ} {q : Place} (told : r₁ ≡ Ok (tag, q)) where
      -- a tag and what follows it
      whole : {l₂ : List ℕ} {r₂ : Stored} (P : Parsed Term) → Stores (operand_shape tag) q (base + q.numbers) l₁ l₂ r₂ P →
          q.named ≡ p.named → l₁ ≡ set l₀ (base + p.numbers) (0 + (tag - 0)) → q.numbers ≡ suc p.numbers → p.numbers < 64 →
          Stores term_shape p (base + p.numbers) l₀ l₂ r₂ P
      whole P k named cells more room =
          stores_as term_shape p (base + p.numbers) l₀ P k
          (λ t c cells₂ fact₂.
          let x : 0 + (tag - 0) ≡ tag = omega arith in
          let g = fact₂.0.grown in
          let w = fact₂.0.within in
          let f = ap length fact₂.2 in (
            ap (λ (m : ℕ). term_named m t) named,
            sets_then l₀ (tag ∷ []) (drop 1 (term_numbers t)) (base + p.numbers) (base + q.numbers) (rw x at cells) cells₂ (omega arith)
                ∙ ap (λ (xs : List ℕ). sets l₀ (base + p.numbers) xs) (sym fact₂.2),
            (record { grown = omega arith; within = omega arith }, fact₂.1),
          ))

      -- tags up to 9 have one operand
      pub term-operand : {l₂ : List ℕ} {r₂ : Stored} → tag ≤ 9
          → Stores (operand_shape tag) q (base + q.numbers) l₁ l₂ r₂ (operand_field s n tag (cursor_of q)) →
          Stores term_shape p (base + p.numbers) l₀ l₂ r₂ (value_term s n depth (cursor_of p))
      unfolding tagged_term
      term-operand h k =
          rw (term_tagged depth (cursor_of p))
          (takes_bind (Stores _ _ _ _ _ _) _ _ k₁ told
          (λ named cells fact.
          rw (ne_eqb tag 10 (omega arith), ne_eqb tag 11 (omega arith)) (whole _ k named cells fact.2 fact.3)))

      -- question 5: brackets five deep
      pub term_fifth : (after : List ℕ) → 9 < tag → depth ≡ 0
          → Stores term_shape p (base + p.numbers) l₀ after (Err LargeValue) (value_term s n depth (cursor_of p))
      unfolding tagged_term
      term_fifth after h e =
          rw (term_tagged depth (cursor_of p), e)
          (takes_bind (Stores _ _ _ _ _ _) _ _ k₁ told
          (λ named cells fact. rw (ne_eqb tag 9 (omega arith)) (go (eqb tag 10) refl fact.1)))
        where
          go : (b : Bool) → eqb tag 10 ≡ b → tag ≤ 11 →
              Stores term_shape p (base + p.numbers) l₀ after (Err LargeValue)
              (cond b (λ (c : Cursor). refused 5) (cond (eqb tag 11) (λ (c : Cursor). refused 5) (simple_term (value_number s) n tag))
              (cursor_of q))
          go true f g = record { held = refl }
          go false f g = rw (eq-eqb tag 11 (omega (arith, eqb-false tag 10 f))) (record { held = refl })

      pub term-comparison : {l₂ : List ℕ} {r₂ : Stored} → (depth ≡ 0 → ⊥) → tag ≡ 10 →
          Stores (operand_shape 10) q (base + q.numbers) l₁ l₂ r₂ (comparison_field s (value_term s n (depth - 1)) (cursor_of q)) →
          Stores term_shape p (base + p.numbers) l₀ l₂ r₂ (value_term s n depth (cursor_of p))
      unfolding tagged_term
      term-comparison d e k =
          rw (term_tagged depth (cursor_of p))
          (takes_bind (Stores _ _ _ _ _ _) _ _ k₁ told
          (λ named cells fact.
          rw (ne_eqb tag 9 (omega arith), eq-eqb tag 10 e, compared-more depth d)
          (whole _ (rw (← e) at k) named cells fact.2 fact.3)))

      -- a bracket holds a sum
      pub term-bracket : {l₂ : List ℕ} {r₂ : Stored} → (depth ≡ 0 → ⊥) → 9 < tag → (tag ≡ 10 → ⊥) →
          Stores sum_shape q (base + q.numbers) l₁ l₂ r₂ (sum_field s (value_term s n (depth - 1)) (cursor_of q)) →
          Stores term_shape p (base + p.numbers) l₀ l₂ r₂ (value_term s n depth (cursor_of p))
      unfolding tagged_term bracket_field term_numbers term_named small_term sum_numbers
      term-bracket d h e k =
          rw (term_tagged depth (cursor_of p))
          (takes_bind (Stores _ _ _ _ _ _) _ _ k₁ told
          (λ named cells fact.
          let t : tag ≡ 11 = omega arith in
          rw (ne_eqb tag 9 (omega arith), ne_eqb tag 10 e, eq-eqb tag 11 t, bracketed-more depth d)
          (whole _
          (stores-last (operand_shape tag) q (base + q.numbers) l₁ bracket _ k
          (λ a c cells₂ fact₂. (refl, cells₂, (fact₂.0, fact₂.1, rw t refl))))
          named cells fact.2 fact.3)))

-- ---- A value

-- a value begins with no numbers and no mentions
pub value-kept : (s : List ℕ) (n : Counts) (base : ℕ) {p : Place} {l l' : List ℕ} {r : Stored} →
    Stores sum_shape (record { position = p.position; numbers = 0; mentions = 0; named = p.named }) (base + 0) l l' r
    (sum_field s (value_term s n 4) (record { position = p.position; numbers = 0; mentions = 0 })) →
    Stores value_shape p base l l' r (value_field s n (cursor_of p))
unfolding value_field
value-kept s n base {p} {l} {l'} {r} k =
    let z : base + 0 ≡ base = omega arith in
    stores_as value_shape p base l _ k
    (λ e c cells fact. (refl, rw z at cells, (omega (arith, fact.0.grown, fact.0.within), fact.1)))
