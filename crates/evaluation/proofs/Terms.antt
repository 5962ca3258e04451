-- Terms and sums over the tables are the machine's. By one induction over both: where the numbers of a term stand at a
-- position, `term_from` gives what the term is worth and the position behind them.
use Rattle.machine.specs.All.{ℕ, suc, ◌+◌, ◌-◌, ◌≤◌, ◌<◌, arith, Bool, true, false, ◌&&◌, List, [], ◌∷◌, ◌++◌, ◌≡◌, refl, sym, ap, ◌∙◌, T, ltb, leb→le, ltb→lt, lit<, lit≤, length, get_or, length-append, max_constant, Relation, equal, unequal, less, at_most, greater, at_least, related, View, queue_at, server_at, wrap, one_if, Term, constant, minus_constant, parameter, clock_term, entries_of, content_of, units_in_use, units_free, facility_in_use, value, comparison, bracket, Sum, nothing, plus, minus, term, sum}
use Rattle.std.proofs.Common.{ℤ, pos, ◌+ℤ◌, ◌-ℤ◌, neg_ℤ}
use Rattle.layout.specs.All.{relation_number, terms, term_numbers, signed_terms, At, small_term, small_sum}
use Rattle.evaluation.specs.{Worth, related_by, simple_term, worth_at, added, joined, judged, sum_from, comparison_from, term_from, nested_term, nested_sum, parameters_of}
use Rattle.evaluation.specs.Sees.{Sees}
use Rattle.evaluation.proofs as our
use our.Found.{at_first, at_front, at_back}
use our.Seen.{small_is, sees-clock, sees-entries, sees-content, sees_in_use, sees-facility, sees-free, sees-parameter}
use our.Steps.{term_simple, term_mention, term-comparison, term-bracket, comparison-step, sum-none, sum_step}

-- ---- Both of two tests

pub and_left : (a b : Bool) → T (a && b) → T a
and_left true b h = tt
and_left false b h = h

pub and_right : (a b : Bool) → T (a && b) → T b
and_right true b h = h
and_right false b h = absurd h

-- ---- Relations

pub related-by : (r : Relation) (a b : ℤ) → related_by (relation_number r) a b ≡ related r a b
unfolding related_by relation_number related
related-by equal a b = refl
related-by unequal a b = refl
related-by less a b = refl
related-by at_most a b = refl
related-by greater a b = refl
related-by at_least a b = refl

-- ---- Simple terms

module _ {w : View} {tables tally : List ℕ} {clock : ℕ} (s : Sees w tables tally clock) (p : List ℕ) where
  constant-worth : (n : ℕ) → n ≤ max_constant → simple_term tables tally clock p 0 n ≡ pos n
  unfolding simple_term
  constant-worth n h = small_is n (omega arith)

  minus-worth : (n : ℕ) → n ≤ max_constant → simple_term tables tally clock p 1 n ≡ neg_ℤ (pos n)
  unfolding simple_term
  minus-worth n h = ap neg_ℤ (small_is n (omega arith))

  parameter-worth : (k : ℕ) → simple_term tables tally clock p 2 k ≡ get_or (parameters_of p) k (pos 0)
  unfolding simple_term
  parameter-worth k = sees-parameter p k

  clock-worth : simple_term tables tally clock p 3 0 ≡ wrap (pos w.clock)
  unfolding simple_term
  clock-worth = sees-clock s

  entries-worth : (b : ℕ) → simple_term tables tally clock p 4 b ≡ pos (get_or w.entries b 0)
  unfolding simple_term
  entries-worth b = sees-entries s b

  content-worth : (q : ℕ) → simple_term tables tally clock p 5 (q - 1) ≡ pos (queue_at w q).content
  unfolding simple_term queue_at
  content-worth q = sees-content s (q - 1)

  in-use-worth : (v : ℕ) → simple_term tables tally clock p 6 (v - 1) ≡ pos (server_at w v).in_use
  unfolding simple_term server_at
  in-use-worth v = sees_in_use s (v - 1)

  free-worth : (v : ℕ) → simple_term tables tally clock p 7 (v - 1) ≡ pos ((server_at w v).capacity - (server_at w v).in_use)
  unfolding simple_term server_at
  free-worth v = sees-free s (v - 1)

  facility-worth : (v : ℕ) → simple_term tables tally clock p 8 (v - 1) ≡ one_if (ltb 0 (server_at w v).in_use)
  unfolding simple_term server_at
  facility-worth v = sees-facility s (v - 1)

-- ---- Terms and sums: where their numbers stand, they are worth what the machine says

-- each sign by its number
added_is : (a b : ℤ) → wrap (a +ℤ b) ≡ added a b
added_is a b = refl

joined-plus : (a b : ℤ) → wrap (a +ℤ b) ≡ joined 0 a b
unfolding joined
joined-plus a b = refl

joined-minus : (a b : ℤ) → wrap (a -ℤ b) ≡ joined 1 a b
unfolding joined
joined-minus a b = refl

module _ (tables : List ℕ) (read : ℕ → Worth) (at : ℕ) where
  -- a comparison, from its two terms
  comparison-found : (r : Relation) (a b : List ℕ) → At tables at (relation_number r ∷ (a ++ b)) → (x y : ℤ) →
      read (at + 1) ≡ worth_at x (at + 1 + length a) → read (at + 1 + length a) ≡ worth_at y (at + 1 + length a + length b) →
      comparison_from tables read at ≡ worth_at (one_if (related r x y)) (at + 1 + length a + length b)
  unfolding judged
  comparison-found r a b h x y ea eb =
      let end = at + 1 + length a + length b in
      sym (comparison-step tables read at (relation_number r) (at_first tables at (relation_number r) (a ++ b) h).found
      (worth_at x (at + 1 + length a)) (sym ea) (at + 1 + length a) refl (worth_at y end) (sym eb)
      (worth_at (one_if (related r x y)) end) (ap (λ (c : Bool). worth_at (one_if c) end) (sym (related-by r x y))))

  -- a sum, from its first term and the rest
  terms-found : (sign count : ℕ) (a b : List ℕ) → At tables at (sign ∷ (a ++ b)) → (so_far x z : ℤ) → z ≡ joined sign so_far x → (all : ℤ) →
      read (at + 1) ≡ worth_at x (at + 1 + length a)
      → sum_from tables read count z (at + 1 + length a) ≡ worth_at all (at + 1 + length a + length b) →
      sum_from tables read (suc count) so_far at ≡ worth_at all (at + suc (length (a ++ b)))
  terms-found sign count a b h so_far x z ez all ea eb =
      let f = at_first tables at sign (a ++ b) h in
      let one : suc count - 1 ≡ count = omega arith in
      let end : at + 1 + length a + length b ≡ at + suc (length (a ++ b)) = simp length-append (omega arith) in
      sym (sum_step tables read at sign f.found (suc count) (λ e. omega arith) f.inside so_far
      (worth_at x (at + 1 + length a)) (sym ea) so_far x z refl refl ez (at + 1 + length a) refl (worth_at all (at + 1 + length a + length b))
      (sym eb ∙ ap (λ (n : ℕ). sum_from tables read n z (at + 1 + length a)) (sym one)))
      ∙ ap (worth_at all) end

module _ {w : View} {tables tally : List ℕ} {clock : ℕ} (s : Sees w tables tally clock) (p : List ℕ) (lower : List ℤ) (mention : ℕ → ℤ)
    (agrees : (k : ℕ) → mention k ≡ get_or lower k (pos 0)) where
  -- a tag and a number
  simple : (depth at : ℕ) (tag n : ℕ) (z : ℤ) → At tables at (tag ∷ n ∷ []) → tag < 9 → simple_term tables tally clock p tag n ≡ z →
      term_from tables (simple_term tables tally clock p) mention depth at ≡ worth_at z (at + 2)
  simple depth at tag n z h l e =
      let f = at_first tables at tag (n ∷ []) h in
      let g = at_first tables (at + 1) n [] f.after in
      term_simple tables (simple_term tables tally clock p) mention at f.inside tag n f.found g.found depth l
      ∙ ap (λ (y : ℤ). worth_at y (at + 2)) e

  mentioned : (depth at k : ℕ) → At tables at (9 ∷ k ∷ []) →
      term_from tables (simple_term tables tally clock p) mention depth at ≡ worth_at (get_or lower k (pos 0)) (at + 2)
  mentioned depth at k h =
      let f = at_first tables at 9 (k ∷ []) h in
      let g = at_first tables (at + 1) k [] f.after in
      term_mention tables (simple_term tables tally clock p) mention at f.inside 9 k f.found g.found depth refl
      ∙ ap (λ (y : ℤ). worth_at y (at + 2)) (agrees k)

  compared : (depth at : ℕ) (r : Relation) (a b : List ℕ) → At tables at (10 ∷ relation_number r ∷ (a ++ b)) → T (ltb 0 depth) → (x y : ℤ) →
      term_from tables (simple_term tables tally clock p) mention (depth - 1) (at + 1 + 1) ≡ worth_at x (at + 1 + 1 + length a) →
      term_from tables (simple_term tables tally clock p) mention (depth - 1) (at + 1 + 1 + length a)
      ≡ worth_at y (at + 1 + 1 + length a + length b) →
      term_from tables (simple_term tables tally clock p) mention depth at ≡ worth_at (one_if (related r x y))
      (at + suc (suc (length (a ++ b))))
  compared depth at r a b h deep x y ea eb =
      let f = at_first tables at 10 (relation_number r ∷ (a ++ b)) h in
      let g = at_first tables (at + 1) (relation_number r) (a ++ b) f.after in
      let l : 0 < depth = ltb→lt 0 depth deep in
      let end : at + 1 + 1 + length a + length b ≡ at + suc (suc (length (a ++ b))) = simp length-append (omega arith) in
      term-comparison tables (simple_term tables tally clock p) mention at f.inside 10 (relation_number r) f.found g.found depth
      (λ e. omega arith) refl
      ∙ comparison-found tables (term_from tables (simple_term tables tally clock p) mention (depth - 1)) (at + 1) r a b f.after x y ea eb
      ∙ ap (worth_at (one_if (related r x y))) end

  bracketed : (depth at n : ℕ) (a : List ℕ) → At tables at (11 ∷ n ∷ a) → T (ltb 0 depth) → (x : ℤ) →
      sum_from tables (term_from tables (simple_term tables tally clock p) mention (depth - 1)) n (pos 0) (at + 1 + 1)
      ≡ worth_at x (at + 1 + 1 + length a) →
      term_from tables (simple_term tables tally clock p) mention depth at ≡ worth_at x (at + suc (suc (length a)))
  bracketed depth at n a h deep x ea =
      let f = at_first tables at 11 (n ∷ a) h in
      let g = at_first tables (at + 1) n a f.after in
      let l : 0 < depth = ltb→lt 0 depth deep in
      let next : at + 2 ≡ at + 1 + 1 = omega arith in
      let end : at + 1 + 1 + length a ≡ at + suc (suc (length a)) = omega arith in
      term-bracket tables (simple_term tables tally clock p) mention at f.inside 11 n f.found g.found depth
      (λ e. omega arith) (lit≤ tt) (λ e. omega arith) (λ e. omega arith)
      ∙ rw next (ea ∙ ap (worth_at x) end)

  mutual
    unfolding term terms term_numbers small_term nested_term

    -- a term that stands in the tables is worth what the machine's term is, and ends behind its numbers
    pub term_found : (t : Term) (depth at : ℕ) → At tables at (term_numbers t) → T (small_term t) → T (nested_term depth t) →
        term_from tables (simple_term tables tally clock p) mention depth at ≡ worth_at (term w (parameters_of p) lower t)
        (at + length (term_numbers t))
    term_found (constant n) depth at h small nested =
        simple depth at 0 n (pos n) h (lit< tt) (constant-worth s p n (leb→le n max_constant small))
    term_found (minus_constant n) depth at h small nested =
        simple depth at 1 n (neg_ℤ (pos n)) h (lit< tt) (minus-worth s p n (leb→le n max_constant small))
    term_found (parameter k) depth at h small nested = simple depth at 2 (k - 1) _ h (lit< tt) (parameter-worth s p (k - 1))
    term_found clock_term depth at h small nested = simple depth at 3 0 _ h (lit< tt) (clock-worth s p)
    term_found (entries_of b) depth at h small nested = simple depth at 4 (b - 1) _ h (lit< tt) (entries-worth s p (b - 1))
    term_found (content_of q) depth at h small nested = simple depth at 5 (q - 1) _ h (lit< tt) (content-worth s p q)
    term_found (units_in_use v) depth at h small nested = simple depth at 6 (v - 1) _ h (lit< tt) (in-use-worth s p v)
    term_found (units_free v) depth at h small nested = simple depth at 7 (v - 1) _ h (lit< tt) (free-worth s p v)
    term_found (facility_in_use v) depth at h small nested = simple depth at 8 (v - 1) _ h (lit< tt) (facility-worth s p v)
    term_found (value k) depth at h small nested = mentioned depth at (k - 1) h
    term_found (comparison r a b) depth at h small nested =
        let both = (at_first tables (at + 1) (relation_number r) (term_numbers a ++ term_numbers b)
        (at_first tables at 10 (relation_number r ∷ (term_numbers a ++ term_numbers b)) h).after).after in
        let deep = and_right (ltb 0 depth) (nested_term (depth - 1) a && nested_term (depth - 1) b) nested in
        compared depth at r (term_numbers a) (term_numbers b) h
        (and_left (ltb 0 depth) (nested_term (depth - 1) a && nested_term (depth - 1) b) nested) _ _
        (term_found a (depth - 1) (at + 1 + 1) (at_front tables (at + 1 + 1) (term_numbers a) (term_numbers b) both)
        (and_left (small_term a) (small_term b) small) (and_left (nested_term (depth - 1) a) (nested_term (depth - 1) b) deep))
        (term_found b (depth - 1) (at + 1 + 1 + length (term_numbers a)) (at_back tables (at + 1 + 1) (term_numbers a) (term_numbers b) both)
        (and_right (small_term a) (small_term b) small) (and_right (nested_term (depth - 1) a) (nested_term (depth - 1) b) deep))
    term_found (bracket e) depth at h small nested =
        let inner = (at_first tables (at + 1) (terms e) (signed_terms e) (at_first tables at 11 (terms e ∷ signed_terms e) h).after).after in
        bracketed depth at (terms e) (signed_terms e) h (and_left (ltb 0 depth) (nested_sum (depth - 1) e) nested) _
        (sum-found e (depth - 1) (pos 0) (at + 1 + 1) inner small (and_right (ltb 0 depth) (nested_sum (depth - 1) e) nested))

    -- and so is a sum
    pub sum-found : (e : Sum) (depth : ℕ) (z : ℤ) (at : ℕ) → At tables at (signed_terms e) → T (small_sum e) → T (nested_sum depth e) →
        sum_from tables (term_from tables (simple_term tables tally clock p) mention depth) (terms e) z at
        ≡ worth_at (sum w (parameters_of p) lower e z) (at + length (signed_terms e))
    sum-found nothing depth z at h small nested = sum-none tables _ z at 0 refl ∙ ap (worth_at z) (omega arith)
    sum-found (plus t e) depth z at h small nested =
        let rest = (at_first tables at 0 (term_numbers t ++ signed_terms e) h).after in
        terms-found tables (term_from tables (simple_term tables tally clock p) mention depth) at 0 (terms e) (term_numbers t)
        (signed_terms e) h
        z (term w (parameters_of p) lower t) (wrap (z +ℤ term w (parameters_of p) lower t))
        (joined-plus z (term w (parameters_of p) lower t)) _
        (term_found t depth (at + 1) (at_front tables (at + 1) (term_numbers t) (signed_terms e) rest)
        (and_left (small_term t) (small_sum e) small) (and_left (nested_term depth t) (nested_sum depth e) nested))
        (sum-found e depth (wrap (z +ℤ term w (parameters_of p) lower t)) (at + 1 + length (term_numbers t))
        (at_back tables (at + 1) (term_numbers t) (signed_terms e) rest)
        (and_right (small_term t) (small_sum e) small) (and_right (nested_term depth t) (nested_sum depth e) nested))
    sum-found (minus t e) depth z at h small nested =
        let rest = (at_first tables at 1 (term_numbers t ++ signed_terms e) h).after in
        terms-found tables (term_from tables (simple_term tables tally clock p) mention depth) at 1 (terms e) (term_numbers t)
        (signed_terms e) h
        z (term w (parameters_of p) lower t) (wrap (z -ℤ term w (parameters_of p) lower t))
        (joined-minus z (term w (parameters_of p) lower t)) _
        (term_found t depth (at + 1) (at_front tables (at + 1) (term_numbers t) (signed_terms e) rest)
        (and_left (small_term t) (small_sum e) small) (and_left (nested_term depth t) (nested_sum depth e) nested))
        (sum-found e depth (wrap (z -ℤ term w (parameters_of p) lower t)) (at + 1 + length (term_numbers t))
        (at_back tables (at + 1) (term_numbers t) (signed_terms e) rest)
        (and_right (small_term t) (small_sum e) small) (and_right (nested_term depth t) (nested_sum depth e) nested))
