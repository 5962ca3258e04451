-- "does each block named in a value exist?" is one test of the largest number named.
use Rattle.machine.specs.All.{ℕ, max, arith, ◌≡◌, refl, ap, ◌∙◌, Bool, true, false, ◌&&◌, List, [], ◌∷◌, leb, leb-true, leb-false, le-leb, lt-leb, Term, constant, minus_constant, parameter, clock_term, entries_of, content_of, units_in_use, units_free, facility_in_use, value, comparison, bracket, Sum, nothing, plus, minus, term_names, sum_names, all_of}
use Rattle.parse_values.specs.{term_named, sum_named, all_named}

and_true : (b : Bool) → b ≡ (b && true)
and_true true = refl
and_true false = refl

and_assoc : (a b c : Bool) → ((a && b) && c) ≡ (a && (b && c))
and_assoc true b c = refl
and_assoc false b c = refl

leb-max : (n b k : ℕ) → leb (max n b) k ≡ (leb n k && leb b k)
leb-max n b k = go (leb n k) (leb b k) refl refl
  where
    go : (x y : Bool) → leb n k ≡ x → leb b k ≡ y → leb (max n b) k ≡ (x && y)
    go true true e f = le-leb (max n b) k (omega (arith, leb-true n k e, leb-true b k f))
    go true false e f = lt-leb (max n b) k (omega (arith, leb-false b k f))
    go false y e f = lt-leb (max n b) k (omega (arith, leb-false n k e))

mutual
  unfolding term_named term_names sum_named sum_names

  term-names : (t : Term) (n k : ℕ) → leb (term_named n t) k ≡ (leb n k && term_names k t)
  term-names (constant i) n k = and_true (leb n k)
  term-names (minus_constant i) n k = and_true (leb n k)
  term-names (parameter i) n k = and_true (leb n k)
  term-names clock_term n k = and_true (leb n k)
  term-names (entries_of b) n k = leb-max n b k
  term-names (content_of q) n k = and_true (leb n k)
  term-names (units_in_use v) n k = and_true (leb n k)
  term-names (units_free v) n k = and_true (leb n k)
  term-names (facility_in_use v) n k = and_true (leb n k)
  term-names (value i) n k = and_true (leb n k)
  term-names (comparison r a b) n k =
      term-names b (term_named n a) k ∙ ap (λ (x : Bool). x && term_names k b) (term-names a n k)
      ∙ and_assoc (leb n k) (term_names k a) (term_names k b)
  term-names (bracket e) n k = sum-names e n k

  sum-names : (e : Sum) (n k : ℕ) → leb (sum_named n e) k ≡ (leb n k && sum_names k e)
  sum-names nothing n k = and_true (leb n k)
  sum-names (plus t e) n k =
      sum-names e (term_named n t) k ∙ ap (λ (x : Bool). x && sum_names k e) (term-names t n k)
      ∙ and_assoc (leb n k) (term_names k t) (sum_names k e)
  sum-names (minus t e) n k =
      sum-names e (term_named n t) k ∙ ap (λ (x : Bool). x && sum_names k e) (term-names t n k)
      ∙ and_assoc (leb n k) (term_names k t) (sum_names k e)

-- the highest block that values name is at most k where each of them names blocks up to k
pub values_name : (l : List Sum) (n k : ℕ) → leb (all_named sum_named n l) k ≡ (leb n k && all_of (sum_names k) l)
unfolding all_of
values_name [] n k = and_true (leb n k)
values_name (e ∷ l) n k =
    values_name l (sum_named n e) k ∙ ap (λ (x : Bool). x && all_of (sum_names k) l) (sum-names e n k)
    ∙ and_assoc (leb n k) (sum_names k e) (all_of (sum_names k) l)
