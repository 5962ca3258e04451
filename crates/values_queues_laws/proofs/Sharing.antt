-- What a side of a comparison is worth to a row is what the machine says: a side that names no parameter is worth the same with any.
use Rattle.machine.specs.All.{cases, ℕ, zero, suc, ◌+◌, ◌-◌, ◌*◌, ◌≤◌, ◌<◌, ◌≡◌, refl, sym, ap, ◌∙◌, subst, Bool, true, false, cond, not, true≢false, List, [], ◌∷◌, arith, ltb-true, ltb-false, lt-ltb, le-ltb, eqb-true, not-false, T, ltb, eqb, lit<, length, get_or, get_or-eq_default, signed, low32, View, Term, constant, minus_constant, parameter, clock_term, entries_of, content_of, units_in_use, units_free, facility_in_use, value, comparison, bracket, Relation, term, worths, evaluate, compare, wait_terms, terminate, BlockModel}
use lib.IntN.{ℤ, pos}
use lib.Signed.{mag}
use mir.Syntax.{w32}
use mir.Val.{to_z, of_z}
use Rattle.layout.specs.All.{block_forms, relation_number, term_numbers, At, small_term, Represents}
use Rattle.layout.specs.Layout as Layout
use Rattle.rows_laws.specs.All.{read, transaction_at}
use Rattle.evaluation.specs.Evaluation.{simple_term, value_below, term_at, related_by, compare_at}
use Rattle.evaluation.specs.{Nested.nested_term, Nested.nested_block, Nested.Nested, Sees.Sees}
use Rattle.evaluation.proofs.{Found.at_first, Found.at_front, Found.at_back, Signs.low32-lt, Signs.back, Signs.cast-unsigned-is, Signs.signed_low, Steps.term_simple, Terms.and_left, Terms.and_right, Terms.related-by, Values.worths-length, Laws.two-numbers, Laws.term_law}
use Rattle.values_queues_laws.specs.{parameters_at, block_of, leaves_from, leaves, leaves_by_lem, names_own, no_parameters, side_at, side_by, ForAll, held_at, held_by_all}
use Rattle.values_queues_laws.proofs.{Operands.numbers, Parameters.parameters_are}
use mathlib.Core.Bool.{◌&&◌}
use mathlib.Core.List.{◌++◌}
use Rattle.layout.specs.Represents.{small_block}

-- ---- By an answer for all

-- an answer for all serves where there is one, else the side is evaluated for the row
pub side-by : {tables : List ℕ} {values : ℕ} {tally : List ℕ} {clock at answer : ℕ} → ForAll tables values tally clock at answer
    → (w : List ℕ) (k : ℕ)
    → side_by tables values tally clock answer w k at ≡ side_at tables values tally clock w k at
unfolding side_by side_at
side-by {tables} {values} {tally} {clock} {at} {answer} h w k = go (names_own tables at) refl
  where
    go : (b : Bool) → names_own tables at ≡ b
        → cond (ltb answer Layout.word_end) (signed answer) (term_at tables tally values clock (parameters_at w k) at)
        ≡ cond (names_own tables at) (term_at tables tally values clock (parameters_at w k) at)
        (term_at tables tally values clock no_parameters at)
    go true e = rw (h.given, e)
    go false e = rw (h.given, e) (h.worth e)

-- whether a row leaves, by the answers for all that stand at its block
pub leaves_by : {tables : List ℕ} {values : ℕ} {tally : List ℕ} {clock : ℕ} (blocks : ℕ) (w : List ℕ) (k at left right : ℕ)
    → at ≡ block_of w k
    → ForAll tables values tally clock (at + 1) left → ForAll tables values tally clock (at + 4) right
    → leaves_by_lem tables blocks values tally clock w k at left right ≡ leaves tables blocks values tally clock w k
unfolding leaves_by_lem leaves leaves_from
leaves_by blocks w k at left right e l r = rw (← e, side-by l w k, side-by r w k)

-- ---- Where there is an answer for all

-- what names no parameter stands in the tables
pub own-inside : (tables : List ℕ) (at : ℕ) → names_own tables at ≡ false → at < Layout.tables_size
unfolding names_own
own-inside tables at h = go (ltb at Layout.tables_size) refl h
  where
    go : (b : Bool) → ltb at Layout.tables_size ≡ b
        → cond b (cond (eqb (get_or tables at 0) 2) true (cond (ltb (get_or tables at 0) 9) false (not (eqb (get_or tables (Layout.names_own + get_or tables (at + 1) 0) 0) 0)))) true
        ≡ false
        → at < Layout.tables_size
    go true e q = ltb-true at Layout.tables_size e
    go false e q = absurd (true≢false q)

module _ {tables : List ℕ} {values : ℕ} {tally : List ℕ} {clock at : ℕ} where
  -- a side that names parameters has no answer for all
  pub for-all-none : names_own tables at ≡ true → ForAll tables values tally clock at 4294967296
  for-all-none e = record { given = ap not (sym e); worth = λ f. absurd (true≢false (sym e ∙ f)) }

  -- past the tables
  pub for-all-past : 2890 ≤ at → ForAll tables values tally clock at 4294967296
  unfolding names_own
  for-all-past h = for-all-none (rw (le-ltb at 2890 h))

  pub for-all_bits : names_own tables at ≡ false → (z : ℤ) → mag z < 2147483648 → z ≡ term_at tables tally values clock no_parameters at
      → (n : ℕ)
      → n ≡ low32 z
      → ForAll tables values tally clock at n
  for-all_bits e z small is n bits =
      record {
        given = lt-ltb n 4294967296 (omega (arith, bits, low32-lt z)) ∙ ap not (sym e);
        worth = λ f. ap signed bits ∙ signed_low z small ∙ is;
      }

-- the bits of a number as they are handed on
pub bits-of : {n : ℕ} (z : ℤ) → mag z < 2147483648 → n ≡ of_z w32 (to_z w32 (of_z w32 z)) → n ≡ low32 z
bits-of {n} z small e = e ∙ rw (back z small) (cast-unsigned-is z (record { sfits = small }))

-- the answer for the last block serves again at the same block
pub for-all-same : {tables : List ℕ} {values : ℕ} {tally : List ℕ} {clock seen at known : ℕ} → seen ≡ at
    → ForAll tables values tally clock seen known
    → ForAll tables values tally clock at known
for-all-same {tables} {values} {tally} {clock} {seen} {at} {known} e h = subst (λ (n : ℕ). ForAll tables values tally clock n known) e h

-- two sides as they are handed on
pub held-related : {r : Bool} {n n' : ℕ} {a a' b b' : ℤ} → r ≡ related_by n (to_z w32 (of_z w32 a)) (to_z w32 (of_z w32 b)) → n ≡ n'
    → mag a < 2147483648 → a ≡ a' → mag b < 2147483648
    → b ≡ b'
    → r ≡ related_by n' a' b'
held-related {r} {n} {n'} {a} {a'} {b} {b'} e en sa ea sb eb = e ∙ rw (back a sa, back b sb, en, ea, eb)

-- what holds for all holds for every row
pub held_for : (tables : List ℕ) (values : ℕ) (tally : List ℕ) (clock at : ℕ) (w : List ℕ) (k : ℕ)
    → held_by_all tables values tally clock at ≡ true
    → held_at tables values w tally clock k at ≡ true
unfolding held_by_all held_at side_at compare_at
held_for tables values tally clock at w k h =
    let third : at + 1 + 2 ≡ at + 3 = omega arith in
    let fourth : at + 1 + 3 ≡ at + 4 = omega arith in
    cases (names_own tables (at + 1))
    (λ e. absurd (true≢false (sym (rw e at h))))
    (λ e. cases (names_own tables (at + 4))
    (λ f. absurd (true≢false (sym (rw (e, f) at h))))
    (λ f. rw (e, f) (rw (e, f, third, fourth) at h)))

-- ---- A parameter by itself

-- a parameter that does not exist reads 0
pub parameter-past : (w : List ℕ) (k i : ℕ) → 4 ≤ i → 0 ≡ get_or (parameters_at w k) i 0
unfolding parameters_at
parameter-past w k i h = sym (get_or-eq_default (parameters_at w k) 0 h)

pub parameter-read : (w : List ℕ) (k i : ℕ) → i < 4 → read w (2 + i) k ≡ get_or (parameters_at w k) i 0
unfolding parameters_at
parameter-read w k zero h = refl
parameter-read w k (suc zero) h = refl
parameter-read w k (suc (suc zero)) h = refl
parameter-read w k (suc (suc (suc zero))) h = refl
parameter-read w k (suc (suc (suc (suc i)))) h = absurd (omega arith)

pub parameter-term : (tables tally : List ℕ) (values clock : ℕ) (p : List ℕ) (at : ℕ) → get_or tables at 0 ≡ 2
    → term_at tables tally values clock p at ≡ signed (get_or p (get_or tables (at + 1) 0) 0)
unfolding term_at simple_term
parameter-term tables tally values clock p at e =
    rw (term_at, term_simple tables (simple_term tables tally clock p) (value_below tables (simple_term tables tally clock p) values) at inside 2 _ (sym e) refl 0 (lit< tt))
  where
    inside : at < length tables
    inside = go (ltb at (length tables)) refl
      where
        go : (b : Bool) → ltb at (length tables) ≡ b → at < length tables
        go true f = ltb-true at (length tables) f
        go false f = absurd (omega (arith, e, get_or-eq_default tables 0 (ltb-false at (length tables) f)))

-- ---- A term that names no parameter

module _ {m : BlockModel} {tape : List (List ℕ)} {tape_bytes tables lists : List ℕ} (rep : Represents m tape tape_bytes tables lists) where
  no-parameter : (at n : ℕ) → At tables at (2 ∷ n ∷ []) → names_own tables at ≡ false → ⊥
  unfolding names_own
  no-parameter at n h e =
      let inside = own-inside tables at e in
      true≢false (rw (lt-ltb at Layout.tables_size inside, ← (at_first tables at 2 (n ∷ []) h).found) at e)

  value_cell : (at n : ℕ) → At tables at (9 ∷ n ∷ []) → names_own tables at ≡ false → get_or tables (Layout.names_own + n) 0 ≡ 0
  unfolding names_own
  value_cell at n h e =
      let inside = own-inside tables at e in
      let f = at_first tables at 9 (n ∷ []) h in
      let g = at_first tables (at + 1) n [] f.after in
      eqb-true _ 0 (not-false _ (rw (lt-ltb at Layout.tables_size inside, ← f.found, ← g.found) at e))

  module _ (view : View) (p p' : List ℤ) where
    value_shared : (k : ℕ) → get_or tables (Layout.names_own + k) 0 ≡ 0
        → get_or (worths view p m.values []) k (pos 0) ≡ get_or (worths view p' m.values []) k (pos 0)
    value_shared k cell = go (ltb k (length m.values)) refl
      where
        go : (b : Bool) → ltb k (length m.values) ≡ b
            → get_or (worths view p m.values []) k (pos 0) ≡ get_or (worths view p' m.values []) k (pos 0)
        go true e =
            let same : suc k - 1 ≡ k = omega arith in
            subst (λ (n : ℕ). get_or (worths view p m.values []) n (pos 0) ≡ get_or (worths view p' m.values []) n (pos 0)) same
            (unfold evaluate term in rep.sharing k (ltb-true k (length m.values) e) cell view p p')
        go false e =
            let past = ltb-false k (length m.values) e in
            get_or-eq_default (worths view p m.values []) (pos 0) (omega (arith, worths-length view p m.values [], past))
            ∙ sym (get_or-eq_default (worths view p' m.values []) (pos 0) (omega (arith, worths-length view p' m.values [], past)))

    term_shared : (t : Term) (at : ℕ) → At tables at (term_numbers t) → T (nested_term 0 t) → names_own tables at ≡ false
        → evaluate m.values view p t ≡ evaluate m.values view p' t
    unfolding evaluate term term_numbers nested_term
    term_shared (constant n) at h nested e = refl
    term_shared (minus_constant n) at h nested e = refl
    term_shared (parameter k) at h nested e = absurd (no-parameter at (k - 1) h e)
    term_shared clock_term at h nested e = refl
    term_shared (entries_of b) at h nested e = refl
    term_shared (content_of q) at h nested e = refl
    term_shared (units_in_use v) at h nested e = refl
    term_shared (units_free v) at h nested e = refl
    term_shared (facility_in_use v) at h nested e = refl
    term_shared (value k) at h nested e = value_shared (k - 1) (value_cell at (k - 1) h e)
    term_shared (comparison r a b) at h nested e = absurd nested
    term_shared (bracket s) at h nested e = absurd nested

-- ---- The sides of a WAITIF

module _ {m : BlockModel} {tape : List (List ℕ)} {tape_bytes tables lists : List ℕ} (rep : Represents m tape tape_bytes tables lists)
    (nested : Nested m)
    {view : View} {tally : List ℕ} {clock : ℕ} (seen : Sees view tables tally clock) (w : List ℕ) (k : ℕ) where
  abbrev own : List ℤ
  own = (transaction_at w k).parameters

  abbrev side : ℕ → ℤ
  side = side_at tables (length m.values) tally clock w k

  side_law : (t : Term) (at : ℕ) → At tables at (term_numbers t) → T (small_term t) → T (nested_term 0 t)
      → side at ≡ evaluate m.values view own t
  unfolding side_at
  side_law t at h small flat = go (names_own tables at) refl
    where
      go : (b : Bool) → names_own tables at ≡ b
          → cond b (term_at tables tally (length m.values) clock (parameters_at w k) at)
          (term_at tables tally (length m.values) clock no_parameters at)
          ≡ evaluate m.values view own t
      go true e =
          term_law rep nested seen (parameters_at w k) t at h small flat
          ∙ ap (λ (l : List ℤ). evaluate m.values view l t) (parameters_are w k)
      go false e = term_law rep nested seen no_parameters t at h small flat ∙ term_shared rep view _ _ t at h flat e

  -- left, relation and right of block i (from 0)
  pub sides_law : (i : ℕ) → i < length m.blocks → (a : Term) (o : Relation) (b : Term)
      → get_or m.blocks i (terminate 0) ≡ wait_terms a o b
      → related_by (get_or tables (Layout.block_width * i + 3) 0) (side (Layout.block_width * i + 1)) (side (Layout.block_width * i + 4))
      ≡ compare m.values view own a o b
  unfolding compare nested_block block_forms
  sides_law i inside a o b e =
      let base = Layout.block_width * i in
      let small : T (small_block (wait_terms a o b)) = subst (λ x. T (small_block x)) e (rep.small-blocks i) in
      let flat : T (nested_block (wait_terms a o b)) = subst (λ x. T (nested_block x)) e (nested.blocks i) in
      let sa = and_left (small_term a) (small_term b && true) small in
      let sb = and_left (small_term b) true (and_right (small_term a) (small_term b && true) small) in
      let na = and_left (nested_term 0 a) (nested_term 0 b && true) flat in
      let nb = and_left (nested_term 0 b) true (and_right (nested_term 0 a) (nested_term 0 b && true) flat) in
      let h =
      (at_first tables base 9 (term_numbers a ++ (relation_number o ∷ term_numbers b)) (numbers rep i inside (wait_terms a o b) e)).after in
      let behind : base + 1 + length (term_numbers a) ≡ base + 3 = omega (arith, two-numbers a na) in
      let back : At tables (base + 3) (relation_number o ∷ term_numbers b) =
      subst (λ (n : ℕ). At tables n (relation_number o ∷ term_numbers b)) behind
      (at_back tables (base + 1) (term_numbers a) (relation_number o ∷ term_numbers b) h) in
      let f = at_first tables (base + 3) (relation_number o) (term_numbers b) back in
      let next : base + 3 + 1 ≡ base + 4 = omega arith in
      let right : At tables (base + 4) (term_numbers b) = subst (λ (n : ℕ). At tables n (term_numbers b)) next f.after in
      rw (
        ← f.found,
        side_law a (base + 1) (at_front tables (base + 1) (term_numbers a) (relation_number o ∷ term_numbers b) h) sa na,
        side_law b (base + 4) right sb nb,
      )
      (related-by o _ _)
