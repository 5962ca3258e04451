-- Marks as a set of things: what a term or a sum names is in it once its cells are marked.
use Rattle.machine.specs.All.{ℕ, zero, suc, ◌+◌, ◌-◌, ◌%◌, ◌≤◌, ◌<◌, arith, Bool, true, cond, List, [], ◌∷◌, ◌++◌, ◌≡◌, refl, sym, ◌∙◌, subst, lt-ltb, ltb-true, eq-eqb, ltb, eqb, length, get_or, set, length-set, get_or-set_same, get_or-set_other, Term, constant, minus_constant, parameter, clock_term, entries_of, content_of, units_in_use, units_free, facility_in_use, value, comparison, bracket, Sum, nothing, plus, minus, Each, Thing, own, the_clock, entry, queue, server, worth, Within, SumWithin, false}
use Rattle.watch.specs.{queue_marks, server_marks, value_marks, clock_mark, own_mark, no_mark, marks_size}
use Rattle.watch.proofs.Walking.{mark_all, value_cell_lem, term_cells, sum_cells}

-- ---- The cells of a term

pub each-front : {A : Type 0} (P : A → Type 0) (a b : List A) → Each P (a ++ b) → Each P a
each-front P [] b h = tt
each-front P (x ∷ a) b h = (h.0, each-front P a b h.1)

pub each_back : {A : Type 0} (P : A → Type 0) (a b : List A) → Each P (a ++ b) → Each P b
each_back P [] b h = h
each_back P (x ∷ a) b h = each_back P a b h.1

each_both : {A : Type 0} (P : A → Type 0) (a b : List A) → Each P a → Each P b → Each P (a ++ b)
each_both P [] b h k = k
each_both P (x ∷ a) b h k = (h.0, each_both P a b h.1 k)

-- what holds of every kind of cell
record Cells (P : ℕ → Type 0) (lower : ℕ) : Type 0 where
  nothing-named : P no_mark
  parameters : P own_mark
  clock : P clock_mark
  entries : (i : ℕ) → P (i % 256)
  queues : (i : ℕ) → P (queue_marks + i % 32)
  servers : (i : ℕ) → P (server_marks + i % 64)
  values : (i : ℕ) → i < lower → P (value_marks + i % 8)

module _ (P : ℕ → Type 0) (lower : ℕ) (c : Cells P lower) where
  value-each : (k : ℕ) → P (value_cell_lem lower k)
  unfolding value_cell_lem
  value-each k = go (ltb k lower) refl
    where
      go : (b : Bool) → ltb k lower ≡ b → P (cond b (value_marks + k % 8) no_mark)
      go true e = c.values k (ltb-true k lower e)
      go false e = c.nothing-named

  mutual
    unfolding term_cells

    term-each : (t : Term) → Each P (term_cells lower t)
    term-each (constant n) = (c.nothing-named, tt)
    term-each (minus_constant n) = (c.nothing-named, tt)
    term-each (parameter k) = (c.parameters, tt)
    term-each clock_term = (c.clock, tt)
    term-each (entries_of b) = (c.entries (b - 1), tt)
    term-each (content_of q) = (c.queues (q - 1), tt)
    term-each (units_in_use v) = (c.servers (v - 1), tt)
    term-each (units_free v) = (c.servers (v - 1), tt)
    term-each (facility_in_use v) = (c.servers (v - 1), tt)
    term-each (value k) = (value-each (k - 1), tt)
    term-each (comparison r a b) = each_both P (term_cells lower a) (term_cells lower b) (term-each a) (term-each b)
    term-each (bracket e) = sum-each e

    sum-each : (e : Sum) → Each P (sum_cells lower e)
    sum-each nothing = tt
    sum-each (plus t e) = each_both P (term_cells lower t) (sum_cells lower e) (term-each t) (sum-each e)
    sum-each (minus t e) = each_both P (term_cells lower t) (sum_cells lower e) (term-each t) (sum-each e)

-- each is one of the marks
inside-cells : (lower : ℕ) → lower ≤ 8 → Cells (λ i. i < marks_size) lower
inside-cells lower few =
    record {
      nothing-named = omega arith;
      parameters = omega arith;
      clock = omega arith;
      entries = λ i. omega arith;
      queues = λ i. omega arith;
      servers = λ i. omega arith;
      values = λ i h. omega arith;
    }

-- and none that of a value that is not lower
other-cells : (lower k : ℕ) → lower ≤ k → k < 8 → Cells (λ i. i ≡ value_marks + k → ⊥) lower
other-cells lower k above few =
    record {
      nothing-named = λ e. omega arith;
      parameters = λ e. omega arith;
      clock = λ e. omega arith;
      entries = λ i e. omega arith;
      queues = λ i e. omega arith;
      servers = λ i e. omega arith;
      values = λ i h e. omega arith;
    }

-- ---- Marks

-- what is marked stays marked
pub set_keeps : (marks : List ℕ) (c i : ℕ) → get_or marks i 0 ≡ 1 → get_or (set marks c 1) i 0 ≡ 1
set_keeps [] c i h = absurd (omega arith)
set_keeps (x ∷ marks) zero zero h = refl
set_keeps (x ∷ marks) zero (suc i) h = h
set_keeps (x ∷ marks) (suc c) zero h = h
set_keeps (x ∷ marks) (suc c) (suc i) h = set_keeps marks c i h

-- a cell once marked stays so
pub all-keeps : (l marks : List ℕ) (i : ℕ) → get_or marks i 0 ≡ 1 → get_or (mark_all l marks) i 0 ≡ 1
unfolding mark_all
all-keeps [] marks i h = h
all-keeps (c ∷ l) marks i h = all-keeps l (set marks c 1) i (set_keeps marks c i h)

pub all-length : (l marks : List ℕ) → length (mark_all l marks) ≡ length marks
unfolding mark_all
all-length [] marks = refl
all-length (c ∷ l) marks = all-length l (set marks c 1) ∙ length-set marks c 1

all-marked : (l marks : List ℕ) → Each (λ c. c < length marks) l → Each (λ c. get_or (mark_all l marks) c 0 ≡ 1) l
unfolding mark_all
all-marked [] marks h = tt
all-marked (c ∷ l) marks h =
    (all-keeps l _ c (get_or-set_same marks c 1 0 h.0), all-marked l _ (rw (length-set marks c 1) h.1))

all_others : (l marks : List ℕ) (i : ℕ) → Each (λ c. c ≡ i → ⊥) l → get_or (mark_all l marks) i 0 ≡ get_or marks i 0
unfolding mark_all
all_others [] marks i h = refl
all_others (c ∷ l) marks i h = all_others l (set marks c 1) i h.1 ∙ get_or-set_other marks c i 1 0 (λ e. h.0 (sym e))

module _ (lower : ℕ) (few : lower ≤ 8) (marks : List ℕ) (size : length marks ≡ marks_size) where
  -- marking the cells of a term marks each of them
  pub term-marked : (t : Term) → Each (λ c. get_or (mark_all (term_cells lower t) marks) c 0 ≡ 1) (term_cells lower t)
  term-marked t =
      all-marked (term_cells lower t) marks
      (rw size (term-each (λ i. i < marks_size) lower (inside-cells lower few) t))

  pub both-marked : (a b : Term) → Each (λ c. get_or (mark_all (term_cells lower a ++ term_cells lower b) marks) c 0 ≡ 1)
      (term_cells lower a ++ term_cells lower b)
  both-marked a b =
      all-marked (term_cells lower a ++ term_cells lower b) marks
      (rw size (each_both (λ i. i < marks_size) (term_cells lower a) (term_cells lower b)
      (term-each (λ i. i < marks_size) lower (inside-cells lower few) a)
      (term-each (λ i. i < marks_size) lower (inside-cells lower few) b)))

  pub sum-marked : (e : Sum) → Each (λ c. get_or (mark_all (sum_cells lower e) marks) c 0 ≡ 1) (sum_cells lower e)
  sum-marked e =
      all-marked (sum_cells lower e) marks
      (rw size (sum-each (λ i. i < marks_size) lower (inside-cells lower few) e))

-- a sum marks no value that is not lower
pub sum-others : (lower k : ℕ) → lower ≤ k → k < 8 → (e : Sum) (marks : List ℕ)
    → get_or (mark_all (sum_cells lower e) marks) (value_marks + k) 0 ≡ get_or marks (value_marks + k) 0
sum-others lower k above few e marks =
    all_others (sum_cells lower e) marks (value_marks + k) (sum-each (λ i. i ≡ value_marks + k → ⊥) lower (other-cells lower k above few) e)

-- ---- Marks as a set of things

abbrev pub cell : Thing → ℕ
cell own = own_mark
cell the_clock = clock_mark
cell (entry i) = i % 256
cell (queue i) = queue_marks + i % 32
cell (server i) = server_marks + i % 64
cell (worth k) = value_marks + k % 8

abbrev pub in_marks : List ℕ → Thing → Bool
in_marks marks x = eqb (get_or marks (cell x) 0) 1

abbrev pub Marked : List ℕ → Thing → Type 0
Marked marks x = in_marks marks x ≡ true

module _ (marks : List ℕ) (lower : ℕ) where
  abbrev P : ℕ → Type 0
  P c = get_or marks c 0 ≡ 1

  mutual
    unfolding term_cells value_cell_lem

    -- a term whose cells are marked reads nothing that is not marked
    pub term-within : (t : Term) → Each P (term_cells lower t) → Within (Marked marks) lower t
    term-within (constant n) h = tt
    term-within (minus_constant n) h = tt
    term-within (parameter k) h = eq-eqb _ 1 h.0
    term-within clock_term h = eq-eqb _ 1 h.0
    term-within (entries_of b) h = eq-eqb _ 1 h.0
    term-within (content_of q) h = eq-eqb _ 1 h.0
    term-within (units_in_use v) h = eq-eqb _ 1 h.0
    term-within (units_free v) h = eq-eqb _ 1 h.0
    term-within (facility_in_use v) h = eq-eqb _ 1 h.0
    term-within (value k) h =
        λ lt. eq-eqb _ 1 (subst (λ (b : Bool). P (cond b (value_marks + (k - 1) % 8) no_mark)) (lt-ltb (k - 1) lower lt) h.0)
    term-within (comparison r a b) h = (
      term-within a (each-front P (term_cells lower a) (term_cells lower b) h),
      term-within b (each_back P (term_cells lower a) (term_cells lower b) h),
    )
    term-within (bracket e) h = sum-within e h

    -- and so of a sum
    pub sum-within : (e : Sum) → Each P (sum_cells lower e) → SumWithin (Marked marks) lower e
    sum-within nothing h = tt
    sum-within (plus t e) h = (
      term-within t (each-front P (term_cells lower t) (sum_cells lower e) h),
      sum-within e (each_back P (term_cells lower t) (sum_cells lower e) h),
    )
    sum-within (minus t e) h = (
      term-within t (each-front P (term_cells lower t) (sum_cells lower e) h),
      sum-within e (each_back P (term_cells lower t) (sum_cells lower e) h),
    )
