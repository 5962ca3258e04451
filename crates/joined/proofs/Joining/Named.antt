-- What an accepted model's terms name exists: blocks, queues, servers and values are in their ranges. Without the clock term they are
-- plain.
use Rattle.machine.specs.All.{ℕ, zero, suc, ◌+◌, ◌≤◌, ◌≡◌, refl, Bool, true, false, cond, ◌&&◌, true≢false, List, [], ◌∷◌, arith, leb-true, T, leb, ltb, eqb, length, Rules, any_of, Term, constant, minus_constant, parameter, clock_term, entries_of, content_of, units_in_use, units_free, facility_in_use, value, comparison, bracket, Sum, nothing, plus, minus, Block, facts, BlockModel, Parsed, parsed, refused, Parser, Counts, simple_term, number, block_term, counted, mentioned, value_number, sum_terms, sum_field, bracket_field, comparison_field, mention_field, tagged_term, value_term, value_field, in_value, value_fields, model_fields, at_end, well_placed, term_names, sum_names, all_of, well_formed, beginning, model_of_lem, Validation, accept, reject, with_tape, with_model, validate, Each, terminate, targets_move, joined, tape_of, ◌-◌, ap}
use Rattle.machine.specs.Limits as Limits
use Rattle.machine.proofs.{Decoding.Proper.Names, Decoding.Proper.servers, Basic.Bools.cond_cases, Basic.Bools.or_false, Basic.Each.each_map, Basic.Each.each-get_or, Decoding.ProperFrom.block-parsed, Decoding.Groups.and_left, Decoding.Groups.and_right}
use Rattle.machine.proofs.Decoding.ParserLaws.{Refusal, Gives, Ensures, Any, then, gives, refuses, choice, weaken, repeated, asked, in-range}
use Rattle.joined.specs.{Part, clock_in, clock_in_sum, uses_clock}
use Rattle.joined.proofs.{Own.Terms.Plain, Own.Terms.PlainSum, Joining.BothParts.PlainModel}

-- ---- Definition

-- how many there are of each thing that a term may name; servers are facilities and storages
pub record Bounds : Type 0 where
  pub blocks : ℕ
  pub queues : ℕ
  pub servers : ℕ
  pub values : ℕ

abbrev mutual
  pub Ranged : Bounds → Term → Type 0
  Ranged b (constant n) = Unit {0}
  Ranged b (minus_constant n) = Unit {0}
  Ranged b (parameter k) = Unit {0}
  Ranged b clock_term = Unit {0}
  Ranged b (entries_of n) = Names b.blocks n
  Ranged b (content_of q) = Names b.queues q
  Ranged b (units_in_use v) = Names b.servers v
  Ranged b (units_free v) = Names b.servers v
  Ranged b (facility_in_use v) = Names b.servers v
  Ranged b (value k) = Names b.values k
  Ranged b (comparison r x y) = Ranged b x × Ranged b y
  Ranged b (bracket e) = RangedSum b e

  pub RangedSum : Bounds → Sum → Type 0
  RangedSum b nothing = Unit {0}
  RangedSum b (plus t e) = Ranged b t × RangedSum b e
  RangedSum b (minus t e) = Ranged b t × RangedSum b e

abbrev within : Counts → Bounds
within n = record { blocks = n.blocks; queues = n.queues; servers = n.facilities + n.storages; values = n.values }

-- ---- Parsers

abbrev InRange : (lo hi : ℕ) → ℕ → Type 0
InRange lo hi n = (lo ≤ n) × (n ≤ hi)

both : {A : Type 0} {P : A → Type 0} (b : Bool) {p q : Parser A} → Ensures P p → Ensures P q → Ensures P (cond b p q)
both b h k = choice b (λ e. h) (λ e. k)

module _ (read : ℕ → ℕ → Parser ℕ) (reads : (lo hi : ℕ) → Ensures (InRange lo hi) (read lo hi)) where
  simple-ranged : (n : Counts) (tag : ℕ) → Ensures (Ranged (within n)) (simple_term read n tag)
  unfolding simple_term
  simple-ranged n tag =
      both (eqb tag 0) (then (reads 0 Limits.max_constant) (λ k h. gives tt))
      (both (eqb tag 1) (then (reads 0 Limits.max_constant) (λ k h. gives tt))
      (both (eqb tag 2) (then (reads 1 Limits.parameter_count) (λ k h. gives tt))
      (both (eqb tag 3) (then (reads 0 0) (λ k h. gives tt))
      (both (eqb tag 4) (then (reads 1 n.blocks) (λ k h. gives h))
      (both (eqb tag 5) (then (reads 1 n.queues) (λ k h. gives h))
      (both (eqb tag 6) (then (reads 1 n.storages) (λ k h. gives (omega (arith, h.0), omega (arith, h.1))))
      (both (eqb tag 7) (then (reads 1 n.storages) (λ k h. gives (omega (arith, h.0), omega (arith, h.1))))
      (then (reads 1 n.facilities) (λ k h. gives (h.0, omega (arith, h.1)))))))))))

module _ (s : List ℕ) where
  ranged : (lo hi : ℕ) → Ensures (InRange lo hi) (number s lo hi)
  ranged lo hi = in-range Limits.max_number s 3 lo hi (omega arith) (omega arith)

  block-term : (n : Counts) → Ensures (Ranged (within n)) (block_term s n)
  unfolding block_term
  block-term n =
      then (ranged 0 9) (λ tag h. both (eqb tag 9) (then (ranged 1 n.values) (λ k h. gives h)) (simple-ranged (number s) ranged n tag))

  counted_same : (P : ℕ → Type 0) (n : ℕ) → P n → Ensures P (counted s n)
  unfolding counted
  counted_same P n h =
      record { from = λ c. cond_cases (Gives P) (ltb c.numbers Limits.max_value_numbers) _ _ (λ e. h) (λ e. (omega arith, omega arith)) }

  mentioned-same : (P : ℕ → Type 0) (n : ℕ) → P n → Ensures P (mentioned s n)
  unfolding mentioned
  mentioned-same P n h =
      record { from = λ c. cond_cases (Gives P) (ltb c.mentions Limits.max_mentions) _ _ (λ e. h) (λ e. (omega arith, omega arith)) }

  value-number : (lo hi : ℕ) → Ensures (InRange lo hi) (value_number s lo hi)
  unfolding value_number
  value-number lo hi = then (ranged lo hi) (λ n h. counted_same (InRange lo hi) n h)

  module _ (b : Bounds) where
    sum-terms : (n : ℕ) (inner : Parser Term) → Ensures (Ranged b) inner → Ensures (RangedSum b) (sum_terms s n inner)
    unfolding sum_terms
    sum-terms zero inner e = gives tt
    sum-terms (suc n) inner e =
        then (value-number 0 1)
        (λ sign h. then e
        (λ t k. then (sum-terms n inner e)
        (λ l g. gives (cond_cases (RangedSum b) (eqb sign 0) (plus t l) (minus t l) (λ x. (k, g)) (λ x. (k, g))))))

    sum-field : (inner : Parser Term) → Ensures (Ranged b) inner → Ensures (RangedSum b) (sum_field s inner)
    unfolding sum_field
    sum-field inner e = then (value-number 1 Limits.max_terms) (λ n h. sum-terms n inner e)

    bracket-field : (inner : Parser Term) → Ensures (Ranged b) inner → Ensures (Ranged b) (bracket_field s inner)
    unfolding bracket_field
    bracket-field inner e = then (sum-field inner e) (λ n h. gives h)

    comparison-field : (inner : Parser Term) → Ensures (Ranged b) inner → Ensures (Ranged b) (comparison_field s inner)
    unfolding comparison_field
    comparison-field inner e = then (value-number 1 6) (λ r h. then e (λ x k. then e (λ y g. gives (k, g))))

  mention-field : (n : Counts) → Ensures (Ranged (within n)) (mention_field s n)
  unfolding mention_field
  mention-field n = then (value-number 1 n.values) (λ k h. then (mentioned-same (InRange 1 n.values) k h) (λ m g. gives g))

  tagged-term : (n : Counts) (p q : Parser Term) → Ensures (Ranged (within n)) p → Ensures (Ranged (within n)) q
      → Ensures (Ranged (within n)) (tagged_term s n p q)
  unfolding tagged_term
  tagged-term n p q h k =
      then (value-number 0 11)
      (λ tag g. both (eqb tag 9) (mention-field n)
      (both (eqb tag 10) h (both (eqb tag 11) k (simple-ranged (value_number s) value-number n tag))))

  value-term : (n : Counts) (d : ℕ) → Ensures (Ranged (within n)) (value_term s n d)
  unfolding value_term
  value-term n zero = tagged-term n _ _ (refuses 5 (omega arith, omega arith)) (refuses 5 (omega arith, omega arith))
  value-term n (suc d) = tagged-term n _ _ (comparison-field (within n) _ (value-term n d)) (bracket-field (within n) _ (value-term n d))

-- ---- Wider bounds

module _ (b c : Bounds) (blocks : b.blocks ≤ c.blocks) (queues : b.queues ≤ c.queues) (servers : b.servers ≤ c.servers)
    (values : b.values ≤ c.values) where
  mutual
    term-wider : (t : Term) → Ranged b t → Ranged c t
    term-wider (constant n) h = tt
    term-wider (minus_constant n) h = tt
    term-wider (parameter k) h = tt
    term-wider clock_term h = tt
    term-wider (entries_of n) h = (h.0, omega (arith, h.1))
    term-wider (content_of q) h = (h.0, omega (arith, h.1))
    term-wider (units_in_use v) h = (h.0, omega (arith, h.1))
    term-wider (units_free v) h = (h.0, omega (arith, h.1))
    term-wider (facility_in_use v) h = (h.0, omega (arith, h.1))
    term-wider (value k) h = (h.0, omega (arith, h.1))
    term-wider (comparison r x y) h = (term-wider x h.0, term-wider y h.1)
    term-wider (bracket e) h = sum-wider e h

    sum-wider : (e : Sum) → RangedSum b e → RangedSum c e
    sum-wider nothing h = tt
    sum-wider (plus t e) h = (term-wider t h.0, sum-wider e h.1)
    sum-wider (minus t e) h = (term-wider t h.0, sum-wider e h.1)

-- ---- Values and the model

abbrev behind : Counts → ℕ → Bounds
behind n total = record { blocks = Limits.max_blocks; queues = n.queues; servers = n.facilities + n.storages; values = total }

value-fields : (s : List ℕ) (n : Counts) (total left lower : ℕ) → lower + left ≤ total
    → Ensures (λ l. (length l ≡ left) × Each (RangedSum (behind n total)) l) (value_fields s n left lower)
unfolding value_fields value_field
value-fields s n total zero lower le = gives (refl, tt)
value-fields s n total (suc left) lower le =
    then one (λ e h. then (value-fields s n total left (suc lower) (omega arith)) (λ l k. gives (ap suc k.0, (h, k.1))))
  where
    one : Ensures (RangedSum (behind n total)) (value_field s (in_value s n lower))
    one =
        record {
          from = λ c.
              (weaken (sum-wider (within (in_value s n lower)) (behind n total) (omega arith) (omega arith) (omega arith) (omega arith))
              (sum-field s (within (in_value s n lower)) _ (value-term s (in_value s n lower) Limits.max_brackets))).from
              (record { position = c.position; numbers = 0; mentions = 0 });
        }

abbrev bounds_of : BlockModel → Bounds
bounds_of m = record { blocks = length m.blocks; queues = m.queues; servers = servers m; values = length m.values }

abbrev value_bounds : BlockModel → Bounds
value_bounds m = record { blocks = Limits.max_blocks; queues = m.queues; servers = servers m; values = length m.values }

record NamedModel (rules : Rules) (m : BlockModel) : Type 0 where
  edition : InRange 1 rules.editions m.edition
  values : Each (RangedSum (value_bounds m)) m.values
  blocks : Each (λ b. Each (Ranged (bounds_of m)) (facts b).terms) m.blocks

model-named : (rules : Rules) (s : List ℕ) → Ensures (NamedModel rules) (model_fields s rules)
unfolding model_fields
model-named rules s =
    then (ranged s 1 rules.editions)
    (λ edition he. then (ranged s 0 Limits.max_facilities) (λ facilities hf. then (ranged s 0 Limits.max_storages) (λ storages hs.
    then (repeated storages (ranged s 1 Limits.max_capacity)) (λ capacities hc. then (ranged s 0 Limits.max_queues) (λ queues hq.
    then (ranged s 0 Limits.max_values)
    (λ values hv. then (value-fields s _ values values 0 (omega arith)) (λ sums hm. then (ranged s 0 Limits.max_lists) (λ lists hl.
    then (ranged s 1 Limits.max_counter) (λ counter hn. then (ranged s 1 Limits.max_blocks) (λ blocks hb.
    let n : Counts =
    record { facilities = facilities; storages = storages; queues = queues; values = values; lists = lists; blocks = blocks } in
    then (repeated blocks (block-parsed s n capacities (Ranged (within n)) (block-term s n) rules.kinds)) (λ program hp.
    let m : BlockModel =
    record {
      rules = rules;
      edition = edition;
      facilities = facilities;
      capacities = capacities;
      queues = queues;
      values = sums;
      lists = lists;
      counter = counter;
      blocks = program;
    } in
    gives
    (record {
      edition = he;
      values =
          each_map
          (λ e g.
          sum-wider
          (behind (record { facilities = facilities; storages = storages; queues = queues; values = 0; lists = 0; blocks = 0 }) values)
          (value_bounds m) (omega arith) (omega arith) (omega (arith, hc.0)) (omega (arith, hm.0)) e g)
          sums hm.1;
      blocks =
          each_map
          (λ (b : Block) g.
          each_map
          (λ (t : Term) k. term-wider (within n) (bounds_of m) (omega (arith, hp.0)) (omega arith) (omega (arith, hc.0))
          (omega (arith, hm.0)) t k) (facts b).terms g.1)
          program hp.1;
    }))))))))))))

-- ---- Validation

abbrev Names_of : Rules → Validation → Type 0
Names_of rules (accept m tape) = NamedModel rules m
Names_of rules (reject n) = Unit {0}

with-tape : (rules : Rules) (m : BlockModel) → NamedModel rules m → (r : Parsed (List (List ℕ))) → Names_of rules (with_tape m r)
unfolding with_tape
with-tape rules m h (parsed tape c) = h
with-tape rules m h (refused n) = tt

with-model : (rules : Rules) (tape : List ℕ) (r : Parsed BlockModel) → Gives (NamedModel rules) r → Names_of rules (with_model tape r)
unfolding with_model
with-model rules tape (parsed m c) h = with-tape rules m h (tape_of m.rules tape m.lists beginning)
with-model rules tape (refused n) h = tt

at-end : (s : List ℕ) (code : ℕ) → Refusal code → Ensures Any (at_end s code)
unfolding at_end
at-end s code h = record { from = λ c. (weaken (λ u g. tt) (asked (eqb c.position (length s)) code h)).from c }

model_of : (rules : Rules) (s : List ℕ) → Ensures (NamedModel rules) (model_of_lem rules s)
unfolding model_of_lem
model_of rules s =
    then (model-named rules s)
    (λ m h. then (at-end s 6 (omega arith, omega arith)) (λ u g. then (asked (well_formed m) 7 (omega arith, omega arith)) (λ u f. gives h)))

names_of : (rules : Rules) (model tape : List ℕ) (work report : ℕ) → Names_of rules (validate rules model tape work report)
unfolding validate
names_of rules model tape work report =
    cond_cases (Names_of rules) (leb Limits.work_numbers work)
    (cond (leb Limits.report_room report) (with_model tape (model_of_lem rules model beginning)) (reject 2)) (reject 1)
    (λ e.
    cond_cases (Names_of rules) (leb Limits.report_room report) (with_model tape (model_of_lem rules model beginning)) (reject 2)
    (λ e. with-model rules tape (model_of_lem rules model beginning) ((model_of rules model).from beginning)) (λ e. tt))
    (λ e. tt)

-- ---- Without the clock term

is_true : (b : Bool) → T b → b ≡ true
is_true true h = refl
is_true false h = absurd h

module _ (p : Part) (m : BlockModel) where
  mutual
    unfolding clock_in clock_in_sum

    plain-term : (t : Term) → Ranged (bounds_of m) t → clock_in t ≡ false → Plain p m t
    plain-term (constant n) h e = tt
    plain-term (minus_constant n) h e = tt
    plain-term (parameter k) h e = tt
    plain-term clock_term h e = absurd (true≢false e)
    plain-term (entries_of b) h e = h
    plain-term (content_of q) h e = h
    plain-term (units_in_use v) h e = h
    plain-term (units_free v) h e = h
    plain-term (facility_in_use v) h e = h
    plain-term (value k) h e = h
    plain-term (comparison r x y) h e =
        let d = or_false (clock_in x) (clock_in y) e in (plain-term x h.0 d.0, plain-term y h.1 d.1)
    plain-term (bracket x) h e = plain-sum x h e

    plain-sum : (x : Sum) → RangedSum (bounds_of m) x → clock_in_sum x ≡ false → PlainSum p m x
    plain-sum nothing h e = tt
    plain-sum (plus t x) h e = let d = or_false (clock_in t) (clock_in_sum x) e in (plain-term t h.0 d.0, plain-sum x h.1 d.1)
    plain-sum (minus t x) h e = let d = or_false (clock_in t) (clock_in_sum x) e in (plain-term t h.0 d.0, plain-sum x h.1 d.1)

  -- in a value, a block number is judged by question 7
  mutual
    unfolding term_names sum_names

    term-exists : (t : Term) → Ranged (value_bounds m) t → T (term_names (length m.blocks) t) → Ranged (bounds_of m) t
    term-exists (constant n) h e = tt
    term-exists (minus_constant n) h e = tt
    term-exists (parameter k) h e = tt
    term-exists clock_term h e = tt
    term-exists (entries_of b) h e = (h.0, leb-true b (length m.blocks) (is_true _ e))
    term-exists (content_of q) h e = h
    term-exists (units_in_use v) h e = h
    term-exists (units_free v) h e = h
    term-exists (facility_in_use v) h e = h
    term-exists (value k) h e = h
    term-exists (comparison r x y) h e = (
      term-exists x h.0 (and_left (term_names (length m.blocks) x) _ e),
      term-exists y h.1
          (and_right (term_names (length m.blocks) x) _ e),
    )
    term-exists (bracket x) h e = sum-exists x h e

    sum-exists : (x : Sum) → RangedSum (value_bounds m) x → T (sum_names (length m.blocks) x) → RangedSum (bounds_of m) x
    sum-exists nothing h e = tt
    sum-exists (plus t x) h e = (
      term-exists t h.0 (and_left (term_names (length m.blocks) t) _ e),
      sum-exists x h.1
          (and_right (term_names (length m.blocks) t) _ e),
    )
    sum-exists (minus t x) h e = (
      term-exists t h.0 (and_left (term_names (length m.blocks) t) _ e),
      sum-exists x h.1
          (and_right (term_names (length m.blocks) t) _ e),
    )

  plain-values : (l : List Sum) → Each (RangedSum (value_bounds m)) l → T (all_of (sum_names (length m.blocks)) l)
      → any_of clock_in_sum l ≡ false → Each (PlainSum p m) l
  unfolding all_of any_of
  plain-values [] h t e = tt
  plain-values (x ∷ l) h t e =
      let d = or_false (clock_in_sum x) (any_of clock_in_sum l) e in (
        plain-sum x (sum-exists x h.0 (and_left (sum_names (length m.blocks) x) _ t)) d.0,
        plain-values l h.1
            (and_right (sum_names (length m.blocks) x) _ t) d.1,
      )

  plain-terms : (l : List Term) → Each (Ranged (bounds_of m)) l → any_of clock_in l ≡ false → Each (Plain p m) l
  unfolding any_of
  plain-terms [] h e = tt
  plain-terms (t ∷ l) h e = let d = or_false (clock_in t) (any_of clock_in l) e in (plain-term t h.0 d.0, plain-terms l h.1 d.1)

  plain-blocks : (l : List Block) → Each (λ b. Each (Ranged (bounds_of m)) (facts b).terms) l
      → any_of (λ b. any_of clock_in (facts b).terms) l ≡ false → Each (λ b. Each (Plain p m) (facts b).terms) l
  unfolding any_of
  plain-blocks [] h e = tt
  plain-blocks (b ∷ l) h e =
      let d = or_false (any_of clock_in (facts b).terms) (any_of (λ b. any_of clock_in (facts b).terms) l) e in
      (plain-terms (facts b).terms h.0 d.0, plain-blocks l h.1 d.1)

  plain-model : (rules : Rules) → NamedModel rules m → T (well_formed m) → uses_clock m ≡ false → PlainModel p m
  unfolding uses_clock well_formed facts
  plain-model rules h f e =
      let d = or_false (any_of clock_in_sum m.values) (any_of (λ b. any_of clock_in (facts b).terms) m.blocks) e in
      record {
        values = plain-values m.values h.values (third f) d.0;
        blocks =
            λ b. each-get_or (λ (x : Block). Each (Plain p m) (facts x).terms) m.blocks (b - 1) (terminate 0)
            (plain-blocks m.blocks h.blocks d.1) tt;
      }
    where
      third : T (well_formed m) → T (all_of (sum_names (length m.blocks)) m.values)
      third f =
          three (well_placed true m.blocks) (targets_move m) (all_of (sum_names (length m.blocks)) m.values) (joined 0 m.blocks) f
        where
          three : (a b c d : Bool) → T (a && b && c && d) → T c
          three true true true d h = tt
          three true true false d h = h
          three true false c d h = absurd h
          three false b c d h = absurd h

module _ (rules : Rules) (model tape : List ℕ) (work report : ℕ) {m : BlockModel} {t : List (List ℕ)}
    (accepted : validate rules model tape work report ≡ accept m t) where
  named : NamedModel rules m
  named = rw accepted at (names_of rules model tape work report)

  pub edition-from : (1 ≤ m.edition) × (m.edition ≤ rules.editions)
  edition-from = named.edition

  -- what the questions of validation have asked is what the relation needs of terms
  pub plain-from : (p : Part) → T (well_formed m) → uses_clock m ≡ false → PlainModel p m
  plain-from p f e = plain-model p m rules named f e
