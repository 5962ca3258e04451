-- Validation from bytes: in what it accepts, at most four brackets open in a value and none in a term of a block.
use Rattle.machine.specs.All.{ℕ, zero, suc, ◌-◌, ◌≡◌, Bool, true, false, cond, ◌&&◌, List, ◌∷◌, [], arith, lt-ltb, T, leb, ltb, eqb, in_force, Term, Sum, nothing, plus, minus, Block, BlockModel, facts, Parsed, parsed, refused, Parser, Counts, simple_term, number, block_term, counted, mentioned, value_number, sum_terms, sum_field, bracket_field, comparison_field, mention_field, tagged_term, value_term, value_field, value_fields, block_field, model_fields, at_end, beginning, model_of_lem, Validation, accept, reject, with_tape, with_model, validate, all_of, Each, sym, subst, length, Relation, comparison, bracket, terminate, relation_of, in_value, well_formed, tape_of}
use Rattle.machine.specs.Limits as Limits
use Rattle.machine.proofs.{Runs.RunLaws.cond_cases, Runs.Shape.each-get_or, Decoding.ProperFrom.block-parsed}
use Rattle.machine.proofs.Decoding.ParserLaws.{Refusal, Gives, Ensures, Any, then, gives, refuses, choice, weaken, repeated, asked, in-range}
use Rattle.evaluation.specs.{nested_term, nested_sum, nested_block}
use Rattle.evaluation.specs.Nested.{Nested}

-- ---- Depth

all : (a b : Bool) → T a → T b → T (a && b)
all true true h k = tt
all true false h k = k
all false b h k = absurd h

opens : (d : ℕ) → T (ltb 0 (suc d))
opens d = subst T (sym (lt-ltb 0 (suc d) (omega arith))) tt

inner : (d : ℕ) → d ≡ suc d - 1
inner d = omega arith

nested-comparison : (d : ℕ) (r : Relation) (a b : Term) → T (nested_term d a) → T (nested_term d b)
    → T (nested_term (suc d) (comparison r a b))
unfolding nested_term
nested-comparison d r a b h k =
    all (ltb 0 (suc d)) _ (opens d)
    (all (nested_term (suc d - 1) a) (nested_term (suc d - 1) b) (subst (λ (n : ℕ). T (nested_term n a)) (inner d) h)
    (subst (λ (n : ℕ). T (nested_term n b)) (inner d) k))

nested-bracket : (d : ℕ) (e : Sum) → T (nested_sum d e) → T (nested_term (suc d) (bracket e))
unfolding nested_term
nested-bracket d e h = all (ltb 0 (suc d)) (nested_sum (suc d - 1) e) (opens d) (subst (λ (n : ℕ). T (nested_sum n e)) (inner d) h)

nested-signed : (d : ℕ) (b : Bool) (t : Term) (e : Sum) → T (nested_term d t) → T (nested_sum d e)
    → T (nested_sum d (cond b (plus t e) (minus t e)))
unfolding nested_term
nested-signed d true t e h k = all (nested_term d t) (nested_sum d e) h k
nested-signed d false t e h k = all (nested_term d t) (nested_sum d e) h k

-- ---- Terms

both : {A : Type 0} {P : A → Type 0} (b : Bool) {p q : Parser A} → Ensures P p → Ensures P q → Ensures P (cond b p q)
both b h k = choice b (λ e. h) (λ e. k)

module _ (d : ℕ) where
  abbrev Low : Term → Type 0
  Low t = T (nested_term d t)

  module _ (read : ℕ → ℕ → Parser ℕ) (reads : (lo hi : ℕ) → Ensures Any (read lo hi)) where
    simple-low : (n : Counts) (tag : ℕ) → Ensures Low (simple_term read n tag)
    unfolding simple_term nested_term
    simple-low n tag =
        both (eqb tag 0) (then (reads 0 Limits.max_constant) (λ k h. gives tt))
        (both (eqb tag 1) (then (reads 0 Limits.max_constant) (λ k h. gives tt))
        (both (eqb tag 2) (then (reads 1 Limits.parameter_count) (λ k h. gives tt))
        (both (eqb tag 3) (then (reads 0 0) (λ k h. gives tt))
        (both (eqb tag 4) (then (reads 1 n.blocks) (λ k h. gives tt))
        (both (eqb tag 5) (then (reads 1 n.queues) (λ k h. gives tt))
        (both (eqb tag 6) (then (reads 1 n.storages) (λ k h. gives tt))
        (both (eqb tag 7) (then (reads 1 n.storages) (λ k h. gives tt)) (then (reads 1 n.facilities) (λ k h. gives tt)))))))))

module _ (s : List ℕ) where
  any-number : (lo hi : ℕ) → Ensures Any (number s lo hi)
  any-number lo hi = weaken (λ a h. tt) (in-range Limits.max_number s 3 lo hi (omega arith) (omega arith))

  block-term : (n : Counts) → Ensures (Low 0) (block_term s n)
  unfolding block_term nested_term
  block-term n =
      then (any-number 0 9)
      (λ tag h. both (eqb tag 9) (then (any-number 1 n.values) (λ k h. gives tt)) (simple-low 0 (number s) any-number n tag))

  counted_any : (n : ℕ) → Ensures Any (counted s n)
  unfolding counted
  counted_any n =
      record {
        from = λ c.
            cond_cases (Gives Any) (ltb c.numbers Limits.max_value_numbers) _ _ (λ e. tt) (λ e. (omega arith, omega arith));
      }

  mentioned_any : (n : ℕ) → Ensures Any (mentioned s n)
  unfolding mentioned
  mentioned_any n =
      record {
        from = λ c. cond_cases (Gives Any) (ltb c.mentions Limits.max_mentions) _ _ (λ e. tt) (λ e. (omega arith, omega arith));
      }

  value-number : (lo hi : ℕ) → Ensures Any (value_number s lo hi)
  unfolding value_number
  value-number lo hi = then (any-number lo hi) (λ n h. counted_any n)

  module _ (d : ℕ) where
    sum-terms : (n : ℕ) (p : Parser Term) → Ensures (Low d) p → Ensures (λ e. T (nested_sum d e)) (sum_terms s n p)
    unfolding sum_terms nested_term
    sum-terms zero p e = gives tt
    sum-terms (suc n) p e =
        then (value-number 0 1) (λ sign h. then e (λ t ht. then (sum-terms n p e) (λ l hl. gives (nested-signed d (eqb sign 0) t l ht hl))))

    sum-field : (p : Parser Term) → Ensures (Low d) p → Ensures (λ e. T (nested_sum d e)) (sum_field s p)
    unfolding sum_field
    sum-field p e = then (value-number 1 Limits.max_terms) (λ n h. sum-terms n p e)

    bracket-field : (p : Parser Term) → Ensures (Low d) p → Ensures (Low (suc d)) (bracket_field s p)
    unfolding bracket_field
    bracket-field p e = then (sum-field p e) (λ x h. gives (nested-bracket d x h))

    comparison-field : (p : Parser Term) → Ensures (Low d) p → Ensures (Low (suc d)) (comparison_field s p)
    unfolding comparison_field
    comparison-field p e =
        then (value-number 1 6) (λ r h. then e (λ a ha. then e (λ b hb. gives (nested-comparison d (relation_of r) a b ha hb))))

    mention-field : (n : Counts) → Ensures (Low d) (mention_field s n)
    unfolding mention_field nested_term
    mention-field n = then (value-number 1 n.values) (λ k h. then (mentioned_any k) (λ m h. gives tt))

    tagged-term : (n : Counts) (p q : Parser Term) → Ensures (Low d) p → Ensures (Low d) q → Ensures (Low d) (tagged_term s n p q)
    unfolding tagged_term
    tagged-term n p q h k =
        then (value-number 0 11)
        (λ tag g. both (eqb tag 9) (mention-field n)
        (both (eqb tag 10) h (both (eqb tag 11) k (simple-low d (value_number s) value-number n tag))))

  value-term : (n : Counts) (d : ℕ) → Ensures (Low d) (value_term s n d)
  unfolding value_term
  value-term n zero = tagged-term 0 n _ _ (refuses 5 (omega arith, omega arith)) (refuses 5 (omega arith, omega arith))
  value-term n (suc d) = tagged-term (suc d) n _ _ (comparison-field d _ (value-term n d)) (bracket-field d _ (value-term n d))

  abbrev Shallow : Sum → Type 0
  Shallow e = T (nested_sum Limits.max_brackets e)

  value-fields : (n : Counts) (left lower : ℕ) → Ensures (Each Shallow) (value_fields s n left lower)
  unfolding value_fields value_field
  value-fields n zero lower = gives tt
  value-fields n (suc left) lower = then one (λ e h. then (value-fields n left (suc lower)) (λ l hl. gives (h, hl)))
    where
      one : Ensures Shallow (value_field s (in_value s n lower))
      one =
          record {
            from = λ c. (sum-field Limits.max_brackets _ (value-term (in_value s n lower) Limits.max_brackets)).from
                (record { position = c.position; numbers = 0; mentions = 0 });
          }

  -- ---- Blocks

  abbrev Flat : Block → Type 0
  Flat b = T (nested_block b)

  all-flat : (l : List Term) → Each (Low 0) l → T (all_of (nested_term 0) l)
  unfolding all_of
  all-flat [] h = tt
  all-flat (a ∷ l) h = all (nested_term 0 a) (all_of (nested_term 0) l) h.0 (all-flat l h.1)

  block-flat : (n : Counts) (capacities : List ℕ) → Ensures Flat (block_field s in_force.kinds n capacities)
  unfolding nested_block
  block-flat n capacities =
      weaken (λ b h. all-flat (facts b).terms h.1) (block-parsed s n capacities (Low 0) (block-term n) in_force.kinds)

  -- ---- The model

  abbrev Low-model : BlockModel → Type 0
  Low-model m = Each Shallow m.values × Each Flat m.blocks

  model-fields : Ensures Low-model (model_fields s in_force)
  unfolding model_fields
  model-fields =
      then (any-number 1 in_force.editions)
      (λ edition he. then (any-number 0 Limits.max_facilities) (λ facilities hf. then (any-number 0 Limits.max_storages) (λ storages hs.
      then (repeated storages (any-number 1 Limits.max_capacity)) (λ capacities hc. then (any-number 0 Limits.max_queues) (λ queues hq.
      then (any-number 0 Limits.max_values)
      (λ values hv. then (value-fields _ values 0) (λ sums hm. then (any-number 0 Limits.max_lists) (λ lists hl.
      then (any-number 1 Limits.max_counter) (λ counter hn. then (any-number 1 Limits.max_blocks) (λ blocks hb.
      then (repeated blocks (block-flat _ capacities)) (λ program hp. gives (hm, hp.1))))))))))))

  at-end : (code : ℕ) → Refusal code → Ensures Any (at_end s code)
  unfolding at_end
  at-end code h = record { from = λ c. (weaken (λ u g. tt) (asked (eqb c.position (length s)) code h)).from c }

  model_of : Ensures Low-model (model_of_lem in_force s)
  unfolding model_of_lem
  model_of =
      then model-fields
      (λ m h. then (at-end 6 (omega arith, omega arith))
      (λ u g. then (asked (well_formed m) 7 (omega arith, omega arith)) (λ u f. gives h)))

-- ---- The answer

abbrev Verdict : List ℕ → Validation → Type 0
Verdict s (accept m tape) = Low-model s m
Verdict s (reject n) = Unit {0}

with-tape : (s : List ℕ) (m : BlockModel) → Low-model s m → (r : Parsed (List (List ℕ))) → Verdict s (with_tape m r)
unfolding with_tape
with-tape s m h (parsed tape c) = h
with-tape s m h (refused n) = tt

with-model : (s tape : List ℕ) (r : Parsed BlockModel) → Gives (Low-model s) r → Verdict s (with_model tape r)
unfolding with_model
with-model s tape (parsed m c) h = with-tape s m h (tape_of m.rules tape m.lists beginning)
with-model s tape (refused n) h = tt

verdict : (model tape : List ℕ) (work report : ℕ) → Verdict model (validate in_force model tape work report)
unfolding validate
verdict model tape work report =
    cond_cases (Verdict model) (leb Limits.work_numbers work)
    (cond (leb Limits.report_room report) (with_model tape (model_of_lem in_force model beginning)) (reject 2)) (reject 1)
    (λ e.
    cond_cases (Verdict model) (leb Limits.report_room report) (with_model tape (model_of_lem in_force model beginning)) (reject 2)
    (λ e. with-model model tape (model_of_lem in_force model beginning) ((model_of model).from beginning)) (λ e. tt))
    (λ e. tt)

-- an accepted model has brackets at most four deep, which evaluation relies on
pub nested-from : (model tape : List ℕ) (work report : ℕ) {m : BlockModel} {t : List (List ℕ)}
    → validate in_force model tape work report ≡ accept m t → Nested m
nested-from model tape work report {m} e =
    let low : Low-model model m = subst (Verdict model) e (verdict model tape work report) in
    record {
      blocks = λ b. each-get_or (Flat model) m.blocks b (terminate 0) low.1 (unfold nested_block facts all_of in tt);
      values = λ k. each-get_or (Shallow model) m.values k nothing low.0 (unfold nested_term in tt);
    }
