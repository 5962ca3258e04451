-- Validation from bytes: what it accepts is proper, and what it refuses with is one of its ten numbers.
use Rattle.machine.specs.All.{ℕ, zero, suc, ◌+◌, ◌≤◌, ◌<◌, ◌≡◌, refl, sym, ap, subst, Bool, cond, List, [], ◌∷◌, arith, leb-true, leb-false, T, leb, ltb, eqb, length, get_or, Rules, nth, Term, Block, enter, leave, BlockModel, facts, compared, Parsed, parsed, refused, Parser, times, Counts, code_of, simple_term, number, block_term, counted, mentioned, value_number, sum_terms, sum_field, bracket_field, comparison_field, mention_field, tagged_term, value_term, value_field, value_fields, code_server, storage_units, operands, block_field, model_fields, at_end, list_field, well_formed, beginning, model_of_lem, tape_of, Validation, accept, reject, with_tape, with_model, validate, Each, ◌-◌, terminate, in_value}
use Rattle.machine.specs.Limits as Limits
use Rattle.machine.proofs as our
use our.Decoding.Proper.{Names, Storage, CodeServer, Units, ProperBlock, Proper}
use our.Basic.Bools.{cond_cases}
use our.Basic.Each.{each_map, each-get_or}
use our.Decoding.ParserLaws.{Refusal, Gives, Ensures, Any, then, gives, refuses, choice, weaken, repeated, asked, in-range}

-- ---- Terms and values: only their refusals matter

-- any answer of a choice
both : {A : Type 0} {P : A → Type 0} (b : Bool) {p q : Parser A} → Ensures P p → Ensures P q → Ensures P (cond b p q)
both b h k = choice b (λ e. h) (λ e. k)

module _ (read : ℕ → ℕ → Parser ℕ) (reads : (lo hi : ℕ) → Ensures Any (read lo hi)) where
  simple_any : (n : Counts) (tag : ℕ) → Ensures Any (simple_term read n tag)
  unfolding simple_term
  simple_any n tag =
      both (eqb tag 0) (then (reads 0 Limits.max_constant) (λ k h. gives tt))
      (both (eqb tag 1) (then (reads 0 Limits.max_constant) (λ k h. gives tt))
      (both (eqb tag 2) (then (reads 1 Limits.parameter_count) (λ k h. gives tt))
      (both (eqb tag 3) (then (reads 0 0) (λ k h. gives tt))
      (both (eqb tag 4) (then (reads 1 n.blocks) (λ k h. gives tt))
      (both (eqb tag 5) (then (reads 1 n.queues) (λ k h. gives tt))
      (both (eqb tag 6) (then (reads 1 n.storages) (λ k h. gives tt))
      (both (eqb tag 7) (then (reads 1 n.storages) (λ k h. gives tt)) (then (reads 1 n.facilities) (λ k h. gives tt)))))))))

module _ (s : List ℕ) where
  -- a number of the model, with its range
  ranged : (lo hi : ℕ) → Ensures (λ n. (lo ≤ n) × (n ≤ hi)) (number s lo hi)
  ranged lo hi = in-range Limits.max_number s 3 lo hi (omega arith) (omega arith)

  any-number : (lo hi : ℕ) → Ensures Any (number s lo hi)
  any-number lo hi = weaken (λ a h. tt) (ranged lo hi)

  block-term : (n : Counts) → Ensures Any (block_term s n)
  unfolding block_term
  block-term n =
      then (any-number 0 9)
      (λ tag h. both (eqb tag 9) (then (any-number 1 n.values) (λ k h. gives tt)) (simple_any (number s) any-number n tag))

  counted_any : (n : ℕ) → Ensures Any (counted s n)
  unfolding counted
  counted_any n =
      record {
        from = λ c.
            cond_cases (Gives Any) (ltb c.numbers Limits.max_value_numbers) _ _ (λ e. tt) (λ e. (omega arith, omega arith));
      }

  mentioned_any : (n : ℕ) → Ensures Any (mentioned s n)
  unfolding mentioned
  mentioned_any n =
      record {
        from = λ c. cond_cases (Gives Any) (ltb c.mentions Limits.max_mentions) _ _ (λ e. tt) (λ e. (omega arith, omega arith));
      }

  value-number : (lo hi : ℕ) → Ensures Any (value_number s lo hi)
  unfolding value_number
  value-number lo hi = then (any-number lo hi) (λ n h. counted_any n)

  sum-terms : (n : ℕ) (inner : Parser Term) → Ensures Any inner → Ensures Any (sum_terms s n inner)
  unfolding sum_terms
  sum-terms zero inner e = gives tt
  sum-terms (suc n) inner e = then (value-number 0 1) (λ a h. then e (λ t h. then (sum-terms n inner e) (λ l h. gives tt)))

  sum-field : (inner : Parser Term) → Ensures Any inner → Ensures Any (sum_field s inner)
  unfolding sum_field
  sum-field inner e = then (value-number 1 Limits.max_terms) (λ n h. sum-terms n inner e)

  bracket-field : (inner : Parser Term) → Ensures Any inner → Ensures Any (bracket_field s inner)
  unfolding bracket_field
  bracket-field inner e = then (sum-field inner e) (λ n h. gives tt)

  comparison-field : (inner : Parser Term) → Ensures Any inner → Ensures Any (comparison_field s inner)
  unfolding comparison_field
  comparison-field inner e = then (value-number 1 6) (λ r h. then e (λ a h. then e (λ b h. gives tt)))

  mention-field : (n : Counts) → Ensures Any (mention_field s n)
  unfolding mention_field
  mention-field n = then (value-number 1 n.values) (λ k h. then (mentioned_any k) (λ m h. gives tt))

  tagged-term : (n : Counts) (p q : Parser Term) → Ensures Any p → Ensures Any q → Ensures Any (tagged_term s n p q)
  unfolding tagged_term
  tagged-term n p q h k =
      then (value-number 0 11)
      (λ tag g. both (eqb tag 9) (mention-field n)
      (both (eqb tag 10) h (both (eqb tag 11) k (simple_any (value_number s) value-number n tag))))

  value-term : (n : Counts) (d : ℕ) → Ensures Any (value_term s n d)
  unfolding value_term
  value-term n zero = tagged-term n _ _ (refuses 5 (omega arith, omega arith)) (refuses 5 (omega arith, omega arith))
  value-term n (suc d) = tagged-term n _ _ (comparison-field _ (value-term n d)) (bracket-field _ (value-term n d))

  value-fields : (n : Counts) (left lower : ℕ) → Ensures Any (value_fields s n left lower)
  unfolding value_fields value_field
  value-fields n zero lower = gives tt
  value-fields n (suc left) lower = then one (λ e h. then (value-fields n left (suc lower)) (λ l h. gives tt))
    where
      one : Ensures Any (value_field s (in_value s n lower))
      one =
          record {
            from = λ c. (sum-field _ (value-term (in_value s n lower) Limits.max_brackets)).from
                (record { position = c.position; numbers = 0; mentions = 0 });
          }

-- ---- Blocks

-- the model in which these counts and capacities end up
pub record Matches (n : Counts) (capacities : List ℕ) (m : BlockModel) : Type 0 where
  pub facilities : m.facilities ≡ n.facilities
  pub capacities_are : m.capacities ≡ capacities
  pub storages : n.storages ≡ length capacities
  pub queues : m.queues ≡ n.queues
  pub lists : m.lists ≡ n.lists
  pub blocks : length m.blocks ≡ n.blocks

-- codes 1 and 2 name a facility, 3 to 6 a storage
facility-code : (m : BlockModel) (code v : ℕ) → 1 ≤ code → code ≤ 2 → Names m.facilities v → CodeServer m (code_of code) v
unfolding code_of
facility-code m zero v low high h = absurd (omega arith)
facility-code m (suc zero) v low high h = h
facility-code m (suc (suc zero)) v low high h = h
facility-code m (suc (suc (suc k))) v low high h = absurd (omega arith)

storage-code : (m : BlockModel) (code v : ℕ) → 2 < code → code ≤ 6 → Storage m v → CodeServer m (code_of code) v
unfolding code_of
storage-code m zero v low high h = absurd (omega arith)
storage-code m (suc zero) v low high h = absurd (omega arith)
storage-code m (suc (suc zero)) v low high h = absurd (omega arith)
storage-code m (suc (suc (suc zero))) v low high h = h
storage-code m (suc (suc (suc (suc zero)))) v low high h = h
storage-code m (suc (suc (suc (suc (suc zero))))) v low high h = h
storage-code m (suc (suc (suc (suc (suc (suc zero)))))) v low high h = h
storage-code m (suc (suc (suc (suc (suc (suc (suc k))))))) v low high h = absurd (omega arith)

module _ (s : List ℕ) (n : Counts) (capacities : List ℕ) where
  abbrev pub Good : Block → Type 0
  Good b = (m : BlockModel) → Matches n capacities m → ProperBlock m b

  storage-number : (k : ℕ) → 1 ≤ k → k ≤ n.storages → (m : BlockModel) → Matches n capacities m → Storage m (n.facilities + k)
  storage-number k low high m at =
      (omega (arith, at.facilities), omega (arith, at.facilities, ap length at.capacities_are, at.storages))

  units : (k b : ℕ) → 1 ≤ b → b ≤ nth capacities k 0 → (m : BlockModel) → Matches n capacities m → Units m (n.facilities + k) b
  units k b low high m at = (low, λ j e. within j (omega (arith, at.facilities)))
    where
      within : (j : ℕ) → k ≡ j → b ≤ nth m.capacities j 0
      within j e = rw at.capacities_are (subst (λ j. b ≤ nth capacities j 0) e high)

  storage-units : (Q : Block → Type 0) (make : ℕ → ℕ → Block)
      → ((k b : ℕ) → 1 ≤ k → k ≤ n.storages → 1 ≤ b → b ≤ nth capacities k 0 → Q (make (n.facilities + k) b))
      → Ensures Q (storage_units s n capacities make)
  unfolding storage_units
  storage-units Q make good =
      then (ranged s 1 n.storages)
      (λ k h. then (ranged s 1 (nth capacities k 0)) (λ b g. gives (good k b h.0 h.1 g.0 g.1)))

  code-server : (code : ℕ) → 1 ≤ code → code ≤ 6
      → Ensures (λ v. (m : BlockModel) → Matches n capacities m → CodeServer m (code_of code) v) (code_server s n code)
  unfolding code_server
  code-server code low high =
      choice (leb code 2)
      (λ e. weaken (λ v h m at. facility-code m code v low (leb-true _ _ e) (h.0, omega (arith, at.facilities)))
      (ranged s 1 n.facilities))
      (λ e. then (ranged s 1 n.storages)
      (λ k h. gives (λ m at. storage-code m code _ (leb-false _ _ e) high (storage-number k h.0 h.1 m at))))

  -- a block number that exists
  target_in : (k : ℕ) → 1 ≤ k → k ≤ n.blocks → (m : BlockModel) → Matches n capacities m → Names (length m.blocks) k
  target_in k low high m at = (low, omega (arith, at.blocks))

  facility_in : (k : ℕ) → 1 ≤ k → k ≤ n.facilities → (m : BlockModel) → Matches n capacities m → Names m.facilities k
  facility_in k low high m at = (low, omega (arith, at.facilities))

  list_in : (k : ℕ) → 1 ≤ k → k ≤ n.lists → (m : BlockModel) → Matches n capacities m → Names m.lists k
  list_in k low high m at = (low, omega (arith, at.lists))

  queue_in : (k : ℕ) → 1 ≤ k → k ≤ n.queues → (m : BlockModel) → Matches n capacities m → Names m.queues k
  queue_in k low high m at = (low, omega (arith, at.queues))

  -- with what is known of every term that a block reads
  module _ (P : Term → Type 0) (term-good : Ensures P (block_term s n)) where
    abbrev pub Parsed-block : Block → Type 0
    Parsed-block b = Good b × Each P (facts b).terms

    operands-good : (kind : ℕ) → Ensures Parsed-block (operands s n capacities kind)
    unfolding operands facts compared
    operands-good kind =
        both (eqb kind 1)
        (then (ranged s 1 n.lists)
        (λ l h. then (ranged s 0 Limits.max_priority) (λ p g. gives (λ m at. (list_in l h.0 h.1 m at, g.1), tt))))
        (both (eqb kind 2) (then (ranged s 1 n.lists) (λ l h. gives (list_in l h.0 h.1, tt)))
        (both (eqb kind 3) (then (ranged s 0 Limits.max_terminate) (λ a h. gives (λ m at. tt, tt)))
        (both (eqb kind 4) (then (ranged s 1 n.facilities) (λ f h. gives (facility_in f h.0 h.1, tt)))
        (both (eqb kind 5) (then (ranged s 1 n.facilities) (λ f h. gives (facility_in f h.0 h.1, tt)))
        (both (eqb kind 6) (storage-units Parsed-block enter (λ k b a c d e. (λ m at. (storage-number k a c m at, units k b d e m at), tt)))
        (both (eqb kind 7) (storage-units Parsed-block leave (λ k b a c d e. (λ m at. (storage-number k a c m at, units k b d e m at), tt)))
        (both (eqb kind 8)
        (then (ranged s 1 6) (λ code h. then (code-server code h.0 h.1) (λ v g. gives (λ m at. (g m at, omega arith), tt))))
        (both (eqb kind 9)
        (then term-good (λ a ha. then (ranged s 1 6) (λ r h. then term-good (λ b hb. gives (λ m at. tt, (ha, (hb, tt)))))))
        (both (eqb kind 10)
        (then term-good
        (λ a ha. then (ranged s 1 6)
        (λ r h. then term-good (λ b hb. then (ranged s 1 n.blocks) (λ k h. gives (target_in k h.0 h.1, (ha, (hb, tt))))))))
        (both (eqb kind 11) (then (ranged s 1 n.blocks) (λ k h. gives (target_in k h.0 h.1, tt)))
        (both (eqb kind 12) (then (ranged s 1 Limits.parameter_count) (λ k h. then term-good (λ a ha. gives (λ m at. h, (ha, tt)))))
        (both (eqb kind 13) (then (ranged s 0 Limits.max_priority) (λ p h. gives (λ m at. h.1, tt)))
        (both (eqb kind 14)
        (then (ranged s 1 Limits.max_split)
        (λ k h. then (ranged s 1 n.blocks) (λ t g. gives (λ m at. (h, target_in t g.0 g.1 m at), tt))))
        (both (eqb kind 15) (then (ranged s 1 n.queues) (λ q h. gives (queue_in q h.0 h.1, tt)))
        (both (eqb kind 16) (then (ranged s 1 n.queues) (λ q h. gives (queue_in q h.0 h.1, tt)))
        (both (eqb kind 17)
        (then (ranged s 1 6)
        (λ code h. then (code-server code h.0 h.1)
        (λ v g. then (ranged s 1 Limits.max_back) (λ c k. gives (λ m at. (g m at, k.1), tt)))))
        (both (eqb kind 18) (then (ranged s 2 Limits.max_assemble) (λ k h. gives (λ m at. h, tt)))
        (both (eqb kind 19) (then (ranged s 1 n.facilities) (λ f h. gives (facility_in f h.0 h.1, tt)))
        (then (ranged s 1 n.facilities) (λ f h. gives (facility_in f h.0 h.1, tt)))))))))))))))))))))

    -- the operands of each kind are in the ranges that `ProperBlock` states
    pub block-parsed : (kinds : ℕ) → Ensures Parsed-block (block_field s kinds n capacities)
    unfolding block_field
    block-parsed kinds = then (ranged s 1 kinds) (λ kind h. operands-good kind)

  block-good : (kinds : ℕ) → Ensures Good (block_field s kinds n capacities)
  block-good kinds = weaken (λ b h. h.0) (block-parsed Any (block-term s n) kinds)

-- ---- The model

record ProperModel (rules : Rules) (m : BlockModel) : Type 0 where
  own : m.rules ≡ rules
  block : Each (ProperBlock m) m.blocks
  blocks : Names Limits.max_blocks (length m.blocks)
  facilities : m.facilities ≤ Limits.max_facilities
  storages : length m.capacities ≤ Limits.max_storages
  capacity : Each (Names Limits.max_capacity) m.capacities
  queues : m.queues ≤ Limits.max_queues
  lists : m.lists ≤ Limits.max_lists
  counter : Names Limits.max_counter m.counter

record ProperTape (rules : Rules) (lists : ℕ) (tape : List (List ℕ)) : Type 0 where
  tapes : length tape ≡ lists
  each-list : Each (λ l. (length l ≤ Limits.max_samples) × Each (λ x. x ≤ rules.max_time) l) tape

module _ (rules : Rules) (s : List ℕ) where
  model-fields : Ensures (ProperModel rules) (model_fields s rules)
  unfolding model_fields
  model-fields =
      then (ranged s 1 rules.editions)
      (λ edition he. then (ranged s 0 Limits.max_facilities) (λ facilities hf. then (ranged s 0 Limits.max_storages) (λ storages hs.
      then (repeated storages (ranged s 1 Limits.max_capacity)) (λ capacities hc. then (ranged s 0 Limits.max_queues) (λ queues hq.
      then (ranged s 0 Limits.max_values)
      (λ values hv. then (value-fields s _ values 0) (λ sums hm. then (ranged s 0 Limits.max_lists) (λ lists hl.
      then (ranged s 1 Limits.max_counter) (λ counter hn. then (ranged s 1 Limits.max_blocks) (λ blocks hb.
      then (repeated blocks (block-good s _ capacities rules.kinds)) (λ program hp.
      let m : BlockModel =
      record {
        rules = rules;
        edition = edition;
        facilities = facilities;
        capacities = capacities;
        queues = queues;
        values = sums;
        lists = lists;
        counter = counter;
        blocks = program;
      } in
      gives
      (record {
        own = refl;
        block =
            each_map
            (λ b g.
            g m
            (record {
              facilities = refl;
              capacities_are = refl;
              storages = sym hc.0;
              queues = refl;
              lists = refl;
              blocks = hp.0;
            }))
            program hp.1;
        blocks = (omega (arith, hp.0, hb.0), omega (arith, hp.0, hb.1));
        facilities = hf.1;
        storages = omega (arith, hc.0, hs.1);
        capacity = hc.1;
        queues = hq.1;
        lists = hl.1;
        counter = hn;
      }))))))))))))

  at-end : (code : ℕ) → Refusal code → Ensures Any (at_end s code)
  unfolding at_end
  at-end code h = record { from = λ c. (weaken (λ u g. tt) (asked (eqb c.position (length s)) code h)).from c }

  model_of : Ensures (λ m. ProperModel rules m × T (well_formed m)) (model_of_lem rules s)
  unfolding model_of_lem
  model_of =
      then model-fields
      (λ m h. then (at-end 6 (omega arith, omega arith))
      (λ u g. then (asked (well_formed m) 7 (omega arith, omega arith)) (λ u f. gives (h, f))))

  -- ---- The tape

  sample-list : Ensures (λ l. (length l ≤ Limits.max_samples) × Each (λ x. x ≤ rules.max_time) l) (list_field s rules)
  unfolding list_field
  sample-list =
      then (in-range rules.max_number s 8 0 Limits.max_samples (omega arith) (omega arith))
      (λ count h.
      weaken (λ l g. (omega (arith, g.0, h.1), each_map (λ x k. k.1) l g.1))
      (repeated count (in-range rules.max_number s 8 0 rules.max_time (omega arith) (omega arith))))

  tape-of : (lists : ℕ) → Ensures (ProperTape rules lists) (tape_of rules s lists)
  unfolding tape_of
  tape-of lists =
      then (repeated lists sample-list)
      (λ tape h. then (at-end 10 (omega arith, omega arith)) (λ u g. gives (record { tapes = h.0; each-list = h.1 })))

-- ---- The answer

abbrev Verdict : Rules → Validation → Type 0
Verdict rules (accept m tape) = Proper m tape × (m.rules ≡ rules)
Verdict rules (reject n) = Refusal n

each_at : {A : Type 0} (P : A → Type 0) (l : List A) (d : A) → Each P l → (i : ℕ) → i < length l → P (get_or l i d)
each_at P [] d h i low = absurd (omega arith)
each_at P (x ∷ l) d h zero low = h.0
each_at P (x ∷ l) d h (suc i) low = each_at P l d h.1 i (omega arith)

proper : (rules : Rules) (m : BlockModel) (tape : List (List ℕ)) → ProperModel rules m → T (well_formed m)
    → ProperTape m.rules m.lists tape → Proper m tape
proper rules m tape h f t =
    record {
      block = λ n. each-get_or (ProperBlock m) m.blocks (n - 1) (terminate 0) h.block tt;
      blocks = h.blocks;
      facilities = h.facilities;
      storages = h.storages;
      capacity = each_at (Names Limits.max_capacity) m.capacities 0 h.capacity;
      queues = h.queues;
      lists = h.lists;
      counter = h.counter;
      formed = f;
      tapes = t.tapes;
      samples = λ k. (each-get_or _ tape k [] t.each-list (omega arith, tt)).0;
      times = λ k i. each-get_or _ (get_or tape k []) i 0 (each-get_or _ tape k [] t.each-list (omega arith, tt)).1 (omega arith);
    }

with-tape : (rules : Rules) (m : BlockModel) → ProperModel rules m → T (well_formed m) → (r : Parsed (List (List ℕ)))
    → Gives (ProperTape m.rules m.lists) r → Verdict rules (with_tape m r)
unfolding with_tape
with-tape rules m h f (parsed tape c) t = (proper rules m tape h f t, h.own)
with-tape rules m h f (refused n) t = t

with-model : (rules : Rules) (tape : List ℕ) (r : Parsed BlockModel) → Gives (λ m. ProperModel rules m × T (well_formed m)) r
    → Verdict rules (with_model tape r)
unfolding with_model
with-model rules tape (parsed m c) h =
    with-tape rules m h.0 h.1 (tape_of m.rules tape m.lists beginning) ((tape-of m.rules tape m.lists).from beginning)
with-model rules tape (refused n) h = h

verdict : (rules : Rules) (model tape : List ℕ) (work report : ℕ) → Verdict rules (validate rules model tape work report)
unfolding validate
verdict rules model tape work report =
    cond_cases (Verdict rules) (leb Limits.work_numbers work)
    (cond (leb Limits.report_room report) (with_model tape (model_of_lem rules model beginning)) (reject 2)) (reject 1)
    (λ e.
    cond_cases (Verdict rules) (leb Limits.report_room report) (with_model tape (model_of_lem rules model beginning)) (reject 2)
    (λ e. with-model rules tape (model_of_lem rules model beginning) ((model_of rules model).from beginning)) (λ e. (omega arith, omega arith)))
    (λ e. (omega arith, omega arith))

module _ (rules : Rules) (model tape : List ℕ) (work report : ℕ) where
  -- what validation accepts is proper
  pub proper-from : {m : BlockModel} {t : List (List ℕ)} → validate rules model tape work report ≡ accept m t → Proper m t
  proper-from e = (rw e at (verdict rules model tape work report)).0

  -- and has the rules that it was judged by
  pub rules-from : {m : BlockModel} {t : List (List ℕ)} → validate rules model tape work report ≡ accept m t → m.rules ≡ rules
  rules-from e = (rw e at (verdict rules model tape work report)).1

  -- "Any other input .. gets the refusal number listed for it": 1 to 10
  pub refusal-from : {n : ℕ} → validate rules model tape work report ≡ reject n → (1 ≤ n) × (n ≤ 10)
  refusal-from e = rw e at (verdict rules model tape work report)
