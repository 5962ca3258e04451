-- Questions 3 to 10, number by number, and the model and tape that are read on the way.
use Rattle.std.specs.Prelude.{◌+◌, ◌∷◌}
use Rattle.machine.specs.Basics.{ℕ, zero, suc, cond, List, [], ltb, leb, eqb, length}
use Rattle.machine.specs.Limits as Limits
use Rattle.machine.specs.{Rules.Rules, Lists.nth}
use Rattle.machine.specs.Parser.{Parser, parsed, refused, ◌>>=◌, ◌>>◌, give, refuse, ask, times, field, field_up_to}
use Rattle.machine.specs.Term.{Relation, equal, unequal, less, at_most, greater, at_least, Term, constant, minus_constant, parameter, clock_term, entries_of, content_of, units_in_use, units_free, facility_in_use, value, comparison, bracket, Sum, nothing, plus, minus}
use Rattle.machine.specs.Block.{Code, U, NU, E, NE, F, NF, Block, generate, advance, terminate, seize, release, enter, leave, wait_server, wait_terms, branch, goto, assign, priority, split, arrive, depart, assemble, preempt, give_back, BlockModel}

-- How many there are of each thing that a number may name.
pub record Counts : Type 0 where
  pub facilities : ℕ
  pub storages : ℕ
  pub queues : ℕ
  pub values : ℕ
  pub lists : ℕ
  pub blocks : ℕ

-- ---- Codes of operands

-- "Relations: 1 =, 2 ≠, 3 <, 4 ≤, 5 >, 6 ≥"
unfoldable pub relation_of : ℕ → Relation
relation_of n = nth (equal ∷ unequal ∷ less ∷ at_most ∷ greater ∷ at_least ∷ []) n equal

-- "1 U (in use), 2 NU for facilities; 3 E (empty), 4 NE, 5 F (full), 6 NF for storages"
unfoldable pub code_of : ℕ → Code
code_of n = nth (U ∷ NU ∷ E ∷ NE ∷ F ∷ NF ∷ []) n U

-- ---- Terms, "a tag and a number"

-- the number after a tag from 0 to 8, read by `number`
unfoldable pub simple_term : (ℕ → ℕ → Parser ℕ) → Counts → ℕ → Parser Term
simple_term number n tag =
    cond (eqb tag 0) (do k ← number 0 Limits.max_constant; give (constant k))
    (cond (eqb tag 1) (do k ← number 0 Limits.max_constant; give (minus_constant k))
    (cond (eqb tag 2) (do k ← number 1 Limits.parameter_count; give (parameter k))
    (cond (eqb tag 3) (do k ← number 0 0; give clock_term)
    (cond (eqb tag 4) (do b ← number 1 n.blocks; give (entries_of b))
    (cond (eqb tag 5) (do q ← number 1 n.queues; give (content_of q))
    (cond (eqb tag 6) (do s ← number 1 n.storages; give (units_in_use (n.facilities + s)))
    (cond (eqb tag 7) (do s ← number 1 n.storages; give (units_free (n.facilities + s)))
    (do f ← number 1 n.facilities; give (facility_in_use f)))))))))

module _ (s : List ℕ) where
  -- Questions, "Then number by number through the model: whole, shortest, in size? 3. Within its field's range? 4."
  abbrev pub number : ℕ → ℕ → Parser ℕ
  number lo hi = field s 3 lo hi

  -- a term of a block: tags 0 to 9
  unfoldable pub block_term : Counts → Parser Term
  block_term n = do
    tag ← number 0 9
    cond (eqb tag 9) (do k ← number 1 n.values; give (value k)) (simple_term number n tag)

  -- ---- Values: "Inside a value, is it so far within 64 numbers, four open brackets .. and two mentions of values? 5."

  unfoldable pub counted : ℕ → Parser ℕ
  counted n c =
      cond (ltb c.numbers Limits.max_value_numbers)
      (parsed n (record { position = c.position; numbers = suc c.numbers; mentions = c.mentions }))
      (refused 5)

  unfoldable pub mentioned : ℕ → Parser ℕ
  mentioned n c =
      cond (ltb c.mentions Limits.max_mentions)
      (parsed n (record { position = c.position; numbers = c.numbers; mentions = suc c.mentions }))
      (refused 5)

  unfoldable pub value_number : ℕ → ℕ → Parser ℕ
  value_number lo hi = do
    n ← number lo hi
    counted n

  -- that many terms, each "stored as a sign (0 plus, 1 minus), then its tag and number"
  unfoldable pub sum_terms : ℕ → Parser Term → Parser Sum
  sum_terms zero inner = give nothing
  sum_terms (suc n) inner = do
    sign ← value_number 0 1
    t ← inner
    e ← sum_terms n inner
    give (cond (eqb sign 0) (plus t e) (minus t e))

  -- "A value is a sum: a count of terms 1..8", by a parser of its terms
  unfoldable pub sum_field : Parser Term → Parser Sum
  sum_field inner = do
    count ← value_number 1 Limits.max_terms
    sum_terms count inner

  -- "tag 11 and a sum"
  unfoldable pub bracket_field : Parser Term → Parser Term
  bracket_field inner = do
    e ← sum_field inner
    give (bracket e)

  -- "tag 10, a relation, two terms"
  unfoldable pub comparison_field : Parser Term → Parser Term
  comparison_field inner = do
    r ← value_number 1 6
    a ← inner
    b ← inner
    give (comparison (relation_of r) a b)

  -- "A value names only lower-numbered values (that is the field's range)"
  unfoldable pub mention_field : Counts → Parser Term
  mention_field n = do
    k ← value_number 1 n.values
    m ← mentioned k
    give (value m)

  -- a term of a value, given what tags 10 and 11 lead to
  unfoldable pub tagged_term : Counts → Parser Term → Parser Term → Parser Term
  tagged_term n compared bracketed = do
    tag ← value_number 0 11
    cond (eqb tag 9) (mention_field n) (cond (eqb tag 10) compared (cond (eqb tag 11) bracketed (simple_term value_number n tag)))

  -- a term of a value where that many brackets may still open; the next one is refused at its tag
  unfoldable pub value_term : Counts → ℕ → Parser Term
  value_term n zero = tagged_term n (refuse 5) (refuse 5)
  value_term n (suc d) = tagged_term n (comparison_field (value_term n d)) (bracket_field (value_term n d))

  -- one value: its limits begin anew
  unfoldable pub value_field : Counts → Parser Sum
  value_field n = λ c.
      sum_field (value_term n Limits.max_brackets) (record { position = c.position; numbers = 0; mentions = 0 })

  -- "Inside a value a block number may be 1..256 when read."
  abbrev pub in_value : Counts → ℕ → Counts
  in_value n lower =
      record {
        facilities = n.facilities;
        storages = n.storages;
        queues = n.queues;
        values = lower;
        lists = n.lists;
        blocks = Limits.max_blocks;
      }

  -- `left` values, behind `lower` of them
  unfoldable pub value_fields : Counts → (left lower : ℕ) → Parser (List Sum)
  value_fields n zero lower = give []
  value_fields n (suc left) lower = do
    e ← value_field (in_value n lower)
    l ← value_fields n left (suc lower)
    give (e ∷ l)

  -- ---- Blocks, "Kind and operands as stored"

  -- a facility for codes 1 and 2, else a storage, as a server number
  unfoldable pub code_server : Counts → ℕ → Parser ℕ
  code_server n code =
      cond (leb code 2) (number 1 n.facilities) (do k ← number 1 n.storages; give (n.facilities + k))

  -- a storage and 1..capacity units of it, for ENTER and LEAVE
  unfoldable pub storage_units : Counts → List ℕ → (ℕ → ℕ → Block) → Parser Block
  storage_units n capacities make = do
    k ← number 1 n.storages
    b ← number 1 (nth capacities k 0)
    give (make (n.facilities + k) b)

  unfoldable pub operands : Counts → List ℕ → ℕ → Parser Block
  operands n capacities kind =
      cond (eqb kind 1) (do l ← number 1 n.lists; p ← number 0 Limits.max_priority; give (generate l p))
      (cond (eqb kind 2) (do l ← number 1 n.lists; give (advance l))
      (cond (eqb kind 3) (do a ← number 0 Limits.max_terminate; give (terminate a))
      (cond (eqb kind 4) (do f ← number 1 n.facilities; give (seize f))
      (cond (eqb kind 5) (do f ← number 1 n.facilities; give (release f))
      (cond (eqb kind 6) (storage_units n capacities enter)
      (cond (eqb kind 7) (storage_units n capacities leave)
      (cond (eqb kind 8) (do code ← number 1 6; v ← code_server n code; give (wait_server (code_of code) v 0))
      (cond (eqb kind 9) (do a ← block_term n; r ← number 1 6; b ← block_term n; give (wait_terms a (relation_of r) b))
      (cond (eqb kind 10)
      (do a ← block_term n; r ← number 1 6; b ← block_term n; target ← number 1 n.blocks; give (branch a (relation_of r) b target))
      (cond (eqb kind 11) (do target ← number 1 n.blocks; give (goto target))
      (cond (eqb kind 12) (do k ← number 1 Limits.parameter_count; a ← block_term n; give (assign k a))
      (cond (eqb kind 13) (do p ← number 0 Limits.max_priority; give (priority p))
      (cond (eqb kind 14) (do k ← number 1 Limits.max_split; target ← number 1 n.blocks; give (split k target))
      (cond (eqb kind 15) (do q ← number 1 n.queues; give (arrive q))
      (cond (eqb kind 16) (do q ← number 1 n.queues; give (depart q))
      (cond (eqb kind 17)
      (do code ← number 1 6; v ← code_server n code; c ← number 1 Limits.max_back; give (wait_server (code_of code) v c))
      (cond (eqb kind 18) (do k ← number 2 Limits.max_assemble; give (assemble k))
      (cond (eqb kind 19) (do f ← number 1 n.facilities; give (preempt f))
      (do f ← number 1 n.facilities; give (give_back f))))))))))))))))))))

  unfoldable pub block_field : (kinds : ℕ) → Counts → List ℕ → Parser Block
  block_field kinds n capacities = do
    kind ← number 1 kinds
    operands n capacities kind

  -- ---- "Model: edition (1); facilities 0..32; storages 0..32 and each capacity 1..65,535; queues 0..32; values 0..8 and
  -- their sums; lists 0..16; counter 1..65,535; blocks 1..256 and each block."

  unfoldable pub model_fields : Rules → Parser BlockModel
  model_fields rules = do
    edition ← number 1 rules.editions
    facilities ← number 0 Limits.max_facilities
    storages ← number 0 Limits.max_storages
    capacities ← times storages (number 1 Limits.max_capacity)
    queues ← number 0 Limits.max_queues
    values ← number 0 Limits.max_values
    sums ←
        value_fields (record { facilities = facilities; storages = storages; queues = queues; values = 0; lists = 0; blocks = 0 }) values 0
    lists ← number 0 Limits.max_lists
    counter ← number 1 Limits.max_counter
    blocks ← number 1 Limits.max_blocks
    program ←
        times blocks
        (block_field rules.kinds
        (record { facilities = facilities; storages = storages; queues = queues; values = values; lists = lists; blocks = blocks })
        capacities)
    give
        (record {
          rules = rules;
          edition = edition;
          facilities = facilities;
          capacities = capacities;
          queues = queues;
          values = sums;
          lists = lists;
          counter = counter;
          blocks = program;
        })

  -- "After it: does nothing follow?"
  unfoldable pub at_end : ℕ → Parser (Unit {0})
  at_end code = λ c. ask (eqb c.position (length s)) code c

  -- ---- "Tape: for each list a count 0..65,535 and that many times 0..1,000,000", with questions 8, 9 and 10

  unfoldable pub list_field : Rules → Parser (List ℕ)
  list_field rules = do
    count ← field_up_to rules.max_number s 8 0 Limits.max_samples
    times count (field_up_to rules.max_number s 8 0 rules.max_time)
