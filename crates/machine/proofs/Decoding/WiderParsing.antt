-- Reading under rules that allow no less: what was read stays as it was. A number, the tape, a record and a model are read alike; the
-- model differs in its rules alone.
use Rattle.machine.specs.All.{ℕ, zero, suc, ◌≤◌, ◌≡◌, refl, subst, Bool, true, false, cond, ◌&&◌, List, Option, none, some, arith, leb-true, le-leb, leb, Rules, document01, Number, padded, within, read_number, Cursor, Parsed, parsed, refused, Parser, continue, ◌>>=◌, times, forward, field_of, field_up_to, BlockModel, inside_group, block_field, model_fields, list_field, record_fields, targets_move, well_formed, beginning, model_of_lem, tape_of, Wider, counting, sym, ap, ◌∙◌, drop, groups, Counts}
use Rattle.machine.specs.Limits as Limits
use Rattle.machine.proofs.Basic.Bools.{cond_cases}

-- ---- Definition

-- what one parser gives, the other gives too
abbrev pub Kept : {A : Type 0} → Parsed A → Parsed A → Type 0
Kept (parsed a c) q = q ≡ parsed a c
Kept (refused n) q = Unit {0}

pub record Widens {A : Type 0} (p q : Parser A) : Type 0 where
  pub from : (c : Cursor) → Kept (p c) (q c)

-- ---- Ways to build a parser

kept_same : {A : Type 0} (r : Parsed A) → Kept r r
kept_same (parsed a c) = refl
kept_same (refused n) = tt

continued : {A B : Type 0} (r r' : Parsed A) (f g : A → Parser B) → Kept r r' → ((a : A) (c : Cursor) → Kept (f a c) (g a c))
    → Kept (continue r f) (continue r' g)
unfolding continue
continued (parsed a c) r' f g h k = rw h (k a c)
continued (refused n) r' f g h k = tt

same : {A : Type 0} (p : Parser A) → Widens p p
same p = record { from = λ c. kept_same (p c) }

then : {A B : Type 0} {p q : Parser A} {f g : A → Parser B} → Widens p q → ((a : A) → Widens (f a) (g a)) → Widens (p >>= f) (q >>= g)
then {p = p} {q = q} {f = f} {g = g} h k = record { from = λ c. continued (p c) (q c) f g (h.from c) (λ a c. (k a).from c) }

repeated : {A : Type 0} {p q : Parser A} (n : ℕ) → Widens p q → Widens (times n p) (times n q)
unfolding times
repeated zero h = same _
repeated (suc n) h = then h (λ a. then (repeated n h) (λ l. same _))

-- ---- One number

module _ {most more : ℕ} (larger : most ≤ more) where
  -- what was in size is in size
  abbrev Still : Option Number → Option Number → Type 0
  Still none q = Unit {0}
  Still (some n) q = q ≡ some n

  within-still : (o : Option Number) → Still (within most o) (within more o)
  unfolding within
  within-still none = tt
  within-still (some n) =
      cond_cases (λ x. Still x (cond (leb n.value more) (some n) none)) (leb n.value most) (some n) none
      (λ e. rw (le-leb n.value more (omega (arith, leb-true n.value most e)))) (λ e. tt)

  read-still : (k : ℕ) (l : List ℕ) → Still (read_number k most l) (read_number k more l)
  unfolding read_number
  read-still k l = go (padded l)
    where
      go : (b : Bool) → Still (cond b none (within most (groups k 0 l))) (cond b none (within more (groups k 0 l)))
      go true = tt
      go false = within-still (groups k 0 l)

  module _ (code lo : ℕ) {hi higher : ℕ} (wider : hi ≤ higher) where
    field-of : (o o' : Option Number) (c : Cursor) → Still o o' → Kept (field_of code lo hi o c) (field_of code lo higher o' c)
    unfolding field_of
    field-of none o' c h = tt
    field-of (some n) o' c h = rw h (go (leb lo n.value) (leb n.value hi) refl)
      where
        go : (a b : Bool) → leb n.value hi ≡ b
            → Kept (cond (a && b) (parsed n.value (forward c n.size)) (refused (suc code)))
            (cond (a && leb n.value higher) (parsed n.value (forward c n.size)) (refused (suc code)))
        go true true e = rw (le-leb n.value higher (omega (arith, leb-true n.value hi e)))
        go true false e = tt
        go false b e = tt

    field_widens : (s : List ℕ) → Widens (field_up_to most s code lo hi) (field_up_to more s code lo higher)
    unfolding field_up_to
    field_widens s =
        record { from = λ c. field-of _ _ c (read-still Limits.max_number_bytes (drop c.position s)) }

-- ---- The tape and a record

module _ {old new : Rules} (less : Wider old new) (s : List ℕ) where
  list_widens : Widens (list_field s old) (list_field s new)
  unfolding list_field
  list_widens =
      then (field_widens less.number 8 0 (omega arith) s) (λ count. repeated count (field_widens less.number 8 0 less.time s))

  pub tape_widens : (lists : ℕ) → Widens (tape_of old s lists) (tape_of new s lists)
  unfolding tape_of
  tape_widens lists = then (repeated lists list_widens) (λ tape. same _)

  pub record_widens : Widens (record_fields old s) (record_fields new s)
  unfolding record_fields
  record_widens =
      then (field_widens less.number 31 0 less.clock s)
      (λ clock. then (field_widens less.number 31 1 (omega arith) s)
      (λ transaction. then (field_widens less.number 31 1 (omega arith) s)
      (λ block. then (field_widens less.number 31 0 (omega arith) s) (λ outcome. same _))))

-- ---- The model

abbrev pub with_rules : Rules → BlockModel → BlockModel
with_rules rules m =
    record {
      rules = rules;
      edition = m.edition;
      facilities = m.facilities;
      capacities = m.capacities;
      queues = m.queues;
      values = m.values;
      lists = m.lists;
      counter = m.counter;
      blocks = m.blocks;
    }

abbrev pub under_rules : Rules → Parsed BlockModel → Parsed BlockModel
under_rules rules (parsed m c) = parsed (with_rules rules m) c
under_rules rules (refused n) = refused n

module _ (new : Rules) where
  record Under (p q : Parser BlockModel) : Type 0 where
    from : (c : Cursor) → q c ≡ under_rules new (p c)

  -- the same reading first, or one that differs in the rules
  alike : {A : Type 0} (p : Parser A) {f g : A → Parser BlockModel} → ((a : A) → Under (f a) (g a)) → Under (p >>= f) (p >>= g)
  unfolding continue
  alike {A} p {f} {g} h = record { from = λ c. go (p c) }
    where
      go : (r : Parsed A) → continue r g ≡ under_rules new (continue r f)
      go (parsed a c) = (h a).from c
      go (refused n) = refl

  after : {p q : Parser BlockModel} {f : BlockModel → Parser BlockModel} → Under p q
      → ((m : BlockModel) → Under (f m) (f (with_rules new m)))
      → Under (p >>= f) (q >>= f)
  unfolding continue
  after {p} {q} {f} h k = record { from = λ c. ap (λ r. continue r f) (h.from c) ∙ go (p c) }
    where
      go : (r : Parsed BlockModel) → continue (under_rules new r) f ≡ under_rules new (continue r f)
      go (parsed m c) = (k m).from c
      go (refused n) = refl

  -- what was read is read, with the new rules
  abbrev pub Follows : Parsed BlockModel → Parsed BlockModel → Type 0
  Follows (parsed m c) q = q ≡ parsed (with_rules new m) c
  Follows (refused n) q = Unit {0}

  record Following (p q : Parser BlockModel) : Type 0 where
    from : (c : Cursor) → Follows (p c) (q c)

  widely : {A : Type 0} {p q : Parser A} {f g : A → Parser BlockModel} → Widens p q → ((a : A) → Following (f a) (g a))
      → Following (p >>= f) (q >>= g)
  unfolding continue
  widely {A} {p} {q} {f} {g} h k = record { from = λ c. go (p c) (q c) (h.from c) }
    where
      go : (r r' : Parsed A) → Kept r r' → Follows (continue r f) (continue r' g)
      go (parsed a c) r' e = rw e ((k a).from c)
      go (refused n) r' e = tt

  afterwards : {p q : Parser BlockModel} {f : BlockModel → Parser BlockModel} → Following p q
      → ((m : BlockModel) → Following (f m) (f (with_rules new m)))
      → Following (p >>= f) (q >>= f)
  unfolding continue
  afterwards {p} {q} {f} h k = record { from = λ c. go (p c) (q c) (h.from c) }
    where
      go : (r r' : Parsed BlockModel) → Follows r r' → Follows (continue r f) (continue r' f)
      go (parsed m c) r' e = rw e ((k m).from c)
      go (refused n) r' e = tt

  module _ (old : Rules) (s : List ℕ) (more : old.kinds ≤ new.kinds) (later : old.editions ≤ new.editions) where
    block_widens : (n : Counts) (capacities : List ℕ)
        → Widens (block_field s old.kinds n capacities) (block_field s new.kinds n capacities)
    unfolding block_field
    block_widens n capacities = then (field_widens (omega arith) 3 1 more s) (λ kind. same _)

    fields_follow : Following (model_fields s old) (model_fields s new)
    unfolding model_fields
    fields_follow =
        widely (field_widens (omega arith) 3 1 later s)
        (λ edition. widely (same _) (λ facilities. widely (same _) (λ storages. widely (same _) (λ capacities. widely (same _) (λ queues.
        widely (same _) (λ values. widely (same _) (λ sums. widely (same _) (λ lists. widely (same _) (λ counter. widely (same _) (λ blocks.
        widely (repeated blocks (block_widens _ capacities)) (λ program. record { from = λ c. refl })))))))))))

    -- where there are no fewer kinds and editions
    pub model-follows : (c : Cursor) → Follows (model_of_lem old s c) (model_of_lem new s c)
    unfolding model_of_lem well_formed targets_move inside_group
    model-follows c = (afterwards fields_follow (λ m. widely (same _) (λ u. widely (same _) (λ u. record { from = λ c. refl })))).from c

-- where there are as many kinds and editions, refusals are the same too

module _ (new old : Rules) (kinds editions : ℕ) (s : List ℕ) where
  fields-under : Under (counting kinds editions new) (model_fields s (counting kinds editions old))
      (model_fields s (counting kinds editions new))
  unfolding model_fields
  fields-under =
      let r = counting kinds editions new in
      alike r _
      (λ edition. alike r _ (λ facilities. alike r _ (λ storages. alike r _ (λ capacities. alike r _ (λ queues. alike r _ (λ values.
      alike r _
      (λ sums. alike r _ (λ lists. alike r _ (λ counter. alike r _ (λ blocks. alike r _ (λ program. record { from = λ c. refl })))))))))))

  model-under : (c : Cursor)
      → model_of_lem (counting kinds editions new) s c ≡ under_rules (counting kinds editions new) (model_of_lem (counting kinds editions old) s c)
  unfolding model_of_lem well_formed targets_move inside_group
  model-under c =
      let r = counting kinds editions new in
      (after r fields-under (λ m. alike r _ (λ u. alike r _ (λ u. record { from = λ c. refl })))).from c

-- only the rules that a model carries along differ
pub model-read : (new old : Rules) → old.kinds ≡ new.kinds → old.editions ≡ new.editions → (s : List ℕ) (c : Cursor)
    → model_of_lem new s c ≡ under_rules new (model_of_lem old s c)
model-read new old same alike s c =
    subst (λ kinds. model_of_lem (counting kinds new.editions new) s c ≡ under_rules (counting kinds new.editions new)
    (model_of_lem old s c)) same
    (rw (← alike) (model-under new old old.kinds old.editions s c))

rules_of : Parsed BlockModel → Rules
rules_of (parsed m c) = m.rules
rules_of (refused n) = document01

-- a model that was read has the rules that it was read by
pub own-rules : (rules : Rules) (s : List ℕ) (m : BlockModel) (c : Cursor) → model_of_lem rules s beginning ≡ parsed m c → m.rules ≡ rules
unfolding rules_of
own-rules rules s m c e = ap rules_of (sym e ∙ model-read rules rules refl refl s beginning ∙ ap (under_rules rules) e)
