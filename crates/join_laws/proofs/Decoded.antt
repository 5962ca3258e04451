-- What is known of a model that was read: its counts are in range, and its values and blocks, moved on to wherever there is room for them,
-- are read again.
use Rattle.machine.specs.All.{ℕ, ◌+◌, ◌≤◌, zero-add, add-zero, arith, ◌≡◌, refl, sym, ap, subst, Bool, true, false, List, [], ◌∷◌, map, T, length, in_force, flat, nth, Cursor, Parsed, parsed, refused, Parser, ask, times, Sum, Block, BlockModel, Counts, number, in_value, value_fields, block_field, model_fields, all_of, sum_names, well_formed, model_of_lem, Each, ◌-◌}
use Rattle.machine.specs.Limits as Limits
use Rattle.machine.proofs.Basic.Each.{each_map, each-get_or}
use Rattle.machine.proofs.Decoding.ParserLaws as Parsers
use Rattle.joined.specs.Join.{Part, sum_in, block_in}
use Rattle.join_laws.specs.{stored_sum, stored_block}
use Rattle.join_laws.proofs as our
use our.Carrying.{Maps, Anywhere, Given, Gives, follows, given, images, repeated}
use our.{Placing.Placing, Numbered.NumberedSum, CarriedValues.value-fields}
use our.CarriedBlocks.{Program, NumberedBlock, block-field}

-- ---- Definition

abbrev pub counts : (facilities storages queues values lists blocks : ℕ) → Counts
counts f s q v l b = record { facilities = f; storages = s; queues = q; values = v; lists = l; blocks = b }

-- what values see of the counts
abbrev pub early : (facilities storages queues : ℕ) → Counts
early f s q = counts f s q 0 0 0

-- room for values
pub record ValueSpot (n : Counts) (left : ℕ) : Type 0 where
  pub part : Part
  pub joint : Counts
  pub size : ℕ
  pub room : size + part.to_block ≤ Limits.max_blocks
  pub fits : left + part.to_value ≤ Limits.max_values
  -- the counts that a value may name, in the part and in the joined model
  pub inside : (lower lower' : ℕ) → lower' ≡ lower + part.to_value → lower' ≤ Limits.max_values
      → Placing part (in_value [] n lower) (in_value [] joint lower')

-- and for blocks
pub record BlockSpot (n : Counts) (capacities : List ℕ) : Type 0 where
  pub part : Part
  pub joint : Counts
  pub capacities' : List ℕ
  pub at : Placing part n joint
  pub program : Program part n joint at.among capacities capacities'

abbrev pub SumsRead : Counts → ℕ → List Sum → Type 0
SumsRead n left sums =
    (i : ValueSpot n left) → T (all_of (sum_names i.size) sums)
    → Anywhere (λ s. value_fields s i.joint left i.part.to_value)
    (flat (map (λ e. stored_sum i.joint.facilities (sum_in i.part e)) sums))
    (map (sum_in i.part) sums)

abbrev pub BlocksRead : Counts → List ℕ → ℕ → List Block → Type 0
BlocksRead n capacities left blocks =
    (i : BlockSpot n capacities)
    → Anywhere (λ s. times left (block_field s in_force.kinds i.joint i.capacities'))
    (flat (map (λ b. stored_block i.joint.facilities (block_in i.part b)) blocks)) (map (block_in i.part) blocks)

abbrev pub Between : ℕ → ℕ → ℕ → Type 0
Between lo hi v = (lo ≤ v) × (v ≤ hi)

pub record Decoded (m : BlockModel) : Type 0 where
  pub rules : m.rules ≡ in_force
  pub edition : Between 1 in_force.editions m.edition
  pub facilities : m.facilities ≤ Limits.max_facilities
  pub storages : length m.capacities ≤ Limits.max_storages
  pub capacity : Each (Between 1 Limits.max_capacity) m.capacities
  pub queues : m.queues ≤ Limits.max_queues
  pub values : length m.values ≤ Limits.max_values
  pub lists : m.lists ≤ Limits.max_lists
  pub counter : Between 1 Limits.max_counter m.counter
  pub blocks : Between 1 Limits.max_blocks (length m.blocks)
  -- the values of a model that was read, read again wherever there is room
  pub sums-read : SumsRead (early m.facilities (length m.capacities) m.queues) (length m.values) m.values
  pub sums-numbered : Each (NumberedSum m.facilities) m.values
  pub blocks-numbered : Each (NumberedBlock m.facilities) m.blocks
  pub blocks-read :
      BlocksRead (counts m.facilities (length m.capacities) m.queues (length m.values) m.lists (length m.blocks))
      m.capacities
      (length m.blocks) m.blocks

-- ---- Parsers

-- a claim for each i
for-all : {A I : Type 0} {P : I → A → Type 0} {p : Parser A} → ((i : I) → Gives (P i) p) → Gives (λ a. (i : I) → P i a) p
for-all {A} {I} {P} {p} h = record { from = λ c. go (p c) (λ i. (h i).from c) }
  where
    go : (r : Parsed A) → ((i : I) → Given (P i) r) → Given (λ a. (i : I) → P i a) r
    go (parsed a c) k = k
    go (refused n) k = tt

-- two claims
both : {A : Type 0} {P Q : A → Type 0} {p : Parser A} → Gives P p → Gives Q p → Gives (λ a. P a × Q a) p
both {A} {P} {Q} {p} h k = record { from = λ c. go (p c) (h.from c) (k.from c) }
  where
    go : (r : Parsed A) → Given P r → Given Q r → Given (λ a. P a × Q a) r
    go (parsed a c) x y = (x, y)
    go (refused n) x y = tt

weaker : {A : Type 0} {P Q : A → Type 0} {p : Parser A} → ((a : A) → P a → Q a) → Gives P p → Gives Q p
weaker {A} {P} {Q} {p} f h = record { from = λ c. go (p c) (h.from c) }
  where
    go : (r : Parsed A) → Given P r → Given Q r
    go (parsed a c) x = f a x
    go (refused n) x = tt

-- the machine's laws of parsers, without what they say of refusals
known : {A : Type 0} {P : A → Type 0} {p : Parser A} → Parsers.Ensures P p → Gives P p
known {A} {P} {p} h = record { from = λ c. go (p c) (h.from c) }
  where
    go : (r : Parsed A) → Parsers.Gives P r → Given P r
    go (parsed a c) x = x
    go (refused n) x = tt

anything : {A : Type 0} {p : Parser A} → Gives (λ a. Unit {0}) p
anything {A} {p} = record { from = λ c. go (p c) }
  where
    go : (r : Parsed A) → Given (λ a. Unit {0}) r
    go (parsed a c) = tt
    go (refused n) = tt

all_true : {A : Type 0} (l : List A) → T (all_of (λ a. true) l)
unfolding all_of
all_true [] = tt
all_true (a ∷ l) = all_true l

module _ (s : List ℕ) where
  ranged : (lo hi : ℕ) → Gives (Between lo hi) (number s lo hi)
  ranged lo hi = known (Parsers.in-range Limits.max_number s 3 lo hi (omega arith) (omega arith))

  capacities-known : (storages : ℕ)
      → Gives (λ l. (length l ≡ storages) × Each (Between 1 Limits.max_capacity) l) (times storages (number s 1 Limits.max_capacity))
  capacities-known storages =
      known (Parsers.repeated storages (Parsers.in-range Limits.max_number s 3 1 Limits.max_capacity (omega arith) (omega arith)))

  -- the part that is all of it
  abbrev whole : ℕ → Part
  whole f = record { facilities = f; to_facility = 0; to_storage = 0; to_queue = 0; to_value = 0; to_list = 0; to_block = 0 }

  abbrev staying : (f storages q v v' l b : ℕ) → f ≤ Limits.max_facilities → storages ≤ Limits.max_storages → q ≤ Limits.max_queues
      → v' ≡ v + 0 → v' ≤ Limits.max_values
      → b ≤ Limits.max_blocks → Placing (whole f) (counts f storages q v l b) (counts f storages q v' l b)
  staying f storages q v v' l b mf ms mq same mv mb =
      record {
        among = 0;
        own = refl;
        facilities = omega arith;
        storages = omega arith;
        servers = refl;
        queues = omega arith;
        values = omega arith;
        most-facilities = mf;
        most-storages = ms;
        most-queues = mq;
        most_values = mv;
        most-blocks = mb;
      }

  sums-known : (f storages q values : ℕ) → f ≤ Limits.max_facilities → storages ≤ Limits.max_storages → q ≤ Limits.max_queues
      → values ≤ Limits.max_values
      → Gives (λ l. ((length l ≡ values) × Each (NumberedSum f) l) × SumsRead (early f storages q) values l)
      (value_fields s (early f storages q) values 0)
  sums-known f storages q values mf ms mq most =
      both (weaker (λ l h. h.0) (images (spot own))) (for-all (λ i. weaker (λ l h. h.1) (images (spot i))))
    where
      spot : (i : ValueSpot (early f storages q) values)
          → Maps false (λ l. (length l ≡ values) × Each (NumberedSum f) l) (map (sum_in i.part))
          (λ l. flat (map (λ e. stored_sum i.joint.facilities (sum_in i.part e)) l))
          (all_of (sum_names i.size)) (value_fields s (early f storages q) values 0)
          (λ s'. value_fields s' i.joint values i.part.to_value)
      spot i =
          value-fields s i.part (early f storages q) i.joint i.size i.room i.inside values 0 i.part.to_value
          (sym (zero-add i.part.to_value)) i.fits

      own : ValueSpot (early f storages q) values
      own =
          record {
            part = whole f;
            joint = early f storages q;
            size = 0;
            room = omega arith;
            fits = omega arith;
            inside = λ lower lower' e m. staying f storages q lower lower' 0 Limits.max_blocks mf ms mq e m (omega arith);
          }

  blocks-known : (n : Counts) (capacities : List ℕ) (left : ℕ) → BlockSpot n capacities
      → Gives (λ l. ((length l ≡ left) × Each (NumberedBlock n.facilities) l) × BlocksRead n capacities left l)
      (times left (block_field s in_force.kinds n capacities))
  blocks-known n capacities left own =
      both (weaker (λ l h. h.0) (images (repeated (spot own) left)))
      (for-all (λ i. weaker (λ l h. h.1 (all_true l)) (images (repeated (spot i) left))))
    where
      spot : (i : BlockSpot n capacities)
          → Maps false (NumberedBlock n.facilities) (block_in i.part) (λ b. stored_block i.joint.facilities (block_in i.part b))
          (λ b. true)
          (block_field s in_force.kinds n capacities) (λ s'. block_field s' in_force.kinds i.joint i.capacities')
      spot i = block-field s i.part n i.joint capacities i.capacities' i.at i.program in_force.kinds (omega arith)

  -- ---- The model

  fields-known : Gives Decoded (model_fields s in_force)
  unfolding model_fields
  fields-known =
      follows (ranged 1 in_force.editions)
      (λ edition he. follows (ranged 0 Limits.max_facilities) (λ f hf. follows (ranged 0 Limits.max_storages) (λ storages hs.
      follows (capacities-known storages)
      (λ capacities hc. follows (ranged 0 Limits.max_queues) (λ q hq. follows (ranged 0 Limits.max_values) (λ values hv.
      follows (sums-known f storages q values hf.1 hs.1 hq.1 hv.1)
      (λ sums hm. follows (ranged 0 Limits.max_lists) (λ lists hl. follows (ranged 1 Limits.max_counter) (λ counter hn.
      follows (ranged 1 Limits.max_blocks) (λ blocks hb.
      follows
      (blocks-known (counts f storages q values lists blocks) capacities blocks
      (own f storages q values lists blocks capacities hf hs hc.1 hq hv hl hb)) (λ program hp.
      given
      (record {
        rules = refl;
        edition = he;
        facilities = hf.1;
        storages = omega (arith, hc.0, hs.1);
        capacity = hc.1;
        queues = hq.1;
        values = omega (arith, hm.0.0, hv.1);
        lists = hl.1;
        counter = hn;
        blocks = (omega (arith, hp.0.0, hb.0), omega (arith, hp.0.0, hb.1));
        sums-numbered = hm.0.1;
        blocks-numbered = hp.0.1;
        sums-read =
            subst (λ i. SumsRead (early f i q) (length sums) sums) (sym hc.0)
            (subst (λ i. SumsRead (early f storages q) i sums) (sym hm.0.0) hm.1);
        blocks-read =
            subst (λ i. BlocksRead (counts f i q (length sums) lists (length program)) capacities (length program) program) (sym hc.0)
            (subst (λ i. BlocksRead (counts f storages q i lists (length program)) capacities (length program) program) (sym hm.0.0)
            (subst (λ i. BlocksRead (counts f storages q values lists i) capacities i program) (sym hp.0.0) hp.1));
      }))))))))))))
    where
      own : (f storages q v l b : ℕ) (capacities : List ℕ) → Between 0 Limits.max_facilities f → Between 0 Limits.max_storages storages
          → Each (Between 1 Limits.max_capacity) capacities
          → Between 0 Limits.max_queues q → Between 0 Limits.max_values v → Between 0 Limits.max_lists l → Between 1 Limits.max_blocks b
          → BlockSpot (counts f storages q v l b) capacities
      own f storages q v l b capacities mf ms mc mq mv ml mb =
          record {
            part = whole f;
            joint = counts f storages q v l b;
            capacities' = capacities;
            at = staying f storages q v v l b mf.1 ms.1 mq.1 (sym (add-zero v)) mv.1 mb.1;
            program =
                record {
                  lists = omega arith;
                  most-lists = ml.1;
                  blocks = omega arith;
                  capacity = λ k low high. omega (arith, ap (λ i. nth capacities i 0) (add-zero k));
                  most-capacity =
                      λ k. each-get_or (λ v. v ≤ Limits.max_capacity) capacities (k - 1) 0 (each_map (λ v h. h.1) capacities mc)
                      (omega arith);
                };
          }

  model-known : Gives (λ m. Decoded m × T (well_formed m)) (model_of_lem in_force s)
  unfolding model_of_lem
  model-known = follows fields-known (λ m h. follows anything (λ u z. follows (asked (well_formed m)) (λ u x. given (h, x))))
    where
      asked : (b : Bool) → Gives (λ u. T b) (ask b 7)
      asked b = known (Parsers.asked b 7 (omega arith, omega arith))

-- a model that is accepted
pub decoded : (s : List ℕ) (c : Cursor) {m : BlockModel} {after : Cursor} → model_of_lem in_force s c ≡ parsed m after
    → Decoded m × T (well_formed m)
decoded s c e = subst (Given (λ m. Decoded m × T (well_formed m))) e ((model-known s).from c)
