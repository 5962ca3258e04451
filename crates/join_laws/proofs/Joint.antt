-- The joined model's bytes are read as the joined model.
use Rattle.machine.specs.All.{ℕ, suc, ◌+◌, ◌-◌, ◌≤◌, zero-add, add-zero, arith, ◌≡◌, refl, ap, subst, ◌∙◌, List, [], ◌∷◌, ◌++◌, map, append-nil, append_assoc, map-append, map-map, T, length, get_or, length-append, length-map, get_or-append, Rules, in_force, flat, nth, Sum, Block, BlockModel, Counts, number, value_fields, block_field, model_fields, all_of, sum_names, Each, times, sym, ap₂}
use Rattle.machine.specs.Limits as Limits
use Rattle.machine.proofs.Basic.Each.{each_map, each-get_or, each_append}
use Rattle.joined.specs.Join.{first, second, sum_in, block_in, join_models}
use Rattle.joined.proofs.Joining.ProperJoined.{Fits}
use Rattle.join_laws.specs.{stored_sum, stored_block, stored_model}
use Rattle.join_laws.proofs as our
use our.{Carrying.Anywhere, Placing.Placing}
use our.Decoded.{counts, early, ValueSpot, BlockSpot, Between, Decoded}
use our.Together.{any-then, any-give, any-number, any-numbers, any-each, any-times, any-values}

-- ---- Lists

nth-behind : (l l' : List ℕ) (k : ℕ) → 1 ≤ k → nth (l ++ l') (k + length l) 0 ≡ nth l' k 0
nth-behind l l' k h = ap (λ i. get_or (l ++ l') i 0) e ∙ go l (k - 1)
  where
    e : k + length l - 1 ≡ length l + (k - 1)
    e = omega arith

    go : (l : List ℕ) (i : ℕ) → get_or (l ++ l') (length l + i) 0 ≡ get_or l' i 0
    go [] i = ap (λ j. get_or l' j 0) (zero-add i)
    go (x ∷ l) i = let e : suc (length l) + i ≡ suc (length l + i) = omega arith in ap (λ j. get_or (x ∷ (l ++ l')) j 0) e ∙ go l i

flat_append : (k l : List (List ℕ)) → flat (k ++ l) ≡ flat k ++ flat l
unfolding flat
flat_append [] l = refl
flat_append (x ∷ k) l = ap (λ u. x ++ u) (flat_append k l) ∙ sym (append_assoc x (flat k) (flat l))

-- the numbers of two lists of images
pub stored-both : {A : Type 0} (w : A → List ℕ) (f g : A → A) (k l : List A)
    → flat (map (λ a. w (f a)) k) ++ flat (map (λ a. w (g a)) l) ≡ flat (map w (map f k ++ map g l))
stored-both w f g k l =
    ap₂ (λ x y. flat x ++ flat y) (sym (map-map w f k)) (sym (map-map w g l))
    ∙ sym (ap flat (map-append w (map f k) (map g l)) ∙ flat_append (map w (map f k)) (map w (map g l)))

pub length_both : {A B : Type 0} (f g : A → B) (k l : List A) → length (map f k ++ map g l) ≡ length k + length l
length_both f g k l = length-append (map f k) (map g l) ∙ ap₂ (λ i j. i + j) (length-map k f) (length-map l g)

-- ---- The two parts

module _ (m₁ m₂ : BlockModel) (ok : Fits m₁ m₂) (d₁ : Decoded m₁) (d₂ : Decoded m₂) where
  abbrev joint : (values lists blocks : ℕ) → Counts
  joint v l b = counts (m₁.facilities + m₂.facilities) (length m₁.capacities + length m₂.capacities) (m₁.queues + m₂.queues) v l b

  abbrev all : Counts
  all = joint (length m₁.values + length m₂.values) (m₁.lists + m₂.lists) (length m₁.blocks + length m₂.blocks)

  abbrev placing₁ : (v v' l l' b b' : ℕ) → v ≤ v' → v' ≤ Limits.max_values → b' ≤ Limits.max_blocks
      → Placing (first m₁ m₂) (counts m₁.facilities (length m₁.capacities) m₁.queues v l b) (joint v' l' b')
  placing₁ v v' l l' b b' more most-v most-b =
      record {
        among = 0;
        own = refl;
        facilities = omega arith;
        storages = omega arith;
        servers = omega arith;
        queues = omega arith;
        values = omega arith;
        most-facilities = ok.facilities;
        most-storages = ok.storages;
        most-queues = ok.queues;
        most_values = most-v;
        most-blocks = most-b;
      }

  abbrev placing₂ : (v v' l l' b b' : ℕ) → v + length m₁.values ≤ v' → v' ≤ Limits.max_values → b' ≤ Limits.max_blocks
      → Placing (second m₁ m₂) (counts m₂.facilities (length m₂.capacities) m₂.queues v l b) (joint v' l' b')
  placing₂ v v' l l' b b' more most-v most-b =
      record {
        among = length m₁.capacities;
        own = refl;
        facilities = omega arith;
        storages = omega arith;
        servers = omega arith;
        queues = omega arith;
        values = more;
        most-facilities = ok.facilities;
        most-storages = ok.storages;
        most-queues = ok.queues;
        most_values = most-v;
        most-blocks = most-b;
      }

  abbrev value_spot₁ : ValueSpot (early m₁.facilities (length m₁.capacities) m₁.queues) (length m₁.values)
  value_spot₁ =
      record {
        part = first m₁ m₂;
        joint = joint 0 0 0;
        size = length m₁.blocks;
        room = omega (arith, d₁.blocks.1);
        fits = omega (arith, d₁.values);
        inside = λ lower lower' e most. placing₁ lower lower' 0 0 Limits.max_blocks Limits.max_blocks (omega arith) most (omega arith);
      }

  abbrev value_spot₂ : ValueSpot (early m₂.facilities (length m₂.capacities) m₂.queues) (length m₂.values)
  value_spot₂ =
      record {
        part = second m₁ m₂;
        joint = joint 0 0 0;
        size = length m₂.blocks;
        room = omega (arith, ok.blocks);
        fits = omega (arith, ok.values);
        inside = λ lower lower' e most. placing₂ lower lower' 0 0 Limits.max_blocks Limits.max_blocks (omega arith) most (omega arith);
      }

  abbrev capacities : List ℕ
  capacities = m₁.capacities ++ m₂.capacities

  each-capacity : Each (Between 1 Limits.max_capacity) capacities
  each-capacity = each_append (Between 1 Limits.max_capacity) m₁.capacities m₂.capacities d₁.capacity d₂.capacity

  most-capacity : (k : ℕ) → nth capacities k 0 ≤ Limits.max_capacity
  most-capacity k =
      each-get_or (λ v. v ≤ Limits.max_capacity) capacities (k - 1) 0 (each_map (λ v h. h.1) capacities each-capacity) (omega arith)

  abbrev block_spot₁ : BlockSpot
      (counts m₁.facilities (length m₁.capacities) m₁.queues (length m₁.values) m₁.lists (length m₁.blocks))
      m₁.capacities
  block_spot₁ =
      record {
        part = first m₁ m₂;
        joint = all;
        capacities' = capacities;
        at = placing₁ _ _ _ _ _ _ (omega arith) ok.values ok.blocks;
        program =
            record {
              lists = omega arith;
              most-lists = ok.lists;
              blocks = omega arith;
              capacity = λ k low high.
                  let e : nth capacities (k + 0) 0 ≡ nth m₁.capacities k 0 =
                  ap (λ i. nth capacities i 0) (add-zero k) ∙ get_or-append m₁.capacities m₂.capacities 0 (k - 1) (omega arith) in
                  omega (arith, e);
              most-capacity = most-capacity;
            };
      }

  abbrev block_spot₂ : BlockSpot
      (counts m₂.facilities (length m₂.capacities) m₂.queues (length m₂.values) m₂.lists (length m₂.blocks))
      m₂.capacities
  block_spot₂ =
      record {
        part = second m₁ m₂;
        joint = all;
        capacities' = capacities;
        at = placing₂ _ _ _ _ _ _ (omega arith) ok.values ok.blocks;
        program =
            record {
              lists = omega arith;
              most-lists = ok.lists;
              blocks = omega arith;
              capacity = λ k low high. omega (arith, nth-behind m₁.capacities m₂.capacities k low);
              most-capacity = most-capacity;
            };
      }

  abbrev facilities : ℕ
  facilities = m₁.facilities + m₂.facilities

  abbrev sums : List Sum
  sums = map (sum_in (first m₁ m₂)) m₁.values ++ map (sum_in (second m₁ m₂)) m₂.values

  abbrev program : List Block
  program = map (block_in (first m₁ m₂)) m₁.blocks ++ map (block_in (second m₁ m₂)) m₂.blocks

  blocks-read : Anywhere (λ s. times (length m₁.blocks + length m₂.blocks) (block_field s in_force.kinds all capacities))
      (flat (map (stored_block facilities) program)) program
  blocks-read =
      any-numbers (stored-both (stored_block facilities) (block_in (first m₁ m₂)) (block_in (second m₁ m₂)) m₁.blocks m₂.blocks)
      (any-times (λ s. block_field s in_force.kinds all capacities) (length m₁.blocks) (length m₂.blocks)
      (d₁.blocks-read block_spot₁) (d₂.blocks-read block_spot₂))

  module _ (named₁ : T (all_of (sum_names (length m₁.blocks)) m₁.values))
      (named₂ : T (all_of (sum_names (length m₂.blocks)) m₂.values)) where
    sums-read : Anywhere (λ s. value_fields s (joint 0 0 0) (length m₁.values + length m₂.values) 0)
        (flat (map (stored_sum facilities) sums)) sums
    sums-read =
        any-numbers (stored-both (stored_sum facilities) (sum_in (first m₁ m₂)) (sum_in (second m₁ m₂)) m₁.values m₂.values)
        (any-values (joint 0 0 0) (length m₁.values) (length m₂.values) (d₁.sums-read value_spot₁ named₁)
        (d₂.sums-read value_spot₂ named₂))

    -- the joined model, but for its rules
    abbrev under : Rules → BlockModel
    under rules =
        record {
          rules = rules;
          edition = m₁.edition;
          facilities = facilities;
          capacities = capacities;
          queues = m₁.queues + m₂.queues;
          values = sums;
          lists = m₁.lists + m₂.lists;
          counter = m₁.counter + m₂.counter;
          blocks = program;
        }

    numbers :
        m₁.edition ∷ facilities ∷ (length m₁.capacities + length m₂.capacities)
        ∷ (capacities
        ++ ((m₁.queues + m₂.queues) ∷ (length m₁.values + length m₂.values)
        ∷ (flat (map (stored_sum facilities) sums)
        ++ ((m₁.lists + m₂.lists) ∷ (m₁.counter + m₂.counter) ∷ (length m₁.blocks + length m₂.blocks) ∷ (flat
        (map (stored_block facilities) program) ++ [])))))
        ≡ stored_model (join_models m₁ m₂)
    unfolding stored_model join_models
    numbers =
        rw (
          append-nil (flat (map (stored_block facilities) program)),
          length-append m₁.capacities m₂.capacities,
          length_both (sum_in (first m₁ m₂)) (sum_in (second m₁ m₂)) m₁.values m₂.values,
          length_both (block_in (first m₁ m₂)) (block_in (second m₁ m₂)) m₁.blocks m₂.blocks,
        )

    capacities-read : Anywhere
        (λ s. times (length m₁.capacities + length m₂.capacities) (number s 1 Limits.max_capacity)) capacities capacities
    capacities-read =
        subst (λ i. Anywhere (λ s. times i (number s 1 Limits.max_capacity)) capacities capacities)
        (length-append m₁.capacities m₂.capacities)
        (any-each 1 Limits.max_capacity (omega arith) capacities each-capacity)

    fields_read : Anywhere (λ s. model_fields s in_force) (stored_model (join_models m₁ m₂)) (under in_force)
    unfolding model_fields
    fields_read =
        any-numbers numbers
        (any-then _ (any-number 1 in_force.editions m₁.edition d₁.edition.0 d₁.edition.1 (omega arith))
        (any-then _ (any-number 0 Limits.max_facilities facilities (omega arith) ok.facilities (omega arith))
        (any-then _
        (any-number 0 Limits.max_storages (length m₁.capacities + length m₂.capacities) (omega arith) ok.storages (omega arith))
        (any-then _ capacities-read
        (any-then _ (any-number 0 Limits.max_queues (m₁.queues + m₂.queues) (omega arith) ok.queues (omega arith))
        (any-then _ (any-number 0 Limits.max_values (length m₁.values + length m₂.values) (omega arith) ok.values (omega arith))
        (any-then _ sums-read
        (any-then _ (any-number 0 Limits.max_lists (m₁.lists + m₂.lists) (omega arith) ok.lists (omega arith))
        (any-then _ (any-number 1 Limits.max_counter (m₁.counter + m₂.counter) (omega (arith, d₁.counter.0)) ok.counter (omega arith))
        (any-then _
        (any-number 1 Limits.max_blocks (length m₁.blocks + length m₂.blocks) (omega (arith, d₁.blocks.0)) ok.blocks
        (omega arith))
        (any-then _ blocks-read any-give)))))))))))

    -- the joined model, written, is read as the joined model
    pub model-read : Anywhere (λ s. model_fields s in_force) (stored_model (join_models m₁ m₂)) (join_models m₁ m₂)
    model-read =
        subst (λ m. Anywhere (λ s. model_fields s in_force) (stored_model (join_models m₁ m₂)) m)
        (ap under (sym d₁.rules) ∙ whole) fields_read
      where
        whole : under m₁.rules ≡ join_models m₁ m₂
        whole = unfold join_models in refl
