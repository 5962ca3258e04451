-- The two parts of `join_models`: each stands inside the joined model, and they face each other.
use Rattle.machine.specs.All.{ℕ, suc, ◌+◌, ◌-◌, ◌≤◌, ◌<◌, ◌≡◌, refl, sym, ap, ◌∙◌, Bool, true, false, ◌||◌, true≢false, List, [], ◌∷◌, ◌++◌, map, append-nil, arith, ltb, leb, eqb, length, length-append, length-map, get_or-map, get_or-append, get_or-eq_default, ltb-true, ltb-false, leb-true, leb-false, ne_eqb, max_back, any_of, bit, Block, generate, advance, terminate, takes, frees, wait_server, wait_terms, moves, assign, priority, split, counts, assemble, preempt, give_back, facts, above_one, BlockModel, block_at, back_at, begins_group, compared, always, when_true, Each, ap₂, get_or}
use Rattle.machine.proofs.Decoding.Proper.{Names, servers, Proper}
use Rattle.machine.proofs.{Lists.Sums.up_to_cong, Decoding.Groups.blocks-placed, Decoding.Groups.back-within, Runs.Placed.goes_on}
use Rattle.joined.specs.{Part, first, second, block_in, join_models, in_part, server_in, sum_in}
use Rattle.joined.proofs as our
use our.Relation.Seen.{size, server_there}
use our.Own.Terms.{Plain, PlainSum, get_or-behind}
use our.Own.Inside.{PlainBlock, Inside, share-units}
use our.Other.Strangers.{Facing, back_in}
use our.Joining.Numbering.{in-facility, Place, facility, storage, place, tables, not_in, is_in, in_bounds, in-storage}

-- ---- They face each other

module _ (m₁ m₂ : BlockModel) where
  abbrev p₁ : Part
  p₁ = first m₁ m₂

  abbrev p₂ : Part
  p₂ = second m₁ m₂

  pub blocks_long : length (join_models m₁ m₂).blocks ≡ length m₁.blocks + length m₂.blocks
  unfolding join_models
  blocks_long =
      length-append (map (block_in p₁) m₁.blocks) (map (block_in p₂) m₂.blocks)
      ∙ ap₂ (λ (a b : ℕ). a + b) (length-map m₁.blocks (block_in p₁)) (length-map m₂.blocks (block_in p₂))

  pub servers_long : servers (join_models m₁ m₂) ≡ servers m₁ + servers m₂
  unfolding join_models
  servers_long = omega (arith, length-append m₁.capacities m₂.capacities)

  servers-apart : (u v : ℕ) → Names (servers m₁) u → Names (servers m₂) v → server_there p₁ m₁ u ≡ server_there p₂ m₂ v → ⊥
  servers-apart u v a b e = go (place p₁ u) (place p₂ v)
    where
      go : Place p₁ u → Place p₂ v → ⊥
      go (facility h d) (facility k c) = omega arith
      go (facility h d) (storage k c) = omega arith
      go (storage h d) (facility k c) = omega arith
      go (storage h d) (storage k c) = omega arith

  servers_cover : (i : ℕ) → ((u : ℕ) → Names (servers m₁) u → server_there p₁ m₁ u ≡ i → ⊥)
      → ((v : ℕ) → Names (servers m₂) v → server_there p₂ m₂ v ≡ i → ⊥) → servers (join_models m₁ m₂) ≤ i
  servers_cover i f g =
      go (ltb i m₁.facilities) refl (ltb i (m₁.facilities + m₂.facilities)) refl
      (ltb i (m₁.facilities + m₂.facilities + length m₁.capacities)) refl (ltb i (servers m₁ + servers m₂)) refl
    where
      storage₁ : m₁.facilities < suc i - m₂.facilities → server_in p₁ (suc i - m₂.facilities) ≡ suc i - m₂.facilities + m₂.facilities
      storage₁ h = in-storage p₁ (suc i - m₂.facilities) h

      storage₂ : m₂.facilities < suc i - (m₁.facilities + length m₁.capacities)
          → server_in p₂ (suc i - (m₁.facilities + length m₁.capacities)) ≡ suc i -
          (m₁.facilities + length m₁.capacities) + (m₁.facilities + length m₁.capacities)
      storage₂ h = in-storage p₂ (suc i - (m₁.facilities + length m₁.capacities)) h

      go : (a : Bool) → ltb i m₁.facilities ≡ a → (b : Bool) → ltb i (m₁.facilities + m₂.facilities) ≡ b → (c : Bool)
          → ltb i (m₁.facilities + m₂.facilities + length m₁.capacities) ≡ c
          → (d : Bool) → ltb i (servers m₁ + servers m₂) ≡ d → servers (join_models m₁ m₂) ≤ i
      go true e b e' c e'' d e''' =
          absurd
          (f (suc i) (omega arith, omega (arith, ltb-true i m₁.facilities e))
          (ap (λ (n : ℕ). n - 1) (in-facility p₁ (suc i) (ltb-true _ _ e)) ∙ less))
        where
          less : suc i + 0 - 1 ≡ i
          less = omega arith
      go false e true e' c e'' d e''' =
          let low : m₁.facilities ≤ i = ltb-false _ _ e in
          let high : i < m₁.facilities + m₂.facilities = ltb-true _ _ e' in
          let h : suc i - m₁.facilities ≤ m₂.facilities = omega arith in
          let s : suc i - m₁.facilities + m₁.facilities - 1 ≡ i = omega arith in
          absurd
          (g (suc i - m₁.facilities) (omega arith, omega arith) (ap (λ (n : ℕ). n - 1) (in-facility p₂ (suc i - m₁.facilities) h) ∙ s))
      go false e false e' true e'' d e''' =
          let low : m₁.facilities + m₂.facilities ≤ i = ltb-false _ _ e' in
          let high : i < m₁.facilities + m₂.facilities + length m₁.capacities = ltb-true _ _ e'' in
          let s : suc i - m₂.facilities + m₂.facilities - 1 ≡ i = omega arith in
          absurd (f (suc i - m₂.facilities) (omega arith, omega arith) (ap (λ (n : ℕ). n - 1) (storage₁ (omega arith)) ∙ s))
      go false e false e' false e'' true e''' =
          let low : m₁.facilities + m₂.facilities + length m₁.capacities ≤ i = ltb-false _ _ e'' in
          let high : i < servers m₁ + servers m₂ = ltb-true _ _ e''' in
          let s : suc i - (m₁.facilities + length m₁.capacities) + (m₁.facilities + length m₁.capacities) - 1 ≡ i = omega arith in
          absurd
          (g (suc i - (m₁.facilities + length m₁.capacities)) (omega arith, omega arith)
          (ap (λ (n : ℕ). n - 1) (storage₂ (omega arith)) ∙ s))
      go false e false e' false e'' false e''' = omega (arith, servers_long, ltb-false i (servers m₁ + servers m₂) e''')

  pub facing₁ : Facing p₁ m₁ p₂ m₂ (join_models m₁ m₂)
  facing₁ =
      record {
        covers = λ b n e. is_in p₂ (size p₂ m₂) b (later b n e) (omega (arith, n.1, blocks_long));
        blocks = λ b e. not_in p₁ (size p₁ m₁) b (λ h. omega (arith, (in_bounds p₂ (size p₂ m₂) b e).0));
        servers-apart = servers-apart;
        queues-apart = λ u v a b e. omega (arith, a.0, a.1, b.0);
        lists-apart = λ u v a b e. omega (arith, a.0, a.1, b.0);
        servers_cover = servers_cover;
      }
    where
      later : (b : ℕ) → Names (length (join_models m₁ m₂).blocks) b → in_part p₁ (size p₁ m₁) b ≡ false → length m₁.blocks < b
      later b n e = go (leb b (length m₁.blocks)) refl
        where
          go : (c : Bool) → leb b (length m₁.blocks) ≡ c → length m₁.blocks < b
          go true d =
              absurd
              (true≢false (sym (is_in p₁ (size p₁ m₁) b (omega (arith, n.0)) (omega (arith, leb-true b (length m₁.blocks) d))) ∙ e))
          go false d = leb-false _ _ d

  pub facing₂ : Facing p₂ m₂ p₁ m₁ (join_models m₁ m₂)
  facing₂ =
      record {
        covers = λ b n e. is_in p₁ (size p₁ m₁) b (omega (arith, n.0)) (earlier b n e);
        blocks = λ b e. not_in p₂ (size p₂ m₂) b (λ h. omega (arith, (in_bounds p₁ (size p₁ m₁) b e).1));
        servers-apart = λ u v a b e. servers-apart v u b a (sym e);
        queues-apart = λ u v a b e. omega (arith, a.0, b.1, b.0);
        lists-apart = λ u v a b e. omega (arith, a.0, b.1, b.0);
        servers_cover = λ i f g. servers_cover i g f;
      }
    where
      earlier : (b : ℕ) → Names (length (join_models m₁ m₂).blocks) b → in_part p₂ (size p₂ m₂) b ≡ false → b ≤ 0 + length m₁.blocks
      earlier b n e = go (leb b (0 + length m₁.blocks)) refl
        where
          go : (c : Bool) → leb b (0 + length m₁.blocks) ≡ c → b ≤ 0 + length m₁.blocks
          go true d = leb-true _ _ d
          go false d =
              absurd
              (true≢false
              (sym (is_in p₂ (size p₂ m₂) b (omega (arith, leb-false b (0 + length m₁.blocks) d)) (omega (arith, n.1, blocks_long)))
              ∙ e))

-- ---- Blocks of the joined model

-- one that names nothing is the same in both numberings
nothing_in : (p : Part) → block_in p (terminate 0) ≡ terminate 0
unfolding block_in
nothing_in p = refl

above_in : (p : Part) (b : Block) → above_one (block_in p b) ≡ above_one b
unfolding above_one block_in
above_in p (generate list k) = refl
above_in p (advance list) = refl
above_in p (terminate a) = refl
above_in p (takes x) = ap (ltb 1) (share-units p x)
above_in p (frees x) = ap (ltb 1) (share-units p x)
above_in p (wait_server code v c) = refl
above_in p (wait_terms a r b) = refl
above_in p (moves c target) = refl
above_in p (assign k a) = refl
above_in p (priority k) = refl
above_in p (split n target) = refl
above_in p (counts c q) = refl
above_in p (assemble n) = refl
above_in p (preempt f) = refl
above_in p (give_back f) = refl

any-map : (p : Part) (l : List Block) → any_of above_one (map (block_in p) l) ≡ any_of above_one l
unfolding any_of
any-map p [] = refl
any-map p (b ∷ l) = ap₂ (λ (x y : Bool). x || y) (above_in p b) (any-map p l)

any_append : (k l : List Block) → any_of above_one (k ++ l) ≡ (any_of above_one k || any_of above_one l)
unfolding any_of
any_append [] l = refl
any_append (b ∷ k) l = ap (λ (x : Bool). above_one b || x) (any_append k l) ∙ assoc (above_one b) (any_of above_one k) (any_of above_one l)
  where
    assoc : (a b c : Bool) → (a || (b || c)) ≡ ((a || b) || c)
    assoc true b c = refl
    assoc false b c = refl

same_or : (a b : Bool) → a ≡ b → (a || b) ≡ a
same_or true b e = refl
same_or false b e = sym e

module _ (m₁ m₂ : BlockModel) where
  abbrev q₁ : Part
  q₁ = first m₁ m₂

  abbrev q₂ : Part
  q₂ = second m₁ m₂

  -- the first part's blocks come first
  pub block-first : (b : ℕ) → b ≤ length m₁.blocks → 1 ≤ b → block_at (join_models m₁ m₂) b ≡ block_in q₁ (block_at m₁ b)
  unfolding join_models
  block-first b h one =
      get_or-append (map (block_in q₁) m₁.blocks) (map (block_in q₂) m₂.blocks) (terminate 0) (b - 1)
      (omega (arith, length-map m₁.blocks (block_in q₁)))
      ∙ ap (get_or (map (block_in q₁) m₁.blocks) (b - 1)) (sym (nothing_in q₁))
      ∙ get_or-map (block_in q₁) m₁.blocks (b - 1) (terminate 0)

  -- also behind the last
  pub block-second : (b : ℕ) → 1 ≤ b → block_at (join_models m₁ m₂) (b + length m₁.blocks) ≡ block_in q₂ (block_at m₂ b)
  unfolding join_models
  block-second b one =
      ap (λ (i : ℕ). get_or (map (block_in q₁) m₁.blocks ++ map (block_in q₂) m₂.blocks) i (terminate 0)) index
      ∙ get_or-behind (map (block_in q₁) m₁.blocks) (map (block_in q₂) m₂.blocks) (b - 1) (terminate 0)
      ∙ ap (get_or (map (block_in q₂) m₂.blocks) (b - 1)) (sym (nothing_in q₂))
      ∙ get_or-map (block_in q₂) m₂.blocks (b - 1) (terminate 0)
    where
      index : b + length m₁.blocks - 1 ≡ b - 1 + length (map (block_in q₁) m₁.blocks)
      index = omega (arith, length-map m₁.blocks (block_in q₁))

  units-both : any_of above_one m₁.blocks ≡ any_of above_one m₂.blocks
      → any_of above_one (join_models m₁ m₂).blocks ≡ any_of above_one m₁.blocks
  unfolding join_models
  units-both e =
      any_append (map (block_in q₁) m₁.blocks) (map (block_in q₂) m₂.blocks)
      ∙ ap₂ (λ (x y : Bool). x || y) (any-map q₁ m₁.blocks) (any-map q₂ m₂.blocks)
      ∙ same_or (any_of above_one m₁.blocks) (any_of above_one m₂.blocks) e

  -- ---- Back counts

  -- groups reach back within their part
  pub back-first : (b : ℕ) → 1 ≤ b → b ≤ length m₁.blocks → back_at (join_models m₁ m₂) b ≡ back_at m₁ b
  back-first b one h = ap (λ (x : Block). (facts x).back) (block-first b h one) ∙ back_in q₁ (block_at m₁ b)

  pub back-second : (b : ℕ) → 1 ≤ b → back_at (join_models m₁ m₂) (b + length m₁.blocks) ≡ back_at m₂ b
  back-second b one = ap (λ (x : Block). (facts x).back) (block-second b one) ∙ back_in q₂ (block_at m₂ b)

  -- behind the last block there is no group
  pub back-past : (m : BlockModel) (b : ℕ) → length m.blocks < b → back_at m b ≡ 0
  unfolding facts
  back-past m b h = ap (λ (x : Block). (facts x).back) (get_or-eq_default m.blocks (terminate 0) (omega arith))

  module _ {t₁ t₂ : List (List ℕ)} (proper₁ : Proper m₁ t₁) (proper₂ : Proper m₂ t₂) where
    -- a block that is so far behind b cannot be closed by a group that begins at or before b
    pub group-first : (b c : ℕ) → 1 ≤ b → b ≤ length m₁.blocks → 1 ≤ c → length m₁.blocks < b + c
        → back_at (join_models m₁ m₂) (b + c) < c
    group-first b c one h low far =
        let j : ℕ = b + c - length m₁.blocks in
        let e : b + c - length m₁.blocks + length m₁.blocks ≡ b + c = omega arith in
        let k = rw e at (back-second (b + c - length m₁.blocks) (omega arith)) in
        omega (arith, k, back-within proper₂ (b + c - length m₁.blocks))

    begins-first : (b : ℕ) → Names (length m₁.blocks) b → begins_group (join_models m₁ m₂) b ≡ begins_group m₁ b
    unfolding begins_group
    begins-first b n =
        ap (ltb 0)
        (up_to_cong (λ c. bit (eqb (back_at (join_models m₁ m₂) (b + c)) c)) (λ c. bit (eqb (back_at m₁ (b + c)) c)) max_back
        (λ c low high. ap bit (same c low)))
      where
        same : (c : ℕ) → 1 ≤ c → eqb (back_at (join_models m₁ m₂) (b + c)) c ≡ eqb (back_at m₁ (b + c)) c
        same c low = go (leb (b + c) (length m₁.blocks)) refl
          where
            go : (x : Bool) → leb (b + c) (length m₁.blocks) ≡ x → eqb (back_at (join_models m₁ m₂) (b + c)) c ≡ eqb (back_at m₁ (b + c)) c
            go true e = ap (λ (i : ℕ). eqb i c) (back-first (b + c) (omega arith) (leb-true _ _ e))
            go false e =
                let far : length m₁.blocks < b + c = leb-false _ _ e in
                let lt = group-first b c n.0 n.1 low far in
                let z = back-past m₁ (b + c) far in
                ne_eqb (back_at (join_models m₁ m₂) (b + c)) c (λ d. omega arith) ∙ sym (ne_eqb (back_at m₁ (b + c)) c (λ d. omega arith))

    begins-second : (b : ℕ) → 1 ≤ b → begins_group (join_models m₁ m₂) (b + length m₁.blocks) ≡ begins_group m₂ b
    unfolding begins_group
    begins-second b one =
        ap (ltb 0)
        (up_to_cong (λ c. bit (eqb (back_at (join_models m₁ m₂) (b + length m₁.blocks + c)) c))
        (λ c. bit (eqb (back_at m₂ (b + c)) c)) max_back
        (λ c low high. ap (λ (i : ℕ). bit (eqb i c)) (ap (back_at (join_models m₁ m₂)) (turn b c) ∙ back-second (b + c) (omega arith))))
      where
        turn : (b c : ℕ) → b + length m₁.blocks + c ≡ b + c + length m₁.blocks
        turn b c = omega arith

-- ---- The terms of a block

-- from the terms that a block's facts list to the block itself
pub plain-block : (p : Part) (m : BlockModel) (b : Block) → Each (Plain p m) (facts b).terms → PlainBlock p m b
unfolding facts compared
plain-block p m (generate list k) h = tt
plain-block p m (advance list) h = tt
plain-block p m (terminate a) h = tt
plain-block p m (takes x) h = tt
plain-block p m (frees x) h = tt
plain-block p m (wait_server code v c) h = tt
plain-block p m (wait_terms a r b) h = (h.0, h.1.0)
plain-block p m (moves always target) h = tt
plain-block p m (moves (when_true a r b) target) h = (h.0, h.1.0)
plain-block p m (assign k a) h = h.0
plain-block p m (priority k) h = tt
plain-block p m (split n target) h = tt
plain-block p m (counts c q) h = tt
plain-block p m (assemble n) h = tt
plain-block p m (preempt f) h = tt
plain-block p m (give_back f) h = tt

-- of a model; the part does not matter
pub record PlainModel (p : Part) (m : BlockModel) : Type 0 where
  pub values : Each (PlainSum p m) m.values
  pub blocks : (b : ℕ) → Each (Plain p m) (facts (block_at m b)).terms

-- ---- Each stands inside

module _ (m₁ m₂ : BlockModel) {t₁ t₂ : List (List ℕ)} (proper₁ : Proper m₁ t₁) (proper₂ : Proper m₂ t₂)
    (editions : m₁.edition ≡ m₂.edition)
    (units : (m₁.edition ≡ 1 → ⊥) → any_of above_one m₁.blocks ≡ any_of above_one m₂.blocks) where
  next-block : {m : BlockModel} {t : List (List ℕ)} → Proper m t → (b : ℕ) → Names (length m.blocks) b
      → (facts (block_at m b)).leaves ≡ false → suc b ≤ length m.blocks
  next-block {m} proper b n e =
      let lt : suc (b - 1) < length m.blocks = goes_on true m.blocks (b - 1) (blocks-placed proper) (omega (arith, n.0, n.1)) e in
      omega (arith, n.0)

  pub inside₁ : PlainModel (first m₁ m₂) m₁ → Inside (first m₁ m₂) m₁ (join_models m₁ m₂)
  unfolding join_models
  inside₁ plain =
      record {
        tables = tables (first m₁ m₂) (omega arith) m₁;
        values = record { lower = []; higher = map (sum_in (second m₁ m₂)) m₂.values; all = refl; before = refl; plain = plain.values };
        edition = refl;
        units = λ n. units-both m₁ m₂ (units n);
        block = λ b n.
            rw (plus-zero b) (block-first m₁ m₂ b n.1 n.0);
        proper = λ b n. proper₁.block b;
        plain = λ b n. plain-block (first m₁ m₂) m₁ (block_at m₁ b) (plain.blocks b);
        goes_on = λ b n e. next-block proper₁ b n e;
        goes_back = λ b n. omega (arith, n.0, back-within proper₁ b);
        groups = λ b n. rw (plus-zero b) (begins-first m₁ m₂ proper₁ proper₂ b n);
        facility = λ f n. in-facility (first m₁ m₂) f n.1;
      }
    where
      plus-zero : (b : ℕ) → b + 0 ≡ b
      plus-zero b = omega arith

  pub inside₂ : PlainModel (second m₁ m₂) m₂ → Inside (second m₁ m₂) m₂ (join_models m₁ m₂)
  unfolding join_models
  inside₂ plain =
      record {
        tables = tables (second m₁ m₂) (omega arith) m₂;
        values =
            record {
              lower = map (sum_in (first m₁ m₂)) m₁.values;
              higher = [];
              all = sym (append-nil (map (sum_in (first m₁ m₂)) m₁.values ++ map (sum_in (second m₁ m₂)) m₂.values));
              before = length-map m₁.values (sum_in (first m₁ m₂));
              plain = plain.values;
            };
        edition = editions;
        units = λ n. units-both m₁ m₂ (units (λ e. n (sym editions ∙ e))) ∙ units (λ e. n (sym editions ∙ e));
        block = λ b n. block-second m₁ m₂ b n.0;
        proper = λ b n. proper₂.block b;
        plain = λ b n. plain-block (second m₁ m₂) m₂ (block_at m₂ b) (plain.blocks b);
        goes_on = λ b n e. next-block proper₂ b n e;
        goes_back = λ b n. omega (arith, n.0, back-within proper₂ b);
        groups = λ b n. begins-second m₁ m₂ proper₁ proper₂ b n.0;
        facility = λ f n. in-facility (second m₁ m₂) f n.1;
      }
