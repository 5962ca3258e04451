-- Question 7 of document 02, item 7: the groups of an accepted model. A group lies behind the first block, holds server waits of kind 8
-- and its own kind 17 block alone, and no target leads into it.
use Rattle.machine.specs.All.{ℕ, zero, suc, ◌+◌, ◌-◌, ◌≤◌, ◌<◌, ◌≡◌, refl, sym, ap, Bool, true, false, cond, not, ◌&&◌, ◌||◌, true≢false, List, [], ◌∷◌, arith, eqb-true, eqb-false, eq-eqb, leb-true, leb-false, le-leb, ltb-true, ltb-false, lt-ltb, T, eqb, leb, ltb, length, get_or, max_back, bit, up_to, is_generate, Block, generate, advance, terminate, takes, frees, wait_server, wait_terms, moves, assign, priority, split, counts, assemble, preempt, give_back, facts, BlockModel, block_at, back_at, begins_group, inside_group, well_placed, all_of, joined, targets_move, well_formed, sum_names}
use Rattle.machine.proofs as our
use our.Decoding.Proper.{Names, ProperBlock, Proper}
use our.Basic.Lists.{up_to-at}

-- ---- Tests

pub and_left : (a b : Bool) → T (a && b) → T a
and_left true b h = tt
and_left false b h = h

pub and_right : (a b : Bool) → T (a && b) → T b
and_right true b h = h
and_right false b h = absurd h

is_true : (b : Bool) → T b → b ≡ true
is_true true h = refl
is_true false h = absurd h

not_so : (b : Bool) → T (not b) → b ≡ false
not_so true h = absurd h
not_so false h = refl

-- ---- Sums of which one is above 0

up_to-some : (n : ℕ) (f : ℕ → ℕ) → 0 < up_to n f → (i : ℕ) × Names n i × (0 < f i)
unfolding up_to
up_to-some zero f h = absurd (omega arith)
up_to-some (suc n) f h = go (ltb 0 (f (suc n))) refl (up_to-some n f)
  where
    go : (b : Bool) → ltb 0 (f (suc n)) ≡ b → (0 < up_to n f → (i : ℕ) × Names n i × (0 < f i)) → (i : ℕ) × Names (suc n) i × (0 < f i)
    go true e k = (suc n, (omega arith, omega arith), ltb-true _ _ e)
    go false e k =
        let r = k (omega (arith, ltb-false 0 (f (suc n)) e)) in
        (r.0, (r.1.0, omega (arith, r.1.1)), r.2)

bit_true : (b : Bool) → 0 < bit b → b ≡ true
bit_true true h = refl
bit_true false h = absurd (omega arith)

-- ---- Behind some waits

-- a server wait of kind 8
abbrev pub Wait8 : Block → Type 0
Wait8 b = ((facts b).wel ≡ 0 → ⊥) × ((facts b).back ≡ 0)

wait8 : (b : Block) → (not (eqb (facts b).wel 0) && eqb (facts b).back 0) ≡ true → Wait8 b
wait8 b e = go (eqb (facts b).wel 0) (eqb (facts b).back 0) refl refl e
  where
    go : (x y : Bool) → eqb (facts b).wel 0 ≡ x → eqb (facts b).back 0 ≡ y → (not x && y) ≡ true → Wait8 b
    go true y p q e = absurd (true≢false (sym e))
    go false true p q e = (eqb-false _ _ p, eqb-true _ _ q)
    go false false p q e = absurd (true≢false (sym e))

-- how many waits stand before the block after b
abbrev more : ℕ → Block → ℕ
more waits b = cond (not (eqb (facts b).wel 0) && eqb (facts b).back 0) (suc waits) 0

joined-most : (waits : ℕ) (b : Block) → more waits b ≤ suc waits
joined-most waits b = go (not (eqb (facts b).wel 0) && eqb (facts b).back 0)
  where
    go : (x : Bool) → cond x (suc waits) 0 ≤ suc waits
    go true = omega arith
    go false = omega arith

joined-first : (waits : ℕ) (b : Block) → 0 < more waits b → Wait8 b
joined-first waits b h = wait8 b (go (not (eqb (facts b).wel 0) && eqb (facts b).back 0) h)
  where
    go : (x : Bool) → 0 < cond x (suc waits) 0 → x ≡ true
    go true h = refl
    go false h = absurd (omega arith)

abbrev at : List Block → ℕ → Block
at l i = get_or l i (terminate 0)

joined_back : (waits : ℕ) (l : List Block) → T (joined waits l) → (i : ℕ) → i < length l → (facts (at l i)).back ≤ waits + i
unfolding joined
joined_back waits [] h i lt = absurd (omega arith)
joined_back waits (b ∷ l) h zero lt =
    omega (arith, leb-true (facts b).back waits (is_true (leb (facts b).back waits) (and_left (leb (facts b).back waits) _ h)))
joined_back waits (b ∷ l) h (suc i) lt =
    omega (arith, joined_back (more waits b) l (and_right (leb (facts b).back waits) _ h) i (omega arith), joined-most waits b)

joined-waits : (waits : ℕ) (l : List Block) → T (joined waits l) → (i j : ℕ) → i < length l → j < i → i ≤ j + (facts (at l i)).back
    → Wait8 (at l j)
unfolding joined
joined-waits waits [] h i j lt low high = absurd (omega arith)
joined-waits waits (b ∷ l) h zero j lt low high = absurd (omega arith)
joined-waits waits (b ∷ l) h (suc i) zero lt low high =
    joined-first waits b (omega (arith, joined_back (more waits b) l (and_right (leb (facts b).back waits) _ h) i (omega arith)))
joined-waits waits (b ∷ l) h (suc i) (suc j) lt low high =
    joined-waits (more waits b) l (and_right (leb (facts b).back waits) _ h) i j (omega arith) (omega arith) (omega arith)

-- ---- An accepted model

past : (l : List Block) (i : ℕ) → length l ≤ i → (facts (at l i)).back ≡ 0
unfolding facts
past [] i h = refl
past (b ∷ l) zero h = absurd (omega arith)
past (b ∷ l) (suc i) h = past l i (omega arith)

back-most : (m : BlockModel) (b : Block) → ProperBlock m b → (facts b).back ≤ max_back
unfolding facts
back-most m (generate list p) h = omega arith
back-most m (advance list) h = omega arith
back-most m (terminate a) h = omega arith
back-most m (takes x) h = omega arith
back-most m (frees x) h = omega arith
back-most m (wait_server code v c) h = h.1
back-most m (wait_terms a r b) h = omega arith
back-most m (moves c target) h = omega arith
back-most m (assign k a) h = omega arith
back-most m (priority p) h = omega arith
back-most m (split n target) h = omega arith
back-most m (counts c q) h = omega arith
back-most m (assemble n) h = omega arith
back-most m (preempt f) h = omega arith
back-most m (give_back f) h = omega arith

all-at : {A : Type 0} (p : A → Bool) (l : List A) (d : A) → T (p d) → T (all_of p l) → (i : ℕ) → T (p (get_or l i d))
unfolding all_of
all-at p [] d k h i = k
all-at p (x ∷ l) d k h zero = and_left (p x) _ h
all-at p (x ∷ l) d k h (suc i) = all-at p l d k (and_right (p x) _ h) i

module _ {m : BlockModel} {tape : List (List ℕ)} (proper : Proper m tape) where
  -- the first block of the group that block k closes; k itself where it closes none
  abbrev pub first_of : ℕ → ℕ
  first_of k = k - back_at m k

  placed_well : T
      (well_placed true m.blocks && targets_move m && all_of (sum_names (length m.blocks)) m.values && joined 0 m.blocks)
  unfolding well_formed
  placed_well = proper.formed

  pub blocks-placed : T (well_placed true m.blocks)
  blocks-placed =
      and_left (well_placed true m.blocks) (targets_move m)
      (and_left (well_placed true m.blocks && targets_move m) (all_of (sum_names (length m.blocks)) m.values)
      (and_left (well_placed true m.blocks && targets_move m && all_of (sum_names (length m.blocks)) m.values)
      (joined 0 m.blocks) placed_well))

  targets : T (targets_move m)
  targets =
      and_right (well_placed true m.blocks) (targets_move m)
      (and_left (well_placed true m.blocks && targets_move m) (all_of (sum_names (length m.blocks)) m.values)
      (and_left (well_placed true m.blocks && targets_move m && all_of (sum_names (length m.blocks)) m.values)
      (joined 0 m.blocks) placed_well))

  groups : T (joined 0 m.blocks)
  groups =
      and_right (well_placed true m.blocks && targets_move m && all_of (sum_names (length m.blocks)) m.values)
      (joined 0 m.blocks) placed_well

  -- no group begins before the first block
  pub back-within : (k : ℕ) → back_at m k ≤ k - 1
  back-within k = go (ltb (k - 1) (length m.blocks)) refl
    where
      go : (b : Bool) → ltb (k - 1) (length m.blocks) ≡ b → back_at m k ≤ k - 1
      go true e = omega (arith, joined_back 0 m.blocks groups (k - 1) (ltb-true _ _ e))
      go false e = omega (arith, past m.blocks (k - 1) (ltb-false _ _ e))

  -- the blocks of a group before its kind 17 block are of kind 8
  pub group-waits : (k j : ℕ) → first_of k ≤ j → j < k → Wait8 (block_at m j)
  group-waits k j low high = go (ltb (k - 1) (length m.blocks)) refl
    where
      go : (b : Bool) → ltb (k - 1) (length m.blocks) ≡ b → Wait8 (block_at m j)
      go true e =
          joined-waits 0 m.blocks groups (k - 1) (j - 1) (ltb-true _ _ e) (omega (arith, back-within k)) (omega (arith, back-within k))
      go false e = absurd (omega (arith, past m.blocks (k - 1) (ltb-false _ _ e)))

  back-limit : (k : ℕ) → back_at m k ≤ max_back
  back-limit k = back-most m (block_at m k) (proper.block k)

  pub begins : (k : ℕ) → 1 ≤ back_at m k → begins_group m (first_of k) ≡ true
  unfolding begins_group
  begins k closes = lt-ltb 0 (up_to max_back f) (omega (arith, up_to-at max_back f (back_at m k) closes (back-limit k), here))
    where
      f : ℕ → ℕ
      f c = bit (eqb (back_at m (first_of k + c)) c)

      here : f (back_at m k) ≡ 1
      here =
          let e : first_of k + back_at m k ≡ k = omega (arith, back-within k) in
          ap bit (eq-eqb (back_at m (first_of k + back_at m k)) (back_at m k) (ap (back_at m) e))

  -- groups share no block
  pub apart : (k k' : ℕ) → 1 ≤ back_at m k → first_of k' ≤ k → k < k' → ⊥
  apart k k' closes low high = omega (arith, (group-waits k' k low high).1)

  -- a block inside a group begins none
  pub begins-none : (k j : ℕ) → first_of k < j → j < k → begins_group m j ≡ false
  begins-none k j low high = go (begins_group m j) refl
    where
      other : (c : ℕ) → 1 ≤ c → back_at m (j + c) ≡ c → (a b : Bool) → ltb (j + c) k ≡ a → ltb k (j + c) ≡ b → ⊥
      other c some closes true b e q = apart (j + c) k (omega arith) (omega arith) (ltb-true _ _ e)
      other c some closes false true e q = apart k (j + c) (omega arith) (omega arith) (ltb-true _ _ q)
      other c some closes false false e q =
          let same : j + c ≡ k = omega (arith, ltb-false (j + c) k e, ltb-false k (j + c) q) in
          omega (arith, ap (back_at m) same)

      none : begins_group m j ≡ true → ⊥
      none e =
          let r =
          up_to-some max_back (λ c. bit (eqb (back_at m (j + c)) c))
          (ltb-true 0 (up_to max_back (λ c. bit (eqb (back_at m (j + c)) c))) (unfold begins_group in e)) in
          other r.0 r.1.0 (eqb-true (back_at m (j + r.0)) r.0 (bit_true (eqb (back_at m (j + r.0)) r.0) r.2))
          (ltb (j + r.0) k) (ltb k (j + r.0)) refl refl

      go : (b : Bool) → begins_group m j ≡ b → begins_group m j ≡ false
      go true e = absurd (none e)
      go false e = e

  -- a target leads into no group
  inside : (n k : ℕ) → first_of k < n → n ≤ k → inside_group m n ≡ true
  unfolding inside_group
  inside n k low high =
      lt-ltb 0 (up_to max_back f) (omega (arith, up_to-at max_back f (suc (k - n)) (omega arith) (omega (arith, back-limit k)), here))
    where
      f : ℕ → ℕ
      f c = bit (leb c (back_at m (n + c - 1)))

      here : f (suc (k - n)) ≡ 1
      here =
          let e : n + suc (k - n) - 1 ≡ k = omega arith in
          ap bit (le-leb (suc (k - n)) (back_at m (n + suc (k - n) - 1)) (omega (arith, ap (back_at m) e)))

  -- no jump ends behind the first block of a group
  pub target-outside : (n k : ℕ) → ((facts (block_at m n)).target ≡ 0 → ⊥) → first_of k < (facts (block_at m n)).target
      → (facts (block_at m n)).target ≤ k → ⊥
  unfolding targets_move facts
  target-outside n k some low high =
      go (eqb target 0) (is_generate (facts (block_at m target))) (inside_group m target) refl (inside target k low high)
      (all-at
      (λ b. eqb (facts b).target 0 || (not (is_generate (facts (block_at m (facts b).target))) && not (inside_group m (facts b).target)))
      m.blocks (terminate 0) tt targets (n - 1))
    where
      target : ℕ
      target = (facts (block_at m n)).target

      go : (a b c : Bool) → eqb target 0 ≡ a → c ≡ true → T (a || (not b && not c)) → ⊥
      go true b c e q h = some (eqb-true _ _ e)
      go false true c e q h = h
      go false false true e q h = h
      go false false false e q h = true≢false (sym q)
