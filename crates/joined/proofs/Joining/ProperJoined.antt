-- The joined model and tape are proper where those of the parts are and no limit is passed.
use Rattle.machine.specs.All.{ℕ, zero, suc, ◌+◌, ◌-◌, ◌≤◌, ◌<◌, ◌≡◌, refl, sym, subst, Bool, true, false, ◌&&◌, List, [], ◌∷◌, ◌++◌, arith, length, get_or, length-append, get_or-append, leb-true, leb-false, eqb-true, Code, U, NU, E, NE, F, NF, facility, storage, Block, generate, advance, terminate, takes, frees, wait_server, wait_terms, moves, assign, priority, split, counts, assemble, preempt, give_back, BlockModel, block_at, ap, ap₂, ◌∙◌, leb}
use Rattle.machine.specs.Limits as Limits
use Rattle.machine.proofs.Decoding.Proper.{Names, Storage, CodeServer, Units, ProperBlock, Proper}
use Rattle.machine.proofs.Basic.Bools.{and_true}
use Rattle.joined.specs.{Part, first, second, server_in, share_in, block_in, join_models, join_tapes, joinable}
use Rattle.joined.proofs as our
use our.{Own.Terms.get_or-behind, Joining.Formed.formed}
use our.Joining.Numbering.{in-facility, in-storage}
use our.Joining.BothParts.{blocks_long, block-first, block-second}

-- ---- Where no limit is passed

pub record Fits (m₁ m₂ : BlockModel) : Type 0 where
  pub edition : m₁.edition ≡ m₂.edition
  pub facilities : m₁.facilities + m₂.facilities ≤ Limits.max_facilities
  pub storages : length m₁.capacities + length m₂.capacities ≤ Limits.max_storages
  pub queues : m₁.queues + m₂.queues ≤ Limits.max_queues
  pub values : length m₁.values + length m₂.values ≤ Limits.max_values
  pub lists : m₁.lists + m₂.lists ≤ Limits.max_lists
  pub counter : m₁.counter + m₂.counter ≤ Limits.max_counter
  pub blocks : length m₁.blocks + length m₂.blocks ≤ Limits.max_blocks

pub fits : (m₁ m₂ : BlockModel) → joinable m₁ m₂ ≡ true → Fits m₁ m₂
unfolding joinable
fits m₁ m₂ e =
    let h = all _ _ _ _ _ _ _ _ e in
    record {
      edition = eqb-true _ _ h.0;
      facilities = leb-true _ _ h.1;
      storages = leb-true _ _ h.2;
      queues = leb-true _ _ h.3;
      values = leb-true _ _ h.4;
      lists = leb-true _ _ h.5;
      counter = leb-true _ _ h.6;
      blocks = leb-true _ _ h.7;
    }
  where
    all : (a b c d f g h i : Bool) → (a && b && c && d && f && g && h && i) ≡ true
        → (a ≡ true) × (b ≡ true) × (c ≡ true) × (d ≡ true) × (f ≡ true) × (g ≡ true) × (h ≡ true) × (i ≡ true)
    all a b c d f g h i e =
        let x₇ = and_true (a && b && c && d && f && g && h) i e in
        let x₆ = and_true (a && b && c && d && f && g) h x₇.0 in
        let x₅ = and_true (a && b && c && d && f) g x₆.0 in
        let x₄ = and_true (a && b && c && d) f x₅.0 in
        let x₃ = and_true (a && b && c) d x₄.0 in
        let x₂ = and_true (a && b) c x₃.0 in
        let x₁ = and_true a b x₂.0 in
        (x₁.0, x₁.1, x₂.1, x₃.1, x₄.1, x₅.1, x₆.1, x₇.1)

-- ---- Blocks

-- a part that lies inside M
record Ranges (p : Part) (m M : BlockModel) : Type 0 where
  facility_in : (v : ℕ) → Names m.facilities v → Names M.facilities (server_in p v)
  storage_in : (v : ℕ) → Storage m v → Storage M (server_in p v)
  units_in : (v b : ℕ) → Storage m v → Units m v b → Units M (server_in p v) b
  list_in : (l : ℕ) → Names m.lists l → Names M.lists (l + p.to_list)
  queue_in : (q : ℕ) → Names m.queues q → Names M.queues (q + p.to_queue)
  target_in : (b : ℕ) → Names (length m.blocks) b → Names (length M.blocks) (b + p.to_block)

module _ (p : Part) (m M : BlockModel) (R : Ranges p m M) where
  code_in : (code : Code) (v : ℕ) → CodeServer m code v → CodeServer M code (server_in p v)
  code_in U v h = R.facility_in v h
  code_in NU v h = R.facility_in v h
  code_in E v h = R.storage_in v h
  code_in NE v h = R.storage_in v h
  code_in F v h = R.storage_in v h
  code_in NF v h = R.storage_in v h

  proper_in : (b : Block) → ProperBlock m b → ProperBlock M (block_in p b)
  unfolding block_in share_in
  proper_in (generate list k) ok = (R.list_in list ok.0, ok.1)
  proper_in (advance list) ok = R.list_in list ok
  proper_in (terminate a) ok = tt
  proper_in (takes (facility v)) ok = R.facility_in v ok
  proper_in (takes (storage v b)) ok = (R.storage_in v ok.0, R.units_in v b ok.0 ok.1)
  proper_in (frees (facility v)) ok = R.facility_in v ok
  proper_in (frees (storage v b)) ok = (R.storage_in v ok.0, R.units_in v b ok.0 ok.1)
  proper_in (wait_server code v c) ok = (code_in code v ok.0, ok.1)
  proper_in (wait_terms a r b) ok = tt
  proper_in (moves c target) ok = R.target_in target ok
  proper_in (assign k a) ok = ok
  proper_in (priority k) ok = ok
  proper_in (split n target) ok = (ok.0, R.target_in target ok.1)
  proper_in (counts c q) ok = R.queue_in q ok
  proper_in (assemble n) ok = ok
  proper_in (preempt f) ok = R.facility_in f ok
  proper_in (give_back f) ok = R.facility_in f ok

module _ (m₁ m₂ : BlockModel) where
  abbrev p₁ : Part
  p₁ = first m₁ m₂

  abbrev p₂ : Part
  p₂ = second m₁ m₂

  ranges₁ : Ranges (first m₁ m₂) m₁ (join_models m₁ m₂)
  unfolding join_models
  ranges₁ =
      record {
        facility_in = λ v h. (omega (arith, in-facility p₁ v h.1, h.0), omega (arith, in-facility p₁ v h.1, h.1));
        storage_in =
            λ v h. (
              omega (arith, in-storage p₁ v h.0, h.0),
              omega (arith, in-storage p₁ v h.0, h.1, length-append m₁.capacities m₂.capacities),
            );
        units_in = λ v b h u. (
          u.0,
          λ k e.
              let at : v ≡ m₁.facilities + k = omega (arith, in-storage p₁ v h.0) in
              rw (get_or-append m₁.capacities m₂.capacities 0 (k - 1) (omega (arith, h.0, h.1))) (u.1 k at),
        );
        list_in = λ l h. (omega (arith, h.0), omega (arith, h.1));
        queue_in = λ q h. (omega (arith, h.0), omega (arith, h.1));
        target_in = λ b h. (omega (arith, h.0), omega (arith, h.1, blocks_long m₁ m₂));
      }

  ranges₂ : Ranges (second m₁ m₂) m₂ (join_models m₁ m₂)
  unfolding join_models
  ranges₂ =
      record {
        facility_in = λ v h. (omega (arith, in-facility p₂ v h.1, h.0), omega (arith, in-facility p₂ v h.1, h.1));
        storage_in =
            λ v h. (
              omega (arith, in-storage p₂ v h.0, h.0),
              omega (arith, in-storage p₂ v h.0, h.1, length-append m₁.capacities m₂.capacities),
            );
        units_in = λ v b h u. (
          u.0,
          λ k e.
              let at : v ≡ m₂.facilities + (k - length m₁.capacities) = omega (arith, in-storage p₂ v h.0, h.0) in
              let index : k - length m₁.capacities - 1 + length m₁.capacities ≡ k - 1 = omega (arith, in-storage p₂ v h.0, h.0) in
              subst (λ (x : ℕ). b ≤ x)
              (sym (ap (λ (i : ℕ). get_or (m₁.capacities ++ m₂.capacities) i 0) (sym index)
              ∙ get_or-behind m₁.capacities m₂.capacities (k - length m₁.capacities - 1) 0))
              (u.1 (k - length m₁.capacities) at),
        );
        list_in = λ l h. (omega (arith, h.0), omega (arith, h.1));
        queue_in = λ q h. (omega (arith, h.0), omega (arith, h.1));
        target_in = λ b h. (omega (arith, h.0), omega (arith, h.1, blocks_long m₁ m₂));
      }

  -- ---- All of it

  module _ {t₁ t₂ : List (List ℕ)} (proper₁ : Proper m₁ t₁) (proper₂ : Proper m₂ t₂) (limits : Fits m₁ m₂)
      (rules : m₂.rules ≡ m₁.rules) where
    block-proper : (n : ℕ) → 1 ≤ n → ProperBlock (join_models m₁ m₂) (block_at (join_models m₁ m₂) n)
    block-proper n one = go (leb n (length m₁.blocks)) refl
      where
        go : (b : Bool) → leb n (length m₁.blocks) ≡ b → ProperBlock (join_models m₁ m₂) (block_at (join_models m₁ m₂) n)
        go true e =
            rw (block-first m₁ m₂ n (leb-true _ _ e) one) (proper_in p₁ m₁ (join_models m₁ m₂) ranges₁ (block_at m₁ n) (proper₁.block n))
        go false e =
            let far : length m₁.blocks < n = leb-false _ _ e in
            let same : n - length m₁.blocks + length m₁.blocks ≡ n = omega arith in
            rw same at (subst (ProperBlock (join_models m₁ m₂)) (sym (block-second m₁ m₂ (n - length m₁.blocks) (omega arith)))
            (proper_in p₂ m₂ (join_models m₁ m₂) ranges₂ (block_at m₂ (n - length m₁.blocks))
            (proper₂.block (n - length m₁.blocks))))

    -- of a list of either
    either : {A : Type 0} (P : A → Type 0) (a b : List A) (d : A) → ((k : ℕ) → k < length a → P (get_or a k d))
        → ((k : ℕ) → k < length b → P (get_or b k d)) → P d → (k : ℕ) → P (get_or (a ++ b) k d)
    either P [] [] d f g h k = h
    either P [] (x ∷ b) d f g h zero = g 0 (omega arith)
    either P [] (x ∷ b) d f g h (suc k) = either P [] b d f (λ i lt. g (suc i) (omega arith)) h k
    either P (x ∷ a) b d f g h zero = f 0 (omega arith)
    either P (x ∷ a) b d f g h (suc k) = either P a b d (λ i lt. f (suc i) (omega arith)) g h k

    within : {A : Type 0} (P : A → Type 0) (a b : List A) (d : A) → ((k : ℕ) → k < length a → P (get_or a k d))
        → ((k : ℕ) → k < length b → P (get_or b k d)) → (k : ℕ) → k < length (a ++ b) → P (get_or (a ++ b) k d)
    within P [] b d f g k lt = g k lt
    within P (x ∷ a) b d f g zero lt = f 0 (omega arith)
    within P (x ∷ a) b d f g (suc k) lt = within P a b d (λ i lt. f (suc i) (omega arith)) g k (omega arith)

    pub proper-joined : Proper (join_models m₁ m₂) (join_tapes t₁ t₂)
    unfolding join_models
    proper-joined =
        record {
          block = λ n. rw (less n) at (block-proper (suc (n - 1)) (omega arith));
          blocks = (omega (arith, blocks_long m₁ m₂, proper₁.blocks.0), omega (arith, blocks_long m₁ m₂, limits.blocks));
          facilities = limits.facilities;
          storages = omega (arith, length-append m₁.capacities m₂.capacities, limits.storages);
          capacity = within (Names Limits.max_capacity) m₁.capacities m₂.capacities 0 proper₁.capacity proper₂.capacity;
          queues = limits.queues;
          lists = limits.lists;
          counter = (omega (arith, proper₁.counter.0), limits.counter);
          formed = formed m₁ m₂ proper₁ proper₂;
          tapes = length-append t₁ t₂ ∙ ap₂ (λ (a b : ℕ). a + b) proper₁.tapes proper₂.tapes;
          samples =
              either (λ (l : List ℕ). length l ≤ Limits.max_samples) t₁ t₂ [] (λ k lt. proper₁.samples k) (λ k lt. proper₂.samples k)
              (omega arith);
          times =
              either (λ (l : List ℕ). (i : ℕ) → get_or l i 0 ≤ m₁.rules.max_time) t₁ t₂ [] (λ k lt. proper₁.times k)
              (λ k lt i. rw rules at (proper₂.times k i)) (λ i. omega arith);
        }
      where
        less : (n : ℕ) → suc (n - 1) - 1 ≡ n - 1
        less n = omega arith
