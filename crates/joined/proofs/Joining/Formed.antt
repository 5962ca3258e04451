-- The joined model passes question 7 where its parts do.
use Rattle.machine.specs.All.{ℕ, suc, ◌+◌, ◌-◌, ◌≤◌, ◌<◌, ◌≡◌, refl, sym, ap, subst, Bool, true, false, cond, not, ◌&&◌, ◌||◌, List, [], ◌∷◌, ◌++◌, map, arith, T, ltb, leb, eqb, length, get_or, leb-true, leb-false, le-leb, lt-leb, ne_eqb, max_back, bit, Term, constant, minus_constant, parameter, clock_term, entries_of, content_of, units_in_use, units_free, facility_in_use, value, comparison, bracket, Sum, nothing, plus, minus, is_generate, Block, generate, advance, terminate, takes, frees, wait_server, wait_terms, moves, assign, priority, split, counts, assemble, preempt, give_back, facts, BlockModel, block_at, back_at, wel_index, inside_group, well_placed, all_of, joined, targets_move, term_names, sum_names, well_formed, Each, ap₂, ◌∙◌}
use Rattle.machine.proofs.Decoding.Proper.{Names, ProperBlock, Proper}
use Rattle.machine.proofs.{Lists.Sums.up_to_cong, Decoding.Groups.and_left, Decoding.Groups.and_right}
use Rattle.joined.specs.{Part, first, second, term_in, sum_in, block_in, join_models, server_in}
use Rattle.joined.proofs as our
use our.Other.Strangers.{leaves_in, back_in}
use our.Joining.BothParts.{blocks_long, block-first, block-second, back-first, back-second, back-past, group-first}

both_of : (a b : Bool) → T a → T b → T (a && b)
both_of true b h k = k
both_of false b h k = absurd h

is_true : (b : Bool) → T b → b ≡ true
is_true true h = refl
is_true false h = absurd h

some-wel : (k : ℕ) → eqb (suc k) 0 ≡ false
some-wel k = ne_eqb (suc k) 0 (λ e. omega arith)

-- ---- Blocks and their images

module _ (p : Part) (m : BlockModel) where
  -- whether a block makes transactions does not depend on its numbers
  pub generates_in : (b : Block) → ProperBlock m b → is_generate (facts (block_in p b)) ≡ is_generate (facts b)
  unfolding facts block_in
  generates_in (generate list k) ok =
      ap not (ne_eqb (list + p.to_list) 0 (λ e. omega (arith, ok.0.0)) ∙ sym (ne_eqb list 0 (λ e. omega (arith, ok.0.0))))
  generates_in (advance list) ok = refl
  generates_in (terminate a) ok = refl
  generates_in (takes x) ok = refl
  generates_in (frees x) ok = refl
  generates_in (wait_server code v c) ok = refl
  generates_in (wait_terms a r b) ok = refl
  generates_in (moves c target) ok = refl
  generates_in (assign k a) ok = refl
  generates_in (priority k) ok = refl
  generates_in (split n target) ok = refl
  generates_in (counts c q) ok = refl
  generates_in (assemble n) ok = refl
  generates_in (preempt f) ok = refl
  generates_in (give_back f) ok = refl

  wel_in : (b : Block) → eqb (facts (block_in p b)).wel 0 ≡ eqb (facts b).wel 0
  unfolding facts block_in
  wel_in (generate list k) = refl
  wel_in (advance list) = refl
  wel_in (terminate a) = refl
  wel_in (takes x) = refl
  wel_in (frees x) = refl
  wel_in (wait_server code v c) = some-wel (wel_index (server_in p v) code) ∙ sym (some-wel (wel_index v code))
  wel_in (wait_terms a r b) = refl
  wel_in (moves c target) = refl
  wel_in (assign k a) = refl
  wel_in (priority k) = refl
  wel_in (split n target) = refl
  wel_in (counts c q) = refl
  wel_in (assemble n) = refl
  wel_in (preempt f) = refl
  wel_in (give_back f) = refl

  -- its target, where it has one
  pub data Target (b : Block) : Type 0 where
    none : (facts b).target ≡ 0 → (facts (block_in p b)).target ≡ 0 → Target b
    some : Names (length m.blocks) (facts b).target → (facts (block_in p b)).target ≡ (facts b).target + p.to_block → Target b

  pub target_in : (b : Block) → ProperBlock m b → Target b
  unfolding facts block_in
  target_in (generate list k) ok = none refl refl
  target_in (advance list) ok = none refl refl
  target_in (terminate a) ok = none refl refl
  target_in (takes x) ok = none refl refl
  target_in (frees x) ok = none refl refl
  target_in (wait_server code v c) ok = none refl refl
  target_in (wait_terms a r b) ok = none refl refl
  target_in (moves c target) ok = some ok refl
  target_in (assign k a) ok = none refl refl
  target_in (priority k) ok = none refl refl
  target_in (split n target) ok = some ok.1 refl
  target_in (counts c q) ok = none refl refl
  target_in (assemble n) ok = none refl refl
  target_in (preempt f) ok = none refl refl
  target_in (give_back f) ok = none refl refl

  -- ---- GENERATE and the last block

  placed-map : (left : Bool) (l : List Block) → Each (ProperBlock m) l → well_placed left (map (block_in p) l) ≡ well_placed left l
  unfolding well_placed
  placed-map left [] h = refl
  placed-map left (b ∷ l) h =
      ap₂ (λ (x y : Bool). (not x || left) && y) (generates_in b h.0)
      (ap (λ (x : Bool). well_placed x (map (block_in p) l)) (leaves_in p b) ∙ placed-map (facts b).leaves l h.1)

  -- ---- Groups

  joined-map : (w : ℕ) (l : List Block) → joined w (map (block_in p) l) ≡ joined w l
  unfolding joined
  joined-map w [] = refl
  joined-map w (b ∷ l) =
      ap₂ (λ (x : ℕ) (y : Bool). leb x w && y) (back_in p b)
      (ap₂ (λ (x : Bool) (y : ℕ). joined (cond (not x && eqb y 0) (suc w) 0) (map (block_in p) l)) (wel_in b) (back_in p b)
      ∙ joined-map (cond (not (eqb (facts b).wel 0) && eqb (facts b).back 0) (suc w) 0) l)

placed-append : (left : Bool) (k l : List Block) → T (well_placed left k) → T (well_placed true l) → T (well_placed left (k ++ l))
unfolding well_placed
placed-append left [] l h g = rw (is_true left h) g
placed-append left (b ∷ k) l h g =
    both_of (not (is_generate (facts b)) || left) _ (and_left (not (is_generate (facts b)) || left) _ h)
    (placed-append (facts b).leaves k l (and_right (not (is_generate (facts b)) || left) _ h) g)

joined-more : (w w' : ℕ) (l : List Block) → w ≤ w' → T (joined w l) → T (joined w' l)
unfolding joined
joined-more w w' [] le h = tt
joined-more w w' (b ∷ l) le h =
    both_of (leb (facts b).back w') _
    (rw (le-leb (facts b).back w' (omega (arith, leb-true (facts b).back w (is_true _ (and_left (leb (facts b).back w) _ h))))) tt)
    (go (not (eqb (facts b).wel 0) && eqb (facts b).back 0) (and_right (leb (facts b).back w) _ h) (λ x y z. joined-more x y l z))
  where
    go : (c : Bool) → T (joined (cond c (suc w) 0) l) → ((x y : ℕ) → x ≤ y → T (joined x l) → T (joined y l))
        → T (joined (cond c (suc w') 0) l)
    go true h more = more (suc w) (suc w') (omega arith) h
    go false h more = h

joined-append : (w : ℕ) (k l : List Block) → T (joined w k) → T (joined 0 l) → T (joined w (k ++ l))
unfolding joined
joined-append w [] l h g = joined-more 0 w l (omega arith) g
joined-append w (b ∷ k) l h g =
    both_of (leb (facts b).back w) _ (and_left (leb (facts b).back w) _ h) (joined-append (cond (not (eqb (facts b).wel 0) && eqb (facts b).back 0) (suc w) 0) k l (and_right (leb (facts b).back w) _ h) g)

-- ---- Blocks that values name

module _ (p : Part) (n total : ℕ) (fits : n + p.to_block ≤ total) where
  mutual
    unfolding term_names sum_names term_in sum_in

    term-names : (t : Term) → T (term_names n t) → T (term_names total (term_in p t))
    term-names (constant k) h = tt
    term-names (minus_constant k) h = tt
    term-names (parameter k) h = tt
    term-names clock_term h = tt
    term-names (entries_of b) h = subst T (sym (le-leb (b + p.to_block) total (omega (arith, leb-true b n (is_true _ h))))) tt
    term-names (content_of q) h = tt
    term-names (units_in_use v) h = tt
    term-names (units_free v) h = tt
    term-names (facility_in_use v) h = tt
    term-names (value k) h = tt
    term-names (comparison r a b) h =
        both_of (term_names total (term_in p a)) _ (term-names a (and_left (term_names n a) _ h))
        (term-names b (and_right (term_names n a) _ h))
    term-names (bracket e) h = sum-names e h

    sum-names : (e : Sum) → T (sum_names n e) → T (sum_names total (sum_in p e))
    sum-names nothing h = tt
    sum-names (plus t e) h =
        both_of (term_names total (term_in p t)) _ (term-names t (and_left (term_names n t) _ h)) (sum-names e (and_right (term_names n t) _ h))
    sum-names (minus t e) h =
        both_of (term_names total (term_in p t)) _ (term-names t (and_left (term_names n t) _ h)) (sum-names e (and_right (term_names n t) _ h))

  values-named : (l : List Sum) → T (all_of (sum_names n) l) → T (all_of (sum_names total) (map (sum_in p) l))
  unfolding all_of
  values-named [] h = tt
  values-named (e ∷ l) h =
      both_of (sum_names total (sum_in p e)) _ (sum-names e (and_left (sum_names n e) _ h)) (values-named l (and_right (sum_names n e) _ h))

all_append : {A : Type 0} (q : A → Bool) (k l : List A) → T (all_of q k) → T (all_of q l) → T (all_of q (k ++ l))
unfolding all_of
all_append q [] l h g = g
all_append q (x ∷ k) l h g = both_of (q x) _ (and_left (q x) _ h) (all_append q k l (and_right (q x) _ h) g)

all_map : {A B : Type 0} (P : A → Type 0) (q : A → Bool) (r : B → Bool) (f : A → B) → ((x : A) → P x → T (q x) → T (r (f x)))
    → (l : List A) → Each P l → T (all_of q l) → T (all_of r (map f l))
unfolding all_of
all_map P q r f k [] g h = tt
all_map P q r f k (x ∷ l) g h = both_of (r (f x)) _ (k x g.0 (and_left (q x) _ h)) (all_map P q r f k l g.1 (and_right (q x) _ h))

-- ---- Targets

abbrev Good : BlockModel → ℕ → Bool
Good m n = not (is_generate (facts (block_at m n))) && not (inside_group m n)

abbrev Aims : BlockModel → Block → Bool
Aims m b = eqb (facts b).target 0 || Good m (facts b).target

aims_in : (p : Part) (m M : BlockModel) → ((n : ℕ) → Names (length m.blocks) n → Good M (n + p.to_block) ≡ Good m n) → (b : Block)
    → ProperBlock m b → T (Aims m b) → T (Aims M (block_in p b))
aims_in p m M same b ok h = go (target_in p m b ok)
  where
    go : Target p m b → T (Aims M (block_in p b))
    go (none e d) = rw d tt
    go (some n d) =
        subst (λ (k : ℕ). T (eqb k 0 || Good M k)) (sym d)
        (rw (ne_eqb ((facts b).target + p.to_block) 0 (λ e. omega (arith, n.0)))
        (subst T (sym (same (facts b).target n))
        (subst (λ (x : Bool). T (x || Good m (facts b).target)) (ne_eqb (facts b).target 0 (λ e. omega (arith, n.0))) h)))

module _ (m₁ m₂ : BlockModel) {t₁ t₂ : List (List ℕ)} (proper₁ : Proper m₁ t₁) (proper₂ : Proper m₂ t₂) where
  inside-first : (b : ℕ) → Names (length m₁.blocks) b → inside_group (join_models m₁ m₂) b ≡ inside_group m₁ b
  unfolding inside_group
  inside-first b n =
      ap (ltb 0)
      (up_to_cong (λ c. bit (leb c (back_at (join_models m₁ m₂) (b + c - 1)))) (λ c. bit (leb c (back_at m₁ (b + c - 1)))) max_back
      (λ c low high. ap bit (same c low)))
    where
      same : (c : ℕ) → 1 ≤ c → leb c (back_at (join_models m₁ m₂) (b + c - 1)) ≡ leb c (back_at m₁ (b + c - 1))
      same c low = go (leb (b + c - 1) (length m₁.blocks)) refl
        where
          go : (x : Bool) → leb (b + c - 1) (length m₁.blocks) ≡ x
              → leb c (back_at (join_models m₁ m₂) (b + c - 1)) ≡ leb c (back_at m₁ (b + c - 1))
          go true e = ap (leb c) (back-first m₁ m₂ (b + c - 1) (omega (arith, n.0)) (leb-true _ _ e))
          go false e =
              let far : length m₁.blocks < b + c - 1 = leb-false _ _ e in
              let index : b + (c - 1) ≡ b + c - 1 = omega arith in
              let lt = rw index at (group-first m₁ m₂ proper₁ proper₂ b (c - 1) n.0 n.1 (omega (arith, n.1)) (omega arith)) in
              let z = back-past m₁ m₂ m₁ (b + c - 1) far in
              lt-leb c (back_at (join_models m₁ m₂) (b + c - 1)) (omega arith) ∙ sym (lt-leb c (back_at m₁ (b + c - 1)) (omega arith))

  inside-second : (b : ℕ) → 1 ≤ b → inside_group (join_models m₁ m₂) (b + length m₁.blocks) ≡ inside_group m₂ b
  unfolding inside_group
  inside-second b one =
      ap (ltb 0)
      (up_to_cong (λ c. bit (leb c (back_at (join_models m₁ m₂) (b + length m₁.blocks + c - 1))))
      (λ c. bit (leb c (back_at m₂ (b + c - 1)))) max_back
      (λ c low high. ap (λ (i : ℕ). bit (leb c i))
      (ap (back_at (join_models m₁ m₂)) (turn c low) ∙ back-second m₁ m₂ (b + c - 1) (omega arith))))
    where
      turn : (c : ℕ) → 1 ≤ c → b + length m₁.blocks + c - 1 ≡ b + c - 1 + length m₁.blocks
      turn c low = omega arith

  good-first : (n : ℕ) → Names (length m₁.blocks) n → Good (join_models m₁ m₂) (n + 0) ≡ Good m₁ n
  good-first n i =
      ap (Good (join_models m₁ m₂)) plus-zero
      ∙ ap₂ (λ (x y : Bool). not x && not y)
      (ap (λ (b : Block). is_generate (facts b)) (block-first m₁ m₂ n i.1 i.0)
      ∙ generates_in (first m₁ m₂) m₁ (block_at m₁ n) (proper₁.block n)) (inside-first n i)
    where
      plus-zero : n + 0 ≡ n
      plus-zero = omega arith

  good-second : (n : ℕ) → Names (length m₂.blocks) n → Good (join_models m₁ m₂) (n + length m₁.blocks) ≡ Good m₂ n
  good-second n i =
      ap₂ (λ (x y : Bool). not x && not y)
      (ap (λ (b : Block). is_generate (facts b)) (block-second m₁ m₂ n i.0)
      ∙ generates_in (second m₁ m₂) m₂ (block_at m₂ n) (proper₂.block n)) (inside-second n i.0)

  -- each block of a proper model is proper
  each-proper : (m : BlockModel) (l : List Block) → ((i : ℕ) → ProperBlock m (get_or l i (terminate 0))) → Each (ProperBlock m) l
  each-proper m [] h = tt
  each-proper m (b ∷ l) h = (h 0, each-proper m l (λ i. h (suc i)))

  at-index : {m : BlockModel} {t : List (List ℕ)} → Proper m t → (i : ℕ) → ProperBlock m (get_or m.blocks i (terminate 0))
  at-index {m} proper i = rw less at (proper.block (suc i))
    where
      less : suc i - 1 ≡ i
      less = omega arith

  pub formed : T (well_formed (join_models m₁ m₂))
  unfolding well_formed targets_move join_models
  formed =
      let e₁ = each-proper m₁ m₁.blocks (at-index proper₁) in
      let e₂ = each-proper m₂ m₂.blocks (at-index proper₂) in
      let f₁ = parts m₁ proper₁.formed in
      let f₂ = parts m₂ proper₂.formed in
      let placed : T (well_placed true (map (block_in (first m₁ m₂)) m₁.blocks ++ map (block_in (second m₁ m₂)) m₂.blocks)) =
      placed-append true (map (block_in (first m₁ m₂)) m₁.blocks) (map (block_in (second m₁ m₂)) m₂.blocks)
      (rw (placed-map (first m₁ m₂) m₁ true m₁.blocks e₁) f₁.0)
      (rw (placed-map (second m₁ m₂) m₂ true m₂.blocks e₂) f₂.0) in
      let aimed : T
      (all_of (Aims (join_models m₁ m₂)) (map (block_in (first m₁ m₂)) m₁.blocks ++ map (block_in (second m₁ m₂)) m₂.blocks)) =
      all_append (Aims (join_models m₁ m₂)) (map (block_in (first m₁ m₂)) m₁.blocks) (map (block_in (second m₁ m₂)) m₂.blocks)
      (all_map (ProperBlock m₁) (Aims m₁) (Aims (join_models m₁ m₂)) (block_in (first m₁ m₂))
      (aims_in (first m₁ m₂) m₁ (join_models m₁ m₂) good-first) m₁.blocks e₁ f₁.1)
      (all_map (ProperBlock m₂) (Aims m₂) (Aims (join_models m₁ m₂)) (block_in (second m₁ m₂))
      (aims_in (second m₁ m₂) m₂ (join_models m₁ m₂) good-second) m₂.blocks e₂ f₂.1) in
      let total : ℕ = length (join_models m₁ m₂).blocks in
      let named : T (all_of (sum_names total) (map (sum_in (first m₁ m₂)) m₁.values ++ map (sum_in (second m₁ m₂)) m₂.values)) =
      all_append (sum_names total) (map (sum_in (first m₁ m₂)) m₁.values) (map (sum_in (second m₁ m₂)) m₂.values)
      (values-named (first m₁ m₂) (length m₁.blocks) total (omega (arith, blocks_long m₁ m₂)) m₁.values f₁.2)
      (values-named (second m₁ m₂) (length m₂.blocks) total (omega (arith, blocks_long m₁ m₂)) m₂.values f₂.2) in
      let grouped : T (joined 0 (map (block_in (first m₁ m₂)) m₁.blocks ++ map (block_in (second m₁ m₂)) m₂.blocks)) =
      joined-append 0 (map (block_in (first m₁ m₂)) m₁.blocks) (map (block_in (second m₁ m₂)) m₂.blocks)
      (rw (joined-map (first m₁ m₂) m₁ 0 m₁.blocks) f₁.3)
      (rw (joined-map (second m₁ m₂) m₂ 0 m₂.blocks) f₂.3) in
      let blocks : List Block = map (block_in (first m₁ m₂)) m₁.blocks ++ map (block_in (second m₁ m₂)) m₂.blocks in
      all-of (well_placed true blocks) (all_of (Aims (join_models m₁ m₂)) blocks)
      (all_of (sum_names total) (map (sum_in (first m₁ m₂)) m₁.values ++ map (sum_in (second m₁ m₂)) m₂.values))
      (joined 0 blocks) placed aimed named grouped
    where
      four : (a b c d : Bool) → T (a && b && c && d) → T a × T b × T c × T d
      four true true true true h = (tt, tt, tt, tt)
      four true true true false h = absurd h
      four true true false d h = absurd h
      four true false c d h = absurd h
      four false b c d h = absurd h

      all-of : (a b c d : Bool) → T a → T b → T c → T d → T (a && b && c && d)
      all-of true true true true h k l n = tt
      all-of true true true false h k l n = n
      all-of true true false d h k l n = l
      all-of true false c d h k l n = k
      all-of false b c d h k l n = h

      parts : (m : BlockModel) → T (well_formed m)
          → T (well_placed true m.blocks) × T (all_of (Aims m) m.blocks) × T (all_of (sum_names (length m.blocks)) m.values) × T
          (joined 0 m.blocks)
      parts m h =
          four (well_placed true m.blocks) (all_of (Aims m) m.blocks) (all_of (sum_names (length m.blocks)) m.values)
          (joined 0 m.blocks) h
