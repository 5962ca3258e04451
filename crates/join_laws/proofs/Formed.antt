-- Question 7 of the joined model: both parts are well formed, and nothing leads from one into the other.
use Rattle.machine.specs.All.{ℕ, suc, ◌+◌, ◌-◌, ◌≤◌, ◌<◌, arith, ◌≡◌, refl, sym, ap, ap₂, subst, ◌∙◌, Bool, true, false, cond, not, ◌&&◌, ◌||◌, List, [], ◌∷◌, ◌++◌, map, eqb-false, ne_eqb, leb-true, leb-false, le-leb, lt-leb, T, leb, ltb, eqb, length, get_or, length-append, length-map, get_or-append, get_or-map, get_or-eq_default, get_or-append-add, max_back, bit, is_generate, Term, constant, minus_constant, parameter, clock_term, entries_of, content_of, units_in_use, units_free, facility_in_use, value, comparison, bracket, Sum, nothing, plus, minus, always, when_true, wel_index, unconditional, Block, generate, advance, terminate, takes, frees, wait_server, wait_terms, moves, assign, priority, split, counts, assemble, preempt, give_back, facts, BlockModel, block_at, back_at, inside_group, well_placed, all_of, joined, targets_move, term_names, sum_names, well_formed, Each}
use Rattle.machine.proofs.{Decoding.Proper.ProperBlock, Decoding.Proper.Proper, Lists.Sums.up_to_cong, Conservation.StartLedger.each_of}
use Rattle.machine.proofs.Decoding.Groups.{and_left, and_right, back-within}
use Rattle.joined.specs.Join.{Part, first, second, term_in, sum_in, share_in, condition_in, block_in, join_models}
use Rattle.joined.specs.Join.{server_in}

-- ---- Tests

and_intro : (a b : Bool) → T a → T b → T (a && b)
and_intro true b h k = k
and_intro false b h k = h

is_true : (b : Bool) → T b → b ≡ true
is_true true h = refl
is_true false h = absurd h

from_true : (b : Bool) → b ≡ true → T b
from_true true e = tt
from_true false e = let z : ◌≡◌ {A = ℕ} 0 1 = cc in absurd (omega arith)

-- ---- A block and its image

-- where a target is moved on to; 0 for none
abbrev moved_to : Part → ℕ → ℕ
moved_to p t = cond (eqb t 0) 0 (t + p.to_block)

record Alike (p : Part) (size : ℕ) (b : Block) : Type 0 where
  generates : is_generate (facts (block_in p b)) ≡ is_generate (facts b)
  leaves : (facts (block_in p b)).leaves ≡ (facts b).leaves
  waits : eqb (facts (block_in p b)).wel 0 ≡ eqb (facts b).wel 0
  back : (facts (block_in p b)).back ≡ (facts b).back
  target : (facts (block_in p b)).target ≡ moved_to p (facts b).target
  named : (facts b).target ≤ size

alike : (p : Part) (m : BlockModel) (b : Block) → ProperBlock m b → Alike p (length m.blocks) b
unfolding facts block_in share_in condition_in unconditional
alike p m (generate list k) h =
    record {
      generates = ap not (ne_eqb (list + p.to_list) 0 (λ e. omega arith) ∙ sym (ne_eqb list 0 (λ e. omega arith)));
      leaves = refl;
      waits = refl;
      back = refl;
      target = refl;
      named = omega arith;
    }
alike p m (advance list) h = record { generates = refl; leaves = refl; waits = refl; back = refl; target = refl; named = omega arith }
alike p m (terminate a) h = record { generates = refl; leaves = refl; waits = refl; back = refl; target = refl; named = omega arith }
alike p m (takes x) h = record { generates = refl; leaves = refl; waits = refl; back = refl; target = refl; named = omega arith }
alike p m (frees x) h = record { generates = refl; leaves = refl; waits = refl; back = refl; target = refl; named = omega arith }
alike p m (wait_server code v c) h =
    record {
      generates = refl;
      leaves = refl;
      waits = ne_eqb (suc (wel_index (server_in p v) code)) 0 (λ e. omega arith) ∙ sym (ne_eqb (suc (wel_index v code)) 0 (λ e. omega arith));
      back = refl;
      target = refl;
      named = omega arith;
    }
alike p m (wait_terms a r b) h = record { generates = refl; leaves = refl; waits = refl; back = refl; target = refl; named = omega arith }
alike p m (moves always target) h =
    record { generates = refl; leaves = refl; waits = refl; back = refl; target = rw (ne_eqb target 0 (λ e. omega arith)); named = h.1 }
alike p m (moves (when_true a r b) target) h =
    record { generates = refl; leaves = refl; waits = refl; back = refl; target = rw (ne_eqb target 0 (λ e. omega arith)); named = h.1 }
alike p m (assign k a) h = record { generates = refl; leaves = refl; waits = refl; back = refl; target = refl; named = omega arith }
alike p m (priority q) h = record { generates = refl; leaves = refl; waits = refl; back = refl; target = refl; named = omega arith }
alike p m (split n target) h =
    record { generates = refl; leaves = refl; waits = refl; back = refl; target = rw (ne_eqb target 0 (λ e. omega arith)); named = h.1.1 }
alike p m (counts c q) h = record { generates = refl; leaves = refl; waits = refl; back = refl; target = refl; named = omega arith }
alike p m (assemble n) h = record { generates = refl; leaves = refl; waits = refl; back = refl; target = refl; named = omega arith }
alike p m (preempt f) h = record { generates = refl; leaves = refl; waits = refl; back = refl; target = refl; named = omega arith }
alike p m (give_back f) h = record { generates = refl; leaves = refl; waits = refl; back = refl; target = refl; named = omega arith }

all_alike : (p : Part) (m : BlockModel) → ((n : ℕ) → ProperBlock m (block_at m n)) → Each (Alike p (length m.blocks)) m.blocks
all_alike p m proper =
    each_of (Alike p (length m.blocks)) (terminate 0) m.blocks
    (λ i.
    let e : suc i - 1 ≡ i = omega arith in
    alike p m (get_or m.blocks i (terminate 0)) (subst (λ j. ProperBlock m (get_or m.blocks j (terminate 0))) e (proper (suc i))))

-- ---- GENERATEs and groups

module _ (p : Part) (size : ℕ) where
  placed-image : (left : Bool) (l : List Block) → Each (Alike p size) l → well_placed left (map (block_in p) l) ≡ well_placed left l
  unfolding well_placed
  placed-image left [] h = refl
  placed-image left (b ∷ l) h = rw (h.0.generates, h.0.leaves, placed-image (facts b).leaves l h.1)

  joined-image : (waits : ℕ) (l : List Block) → Each (Alike p size) l → joined waits (map (block_in p) l) ≡ joined waits l
  unfolding joined
  joined-image waits [] h = refl
  joined-image waits (b ∷ l) h =
      rw (h.0.back, h.0.waits, joined-image (cond (not (eqb (facts b).wel 0) && eqb (facts b).back 0) (suc waits) 0) l h.1)

placed-both : (left : Bool) (k l : List Block) → T (well_placed left k) → T (well_placed true l) → T (well_placed left (k ++ l))
unfolding well_placed
placed-both left [] l h g = rw (is_true left h) g
placed-both left (b ∷ k) l h g =
    and_intro (not (is_generate (facts b)) || left) _ (and_left (not (is_generate (facts b)) || left) _ h)
    (placed-both (facts b).leaves k l (and_right (not (is_generate (facts b)) || left) _ h) g)

-- more waits before do no harm
joined-more : (l : List Block) (a b : ℕ) → a ≤ b → T (joined a l) → T (joined b l)
unfolding joined
joined-more [] a b h g = tt
joined-more (x ∷ l) a b h g =
    and_intro (leb (facts x).back b) _
    (from_true _ (le-leb (facts x).back b (omega (arith, leb-true (facts x).back a (is_true _ (and_left (leb (facts x).back a) _ g))))))
    (rest (λ i j. joined-more l i j) (not (eqb (facts x).wel 0) && eqb (facts x).back 0) (and_right (leb (facts x).back a) _ g))
  where
    rest : ((i j : ℕ) → i ≤ j → T (joined i l) → T (joined j l)) → (w : Bool) → T (joined (cond w (suc a) 0) l)
        → T (joined (cond w (suc b) 0) l)
    rest f true k = f (suc a) (suc b) (omega arith) k
    rest f false k = k

joined-both : (waits : ℕ) (k l : List Block) → T (joined waits k) → T (joined 0 l) → T (joined waits (k ++ l))
unfolding joined
joined-both waits [] l h g = joined-more l 0 waits (omega arith) g
joined-both waits (b ∷ k) l h g =
    and_intro (leb (facts b).back waits) _ (and_left (leb (facts b).back waits) _ h)
    (joined-both (cond (not (eqb (facts b).wel 0) && eqb (facts b).back 0) (suc waits) 0) k l (and_right (leb (facts b).back waits) _ h) g)

-- ---- Blocks named in values

module _ (p : Part) (size all : ℕ) (room : size + p.to_block ≤ all) where
  mutual
    unfolding term_names sum_names term_in sum_in

    term-named : (t : Term) → T (term_names size t) → T (term_names all (term_in p t))
    term-named (constant k) h = tt
    term-named (minus_constant k) h = tt
    term-named (parameter k) h = tt
    term-named clock_term h = tt
    term-named (entries_of b) h = from_true _ (le-leb (b + p.to_block) all (omega (arith, leb-true b size (is_true _ h))))
    term-named (content_of q) h = tt
    term-named (units_in_use v) h = tt
    term-named (units_free v) h = tt
    term-named (facility_in_use v) h = tt
    term-named (value k) h = tt
    term-named (comparison r a b) h =
        and_intro (term_names all (term_in p a)) _ (term-named a (and_left (term_names size a) _ h))
        (term-named b (and_right (term_names size a) _ h))
    term-named (bracket e) h = sum-named e h

    sum-named : (e : Sum) → T (sum_names size e) → T (sum_names all (sum_in p e))
    sum-named nothing h = tt
    sum-named (plus t e) h =
        and_intro (term_names all (term_in p t)) _ (term-named t (and_left (term_names size t) _ h))
        (sum-named e (and_right (term_names size t) _ h))
    sum-named (minus t e) h =
        and_intro (term_names all (term_in p t)) _ (term-named t (and_left (term_names size t) _ h))
        (sum-named e (and_right (term_names size t) _ h))

  sums-named : (l : List Sum) → T (all_of (sum_names size) l) → T (all_of (sum_names all) (map (sum_in p) l))
  unfolding all_of
  sums-named [] h = tt
  sums-named (e ∷ l) h =
      and_intro (sum_names all (sum_in p e)) _ (sum-named e (and_left (sum_names size e) _ h)) (sums-named l (and_right (sum_names size e) _ h))

all_both : {A : Type 0} (f : A → Bool) (k l : List A) → T (all_of f k) → T (all_of f l) → T (all_of f (k ++ l))
unfolding all_of
all_both f [] l h g = g
all_both f (x ∷ k) l h g = and_intro (f x) _ (and_left (f x) _ h) (all_both f k l (and_right (f x) _ h) g)

-- ---- Targets

-- the blocks of a part inside the joined model; no group behind them reaches back into them
record Sits (p : Part) (m joint : BlockModel) : Type 0 where
  block : (n : ℕ) → 1 ≤ n → n ≤ length m.blocks → block_at joint (n + p.to_block) ≡ block_in p (block_at m n)
  behind : (n : ℕ) → length m.blocks < n → back_at joint (n + p.to_block) < n - length m.blocks

past_end : (m : BlockModel) (n : ℕ) → length m.blocks < n → back_at m n ≡ 0
unfolding facts
past_end m n h = ap (λ b. (facts b).back) (get_or-eq_default m.blocks (terminate 0) (omega arith))

module _ (p : Part) {m joint : BlockModel} (sits : Sits p m joint) (proper : (n : ℕ) → ProperBlock m (block_at m n)) where
  inside-same : (t : ℕ) → 1 ≤ t → t ≤ length m.blocks → inside_group joint (t + p.to_block) ≡ inside_group m t
  unfolding inside_group
  inside-same t low high =
      ap (ltb 0) (up_to_cong _ _ max_back (λ c one most. ap bit (each c one (leb (t + c - 1) (length m.blocks)) refl)))
    where
      each : (c : ℕ) → 1 ≤ c → (b : Bool) → leb (t + c - 1) (length m.blocks) ≡ b
          → leb c (back_at joint (t + p.to_block + c - 1)) ≡ leb c (back_at m (t + c - 1))
      each c one true e =
          let here : t + p.to_block + c - 1 ≡ t + c - 1 + p.to_block = omega arith in
          ap (λ i. leb c (back_at joint i)) here
          ∙ ap (λ x. leb c (facts x).back) (sits.block (t + c - 1) (omega arith) (leb-true _ _ e))
          ∙ ap (leb c) (alike p m (block_at m (t + c - 1)) (proper (t + c - 1))).back
      each c one false e =
          let out : length m.blocks < t + c - 1 = leb-false (t + c - 1) (length m.blocks) e in
          let here : t + p.to_block + c - 1 ≡ t + c - 1 + p.to_block = omega arith in
          ap (λ i. leb c (back_at joint i)) here
          ∙ lt-leb c (back_at joint (t + c - 1 + p.to_block)) (omega (arith, sits.behind (t + c - 1) (omega arith)))
          ∙ sym (lt-leb c (back_at m (t + c - 1)) (omega (arith, past_end m (t + c - 1) (omega arith))))

  -- where a block may lead
  abbrev Leads : BlockModel → Block → Bool
  Leads k b = eqb (facts b).target 0 || (not (is_generate (facts (block_at k (facts b).target))) && not (inside_group k (facts b).target))

  leads-same : (b : Block) → Alike p (length m.blocks) b → Leads joint (block_in p b) ≡ Leads m b
  leads-same b a = ap leads a.target ∙ go (facts b).target a.named (eqb (facts b).target 0) refl
    where
      leads : ℕ → Bool
      leads t = eqb t 0 || (not (is_generate (facts (block_at joint t))) && not (inside_group joint t))

      go : (t : ℕ) → t ≤ length m.blocks → (x : Bool) → eqb t 0 ≡ x
          → leads (cond x 0 (t + p.to_block)) ≡ (x || (not (is_generate (facts (block_at m t))) && not (inside_group m t)))
      go t most true e = refl
      go t most false e =
          let some = eqb-false t 0 e in
          rw (
            ne_eqb (t + p.to_block) 0 (λ z. some (omega arith)),
            sits.block t (omega arith) most,
            inside-same t (omega arith) most,
            (alike p m (block_at m t) (proper t)).generates,
          )

  all_lead : (l : List Block) → Each (Alike p (length m.blocks)) l → T (all_of (Leads m) l) → T (all_of (Leads joint) (map (block_in p) l))
  unfolding all_of
  all_lead [] h g = tt
  all_lead (b ∷ l) h g =
      and_intro (Leads joint (block_in p b)) _ (subst T (sym (leads-same b h.0)) (and_left (Leads m b) _ g))
      (all_lead l h.1 (and_right (Leads m b) _ g))

-- ---- The joined model

module _ {m₁ m₂ : BlockModel} {tape₁ tape₂ : List (List ℕ)} (proper₁ : Proper m₁ tape₁) (proper₂ : Proper m₂ tape₂) where
  abbrev blocks₁ : List Block
  blocks₁ = map (block_in (first m₁ m₂)) m₁.blocks

  abbrev blocks₂ : List Block
  blocks₂ = map (block_in (second m₁ m₂)) m₂.blocks

  abbrev both : ℕ → Block
  both i = get_or (blocks₁ ++ blocks₂) i (terminate 0)

  in-first : (i : ℕ) → i < length m₁.blocks → both i ≡ block_in (first m₁ m₂) (get_or m₁.blocks i (terminate 0))
  unfolding block_in
  in-first i h =
      get_or-append blocks₁ blocks₂ (terminate 0) i (omega (arith, length-map m₁.blocks (block_in (first m₁ m₂))))
      ∙ get_or-map (block_in (first m₁ m₂)) m₁.blocks i (terminate 0)

  in-second : (i : ℕ) → both (length m₁.blocks + i) ≡ block_in (second m₁ m₂) (get_or m₂.blocks i (terminate 0))
  unfolding block_in
  in-second i =
      ap (λ n. both (n + i)) (sym (length-map m₁.blocks (block_in (first m₁ m₂))))
      ∙ get_or-append-add blocks₁ blocks₂ i (terminate 0)
      ∙ get_or-map (block_in (second m₁ m₂)) m₂.blocks i (terminate 0)

  sits₁ : Sits (first m₁ m₂) m₁ (join_models m₁ m₂)
  unfolding join_models
  sits₁ =
      record {
        block = λ n low high. ap both (omega arith) ∙ in-first (n - 1) (omega arith);
        behind = λ n out.
            let k = n - length m₁.blocks in
            let here : n + 0 - 1 ≡ length m₁.blocks + (k - 1) = omega arith in
            let same : back_at (join_models m₁ m₂) (n + 0) ≡ back_at m₂ k =
            ap (λ b. (facts b).back) (ap both here ∙ in-second (k - 1)) ∙ (alike (second m₁ m₂) m₂ (block_at m₂ k) (proper₂.block k)).back in
            omega (arith, same, back-within proper₂ k);
      }

  sits₂ : Sits (second m₁ m₂) m₂ (join_models m₁ m₂)
  unfolding join_models
  sits₂ =
      record {
        block = λ n low high.
            let here : n + length m₁.blocks - 1 ≡ length m₁.blocks + (n - 1) = omega arith in
            ap both here ∙ in-second (n - 1);
        behind = λ n out.
            let here : n + length m₁.blocks - 1 ≡ length m₁.blocks + (n - 1) = omega arith in
            let same : back_at (join_models m₁ m₂) (n + length m₁.blocks) ≡ back_at m₂ n =
            ap (λ b. (facts b).back) (ap both here ∙ in-second (n - 1)) ∙ (alike (second m₁ m₂) m₂ (block_at m₂ n) (proper₂.block n)).back in
            omega (arith, same, past_end m₂ n out);
      }

-- question 7, part by part
pub record WellFormed (m : BlockModel) : Type 0 where
  pub placed : T (well_placed true m.blocks)
  pub targets : T (targets_move m)
  pub names : T (all_of (sum_names (length m.blocks)) m.values)
  pub groups : T (joined 0 m.blocks)

pub well-formed : {m : BlockModel} → T (well_formed m) → WellFormed m
unfolding well_formed
well-formed {m} h =
    let a = well_placed true m.blocks in
    let b = targets_move m in
    let c = all_of (sum_names (length m.blocks)) m.values in
    let abc = and_left (a && b && c) (joined 0 m.blocks) h in
    let ab = and_left (a && b) c abc in
    record {
      placed = and_left a b ab;
      targets = and_right a b ab;
      names = and_right (a && b) c abc;
      groups = and_right (a && b && c) (joined 0 m.blocks) h;
    }

form : {m : BlockModel} → WellFormed m → T (well_formed m)
unfolding well_formed
form {m} h =
    let a = well_placed true m.blocks in
    let b = targets_move m in
    let c = all_of (sum_names (length m.blocks)) m.values in
    and_intro (a && b && c) (joined 0 m.blocks) (and_intro (a && b) c (and_intro a b h.placed h.targets) h.names) h.groups

-- question 7, by its parts: placement, targets, groups, names
pub joined-formed : {m₁ m₂ : BlockModel} {tape₁ tape₂ : List (List ℕ)} → Proper m₁ tape₁ → Proper m₂ tape₂
    → T (well_formed (join_models m₁ m₂))
joined-formed {m₁} {m₂} proper₁ proper₂ =
    form (record { placed = placed; targets = targets; names = names; groups = groups })
  where
    f₁ : WellFormed m₁
    f₁ = well-formed proper₁.formed

    f₂ : WellFormed m₂
    f₂ = well-formed proper₂.formed

    a₁ : Each (Alike (first m₁ m₂) (length m₁.blocks)) m₁.blocks
    a₁ = all_alike (first m₁ m₂) m₁ proper₁.block

    a₂ : Each (Alike (second m₁ m₂) (length m₂.blocks)) m₂.blocks
    a₂ = all_alike (second m₁ m₂) m₂ proper₂.block

    placed : T (well_placed true (join_models m₁ m₂).blocks)
    placed =
        unfold join_models in
        placed-both true _ _ (subst T (sym (placed-image (first m₁ m₂) (length m₁.blocks) true m₁.blocks a₁)) f₁.placed)
        (subst T (sym (placed-image (second m₁ m₂) (length m₂.blocks) true m₂.blocks a₂)) f₂.placed)

    groups : T (joined 0 (join_models m₁ m₂).blocks)
    groups =
        unfold join_models in
        joined-both 0 _ _ (subst T (sym (joined-image (first m₁ m₂) (length m₁.blocks) 0 m₁.blocks a₁)) f₁.groups)
        (subst T (sym (joined-image (second m₁ m₂) (length m₂.blocks) 0 m₂.blocks a₂)) f₂.groups)

    size : length (join_models m₁ m₂).blocks ≡ length m₁.blocks + length m₂.blocks
    size =
        unfold join_models in
        (length-append (map (block_in (first m₁ m₂)) m₁.blocks) (map (block_in (second m₁ m₂)) m₂.blocks)
        ∙ ap₂ (λ i j. i + j) (length-map m₁.blocks (block_in (first m₁ m₂))) (length-map m₂.blocks (block_in (second m₁ m₂))))

    names : T (all_of (sum_names (length (join_models m₁ m₂).blocks)) (join_models m₁ m₂).values)
    names =
        subst (λ n. T (all_of (sum_names n) (join_models m₁ m₂).values)) (sym size)
        (unfold join_models in
        all_both (sum_names (length m₁.blocks + length m₂.blocks)) _ _
        (sums-named (first m₁ m₂) (length m₁.blocks) (length m₁.blocks + length m₂.blocks) (omega arith) m₁.values f₁.names)
        (sums-named (second m₁ m₂) (length m₂.blocks) (length m₁.blocks + length m₂.blocks) (omega arith) m₂.values
        f₂.names))

    targets : T (targets_move (join_models m₁ m₂))
    targets =
        unfold targets_move join_models in
        all_both _ _ _ (all_lead (first m₁ m₂) (sits₁ proper₁ proper₂) proper₁.block m₁.blocks a₁ (unfold targets_move in f₁.targets))
        (all_lead (second m₁ m₂) (sits₂ proper₁ proper₂) proper₂.block m₂.blocks a₂ (unfold targets_move in f₂.targets))
