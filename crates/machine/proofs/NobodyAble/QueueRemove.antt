-- LEAVE as one walk from the front of the QL, under either edition: who takes no more than a number goes. Under edition 1 the number is
-- the free units and stays; under edition 2 it is B, and who goes takes its units off it. So case a of document 000, section 6, is case b
-- (i).
use Rattle.machine.specs.All.{ℕ, suc, ◌-◌, ◌≤◌, ◌≡◌, refl, sym, ap, ◌∙◌, Bool, true, false, cond, not, List, [], ◌∷◌, arith, eq-eqb, eqb-true, eqb-false, ltb-true, ltb-false, le-leb, lt-leb, eqb, ltb, leb, get_or, Transaction, those, any_of, View, server_at, free, facility, storage, share_server, share_units, Block, generate, advance, terminate, takes, frees, wait_server, wait_terms, moves, assign, priority, split, counts, assemble, preempt, give_back, facts, above_one, BlockModel, block_at, Parted, nobody, goes, stays, first_of, part_by, units_of_lem, fits, first_of_one, from_front, queue_remove, part_for, Each, others}
use Rattle.machine.proofs as our
use our.Decoding.Proper.{Proper, ProperBlock, Role, generating, taking, preempting, neither, role}
use our.{Basic.Each.each_map, Basic.Lists.none-at, NobodyAble.Waiting.AtServer}

-- ---- Definition

-- from the front with a number: who passes the test goes, and `after` is the number behind each
unfoldable pub walk : (test : ℕ → Transaction → Bool) (after : ℕ → Transaction → ℕ) → ℕ → List Transaction → Parted
walk test after n [] = nobody
walk test after n (t ∷ l) = cond (test n t) (goes t (walk test after (after n t) l)) (stays t (walk test after (after n t) l))

-- where the number stays
pub walk-fixed : (test : ℕ → Transaction → Bool) (n : ℕ) (l : List Transaction) → walk test (λ n t. n) n l ≡ part_by (test n) l
unfolding walk those
walk-fixed test n [] = refl
walk-fixed test n (t ∷ l) = go (test n t) (walk-fixed test n l)
  where
    go : (b : Bool) → walk test (λ n t. n) n l ≡ part_by (test n) l
        → cond b (goes t (walk test (λ n t. n) n l)) (stays t (walk test (λ n t. n) n l))
        ≡ record { go = cond b (t ∷ those (test n) l) (those (test n) l); stay = cond (not b) (t ∷ others (test n) l) (others (test n) l) }
    go true e = ap (goes t) e
    go false e = ap (stays t) e

-- walks that agree on each member
pub walk_same : (test test' : ℕ → Transaction → Bool) (after after' : ℕ → Transaction → ℕ) (n : ℕ) (l : List Transaction)
    → Each (λ t. (n : ℕ) → (test n t ≡ test' n t) × (after n t ≡ after' n t)) l → walk test after n l ≡ walk test' after' n l
unfolding walk
walk_same test test' after after' n [] h = refl
walk_same test test' after after' n (t ∷ l) h = rw ((h.0 n).0, (h.0 n).1, walk_same test test' after after' (after' n t) l h.1)

-- ---- The units of a walk

-- at most what is left
abbrev pub within : (Transaction → ℕ) → ℕ → Transaction → Bool
within units n t = leb (units t) n

-- what is left behind one, where whoever goes takes its units, or takes nothing
abbrev pub left_after : (spends : Bool) → (Transaction → ℕ) → ℕ → Transaction → ℕ
left_after spends units n t = cond spends (cond (leb (units t) n) (n - units t) n) n

module _ (m : BlockModel) where
  abbrev spend : ℕ → List Transaction → Parted
  spend = walk (within (units_of_lem m)) (left_after true (units_of_lem m))

  -- somebody waits for at least one unit
  abbrev Some : Transaction → Type 0
  Some t = 1 ≤ units_of_lem m t

  -- with nothing left nobody goes
  spend-none : (l : List Transaction) → Each Some l → spend 0 l ≡ record { go = []; stay = l }
  unfolding walk
  spend-none [] h = refl
  spend-none (t ∷ l) h = rw (lt-leb (units_of_lem m t) 0 (omega (arith, h.0)), spend-none l h.1)

  -- who takes all that is left is the last to go
  spend-all : (b : ℕ) (t : Transaction) (l : List Transaction) → units_of_lem m t ≡ b → Each Some l → spend b (t ∷ l) ≡ first_of (t ∷ l)
  unfolding walk
  spend-all b t l e h =
      let z : b - units_of_lem m t ≡ 0 = omega arith in
      rw (le-leb (units_of_lem m t) b (omega arith), z, spend-none l h)

  spend-stays : (b : ℕ) (t : Transaction) (l : List Transaction) → suc b ≤ units_of_lem m t → spend b (t ∷ l) ≡ stays t (spend b l)
  unfolding walk
  spend-stays b t l h = rw (lt-leb (units_of_lem m t) b h)

  spend-goes : (b : ℕ) (t : Transaction) (l : List Transaction) → units_of_lem m t ≤ b → spend b (t ∷ l) ≡ goes t (spend (b - units_of_lem m t) l)
  unfolding walk
  spend-goes b t l h = rw (le-leb (units_of_lem m t) b h)

  not-one : {n : ℕ} → 1 ≤ n → (n ≡ 1 → ⊥) → 2 ≤ n
  not-one h ne = omega arith

  -- b (i)
  one_spends : (l : List Transaction) → Each Some l → first_of_one m l ≡ spend 1 l
  unfolding first_of_one
  one_spends [] h = unfold walk in refl
  one_spends (t ∷ l) h = go (eqb (units_of_lem m t) 1) refl (one_spends l h.1)
    where
      go : (x : Bool) → eqb (units_of_lem m t) 1 ≡ x → first_of_one m l ≡ spend 1 l
          → cond x (first_of (t ∷ l)) (stays t (first_of_one m l)) ≡ spend 1 (t ∷ l)
      go true e rest = sym (spend-all 1 t l (eqb-true _ _ e) h.1)
      go false e rest = ap (stays t) rest ∙ sym (spend-stays 1 t l (not-one h.0 (eqb-false _ _ e)))

  -- b (ii)
  front_spends : (b : ℕ) (l : List Transaction) → Each Some l → from_front m b l ≡ spend b l
  unfolding from_front
  front_spends b [] h = unfold walk in refl
  front_spends b (t ∷ l) h = go (eqb b (units_of_lem m t)) refl (ltb b (units_of_lem m t)) refl (λ b. front_spends b l h.1)
    where
      go : (x : Bool) → eqb b (units_of_lem m t) ≡ x → (y : Bool) → ltb b (units_of_lem m t) ≡ y → ((b : ℕ) → from_front m b l ≡ spend b l)
          → cond x (first_of (t ∷ l)) (cond y (stays t (from_front m b l)) (goes t (from_front m (b - units_of_lem m t) l))) ≡ spend b (t ∷ l)
      go true e y d rest = sym (spend-all b t l (sym (eqb-true _ _ e)) h.1)
      go false e true d rest = ap (stays t) (rest b) ∙ sym (spend-stays b t l (ltb-true _ _ d))
      go false e false d rest = ap (goes t) (rest (b - units_of_lem m t)) ∙ sym (spend-goes b t l (ltb-false _ _ d))

  -- ---- No block takes or frees more than one unit

  above-none : (l : List Block) (i : ℕ) → any_of above_one l ≡ false → above_one (get_or l i (terminate 0)) ≡ false
  unfolding above_one
  above-none l i h = none-at above_one (terminate 0) refl l i h

  taken-one : (b : Block) → above_one b ≡ false → (facts b).units ≤ 1
  unfolding above_one facts
  taken-one (generate list p) h = omega arith
  taken-one (advance list) h = omega arith
  taken-one (terminate a) h = omega arith
  taken-one (takes x) h = ltb-false 1 (share_units x) h
  taken-one (frees x) h = omega arith
  taken-one (wait_server code v c) h = omega arith
  taken-one (wait_terms a r b) h = omega arith
  taken-one (moves c target) h = omega arith
  taken-one (assign k a) h = omega arith
  taken-one (priority p) h = omega arith
  taken-one (split n target) h = omega arith
  taken-one (counts c q) h = omega arith
  taken-one (assemble n) h = omega arith
  taken-one (preempt f) h = omega arith
  taken-one (give_back f) h = omega arith

  -- case a: then the first is the first of one unit
  pub case-a : any_of above_one m.blocks ≡ false → (l : List Transaction) → Each Some l → first_of l ≡ first_of_one m l
  unfolding first_of_one
  case-a none [] h = refl
  case-a none (t ∷ l) h =
      let one : units_of_lem m t ≡ 1 = omega (arith, h.0, taken-one (block_at m t.next) (above-none m.blocks (t.next - 1) none)) in
      rw (eq-eqb (units_of_lem m t) 1 one)

  -- ---- LEAVE

  -- of b units, by a block of the model
  module _ (n v b : ℕ) (is : block_at m n ≡ frees (storage v b)) (low : 1 ≤ b) where
    leaves-one : any_of above_one m.blocks ≡ false → b ≡ 1
    unfolding above_one share_units
    leaves-one none =
        let few : b ≤ 1 = ltb-false 1 b (sym (ap above_one is) ∙ above-none m.blocks (n - 1) none) in
        omega arith

    remove_spends : (l : List Transaction) → Each Some l → queue_remove m b l ≡ spend b l
    unfolding queue_remove
    remove_spends l h = go (any_of above_one m.blocks) refl (eqb b 1) refl
      where
        go : (x : Bool) → any_of above_one m.blocks ≡ x → (y : Bool) → eqb b 1 ≡ y
            → cond x (cond y (first_of_one m l) (from_front m b l)) (first_of l) ≡ spend b l
        go true e true d = one_spends l h ∙ ap (λ b. spend b l) (sym (eqb-true _ _ d))
        go true e false d = front_spends b l h
        go false e y d = case-a e l h ∙ one_spends l h ∙ ap (λ b. spend b l) (sym (leaves-one e))

    -- of either edition
    pub leave_walks : (w : View) (l : List Transaction) → Each Some l
        → part_for m (storage v b) w l
        ≡ walk (within (units_of_lem m)) (left_after (not (eqb m.edition 1)) (units_of_lem m)) (cond (eqb m.edition 1) (free (server_at w v)) b) l
    unfolding part_for fits
    leave_walks w l h = go (eqb m.edition 1)
      where
        go : (x : Bool) → cond x (part_by (fits m w v) l) (queue_remove m b l)
            ≡ walk (within (units_of_lem m)) (left_after (not x) (units_of_lem m)) (cond x (free (server_at w v)) b) l
        go true = sym (walk-fixed (within (units_of_lem m)) (free (server_at w v)) l)
        go false = remove_spends l h

-- ---- Who stands at a SEIZE or ENTER waits for at least one unit

role-units : (m : BlockModel) {b : Block} → Role b → ProperBlock m b → 1 ≤ (facts b).server → 1 ≤ (facts b).units
unfolding facts share_server share_units
role-units m (generating list p) k a = absurd (omega arith)
role-units m (taking (facility v)) k a = omega arith
role-units m (preempting f) k a = omega arith
role-units m (taking (storage v b)) k a = k.1.0
role-units m (neither e z) k a = absurd (omega arith)

-- whoever waits for a server asks for a unit at least, so that a walk with no units left stops
pub some-units : {m : BlockModel} {tape : List (List ℕ)} → Proper m tape → (v : ℕ) → 1 ≤ v → (l : List Transaction) → Each (AtServer m v) l
    → Each (λ t. 1 ≤ units_of_lem m t) l
some-units {m} proper v one l h =
    each_map (λ t e. role-units m (role (block_at m t.next)) (proper.block t.next) (omega arith)) l h
