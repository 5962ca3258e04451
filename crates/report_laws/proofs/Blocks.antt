-- The blocks of the tables that take a server or fill a queue are those that the machine's facts name.
use Rattle.machine.specs.All.{ℕ, suc, ◌+◌, ◌*◌, ◌-◌, ◌≤◌, ◌<◌, add-zero, arith, ◌≡◌, refl, sym, ap, ◌∙◌, Bool, true, false, cond, List, ◌∷◌, eq-eqb, ne_eqb, eqb-true, eqb-false, eqb, length, get_or, drop, get_or-take, get_or-drop, Block, terminate, facility, storage, facts, BlockModel, block_at, subst}
use Rattle.machine.proofs.Decoding.Proper.{Proper, ProperBlock}
use Rattle.layout.specs.All.{block_forms, block_numbers, At, Represents}
use Rattle.report_laws.specs.{names}
use Rattle.layout.proofs.BlockKinds.{Kinds, generating, taking, waiting, arriving, preempting, other, kinds, unasked}

-- ---- Numbers of the tables

at-number : (l : List ℕ) (at i : ℕ) (numbers : List ℕ) → At l at numbers → i < length numbers → get_or l (at + i) 0 ≡ get_or numbers i 0
at-number l at i numbers h b =
    sym (get_or-drop at l i 0) ∙ sym (get_or-take (length numbers) (drop at l) i 0 b) ∙ ap (λ n. get_or n i 0) h

-- ---- One block

-- the test of operand and kind
abbrev test : (operand kind first second third index : ℕ) → Bool
test operand kind first second third index =
    cond (eqb operand index) (cond (eqb kind first) true (cond (eqb kind second) true (eqb kind third))) false

less_one : (a i : ℕ) → 1 ≤ a → eqb (a - 1) i ≡ eqb a (suc i)
less_one a i h = go (eqb (a - 1) i) refl
  where
    go : (t : Bool) → eqb (a - 1) i ≡ t → t ≡ eqb a (suc i)
    go true e = sym (eq-eqb a (suc i) (omega (arith, eqb-true (a - 1) i e)))
    go false e = sym (ne_eqb a (suc i) (λ q. eqb-false (a - 1) i e (omega arith)))

module _ (tables : List ℕ) (at first second third index : ℕ) where
  abbrev here : Bool
  here = test (get_or tables (at + 1) 0) (get_or tables at 0) first second third index

  kind : (k : ℕ) (l : List ℕ) → At tables at (k ∷ l) → get_or tables at 0 ≡ k
  kind k l h = ap (λ i. get_or tables i 0) (sym (add-zero at)) ∙ at-number tables at 0 (k ∷ l) h (omega arith)

  -- of another kind
  another : (k : ℕ) (l : List ℕ) → At tables at (k ∷ l) → eqb k first ≡ false → eqb k second ≡ false → eqb k third ≡ false
      → here ≡ eqb 0 (suc index)
  another k l h a b c = rw (kind k l h, a, b, c) (go (eqb (get_or tables (at + 1) 0) index) ∙ sym (ne_eqb 0 (suc index) (λ e. omega arith)))
    where
      go : (t : Bool) → cond t false false ≡ false
      go true = refl
      go false = refl

  -- of one of the three kinds
  named : (k x : ℕ) (l : List ℕ) → At tables at (k ∷ (x - 1) ∷ l) → cond (eqb k first) true (cond (eqb k second) true (eqb k third)) ≡ true
      → 1 ≤ x → here ≡ eqb x (suc index)
  named k x l h a p =
      rw (kind k ((x - 1) ∷ l) h, at-number tables at 1 (k ∷ (x - 1) ∷ l) h (omega arith), a) (go (eqb (x - 1) index) ∙ less_one x index p)
    where
      go : (t : Bool) → cond t true false ≡ t
      go true = refl
      go false = refl

module _ (m : BlockModel) (tables : List ℕ) (at index : ℕ) where
  module _ (b : Block) (q : ProperBlock m b) (h : At tables at (block_numbers b)) where
    numbers : {c : Block} → b ≡ c → At tables at (block_numbers c)
    numbers e = rw e at h

    proper : {c : Block} → b ≡ c → ProperBlock m c
    proper e = subst (ProperBlock m) e q

    server-of : {c : Block} → b ≡ c → {t : Bool} → t ≡ eqb (facts c).server (suc index) → t ≡ eqb (facts b).server (suc index)
    server-of e f = f ∙ ap (λ (x : Block). eqb (facts x).server (suc index)) (sym e)

    queue-of : {c : Block} → b ≡ c → {t : Bool} → t ≡ eqb (facts c).queue (suc index) → t ≡ eqb (facts b).queue (suc index)
    queue-of e f = f ∙ ap (λ (x : Block). eqb (facts x).queue (suc index)) (sym e)

    takes-block : here tables at 4 6 19 index ≡ eqb (facts b).server (suc index)
    takes-block = go (kinds b)
      where
        go : Kinds b → here tables at 4 6 19 index ≡ eqb (facts b).server (suc index)
        go (generating list p e) = server-of e (unfold block_forms in another tables at 4 6 19 index 1 _ (numbers e) refl refl refl)
        go (taking (facility v) e) = server-of e (unfold block_forms in named tables at 4 6 19 index 4 v _ (numbers e) refl (proper e).0)
        go (taking (storage v n) e) =
            server-of e (unfold block_forms in named tables at 4 6 19 index 6 v _ (numbers e) refl (omega (arith, (proper e).0.0)))
        go (waiting a r c e) = server-of e (unfold block_forms in another tables at 4 6 19 index 9 _ (numbers e) refl refl refl)
        go (preempting v e) = server-of e (unfold block_forms in named tables at 4 6 19 index 19 v _ (numbers e) refl (proper e).0)
        go (arriving k e) = server-of e (unfold block_forms in another tables at 4 6 19 index 15 _ (numbers e) refl refl refl)
        go (other kind rest e f g) =
            let u = unasked kind f in
            another tables at 4 6 19 index kind rest (subst (At tables at) e h) u.no-seize u.no-enter u.no-preempt
            ∙ sym (ap (λ x. eqb x.server (suc index)) g)

    fills-block : here tables at 15 15 15 index ≡ eqb (facts b).queue (suc index)
    fills-block = go (kinds b)
      where
        go : Kinds b → here tables at 15 15 15 index ≡ eqb (facts b).queue (suc index)
        go (generating list p e) = queue-of e (unfold block_forms in another tables at 15 15 15 index 1 _ (numbers e) refl refl refl)
        go (taking (facility v) e) = queue-of e (unfold block_forms in another tables at 15 15 15 index 4 _ (numbers e) refl refl refl)
        go (taking (storage v n) e) = queue-of e (unfold block_forms in another tables at 15 15 15 index 6 _ (numbers e) refl refl refl)
        go (waiting a r c e) = queue-of e (unfold block_forms in another tables at 15 15 15 index 9 _ (numbers e) refl refl refl)
        go (preempting v e) = queue-of e (unfold block_forms in another tables at 15 15 15 index 19 _ (numbers e) refl refl refl)
        go (arriving k e) = queue-of e (unfold block_forms in named tables at 15 15 15 index 15 k _ (numbers e) refl (proper e).0)
        go (other kind rest e f g) =
            let u = unasked kind f in
            another tables at 15 15 15 index kind rest (subst (At tables at) e h) u.no-arrive u.no-arrive u.no-arrive
            ∙ sym (ap (λ x. eqb x.queue (suc index)) g)

-- ---- Every block of the model

module _ (m : BlockModel) (tape : List (List ℕ)) (tape_bytes tables lists : List ℕ) (proper : Proper m tape)
    (rep : Represents m tape tape_bytes tables lists)
    (index b : ℕ) (h : b < length m.blocks) where
  abbrev block : Block
  block = get_or m.blocks b (terminate 0)

  block_at-is : block_at m (suc b) ≡ block
  block_at-is = ap (λ i. get_or m.blocks i (terminate 0)) (omega arith)

  proper-block : ProperBlock m block
  proper-block = subst (ProperBlock m) block_at-is (proper.block (suc b))

  -- blocks of kinds 4, 6 and 19 that name this server are those that take it
  pub takes-server : names tables 4 6 19 index b ≡ eqb (facts (block_at m (suc b))).server (suc index)
  unfolding names
  takes-server =
      takes-block m tables (8 * b) index block proper-block (rep.blocks b h)
      ∙ ap (λ (x : Block). eqb (facts x).server (suc index)) (sym block_at-is)

  -- and those of kind 15 that name this queue are its ARRIVEs
  pub fills-queue : names tables 15 15 15 index b ≡ eqb (facts (block_at m (suc b))).queue (suc index)
  unfolding names
  fills-queue =
      fills-block m tables (8 * b) index block proper-block (rep.blocks b h)
      ∙ ap (λ (x : Block). eqb (facts x).queue (suc index)) (sym block_at-is)
