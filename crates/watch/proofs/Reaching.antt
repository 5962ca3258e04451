-- What is marked: all that the WAITIFs read, through values; of a value alone, all that it reads.
use Rattle.machine.specs.All.{cases, ℕ, zero, suc, ◌+◌, ◌-◌, ◌*◌, ◌%◌, ◌≤◌, ◌<◌, arith, false, List, [], ◌∷◌, ◌++◌, Option, none, some, ◌≡◌, refl, sym, ap, ◌∙◌, subst, eqb-true, eqb-false, ltb-true, ltb-false, eq-eqb, ne_eqb, eqb, length, get_or, length-append, get_or-eq_default, Term, Relation, Sum, nothing, Condition, always, when_true, facility, storage, Block, terminate, wait_terms, facts, BlockModel, block_at, Each, WaitWithin, Through, Bool, true}
use Rattle.layout.specs.All.{block_forms, relation_number, term_numbers, sum_numbers, block_numbers, At, terms, signed_terms}
use Rattle.layout.specs.Layout as Layout
use Rattle.layout.proofs.BlockKinds.{Kinds, generating, taking, waiting, arriving, preempting, other, kinds, unasked}
use Rattle.evaluation.proofs.Found.{at_first}
use Rattle.watch.specs.{value_marks, marks_size, walked, Walked, reach_value, reach, wait_marks, waits_marks}
use Rattle.watch.proofs as our
use our.Walking.{mark_all, term_cells, sum_cells, sum-walked, wait-walked}
use our.Marking.{all-keeps, all-length, both-marked, sum-marked, sum-others, Marked, term-within, sum-within, each-front, each_back}

-- the program and the values of a model stand in the tables, each in its row
pub record Stored (m : BlockModel) (tables : List ℕ) : Type 0 where
  pub blocks : (b : ℕ) → b < length m.blocks → At tables (Layout.block_width * b) (block_numbers (get_or m.blocks b (terminate 0)))
  pub narrow : (b : ℕ) → b < length m.blocks → length (block_numbers (get_or m.blocks b (terminate 0))) ≤ Layout.block_width
  pub values : (k : ℕ) → k < length m.values
      → At tables (Layout.values + Layout.value_width * k) (sum_numbers (get_or m.values k nothing))
  pub short : (k : ℕ) → k < length m.values → length (sum_numbers (get_or m.values k nothing)) ≤ Layout.value_width
  pub few : length m.values ≤ 8
  pub most : length m.blocks ≤ 256

module _ {m : BlockModel} {tables : List ℕ} (stored : Stored m tables) where
  abbrev sum_of : ℕ → Sum
  sum_of k = get_or m.values k nothing

  -- ---- Through values

  value-marks : (k : ℕ) → k < length m.values → (marks : List ℕ) → (get_or marks (value_marks + k) 0 ≡ 0 → ⊥)
      → reach_value tables k marks ≡ mark_all (sum_cells k (sum_of k)) marks
  unfolding reach_value sum_numbers walked
  value-marks k lt marks named =
      let f = at_first tables (Layout.values + Layout.value_width * k) (terms (sum_of k)) (signed_terms (sum_of k)) (stored.values k lt) in
      rw (ne_eqb _ 0 named, ← f.found)
      (ap (λ (w : Walked). w.marks)
      (sum-walked tables k (sum_of k) Layout.value_width (Layout.values + Layout.value_width * k + 1) marks f.after
      (omega (arith, stored.short k lt))))

  unmarked : (k : ℕ) (marks : List ℕ) → get_or marks (value_marks + k) 0 ≡ 0 → reach_value tables k marks ≡ marks
  unfolding reach_value
  unmarked k marks e = rw (eq-eqb _ 0 e)

  -- what holds of both
  value-cases : (P : List ℕ → Type 0) (k : ℕ) → k < length m.values → (marks : List ℕ) → (get_or marks (value_marks + k) 0 ≡ 0 → P marks)
      → P (mark_all (sum_cells k (sum_of k)) marks) → P (reach_value tables k marks)
  value-cases P k lt marks without with = go (eqb (get_or marks (value_marks + k) 0) 0) refl
    where
      go : (b : Bool) → eqb (get_or marks (value_marks + k) 0) 0 ≡ b → P (reach_value tables k marks)
      go true e = let z = eqb-true _ 0 e in subst P (sym (unmarked k marks z)) (without z)
      go false e = subst P (sym (value-marks k lt marks (eqb-false _ 0 e))) with

  -- going through the values keeps what is marked
  pub reach-keeps : (n : ℕ) → n ≤ length m.values → (marks : List ℕ) (i : ℕ) → get_or marks i 0 ≡ 1 → get_or (reach tables n marks) i 0 ≡ 1
  unfolding reach
  reach-keeps zero h marks i e = e
  reach-keeps (suc n) h marks i e =
      reach-keeps n (omega arith) (reach_value tables n marks) i
      (value-cases (λ l. get_or l i 0 ≡ 1) n (omega arith) marks (λ z. e) (all-keeps (sum_cells n (sum_of n)) marks i e))

  pub reach-length : (n : ℕ) → n ≤ length m.values → (marks : List ℕ) → length (reach tables n marks) ≡ length marks
  unfolding reach
  reach-length zero h marks = refl
  reach-length (suc n) h marks =
      reach-length n (omega arith) (reach_value tables n marks)
      ∙ value-cases (λ l. length l ≡ length marks) n (omega arith) marks (λ z. refl) (all-length (sum_cells n (sum_of n)) marks)

  -- lower values name none that is not lower
  reach-others : (n k : ℕ) → n ≤ length m.values → n ≤ k → k < 8 → (marks : List ℕ)
      → get_or (reach tables n marks) (value_marks + k) 0 ≡ get_or marks (value_marks + k) 0
  unfolding reach
  reach-others zero k h above few marks = refl
  reach-others (suc n) k h above few marks =
      reach-others n k (omega arith) (omega arith) few (reach_value tables n marks)
      ∙ value-cases (λ l. get_or l (value_marks + k) 0 ≡ get_or marks (value_marks + k) 0) n (omega arith) marks (λ z. refl)
      (sum-others n k (omega arith) few (sum_of n) marks)

  -- a value that is marked in the end has all its cells marked
  reach_closed : (n : ℕ) → n ≤ length m.values → (marks : List ℕ) → length marks ≡ marks_size → (k : ℕ) → k < n
      → get_or (reach tables n marks) (value_marks + k) 0 ≡ 1 → Each (λ c. get_or (reach tables n marks) c 0 ≡ 1) (sum_cells k (sum_of k))
  unfolding reach
  reach_closed zero h marks size k lt e = absurd (omega arith)
  reach_closed (suc n) h marks size k lt e =
      cases _
      (λ q. let same = eqb-true k n q in
      rw same (here (subst (λ (i : ℕ). get_or (reach tables n (reach_value tables n marks)) (value_marks + i) 0 ≡ 1) same e)))
      (λ q. let apart = eqb-false k n q in (reach_closed n (omega arith) _ sized k) (omega arith) e)
    where
      sized : length (reach_value tables n marks) ≡ marks_size
      sized = value-cases (λ l. length l ≡ length marks) n (omega arith) marks (λ z. refl) (all-length _ marks) ∙ size

      few : length m.values ≤ 8
      few = stored.few

      here : get_or (reach tables n (reach_value tables n marks)) (value_marks + n) 0 ≡ 1
          → Each (λ c. get_or (reach tables n (reach_value tables n marks)) c 0 ≡ 1) (sum_cells n (sum_of n))
      here one =
          kept (sum_cells n _)
          (value-cases (λ l. get_or l (value_marks + n) 0 ≡ 1 → Each (λ c. get_or l c 0 ≡ 1) (sum_cells n (sum_of n))) n (omega arith) marks
          (λ z q. absurd (omega arith))
          (λ q. sum-marked n (omega arith) marks size _)
          (sym (reach-others n n (omega arith) (omega arith) (omega arith) _) ∙ one))
        where
          kept : (l : List ℕ) → Each (λ c. get_or (reach_value tables n marks) c 0 ≡ 1) l
              → Each (λ c. get_or (reach tables n (reach_value tables n marks)) c 0 ≡ 1) l
          kept [] q = tt
          kept (c ∷ l) q = (reach-keeps n (omega arith) _ c q.0, kept l q.1)

  -- afterwards what a marked value reads is marked too, through all values that it names
  pub reach-through : (marks : List ℕ) → length marks ≡ marks_size → Through (Marked (reach tables (length m.values) marks)) m.values
  reach-through marks size k lt named =
      let same : k % 8 ≡ k = omega arith in
      sum-within (reach tables _ marks) k _
      (reach_closed _ (omega arith) marks size k lt (rw (← same) (eqb-true _ 1 named)))

  -- ---- The WAITIFs

  -- the terms of what a WAITIF waits for are marked
  abbrev WaitMarked : (values : ℕ) → List ℕ → Option Condition → Type 0
  WaitMarked values marks none = Unit {0}
  WaitMarked values marks (some always) = Unit {0}
  WaitMarked values marks (some (when_true a r b)) = Each (λ c. get_or marks c 0 ≡ 1) (term_cells values a ++ term_cells values b)

  module _ (values : ℕ) (fewer : values ≤ 8) where
    module _ (P : List ℕ → Type 0) (b : ℕ) (lt : b < length m.blocks) (marks : List ℕ) where
      abbrev block : Block
      block = get_or m.blocks b (terminate 0)

      skipped : (n : ℕ) → n ≡ get_or tables (Layout.block_width * b) 0 → eqb n 9 ≡ false → wait_marks tables values b marks ≡ marks
      unfolding wait_marks
      skipped n e d = rw (← e, d)

      walks : (a : Term) (r : Relation) (c : Term) → block ≡ wait_terms a r c
          → wait_marks tables values b marks ≡ mark_all (term_cells values a ++ term_cells values c) marks
      unfolding wait_marks block_forms
      walks a r c e =
          let at = rw e at (stored.blocks b lt) in
          let f = at_first tables (Layout.block_width * b) 9 _ at in
          let wide = rw e at (stored.narrow b lt) in
          let size = length-append (term_numbers a) (relation_number r ∷ term_numbers c) in
          rw (← f.found) (wait-walked tables values 9 _ a c Layout.block_width _ marks at (omega arith) (omega arith))

      wait-cases : ((facts block).waits_while ≡ none → P marks)
          → ((a : Term) (r : Relation) (c : Term) → block ≡ wait_terms a r c → P (mark_all (term_cells values a ++ term_cells values c) marks))
          → P (wait_marks tables values b marks)
      wait-cases without with = go (kinds block)
        where
          another : (n : ℕ) (rest : List ℕ) → eqb n 9 ≡ false → (facts block).waits_while ≡ none → block_numbers block ≡ n ∷ rest
              → P (wait_marks tables values b marks)
          another n rest d none_is numbers =
              let f = at_first tables (Layout.block_width * b) n rest
              (subst (At tables (Layout.block_width * b)) numbers (stored.blocks b lt)) in
              subst P (sym (skipped n f.found d)) (without none_is)

          like : {x : Block} (n : ℕ) (rest : List ℕ) → block ≡ x → eqb n 9 ≡ false → (facts x).waits_while ≡ none → block_numbers x ≡ n ∷ rest
              → P (wait_marks tables values b marks)
          like n rest e d none_is numbers =
              another n rest d (ap (λ (y : Block). (facts y).waits_while) e ∙ none_is) (ap block_numbers e ∙ numbers)

          go : Kinds block → P (wait_marks tables values b marks)
          go (generating list p e) = unfold block_forms in like 1 _ e refl refl refl
          go (taking (facility v) e) = unfold block_forms in like 4 _ e refl refl refl
          go (taking (storage v n) e) = unfold block_forms in like 6 _ e refl refl refl
          go (waiting a r c e) = subst P (sym (walks a r c e)) (with a r c e)
          go (arriving q e) = unfold block_forms in like 15 _ e refl refl refl
          go (preempting v e) = unfold block_forms in like 19 _ e refl refl refl
          go (other n rest e d g) = another n rest (unasked n d).no_wait (ap (λ x. x.waits_while) g) e

    waits-keeps : (n : ℕ) → n ≤ length m.blocks → (marks : List ℕ) (i : ℕ) → get_or marks i 0 ≡ 1
        → get_or (waits_marks tables values n marks) i 0 ≡ 1
    unfolding waits_marks
    waits-keeps zero h marks i e = e
    waits-keeps (suc n) h marks i e =
        wait-cases (λ l. get_or l i 0 ≡ 1) n (omega arith) (waits_marks tables values n marks) (λ z. waits-keeps n (omega arith) marks i e)
        (λ a r c z. all-keeps (term_cells values a ++ term_cells values c) (waits_marks tables values n marks) i
        (waits-keeps n (omega arith) marks i e))

    pub waits-length : (n : ℕ) → n ≤ length m.blocks → (marks : List ℕ) → length (waits_marks tables values n marks) ≡ length marks
    unfolding waits_marks
    waits-length zero h marks = refl
    waits-length (suc n) h marks =
        wait-cases (λ l. length l ≡ length marks) n (omega arith) (waits_marks tables values n marks)
        (λ z. waits-length n (omega arith) marks)
        (λ a r c z. all-length (term_cells values a ++ term_cells values c) (waits_marks tables values n marks)
        ∙ waits-length n (omega arith) marks)

    -- of the first n blocks
    waits-marked : (n : ℕ) → n ≤ length m.blocks → (marks : List ℕ) → length marks ≡ marks_size → (b : ℕ) → b < n
        → WaitMarked values (waits_marks tables values n marks) (facts (get_or m.blocks b (terminate 0))).waits_while
    unfolding waits_marks
    waits-marked zero h marks size b lt = absurd (omega arith)
    waits-marked (suc n) h marks size b lt =
        cases _
        (λ q. rw (eqb-true b n q) here)
        (λ q. let apart = eqb-false b n q in more (facts _).waits_while ((waits-marked n (omega arith) marks size b) (omega arith)))
      where
        before : List ℕ
        before = waits_marks tables values n marks

        kept : (l : List ℕ) → Each (λ c. get_or before c 0 ≡ 1) l → Each (λ c. get_or (wait_marks tables values n before) c 0 ≡ 1) l
        kept [] q = tt
        kept (i ∷ l) q =
            (wait-cases (λ x. get_or x i 0 ≡ 1) n (omega arith) before (λ z. q.0) (λ a r c z. all-keeps _ before i q.0), kept l q.1)

        more : (o : Option Condition) → WaitMarked values before o → WaitMarked values (wait_marks tables values n before) o
        more none q = tt
        more (some always) q = tt
        more (some (when_true a r c)) q = kept (term_cells values a ++ term_cells values c) q

        here : WaitMarked values (wait_marks tables values n before) (facts (get_or m.blocks n (terminate 0))).waits_while
        here =
            wait-cases (λ x. WaitMarked values x (facts (get_or m.blocks n (terminate 0))).waits_while) n (omega arith) before
            (λ z. rw z tt)
            (λ a r c e.
            rw (waits-for a r c e) (both-marked values fewer before (waits-length n (omega arith) marks ∙ size) a c))
          where
            waits-for : (a : Term) (r : Relation) (c : Term) → get_or m.blocks n (terminate 0) ≡ wait_terms a r c
                → (facts (get_or m.blocks n (terminate 0))).waits_while ≡ some (when_true a r c)
            waits-for a r c e = ap (λ (x : Block). (facts x).waits_while) e ∙ unfold facts in refl

    -- what every block waits for is in the set, in any marks that keep these
    pub waits-within : (marks after : List ℕ) → length marks ≡ marks_size
        → ((i : ℕ) → get_or (waits_marks tables values (length m.blocks) marks) i 0 ≡ 1 → get_or after i 0 ≡ 1)
        → (n : ℕ) → WaitWithin (Marked after) values (facts (block_at m n)).waits_while
    waits-within marks after size keeps n =
        cases _
        (λ e. within (facts _).waits_while (waits-marked _ (omega arith) marks size _ (ltb-true _ _ e)))
        (λ e. rw (get_or-eq_default m.blocks (terminate 0) (ltb-false (n - 1) (length m.blocks) e)) (unfold facts in tt))
      where
        all : (l : List ℕ) → Each (λ c. get_or (waits_marks tables values (length m.blocks) marks) c 0 ≡ 1) l
            → Each (λ c. get_or after c 0 ≡ 1) l
        all [] q = tt
        all (c ∷ l) q = (keeps c q.0, all l q.1)

        within : (o : Option Condition) → WaitMarked values (waits_marks tables values (length m.blocks) marks) o
            → WaitWithin (Marked after) values o
        within none q = tt
        within (some always) q = tt
        within (some (when_true a r c)) q =
            let both = all (term_cells values a ++ term_cells values c) q in (
              term-within after values a (each-front (λ i. get_or after i 0 ≡ 1) (term_cells values a) _ both),
              term-within after values c (each_back (λ i. get_or after i 0 ≡ 1) (term_cells values a) _ both),
            )
