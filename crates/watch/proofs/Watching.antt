-- The last cells of the tables say what the WAITIFs read and which values name a parameter; the others stay.
use Rattle.machine.specs.All.{ℕ, zero, suc, ◌+◌, ◌*◌, ◌%◌, ◌≤◌, ◌<◌, arith, Bool, true, false, cond, true≢false, List, [], ◌∷◌, ◌≡◌, refl, sym, ◌∙◌, subst, eqb-true, eqb-false, eq-eqb, ne_eqb, eqb, length, get_or, set, replicate, length-set, length-replicate, get_or-set_same, get_or-set_other, View, evaluate, value, facility, storage, up, down, Block, generate, advance, terminate, takes, frees, wait_server, wait_terms, moves, assign, priority, split, counts, assemble, preempt, give_back, BlockModel, Watches, Spares, ◌-◌, ap}
use lib.IntN.{ℤ}
use Rattle.machine.proofs.NobodyAble.Named.{agrees-same, evaluate-same}
use Rattle.layout.specs.All.{block_forms, block_numbers, At, Watching, Sharing}
use Rattle.layout.specs.Layout as Layout
use Rattle.evaluation.proofs.Found.{at_first, at-cons}
use Rattle.watch.specs.{value_marks, clock_mark, own_mark, marks_size, reach, waits_marks, marks_of, own_of, changed_cell, asked_of, own_stored, asked_stored, with_marks, watched, queue_marks, server_marks}
use Rattle.watch.proofs as our
use our.Marking.{in_marks, Marked}
use our.Reaching.{Stored, reach-keeps, reach-through, waits-length, waits-within}

-- ---- What stays

own_frame : (values n : ℕ) (tables : List ℕ) (i : ℕ) → i < Layout.names_own → get_or (own_stored values n tables) i 0 ≡ get_or tables i 0
unfolding own_stored
own_frame values zero tables i h = refl
own_frame values (suc n) tables i h =
    get_or-set_other (own_stored values n tables) (Layout.names_own + n) i _ 0 (λ e. omega arith) ∙ own_frame values n tables i h

own-length : (values n : ℕ) (tables : List ℕ) → length (own_stored values n tables) ≡ length tables
unfolding own_stored
own-length values zero tables = refl
own-length values (suc n) tables = length-set (own_stored values n tables) (Layout.names_own + n) _ ∙ own-length values n tables

asked_frame : (marks : List ℕ) (n : ℕ) (tables : List ℕ) (i : ℕ) → ((b : ℕ) → b < n → i ≡ Layout.asked + b → ⊥)
    → get_or (asked_stored marks n tables) i 0 ≡ get_or tables i 0
unfolding asked_stored
asked_frame marks zero tables i h = refl
asked_frame marks (suc n) tables i h =
    get_or-set_other (asked_stored marks n tables) (Layout.asked + n) i _ 0 (λ e. h n (omega arith) e)
    ∙ asked_frame marks n tables i (λ b lt e. h b (omega arith) e)

asked-length : (marks : List ℕ) (n : ℕ) (tables : List ℕ) → length (asked_stored marks n tables) ≡ length tables
unfolding asked_stored
asked-length marks zero tables = refl
asked-length marks (suc n) tables = length-set (asked_stored marks n tables) (Layout.asked + n) _ ∙ asked-length marks n tables

-- all that stands in front of the last cells
pub watched_frame : (blocks values : ℕ) (tables : List ℕ) (i : ℕ) → i < Layout.asked
    → get_or (watched blocks values tables) i 0 ≡ get_or tables i 0
unfolding watched with_marks
watched_frame blocks values tables i h =
    get_or-set_other (asked_stored _ blocks _) Layout.clock_asked i _ 0 (λ e. omega arith)
    ∙ asked_frame _ blocks _ i (λ b lt e. omega arith) ∙ own_frame values values tables i (omega arith)

pub watched-length : (blocks values : ℕ) (tables : List ℕ) → length (watched blocks values tables) ≡ length tables
unfolding watched with_marks
watched-length blocks values tables =
    length-set (asked_stored _ blocks _) Layout.clock_asked _ ∙ asked-length _ blocks _ ∙ own-length values values tables

-- ---- Rows that stay

module _ (l l' : List ℕ) (size : length l' ≡ length l) (same : (i : ℕ) → i < Layout.asked → get_or l' i 0 ≡ get_or l i 0) where
  -- what stands before the cells that are added stays
  pub at_same : (xs : List ℕ) (at : ℕ) → at + length xs ≤ Layout.asked → At l at xs → At l' at xs
  at_same [] at room h = refl
  at_same (x ∷ xs) at room h =
      let f = at_first l at x xs h in
      at-cons l' at x xs
      (record {
        inside = omega (arith, size, f.inside);
        found = f.found
            ∙ sym (same at (omega arith));
        after = at_same xs (at + 1) (omega arith) f.after;
      })

  pub stored_same : {m : BlockModel} → Stored m l → Stored m l'
  stored_same {m} s =
      let most = s.most in
      let few = s.few in
      record {
        blocks = λ b lt. at_same _ (Layout.block_width * b) (omega (arith, s.narrow b lt)) (s.blocks b lt);
        narrow = s.narrow;
        values = λ k lt. at_same _ (Layout.values + Layout.value_width * k) (omega (arith, s.short k lt)) (s.values k lt);
        short = s.short;
        few = s.few;
        most = s.most;
      }

-- ---- The cells

own-cell : (values n : ℕ) (tables : List ℕ) → Layout.tables_size ≤ length tables → n ≤ 8 → (k : ℕ) → k < n
    → get_or (own_stored values n tables) (Layout.names_own + k) 0 ≡ own_of (own_stored values k tables) values k
unfolding own_stored
own-cell values zero tables size few k lt = absurd (omega arith)
own-cell values (suc n) tables size few k lt = go (eqb k n) refl (own-cell values n tables size (omega arith) k)
  where
    go : (x : Bool) → eqb k n ≡ x
        → (k < n → get_or (own_stored values n tables) (Layout.names_own + k) 0 ≡ own_of (own_stored values k tables) values k)
        → get_or (set (own_stored values n tables) (Layout.names_own + n) (own_of (own_stored values n tables) values n)) (Layout.names_own + k) 0
        ≡ own_of (own_stored values k tables) values k
    go true e lower =
        let same : k ≡ n = eqb-true k n e in
        rw same (get_or-set_same (own_stored values n tables) (Layout.names_own + n) _ 0 (omega (arith, own-length values n tables)))
    go false e lower =
        let apart = eqb-false k n e in
        get_or-set_other (own_stored values n tables) (Layout.names_own + n) (Layout.names_own + k) _ 0 (λ z. omega arith) ∙ lower (omega arith)

asked-cell : (marks : List ℕ) (n : ℕ) (tables : List ℕ) → Layout.tables_size ≤ length tables → n ≤ 256 → (b : ℕ) → b < n
    → get_or (asked_stored marks n tables) (Layout.asked + b) 0 ≡ asked_of (asked_stored marks b tables) marks b
unfolding asked_stored
asked-cell marks zero tables size few b lt = absurd (omega arith)
asked-cell marks (suc n) tables size few b lt = go (eqb b n) refl (asked-cell marks n tables size (omega arith) b)
  where
    go : (x : Bool) → eqb b n ≡ x
        → (b < n → get_or (asked_stored marks n tables) (Layout.asked + b) 0 ≡ asked_of (asked_stored marks b tables) marks b)
        → get_or (set (asked_stored marks n tables) (Layout.asked + n) (asked_of (asked_stored marks n tables) marks n)) (Layout.asked + b) 0
        ≡ asked_of (asked_stored marks b tables) marks b
    go true e lower =
        let same : b ≡ n = eqb-true b n e in
        rw same (get_or-set_same (asked_stored marks n tables) (Layout.asked + n) _ 0 (omega (arith, asked-length marks n tables)))
    go false e lower =
        let apart = eqb-false b n e in
        get_or-set_other (asked_stored marks n tables) (Layout.asked + n) (Layout.asked + b) _ 0 (λ z. omega arith) ∙ lower (omega arith)

-- ---- What they say

asked-zero : (tables marks : List ℕ) (b : ℕ) → asked_of tables marks b ≡ 0 → (get_or marks b 0 ≡ 0) × (get_or marks (changed_cell tables b) 0 ≡ 0)
unfolding asked_of
asked-zero tables marks b e = go (eqb (get_or marks b 0) 0) refl e
  where
    go : (x : Bool) → eqb (get_or marks b 0) 0 ≡ x → cond x (get_or marks (changed_cell tables b) 0) 1 ≡ 0
        → (get_or marks b 0 ≡ 0) × (get_or marks (changed_cell tables b) 0 ≡ 0)
    go true q z = (eqb-true _ 0 q, z)
    go false q z = absurd (omega arith)

-- a cell that is not marked
unmarked : (marks : List ℕ) (i : ℕ) → get_or marks i 0 ≡ 0 → eqb (get_or marks i 0) 1 ≡ false
unmarked marks i e = ne_eqb (get_or marks i 0) 1 (λ z. omega arith)

module _ (tables marks : List ℕ) (b : ℕ) (zero_is : get_or marks (changed_cell tables b) 0 ≡ 0) where
  spared : (i : ℕ) → changed_cell tables b ≡ i → eqb (get_or marks i 0) 1 ≡ true → ⊥
  spared i e named = true≢false (sym named ∙ unmarked marks i (ap (λ (j : ℕ). get_or marks j 0) (sym e) ∙ zero_is))

  module _ (kind n : ℕ) (rest : List ℕ) (h : At tables (Layout.block_width * b) (kind ∷ n ∷ rest)) where
    is_kind : kind ≡ get_or tables (Layout.block_width * b) 0
    is_kind = (at_first tables (Layout.block_width * b) kind (n ∷ rest) h).found

    is_number : n ≡ get_or tables (Layout.block_width * b + 1) 0
    is_number = (at_first tables (Layout.block_width * b + 1) n rest (at_first tables (Layout.block_width * b) kind (n ∷ rest) h).after).found

  spares : (x : Block) → At tables (Layout.block_width * b) (block_numbers x) → Spares (Marked marks) x
  unfolding block_forms changed_cell
  spares (generate list p) h = tt
  spares (advance list) h = tt
  spares (terminate a) h = tt
  spares (takes (facility v)) h = spared (server_marks + (v - 1) % 64) (rw (← is_kind 4 (v - 1) [] h, ← is_number 4 (v - 1) [] h))
  spares (takes (storage v n)) h =
      spared (server_marks + (v - 1) % 64) (rw (← is_kind 6 (v - 1) (n ∷ []) h, ← is_number 6 (v - 1) (n ∷ []) h))
  spares (frees (facility v)) h = spared (server_marks + (v - 1) % 64) (rw (← is_kind 5 (v - 1) [] h, ← is_number 5 (v - 1) [] h))
  spares (frees (storage v n)) h =
      spared (server_marks + (v - 1) % 64) (rw (← is_kind 7 (v - 1) (n ∷ []) h, ← is_number 7 (v - 1) (n ∷ []) h))
  spares (wait_server code v c) h = tt
  spares (wait_terms a r c) h = tt
  spares (moves c target) h = tt
  spares (assign k a) h = tt
  spares (priority p) h = tt
  spares (split n target) h = tt
  spares (counts up q) h = spared (queue_marks + (q - 1) % 32) (rw (← is_kind 15 (q - 1) [] h, ← is_number 15 (q - 1) [] h))
  spares (counts down q) h = spared (queue_marks + (q - 1) % 32) (rw (← is_kind 16 (q - 1) [] h, ← is_number 16 (q - 1) [] h))
  spares (assemble n) h = tt
  spares (preempt f) h = spared (server_marks + (f - 1) % 64) (rw (← is_kind 19 (f - 1) [] h, ← is_number 19 (f - 1) [] h))
  spares (give_back f) h = spared (server_marks + (f - 1) % 64) (rw (← is_kind 20 (f - 1) [] h, ← is_number 20 (f - 1) [] h))

-- ---- All of it

no-marks : length (replicate {A = ℕ} marks_size 0) ≡ marks_size
no-marks = length-replicate {A = ℕ} marks_size 0

module _ {m : BlockModel} {tables : List ℕ} (stored : Stored m tables) (size : Layout.tables_size ≤ length tables) where
  abbrev n : ℕ
  n = length m.values

  -- a value whose cell is 0 names no parameter
  own-free : (t : List ℕ) → Stored m t → (k : ℕ) → k < n → own_of t n k ≡ 0 → (w : View) (p p' : List ℤ)
      → evaluate m.values w p (value (suc k)) ≡ evaluate m.values w p' (value (suc k))
  unfolding own_of
  own-free t s k lt none w p p' =
      let few = s.few in
      let first : List ℕ = set (replicate marks_size 0) (value_marks + k) 1 in
      let sized : length first ≡ marks_size = length-set (replicate marks_size 0) (value_marks + k) 1 ∙ no-marks in
      let marked : get_or first (value_marks + k) 0 ≡ 1 =
      get_or-set_same (replicate marks_size 0) (value_marks + k) 1 0 (omega (arith, no-marks)) in
      let same : value_marks + k ≡ value_marks + (suc k - 1) % 8 = omega arith in
      evaluate-same (Marked (reach t n first)) w w (agrees-same (Marked (reach t n first)) w) p p'
      (λ named. absurd (true≢false (sym named ∙ unmarked (reach t n first) own_mark none)))
      m.values (reach-through s first sized) (value (suc k))
      (λ below. eq-eqb _ 1
      (subst (λ (i : ℕ). get_or (reach t n first) i 0 ≡ 1) same (reach-keeps s n (omega arith) first (value_marks + k) marked)))

  abbrev t₁ : List ℕ
  t₁ = own_stored n n tables

  stored₁ : (k : ℕ) → Stored m (own_stored n k tables)
  stored₁ k = stored_same tables (own_stored n k tables) (own-length n k tables) (λ i h. own_frame n k tables i (omega arith)) stored

  abbrev marks : List ℕ
  marks = marks_of t₁ (length m.blocks) n

  pub sharing : Sharing m (watched (length m.blocks) n tables)
  sharing k lt none =
      let few = stored.few in
      let most = stored.most in
      own-free (own_stored n k tables) (stored₁ k) k lt (sym (cell-is few most) ∙ none)
    where
      cell-is : n ≤ 8 → length m.blocks ≤ 256 → get_or (watched (length m.blocks) n tables) (Layout.names_own + k) 0
          ≡ own_of (own_stored n k tables) n k
      cell-is few most =
          unfold watched with_marks in
          get_or-set_other (asked_stored marks (length m.blocks) t₁) Layout.clock_asked (Layout.names_own + k) _ 0 (λ e. omega arith)
          ∙ asked_frame marks (length m.blocks) t₁ (Layout.names_own + k) (λ b low e. omega arith) ∙ own-cell n n tables size few k lt

  watches : Watches (Marked marks) m
  unfolding marks_of
  watches =
      let few = stored.few in
      let sized : length (waits_marks t₁ n (length m.blocks) (replicate marks_size 0)) ≡ marks_size
      = waits-length (stored₁ n) n few (length m.blocks) (omega arith) (replicate marks_size 0) ∙ no-marks in
      record {
        waits =
            waits-within (stored₁ n) n few (replicate marks_size 0) marks no-marks
            (λ i e. reach-keeps (stored₁ n) n (omega arith) (waits_marks t₁ n (length m.blocks) (replicate marks_size 0)) i e);
        through = reach-through (stored₁ n) (waits_marks t₁ n (length m.blocks) (replicate marks_size 0)) sized;
      }

  pub watching : Watching m (watched (length m.blocks) n tables)
  watching =
      record {
        watched = in_marks marks;
        watches = watches;
        clock = λ e. unmarked marks clock_mark (cc (clock-is, e));
        entries =
            λ b lt e.
            let same : b ≡ b % 256 = omega arith in
            rw same at (unmarked marks b (zeros b lt e).0);
        changes = λ b lt e. spares _ marks b (zeros b lt e).1 _ ((stored₂ b).blocks b lt);
      }
    where
      clock-is : get_or (watched (length m.blocks) n tables) Layout.clock_asked 0 ≡ get_or marks clock_mark 0
      clock-is =
          unfold watched with_marks in
          get_or-set_same (asked_stored marks _ t₁) Layout.clock_asked _ 0
          (omega (arith, asked-length marks (length m.blocks) t₁, own-length n n tables))

      asked_is : (b : ℕ) → b < length m.blocks → length m.blocks ≤ 256
          → get_or (watched (length m.blocks) n tables) (Layout.asked + b) 0 ≡ asked_of (asked_stored marks b t₁) marks b
      asked_is b lt most =
          unfold watched with_marks in
          get_or-set_other (asked_stored marks _ t₁) Layout.clock_asked _ _ 0 (λ e. omega arith)
          ∙ asked-cell marks _ t₁ (omega (arith, own-length n n tables)) most b lt

      zeros : (b : ℕ) → b < length m.blocks → get_or (watched (length m.blocks) n tables) (Layout.asked + b) 0 ≡ 0
          → (get_or marks b 0 ≡ 0) × (get_or marks (changed_cell (asked_stored marks b t₁) b) 0 ≡ 0)
      zeros b lt e = asked-zero _ marks b (cc (asked_is b lt stored.most, e))

      stored₂ : (b : ℕ) → Stored m (asked_stored marks b t₁)
      stored₂ b =
          stored_same t₁ _ (asked-length marks b t₁) (λ i h. asked_frame marks b t₁ i (λ c lt e. omega arith)) (stored₁ n)
