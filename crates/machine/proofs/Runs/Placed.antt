-- Every transaction of a run stands before a block of the model, with a priority in its range.
use Rattle.machine.specs.All.{ℕ, zero, suc, ◌+◌, ◌-◌, ◌≤◌, ◌<◌, ◌≡◌, refl, Bool, true, false, not, ◌||◌, cond, List, [], ◌∷◌, Option, none, some, arith, T, leb, length, get_or, max_priority, Transaction, newborn, compare, truth, Condition, always, when_true, Share, share_server, share_units, Block, generate, advance, terminate, takes, frees, wait_server, wait_terms, moves, assign, priority, split, counts, assemble, preempt, give_back, facts, BlockModel, block_at, unconditional, State, with_next, effect, take_units, answer, execute, turn, start_at, start, states, Each, is_generate, well_placed, server_at, free, facility, set_moving, set_turns, taking}
use Rattle.machine.proofs as our
use our.Decoding.Proper.{Names, ProperBlock, Proper, generates-list}
use our.Decoding.Groups.{and_right, blocks-placed, back-within}
use our.{Runs.RunLaws.each-state, Basic.Bools.cond_cases}
use our.Lists.Cases.{wait_server-cases, wait_terms-cases, assemble-cases, start_of-cases, preempt-cases, give_back-cases}
use our.Runs.Everybody.{Maybe, Everybody, Unmoved, to_rel-everybody, wait_ql-everybody, wait_wel-everybody, wait_wsl-everybody, move_to-everybody, wake_for-everybody, wake_first_wel-everybody, check_wels-everybody, ws_scheme-everybody, arrival-everybody, copies-everybody, delay-everybody, enters-everybody, in_use-everybody, content-everybody, ends_one-everybody, ended-everybody, begins-everybody, waiter-everybody, comes-everybody, released-everybody, taking-everybody, idle-everybody, loser-everybody, interrupted-everybody, interrupt-everybody, resume-everybody}

-- ---- Question 7: behind a block that lets its transaction go on stands another

-- behind a block that does not leave the line stands another block
pub goes_on : (left : Bool) (l : List Block) (i : ℕ) → T (well_placed left l) → i < length l
    → (facts (get_or l i (terminate 0))).leaves ≡ false → suc i < length l
unfolding well_placed
goes_on left [] i h lt e = absurd (omega arith)
goes_on left (b ∷ []) zero h lt e = absurd (rw e at (and_right (not (is_generate (facts b)) || left) (facts b).leaves h))
goes_on left (b ∷ c ∷ l) zero h lt e = omega arith
goes_on left (b ∷ l) (suc i) h lt e =
    let next : suc i < length l = goes_on (facts b).leaves l i (and_right (not (is_generate (facts b)) || left) _ h) (omega arith) e in
    omega arith

-- ---- Definition

abbrev pub Placed : BlockModel → Transaction → Type 0
Placed m t = Names (length m.blocks) t.next × (t.priority ≤ max_priority)

unmoved : (m : BlockModel) → Unmoved (Placed m)
unmoved m = record { mark = λ b t h. h; serial = λ n t h. h }

module _ (m : BlockModel) (tape : List (List ℕ)) (proper : Proper m tape) where
  abbrev P : Transaction → Type 0
  P = Placed m

  abbrev U : Unmoved P
  U = unmoved m

  -- one past a block that does not leave
  after : (t : Transaction) → P t → (facts (block_at m t.next)).leaves ≡ false → P (with_next (suc t.next) t)
  after t h e =
      let lt : suc (t.next - 1) < length m.blocks = goes_on true m.blocks (t.next - 1) (blocks-placed proper) (omega arith) e in
      ((omega arith, omega arith), h.1)

  -- ---- Each kind, for a block at which a placed transaction stands

  module _ (t : Transaction) (p : P t) (s : State) (h : Everybody P s) where
    h' : Everybody P (Rattle.machine.specs.Moves.enters t s)
    h' = enters-everybody P U t s h

    units-placed : (x : Share) (preempts : Bool) → P (with_next (suc t.next) t) → Everybody P (take_units m x preempts t s)
    unfolding take_units
    units-placed x preempts next =
        let v : ℕ = share_server x in
        cond_cases (Everybody P) (leb (share_units x) (free (server_at s.view v))) _ _
        (λ e. move_to-everybody P U _ t _ next (check_wels-everybody P U v _ (in_use-everybody P U v _ _ _ _ h')))
        (λ e. wait_ql-everybody P U m.edition v t s p h)

    moves-placed : (c : Condition) (target : ℕ) → Names (length m.blocks) target
        → (unconditional c ≡ false → P (with_next (suc t.next) t))
        → P (with_next (cond (truth m.values s.view t.parameters c) target (suc t.next)) t)
    unfolding truth unconditional
    moves-placed always target ok on = (ok, p.1)
    moves-placed (when_true a r b) target ok on =
        cond_cases (λ (n : ℕ). P (with_next n t)) (compare m.values s.view t.parameters a r b) _ _ (λ e. (ok, p.1)) (λ e. on refl)

    effect-placed : (b : Block) → ProperBlock m b → ((facts b).leaves ≡ false → P (with_next (suc t.next) t)) → (facts b).back < t.next
        → Everybody P (effect m b t s)
    unfolding effect facts newborn take_units
    effect-placed (generate list k) ok on behind =
        move_to-everybody P U _ t _ (on refl) (arrival-everybody P U _ list k _ _ (λ time. (p.0, ok.1)) h')
    effect-placed (advance list) ok on behind = delay-everybody P U _ list t _ (λ time. on refl) h'
    effect-placed (terminate a) ok on behind = ends_one-everybody P U a _ h'
    effect-placed (takes x) ok on behind = units-placed x false (on refl)
    effect-placed (frees x) ok on behind =
        move_to-everybody P U _ t _ (on refl)
        (check_wels-everybody P U (share_server x) _ (wake_for-everybody P U m x _ (in_use-everybody P U (share_server x) _ _ _ _ h')))
    effect-placed (wait_server code v c) ok on behind =
        wait_server-cases (Everybody P) m code v c t s (λ e. wait_wel-everybody P U m.edition v code t s p h)
        (λ e. move_to-everybody P U _ t _ ((omega arith, omega arith), p.1) (wake_first_wel-everybody P U v code s h))
        (λ e. move_to-everybody P U _ _ _ (on refl) (wake_first_wel-everybody P U v code _ h'))
    effect-placed (wait_terms a r b) ok on behind =
        wait_terms-cases (Everybody P) m a r b t s (λ e. wait_wsl-everybody P U t s p h) (λ e. move_to-everybody P U _ t _ (on refl) h')
    effect-placed (moves c target) ok on behind = move_to-everybody P U _ t _ (moves-placed c target ok on) h'
    effect-placed (assign k a) ok on behind = move_to-everybody P U _ _ _ (on refl) h'
    effect-placed (priority k) ok on behind = to_rel-everybody P U _ _ ((on refl).0, ok) h'
    effect-placed (split n target) ok on behind =
        move_to-everybody P U _ t _ (on refl) (copies-everybody P U n target t _ (λ k. (ok.1, p.1)) h')
    effect-placed (counts c q) ok on behind = move_to-everybody P U _ t _ (on refl) (content-everybody P U q _ _ h')
    effect-placed (assemble n) ok on behind =
        assemble-cases (Everybody P) m n t s (λ e. begins-everybody P U t s p h)
        (λ g l e z. released-everybody P U g t _ ((on refl).0, (waiter-everybody P U t s g l e h).1) (ended-everybody P U _ _ h'))
        (λ g l e z. comes-everybody P U g t _ (waiter-everybody P U t s g l e h) (ended-everybody P U _ _ h'))
    effect-placed (preempt f) ok on behind =
        preempt-cases (Everybody P) m f t s (λ e. units-placed (facility f) true (on refl))
        (λ x l e.
        move_to-everybody P U _ t _ (on refl)
        (check_wels-everybody P U f _
        (in_use-everybody P U f _ _ _ _ (interrupt-everybody P U x t f _ (loser-everybody P U t f s x l e h) h'))))
    effect-placed (give_back f) ok on behind =
        give_back-cases (Everybody P) m f t s
        (λ e. move_to-everybody P U _ t _ (on refl)
        (check_wels-everybody P U f _ (wake_for-everybody P U m (facility f) _ (in_use-everybody P U f _ _ _ _ h'))))
        (λ i l e.
        move_to-everybody P U _ t _ (on refl)
        (check_wels-everybody P U f _
        (resume-everybody P U i f _ (interrupted-everybody P U f s i l e h) (in_use-everybody P U f _ _ _ _ h'))))

  -- ---- The turn

  answer-placed : (n : ℕ) (t : Transaction) (s : State) → P t → Everybody P s → Everybody P (answer n m (block_at m t.next) t s)
  unfolding answer
  answer-placed zero t s p h =
      effect-placed t p (set_moving none s)
      (record {
        ql = h.ql;
        wel = h.wel;
        wsl = h.wsl;
        rel = h.rel;
        fel = h.fel;
        gatherers = h.gatherers;
        interrupted = h.interrupted;
        moving = tt;
      })
      (block_at m t.next) (proper.block t.next) (after t p) (omega (arith, p.0.0, back-within proper t.next))
  answer-placed (suc n) t s p h =
      record {
        ql = h.ql;
        wel = h.wel;
        wsl = h.wsl;
        rel = h.rel;
        fel = h.fel;
        gatherers = h.gatherers;
        interrupted = h.interrupted;
        moving = h.moving;
      }

  execute-placed : (o : Option Transaction) (s : State) → Maybe P o → Everybody P s → Everybody P (execute o m s)
  unfolding execute
  execute-placed none s p h = h
  execute-placed (some t) s p h = answer-placed _ t s p h

  pub placed-turn : (s : State) → Everybody P s → Everybody P (turn m s)
  unfolding turn
  placed-turn s h =
      let k : Everybody P (taking s.moving s) = taking-everybody P U s.moving s h in
      ws_scheme-everybody P U m _
      (execute-placed _ (set_turns (suc s.turns) (taking s.moving s)) k.moving
      (record {
        ql = k.ql;
        wel = k.wel;
        wsl = k.wsl;
        rel = k.rel;
        fel = k.fel;
        gatherers = k.gatherers;
        interrupted = k.interrupted;
        moving = k.moving;
      }))

  -- ---- The start

  start_at-placed : (n : ℕ) (l : List Block) (s : State) → 1 ≤ n → n + length l ≤ suc (length m.blocks)
      → ((i : ℕ) → i < length l → ProperBlock m (get_or l i (terminate 0))) → Everybody P s → Everybody P (start_at n l s)
  unfolding start_at newborn
  start_at-placed n [] s one le ok h = h
  start_at-placed n (b ∷ l) s one le ok h =
      start_at-placed (suc n) l _ (omega arith) (omega arith) (λ i lt. ok (suc i) (omega arith))
      (start_of-cases (Everybody P) b n s (λ e. h)
      (λ e. arrival-everybody P U _ _ _ n s (λ time. ((one, omega arith), (generates-list m b (ok 0 (omega arith)) e).1)) h))

  block-at : (i : ℕ) → i < length m.blocks → ProperBlock m (get_or m.blocks i (terminate 0))
  block-at i lt =
      let e : suc i - 1 ≡ i = omega arith in
      rw e at (proper.block (suc i))

  pub placed-start : Everybody P (start m tape)
  unfolding start
  placed-start = start_at-placed 1 m.blocks _ (omega arith) (omega arith) block-at (idle-everybody P U m tape)

  pub placed : (budget room : ℕ) → Each (Everybody P) (states m tape budget room)
  placed budget room =
      each-state m budget room (Everybody P) (λ s t h. placed-turn s h)
      (λ s e c h.
      record {
        ql = h.ql;
        wel = h.wel;
        wsl = h.wsl;
        rel = h.rel;
        fel = h.fel;
        gatherers = h.gatherers;
        interrupted = h.interrupted;
        moving = h.moving;
      }) tape placed-start
