-- The books of the run: the counts of made and ended transactions and the times left of each sample list are those that the
-- records tell, at the start and after every turn.
use Rattle.machine.specs.All.{ℕ, zero, suc, ◌+◌, ◌-◌, ◌≤◌, ◌<◌, ◌≡◌, refl, ap, ◌∙◌, Bool, true, false, cond, not, ◌&&◌, List, [], ◌∷◌, Option, none, some, arith, eqb-true, eqb-false, ne_eqb, lt-ltb, le-ltb, eqb, ltb, leb, length, drop, length-drop, get_or-set_same, get_or-set_other, Transaction, Event, Interrupted, nth, set_nth, Facts, Share, share_units, Block, generate, advance, terminate, takes, frees, wait_server, wait_terms, moves, assign, priority, split, counts, assemble, preempt, give_back, facts, BlockModel, block_at, State, Logged, set_moving, set_ended, record_of, log, enters, move_to, to_rel, to_fel, to_ql, to_wel, to_wsl, must_wait, wake_ql, wake_first_wel, wake_wsl, set_use, set_content, times_left, arrival, copies, to_gatherers, comes, released, interrupt, resume, ask_advance, question, take_units, wake_for, check_wels, ends_one, delay, effect, arrive_all, move_clock, next_events, take_first, take_ready, taking, answer, execute, turn, bit, times_of, facts_at, entered, gets_time, used_by, made_by, ended_by_lem, terminates, server_at, free, facility, share_server, ws_scheme}
use Rattle.machine.proofs as our
use our.Decoding.Proper.{Proper, ProperBlock, Names}
use our.{Basic.Bools.cond_cases, Runs.Kept.taking-kept, Lists.Sums.count-cons}
use our.Lists.Cases.{wait_server-cases, check_wels-kept, wait_terms-cases, assemble-cases, ws_scheme-cases, preempt-cases, give_back-cases}
use our.Runs.Shape.{Shape, shape_closed, samples-at}

-- ---- Sample lists

-- the lengths after a time of a list was used
pub used-length : (samples : List (List ℕ)) (list other : ℕ) → 1 ≤ list → 1 ≤ other → list - 1 < length samples
    → length (nth (set_nth samples list (drop 1 (nth samples list []))) other []) ≡ length (nth samples other []) - bit (eqb list other)
used-length samples list other low low' at = go (eqb list other) refl
  where
    go : (b : Bool) → eqb list other ≡ b
        → length (nth (set_nth samples list (drop 1 (nth samples list []))) other []) ≡ length (nth samples other []) - bit b
    go true e =
        let same : list ≡ other = eqb-true _ _ e in
        rw (← same)
        (ap length (get_or-set_same samples (list - 1) (drop 1 (nth samples list [])) [] at) ∙ length-drop 1 (nth samples list []))
    go false e =
        omega (arith, ap length (get_or-set_other samples (list - 1) (other - 1) (drop 1 (nth samples list [])) [] (apart (eqb-false _ _ e))))
      where
        apart : (list ≡ other → ⊥) → other - 1 ≡ list - 1 → ⊥
        apart ne e = omega arith

-- a block that ends nobody
pub ends-nobody : (b : Bool) (n : ℕ) → n ≡ 0 → bit (b && eqb n 1) ≡ 0
ends-nobody true n e = ap (λ n. bit (eqb n 1)) e
ends-nobody false n e = refl

module _ (m : BlockModel) (tape : List (List ℕ)) where
  -- ---- Definition

  pub record Booked (samples : List (List ℕ)) (made ended : ℕ) (records : List Logged) : Type 0 where
    pub makes : made ≡ made_by m tape records
    pub ends : ended ≡ ended_by_lem m tape records
    -- what is left of a sample list: its times less those that the records have drawn
    pub times : (list : ℕ) → Names m.lists list → length (nth samples list []) ≡ times_of m tape list - used_by m tape records list

  abbrev pub Books : State → Type 0
  Books s = Booked s.samples s.made s.ended s.records

  -- ---- One more record

  module _ (r : Logged) (l : List Logged) where
    ended-more : ended_by_lem m tape (r ∷ l) ≡ bit (terminates m tape r) + ended_by_lem m tape l
    unfolding ended_by_lem
    ended-more = count-cons (terminates m tape) r l

    used-more : (list : ℕ) → used_by m tape (r ∷ l) list ≡ bit (entered m tape r && eqb (facts_at m tape r).uses list) + used_by m tape l list
    unfolding used_by
    used-more list = omega (arith, count-cons (λ r. entered m tape r && eqb (facts_at m tape r).uses list) r l)

  -- a block's record that uses no time, makes nobody and ends nobody
  pub record Plain (φ : Facts) : Type 0 where
    pub generates : φ.generates ≡ 0
    pub uses : φ.uses ≡ 0
    pub copies : φ.copies ≡ 0
    pub terminates : φ.terminates ≡ 0

  plain_makes : (φ : Facts) → Plain φ → (o : ℕ) (used : ℕ → ℕ) → cond (eqb o 0) (bit (gets_time m tape φ used) + φ.copies) 0 ≡ 0
  plain_makes φ plain o used =
      cond_cases (λ n. n ≡ 0) (eqb o 0) (bit (gets_time m tape φ used) + φ.copies) 0
      (λ e. omega (arith, ap (λ g. bit (not (eqb g 0) && ltb (used g) (times_of m tape g))) plain.generates, plain.copies)) (λ e. refl)

  unused : (b : Bool) (uses list : ℕ) → uses ≡ 0 → 1 ≤ list → bit (b && eqb uses list) ≡ 0
  unused true uses list e low = ap bit (ne_eqb uses list (λ z. omega arith))
  unused false uses list e low = refl

  booked-log : (outcome : ℕ) (t : Transaction) (s : State) → Plain (facts (block_at m t.next)) → Books s → Books (log outcome t s)
  unfolding log record_of made_by
  booked-log outcome t s plain h =
      let r : Logged = record { entry = record_of outcome t s; priority = t.priority } in
      record {
        makes = omega (arith, h.makes, plain_makes _ plain outcome (used_by m tape s.records));
        ends = omega (arith, h.ends, ended-more r s.records, ends-nobody (eqb outcome 0) _ plain.terminates);
        times = λ list names.
            omega (arith, h.times list names, used-more r s.records list, unused (entered m tape r) _ list plain.uses names.0);
      }

  -- ---- Blocks that keep books of their own

  -- the record of a GENERATE or ADVANCE, and the time that it used
  module _ (t : Transaction) (s : State) (h : Books s) (list : ℕ) (names : Names m.lists list) (shape : Shape m s)
      (uses : (facts (block_at m t.next)).uses ≡ list) where
    abbrev written : List Logged
    written = record { entry = record_of 0 t s; priority = t.priority } ∷ s.records

    used-here : (other : ℕ) → used_by m tape written other ≡ bit (eqb list other) + used_by m tape s.records other
    unfolding record_of
    used-here other = used-more _ s.records other ∙ ap (λ n. bit (eqb n other) + used_by m tape s.records other) uses

    times-used : (other : ℕ) → Names m.lists other
        → length (nth (set_nth s.samples list (drop 1 (times_left s list))) other []) ≡ times_of m tape other - used_by m tape written other
    times-used other names' =
        omega (
          arith,
          used-length s.samples list other names.0 names'.0 (samples-at shape list names.0 names.1),
          h.times other names',
          used-here other,
        )

    -- a spent list stays as it is
    times_spent : times_left s list ≡ [] → (other : ℕ) → Names m.lists other
        → length (nth s.samples other []) ≡ times_of m tape other - used_by m tape written other
    times_spent e other names' = go (eqb list other) refl
      where
        go : (b : Bool) → eqb list other ≡ b → length (nth s.samples other []) ≡ times_of m tape other - used_by m tape written other
        go true q =
            let same : list ≡ other = eqb-true _ _ q in
            omega (arith, h.times other names', used-here other, ap length (rw same at e))
        go false q = omega (arith, h.times other names', used-here other, ap bit q)

    gets-time : (facts (block_at m t.next)).generates ≡ list
        → gets_time m tape (facts (block_at m t.next)) (used_by m tape s.records) ≡ ltb (used_by m tape s.records list)
        (times_of m tape list)
    gets-time e =
        ap (λ g. not (eqb g 0) && ltb (used_by m tape s.records g) (times_of m tape g)) e
        ∙ ap (λ b. not b && ltb (used_by m tape s.records list) (times_of m tape list)) (ne_eqb list 0 (λ z. omega arith))

    ends-none : (facts (block_at m t.next)).terminates ≡ 0 → s.ended ≡ ended_by_lem m tape written
    unfolding record_of
    ends-none e =
        omega (
          arith,
          h.ends,
          ended-more (record { entry = record_of 0 t s; priority = t.priority }) s.records,
          ap (λ n. bit (eqb n 1)) e,
        )

    booked-generate : (l : List ℕ) (p n : ℕ) → times_left s list ≡ l → (facts (block_at m t.next)).generates ≡ list
        → (facts (block_at m t.next)).copies ≡ 0 → (facts (block_at m t.next)).terminates ≡ 0 → Books (arrival l list p n (enters t s))
    unfolding arrival to_fel enters log record_of made_by
    booked-generate [] p n e gen c z =
        let spent : times_of m tape list ≤ used_by m tape s.records list = omega (arith, h.times list names, ap length e) in
        record {
          makes = omega (arith, h.makes, ap bit (gets-time gen), ap bit (le-ltb _ _ spent));
          ends = ends-none z;
          times = times_spent e;
        }
    booked-generate (x ∷ l) p n e gen c z =
        let left : used_by m tape s.records list < times_of m tape list = omega (arith, h.times list names, ap length e) in
        record {
          makes = omega (arith, h.makes, ap bit (gets-time gen), ap bit (lt-ltb _ _ left));
          ends = ends-none z;
          times = times-used;
        }

    -- a question has stopped the turn where there is no time
    booked-advance : (l : List ℕ) → times_left s list ≡ l → (s₀ : State) → ask_advance m l s₀ ≡ 0 → (facts (block_at m t.next)).generates ≡ 0
        → (facts (block_at m t.next)).copies ≡ 0 → (facts (block_at m t.next)).terminates ≡ 0 → Books (delay l list t (enters t s))
    unfolding ask_advance delay to_fel enters log record_of made_by
    booked-advance [] e s₀ q gen c z = absurd (omega arith)
    booked-advance (x ∷ l) e s₀ q gen c z =
        record {
          makes = omega (arith, h.makes, ap (λ g. bit (not (eqb g 0) && ltb (used_by m tape s.records g) (times_of m tape g))) gen);
          ends = ends-none z;
          times = times-used;
        }

  booked-enters : (t : Transaction) (s : State) → Plain (facts (block_at m t.next)) → Books s → Books (enters t s)
  unfolding enters
  booked-enters t s plain h = booked-log 0 t _ plain h

  booked-copies : (n target : ℕ) (t : Transaction) (s : State) → Booked s.samples (n + s.made) s.ended s.records
      → Books (copies n target t s)
  unfolding copies to_rel
  booked-copies zero target t s h = rw zero-plus at h
    where
      zero-plus : 0 + s.made ≡ s.made
      zero-plus = omega arith
  booked-copies (suc n) target t s h = booked-copies n target t _ (rw shift at h)
    where
      shift : suc n + s.made ≡ n + suc s.made
      shift = omega arith

  booked-split : (n target : ℕ) (t : Transaction) (s : State) → Books s → facts (block_at m t.next) ≡ facts (split n target)
      → Books (copies n target t (enters t s))
  unfolding enters log record_of made_by facts
  booked-split n target t s h e =
      let r : Logged = record { entry = record_of 0 t s; priority = t.priority } in
      booked-copies n target t (enters t s)
      (record {
        makes =
            omega (
              arith,
              h.makes,
              ap (λ φ. φ.copies) e,
              ap (λ g. bit (not (eqb g 0) && ltb (used_by m tape s.records g) (times_of m tape g))) (ap (λ φ. φ.generates) e),
            );
        ends = omega (arith, h.ends, ended-more r s.records, ap (λ φ. bit (eqb φ.terminates 1)) e);
        times = λ list names.
            omega (arith, h.times list names, used-more r s.records list, unused true _ list (ap (λ φ. φ.uses) e) names.0);
      })

  booked-terminate : (a : ℕ) (t : Transaction) (s : State) → Books s → facts (block_at m t.next) ≡ facts (terminate a)
      → Books (ends_one a (enters t s))
  unfolding ends_one enters log record_of made_by facts
  booked-terminate a t s h e =
      let r : Logged = record { entry = record_of 0 t s; priority = t.priority } in
      record {
        makes =
            omega (
              arith,
              h.makes,
              ap (λ φ. φ.copies) e,
              ap (λ g. bit (not (eqb g 0) && ltb (used_by m tape s.records g) (times_of m tape g))) (ap (λ φ. φ.generates) e),
            );
        ends = omega (arith, h.ends, ended-more r s.records, ap (λ φ. bit (eqb φ.terminates 1)) e);
        times = λ list names.
            omega (arith, h.times list names, used-more r s.records list, unused true _ list (ap (λ φ. φ.uses) e) names.0);
      }

  -- ASSEMBLE: the record of the first of a family, and that of a later one
  booked-first : (n : ℕ) (t : Transaction) (s : State) → Books s → facts (block_at m t.next) ≡ facts (assemble n) → Books (log 1 t s)
  unfolding log record_of made_by facts
  booked-first n t s h e =
      let r : Logged = record { entry = record_of 1 t s; priority = t.priority } in
      record {
        makes = omega (arith, h.makes);
        ends = omega (arith, h.ends, ended-more r s.records);
        times = λ list names. omega (arith, h.times list names, used-more r s.records list);
      }

  booked-later : (n : ℕ) (t : Transaction) (s : State) → Books s → facts (block_at m t.next) ≡ facts (assemble n)
      → Books (set_ended (suc (enters t s).ended) (enters t s))
  unfolding enters log record_of made_by facts
  booked-later n t s h e =
      let r : Logged = record { entry = record_of 0 t s; priority = t.priority } in
      record {
        makes =
            omega (
              arith,
              h.makes,
              ap (λ φ. φ.copies) e,
              ap (λ g. bit (not (eqb g 0) && ltb (used_by m tape s.records g) (times_of m tape g))) (ap (λ φ. φ.generates) e),
            );
        ends = omega (arith, h.ends, ended-more r s.records, ap (λ φ. bit (eqb φ.terminates 1)) e);
        times = λ list names.
            omega (arith, h.times list names, used-more r s.records list, unused true _ list (ap (λ φ. φ.uses) e) names.0);
      }

  -- ---- Every block

  plain-facts : {φ ψ : Facts} → φ ≡ ψ → ψ.generates ≡ 0 → ψ.uses ≡ 0 → ψ.copies ≡ 0 → ψ.terminates ≡ 0 → Plain φ
  plain-facts e a b c d = rw e (record { generates = a; uses = b; copies = c; terminates = d })

  booked-check_wels : (v : ℕ) (s : State) → Books s → Books (check_wels v s)
  unfolding wake_first_wel
  booked-check_wels v s h = check_wels-kept Books v (λ code s h. h) s h

  booked-wake_for : (x : Share) (s : State) → Books s → Books (wake_for m x s)
  unfolding wake_for wake_ql
  booked-wake_for x s h = h

  booked-interrupt : (e : Event) (t : Transaction) (f : ℕ) (s : State) → Books s → Books (interrupt e t f s)
  unfolding interrupt
  booked-interrupt e t f s h = h

  booked-resume : (i : Interrupted) (f : ℕ) (s : State) → Books s → Books (resume i f s)
  unfolding resume to_fel
  booked-resume i f s h = h

  module _ (t : Transaction) (s : State) (h : Books s) where
    module _ (plain : Plain (facts (block_at m t.next))) where
      booked-must_wait : (put : Transaction → State → State) → ((t : Transaction) (s : State) → Books s → Books (put t s))
          → Books (must_wait put t s)
      unfolding must_wait
      booked-must_wait put kept = cond_cases Books t.returning _ _ (λ e. kept _ _ h) (λ e. kept _ _ (booked-log 1 t s plain h))

      booked-entered : Books (enters t s)
      booked-entered = booked-enters t s plain h

      booked-take_units : (x : Share) (preempts : Bool) → Books (take_units m x preempts t s)
      unfolding take_units move_to set_use to_ql
      booked-take_units x preempts =
          cond_cases Books (leb (share_units x) (free (server_at s.view (share_server x)))) _ _
          (λ e. booked-check_wels (share_server x) _ booked-entered)
          (λ e. booked-must_wait (to_ql m.edition (share_server x)) (λ t s h. h))

    -- the question was answered while t moved
    booked-effect : (b : Block) (o : Option Transaction) → block_at m t.next ≡ b → question m b t (set_moving o s) ≡ 0 → ProperBlock m b
        → Shape m s → Books (effect m b t s)
    unfolding effect move_to facts question to_rel to_ql to_wel to_wsl wake_first_wel set_use set_content take_units to_gatherers comes released
    booked-effect (generate list p) o e q good shape =
        booked-generate t s h list good.0 shape (ap (λ b. (facts b).uses) e) (times_left s list) p t.next refl
        (ap (λ b. (facts b).generates) e)
        (ap (λ b. (facts b).copies) e) (ap (λ b. (facts b).terminates) e)
    booked-effect (advance list) o e q good shape =
        booked-advance t s h list good shape (ap (λ b. (facts b).uses) e) (times_left s list) refl (set_moving o s) q
        (ap (λ b. (facts b).generates) e)
        (ap (λ b. (facts b).copies) e) (ap (λ b. (facts b).terminates) e)
    booked-effect (terminate a) o e q good shape = booked-terminate a t s h (ap facts e)
    booked-effect (takes x) o e q good shape = booked-take_units (plain-facts (ap facts e) refl refl refl refl) x false
    booked-effect (frees x) o e q good shape =
        booked-check_wels (share_server x) _ (booked-wake_for x _ (booked-entered (plain-facts (ap facts e) refl refl refl refl)))
    booked-effect (wait_server code v c) o e q good shape =
        let plain : Plain (facts (block_at m t.next)) = plain-facts (ap facts e) refl refl refl refl in
        wait_server-cases Books m code v c t s (λ k. booked-must_wait plain (to_wel m.edition v code) (λ t s h. h)) (λ k. h)
        (λ k. booked-entered plain)
    booked-effect (wait_terms a r b) o e q good shape =
        let plain : Plain (facts (block_at m t.next)) = plain-facts (ap facts e) refl refl refl refl in
        wait_terms-cases Books m a r b t s (λ k. booked-must_wait plain to_wsl (λ t s h. h)) (λ k. booked-entered plain)
    booked-effect (moves c target) o e q good shape = booked-entered (plain-facts (ap facts e) refl refl refl refl)
    booked-effect (assign k a) o e q good shape = booked-entered (plain-facts (ap facts e) refl refl refl refl)
    booked-effect (priority p) o e q good shape = booked-entered (plain-facts (ap facts e) refl refl refl refl)
    booked-effect (split n target) o e q good shape = booked-split n target t s h (ap facts e)
    booked-effect (counts c q) o e z good shape = booked-entered (plain-facts (ap facts e) refl refl refl refl)
    booked-effect (assemble n) o e z good shape =
        assemble-cases Books m n t s (λ k. booked-first n t s h (ap facts e)) (λ g l k z. booked-later n t s h (ap facts e))
        (λ g l k z. booked-later n t s h (ap facts e))
    booked-effect (preempt f) o e z good shape =
        let plain : Plain (facts (block_at m t.next)) = plain-facts (ap facts e) refl refl refl refl in
        preempt-cases Books m f t s (λ k. booked-take_units plain (facility f) true)
        (λ x l k. booked-check_wels f _ (booked-interrupt x t f _ (booked-entered plain)))
    booked-effect (give_back f) o e z good shape =
        let plain : Plain (facts (block_at m t.next)) = plain-facts (ap facts e) refl refl refl refl in
        give_back-cases Books m f t s (λ k. booked-check_wels f _ (booked-wake_for (facility f) _ (booked-entered plain)))
        (λ i l k. booked-check_wels f _ (booked-resume i f _ (booked-entered plain)))

  booked-answer : (n : ℕ) (t : Transaction) (s : State) → question m (block_at m t.next) t s ≡ n → Proper m tape → Shape m s → Books s
      → Books (answer n m (block_at m t.next) t s)
  unfolding answer
  booked-answer zero t s q proper shape h =
      booked-effect t (set_moving none s) h _ s.moving refl q (proper.block t.next) shape
  booked-answer (suc n) t s q proper shape h = h

  booked-execute : (o : Option Transaction) (s : State) → Proper m tape → Shape m s → Books s → Books (execute o m s)
  unfolding execute
  booked-execute none s proper shape h = h
  booked-execute (some t) s proper shape h = booked-answer _ t s refl proper shape h

  -- ---- The taking

  booked-arrive_all : (l : List Event) (s : State) → Books s → Books (arrive_all l s)
  unfolding arrive_all to_rel
  booked-arrive_all [] s h = h
  booked-arrive_all (e ∷ l) s h = booked-arrive_all l _ h

  booked-next_events : (l : List Event) (s : State) → Books s → Books (next_events l s)
  unfolding next_events move_clock
  booked-next_events [] s h = h
  booked-next_events (e ∷ l) s h = booked-arrive_all _ _ h

  booked-take_first : (l : List Transaction) (s : State) → Books s → Books (take_first l s)
  unfolding take_first
  booked-take_first [] s h = h
  booked-take_first (t ∷ l) s h = h

  booked-take_ready : (l : List Transaction) (s : State) → Books s → Books (take_ready l s)
  unfolding take_ready
  booked-take_ready [] s h = booked-take_first _ _ (booked-next_events s.fel s h)
  booked-take_ready (t ∷ l) s h = booked-take_first (t ∷ l) s h

  pub booked-taking : (o : Option Transaction) (s : State) → Books s → Books (taking o s)
  unfolding taking
  booked-taking none s h = booked-take_ready s.rel s h
  booked-taking (some t) s h = h

  booked-ws_scheme : (s : State) → Books s → Books (ws_scheme m s)
  unfolding wake_wsl
  booked-ws_scheme s h = ws_scheme-cases Books m s (λ e. h) (λ e. h)

  pub booked-turn : Proper m tape → (s : State) → Shape m s → Books s → Books (turn m s)
  unfolding turn
  booked-turn proper s shape h =
      booked-ws_scheme _
      (booked-execute _ _ proper (taking-kept (Shape m) (shape_closed m) s.moving s shape) (booked-taking s.moving s h))
