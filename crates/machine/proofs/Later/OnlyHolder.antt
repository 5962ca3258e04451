-- "A model whose transactions release only their own facilities, and hold none when ending, gives the trace it gave": where the records
-- tell so, 27 and 28 are never answered, and so the run with them is the run without them.
use Rattle.machine.specs.All.{ℕ, zero, suc, ◌≡◌, refl, sym, ap, subst, ◌∙◌, Bool, true, false, cond, not, ◌&&◌, ◌||◌, List, [], ◌∷◌, Option, none, some, arith, eq-eqb, ne_eqb, leb, eqb, T, work_numbers, report_room, Rules, document01, item1, item6, in_force, Parsed, parsed, refused, Transaction, Gatherer, Interrupted, server_at, facility, storage, share_server, share_units, share_facility, Block, generate, advance, terminate, takes, frees, wait_server, wait_terms, moves, assign, priority, split, counts, assemble, preempt, give_back, facts, BlockModel, block_at, State, Logged, set_moving, record_of, log, enters, move_to, wake_ql, wake_first_wel, wake_wsl, set_use, waits_for, comes, released, to_rel, unless, ask_generate, ask_advance, ask_holder, held, question, wake_for, ends_one, effect, take_units, ask_gathers, gathers, ask_resume, ask_gives_back, answer, execute, ws_scheme, turn, run, list_field, beginning, model_of_lem, tape_of, Validation, accept, reject, with_tape, with_model, validate, accepted_run, outcome_of, outcome, bit, terminates, SameBytes, holder_by, loser_by, refused_run, up_to, asking, held_by, by_holder, free_handed, own_only, OwnOnly, KeepsOwnRuns, times_left, begin_wait, must_wait, interrupted_at, gathering}
use Rattle.machine.proofs as our
use our.Decoding.Proper.{Proper, ProperBlock, Names}
use our.Decoding.ProperFrom.{proper-from, rules-from, refusal-from}
use our.Lists.Cases.{check_wels-kept, ws_scheme-cases}
use our.{Runs.Kept.taking-kept, Lists.Sums.up_to_cong, Order.Taken.taking-records, Later.OlderTapes.older-runs, Later.OlderTapes.older_year, Later.OlderTapes.same_runs, Later.OlderModels.older_models, Basic.Bools.cond_cases, Later.Holders.Accounts}
use our.Runs.Shape.{Shape, shape_closed}
use our.Order.Steps.{Step, passes, begins, back, returns, assembles, step-effect}
use our.Decoding.WiderParsing.{with_rules, under_rules, model-read, own-rules}
use our.Later.SameTurns.{AnsweredAlike, taken_from, turn-same, accepted-same, run-same}
use our.Later.Holders.{Holding, holding-taking, accounts-start, accounts-turn}

-- ---- Tests

and_parts : (a b c : Bool) → T (a && b && c) → T a × T b × T c
and_parts true true true h = (tt, tt, tt)
and_parts true true false h = absurd h
and_parts true false c h = absurd h
and_parts false b c h = absurd h

or_else : (a b : Bool) → a ≡ false → T (a || b) → b ≡ true
or_else true b e h = absurd (omega (arith, ap bit e))
or_else false true e h = refl
or_else false false e h = absurd h

-- ---- A turn writes one record at most

module _ (m : BlockModel) (tape : List (List ℕ)) (proper : Proper m tape) where
  data Wrote (l : List Logged) : List Logged → Type 0 where
    nothing : Wrote l l
    one : (r : Logged) → Wrote l (r ∷ l)

  wrote-step : {b : Block} {t : Transaction} {s s' : State} → Step b t s s' → Wrote s.records s'.records
  unfolding enters log
  wrote-step (passes g q) = rw q.records (one _)
  wrote-step (begins e p) = rw p.records (one _)
  wrote-step (back e p) = rw p.records nothing
  wrote-step (returns z q) = rw q.records nothing
  wrote-step (assembles z q) = rw q.records (one _)

  wrote-answer : (n : ℕ) (t : Transaction) (s : State) → Shape m s → Wrote s.records (answer n m (block_at m t.next) t s).records
  unfolding answer
  wrote-answer zero t s shape = wrote-step (step-effect m (block_at m t.next) t (set_moving none s) (proper.block t.next) shape)
  wrote-answer (suc n) t s shape = nothing

  wrote-execute : (o : Option Transaction) (s : State) → Shape m s → Wrote s.records (execute o m s).records
  unfolding execute
  wrote-execute none s shape = nothing
  wrote-execute (some t) s shape = wrote-answer _ t s shape

  scheme-records : (s : State) → (ws_scheme m s).records ≡ s.records
  unfolding wake_wsl
  scheme-records s = ws_scheme-cases (λ s'. s'.records ≡ s.records) m s (λ e. refl) (λ e. refl)

  wrote-turn : (s : State) → Shape m s → Wrote s.records (turn m s).records
  unfolding turn
  wrote-turn s shape =
      rw (scheme-records (execute (taken_from s).moving m (taken_from s)))
      (subst (λ l. Wrote l (execute (taken_from s).moving m (taken_from s)).records) (taking-records s.moving s)
      (wrote-execute (taken_from s).moving (taken_from s) (taking-kept (Shape m) (shape_closed m) s.moving s shape)))

  abbrev Own : List Logged → Type 0
  Own l = T (own_only m tape l)

  own-parts : (r : Logged) (l : List Logged) → Own (r ∷ l) → T (by_holder m tape l r) × T (free_handed m tape l r) × Own l
  unfolding own_only
  own-parts r l h = and_parts (by_holder m tape l r) (free_handed m tape l r) (own_only m tape l) h

  own-before : {l k : List Logged} → Wrote l k → Own k → Own l
  own-before nothing h = h
  own-before {l} (one r) h = (own-parts r l h).2

  -- ---- The questions

  module _ (silent : m.rules.holders ≡ false) where
    abbrev new : Rules
    new = asking true m.rules

    abbrev m' : BlockModel
    m' = with_rules new m

    generate-same : (l : List ℕ) (s : State) → ask_generate m' l s ≡ ask_generate m l s
    unfolding ask_generate
    generate-same [] s = refl
    generate-same (time ∷ l) s = refl

    advance-same : (l : List ℕ) (s : State) → ask_advance m' l s ≡ ask_advance m l s
    unfolding ask_advance
    advance-same [] s = refl
    advance-same (time ∷ l) s = refl

    resume-same : (l : List Interrupted) (s : State) → ask_resume m' l s ≡ ask_resume m l s
    unfolding ask_resume
    resume-same [] s = refl
    resume-same (i ∷ l) s = refl

    -- the answer of either question: yes without it, and yes with it
    asks-alike : (b : Bool) (n : ℕ) → b ≡ true → unless (not true || b) n 0 ≡ unless (not m.rules.holders || b) n 0
    asks-alike b n e = rw (e, silent)

    module _ (t : Transaction) (s : State) (holding : Holding m tape s) where
      abbrev r : Logged
      r = record { entry = record_of 0 t s; priority = t.priority }

      -- ---- 28

      held-told : held m s.view t.number ≡ held_by m tape s.records t.number
      unfolding held held_by server_at
      held-told = up_to_cong _ _ m.facilities (λ f low high. ap (λ n. bit (eqb n t.number)) (holding.each f (low, high)).held.told)

      holds-none : (facts (block_at m t.next)).terminates ≡ 1 → Own (r ∷ s.records) → eqb (held m s.view t.number) 0 ≡ true
      unfolding free_handed record_of
      holds-none ends own =
          ap (λ n. eqb n 0) held-told
          ∙ or_else (not (terminates m tape r)) (eqb (held_by m tape s.records t.number) 0) (ap not (eq-eqb _ 1 ends))
          (own-parts r s.records own).1

      -- ---- 27

      holds_it : (v : ℕ) → Names m.facilities v → (facts (block_at m t.next)).releases ≡ v → Own (r ∷ s.records)
          → eqb (server_at s.view v).holder t.number ≡ true
      unfolding by_holder record_of server_at
      holds_it v at on own =
          let by : T (eqb v 0 || eqb (holder_by m tape s.records v) t.number) =
          rw on at (own-parts r s.records own).0 in
          ap (λ n. eqb n t.number) (holding.each v at).held.told
          ∙ or_else (eqb v 0) (eqb (holder_by m tape s.records v) t.number) (ne_eqb v 0 (λ e. omega arith)) by

      freed-records : (v : ℕ) → (effect m (frees (facility v)) t (set_moving none s)).records ≡ r ∷ s.records
      unfolding effect move_to share_server share_units wake_for wake_ql wake_first_wel set_use enters log record_of take_units
      freed-records v = check_wels-kept (λ s'. s'.records ≡ r ∷ s.records) v (λ code s' h. h) _ refl

      release-same : (v : ℕ) → Names m.facilities v → (facts (block_at m t.next)).releases ≡ v
          → (question m (frees (facility v)) t s ≡ 0 → Own (effect m (frees (facility v)) t (set_moving none s)).records)
          → question m' (frees (facility v)) t s ≡ question m (frees (facility v)) t s
      unfolding question ask_holder share_server share_units
      release-same v at on own = go (leb 1 (server_at s.view v).in_use) (not (server_at s.view v).preempted) own
        where
          ask : Bool → ℕ
          ask b = unless (not b || eqb (server_at s.view v).holder t.number) 27 0

          go : (b c : Bool)
              → (unless b 24 (unless c 27 (ask m.rules.holders)) ≡ 0 → Own
              (effect m (frees (facility v)) t (set_moving none s)).records)
              → unless b 24 (unless c 27 (ask true)) ≡ unless b 24 (unless c 27 (ask m.rules.holders))
          go true true own = asks-alike _ 27 (holds_it v at on (rw (freed-records v) at (own (ap ask silent))))
          go true false own = refl
          go false c own = refl

      -- a later one of a family writes its record
      gathers-records : (n : ℕ) (g : Gatherer) → (gathers n g t (enters t (set_moving none s))).records ≡ r ∷ s.records
      unfolding gathers released to_rel comes enters log record_of
      gathers-records n g = cond_cases (λ (s' : State). s'.records ≡ r ∷ s.records) (eqb (suc g.come) n) _ _ (λ e. refl) (λ e. refl)

      later-records : (n : ℕ) (g : Gatherer) (l : List Gatherer) → waits_for t s ≡ g ∷ l
          → (effect m (assemble n) t (set_moving none s)).records ≡ r ∷ s.records
      unfolding effect take_units
      later-records n g l k =
          let s₀ : State = set_moving none s in
          ap (λ l. (gathering (λ f. f (enters t s₀)) (λ put. must_wait put t s₀) (λ f. f s₀) (λ put. begin_wait put t s₀) l n t).records) k
          ∙ gathers-records n g

      gathers_same : (n : ℕ) (l : List Gatherer) → block_at m t.next ≡ assemble n → waits_for t s ≡ l
          → (ask_gathers m l t s ≡ 0 → Own (effect m (assemble n) t (set_moving none s)).records) → ask_gathers m' l t s ≡ ask_gathers m l t s
      unfolding ask_gathers held facts
      gathers_same n [] e k own = refl
      gathers_same n (g ∷ l) e k own =
          asks-alike _ 28
          (holds-none (ap (λ b. (facts b).terminates) e)
          (rw (later-records n g l k) at (own (ap (λ b. unless (not b || eqb (held m s.view t.number) 0) 28 0) silent))))

      question-same : (b : Block) → block_at m t.next ≡ b → ProperBlock m b
          → (question m b t s ≡ 0 → Own (effect m b t (set_moving none s)).records)
          → question m' b t s ≡ question m b t s
      unfolding question ask_holder held facts share_facility effect ends_one enters log record_of take_units
      question-same (generate list p) e good own = generate-same (times_left s list) s
      question-same (advance list) e good own = advance-same (times_left s list) s
      question-same (terminate a) e good own =
          asks-alike _ 28
          (holds-none (ap (λ b. (facts b).terminates) e)
          (own (ap (λ b. unless (not b || eqb (held m s.view t.number) 0) 28 0) silent)))
      question-same (takes x) e good own = refl
      question-same (frees (facility v)) e good own = release-same v good (ap (λ b. (facts b).releases) e) own
      question-same (frees (storage v b)) e good own = refl
      question-same (wait_server code v c) e good own = refl
      question-same (wait_terms a relation b) e good own = refl
      question-same (moves c target) e good own = refl
      question-same (assign k a) e good own = refl
      question-same (priority p) e good own = refl
      question-same (split n target) e good own = refl
      question-same (counts c q) e good own = refl
      question-same (assemble n) e good own = gathers_same n (waits_for t s) e refl own
      question-same (preempt f) e good own = refl
      question-same (give_back f) e good own = unfold ask_gives_back in (rw (resume-same (interrupted_at s f) s))

    -- ---- The turn and the run

    answered-alike : (o : Option Transaction) (s : State) → Holding m tape s → Own (execute o m s).records → AnsweredAlike new m o s
    unfolding execute answer
    answered-alike none s holding own = tt
    answered-alike (some t) s holding own =
        let b = block_at m t.next in
        question-same t s holding b refl (proper.block t.next) (λ q. rw q at own)

    same_turn : (s : State) → Holding m tape s → Own (turn m s).records → turn m' s ≡ turn m s
    unfolding turn
    same_turn s holding own =
        turn-same new m s
        (answered-alike (taken_from s).moving (taken_from s) (holding-taking m tape s.moving s holding)
        (rw (scheme-records (execute (taken_from s).moving m (taken_from s))) at own))

    -- where everybody gave back only what was its own, asking for the holder changes nothing
    pub own_same : (budget room : ℕ) → Own (run m tape budget room).records → run m' tape budget room ≡ run m tape budget room
    own_same budget room own =
        run-same new m budget room (Accounts m tape) (λ s. Own s.records) (λ s t i. accounts-turn m tape proper s i)
        (λ s t i h. same_turn s i.1 h)
        (λ s t i h. own-before (wrote-turn s i.0.shape) h) (λ s e b z h. h) tape (accounts-start m tape proper) own

-- ---- Validation asks for no holder

module _ (rules : Rules) where
  abbrev old : Rules
  old = asking false rules

  abbrev asked : Rules
  asked = asking true rules

  under : Validation → Validation
  under (accept m t) = accept (with_rules asked m) t
  under (reject n) = reject n

  tape-same : (m : BlockModel) (r : Parsed (List (List ℕ))) → with_tape (with_rules asked m) r ≡ under (with_tape m r)
  unfolding with_tape under
  tape-same m (parsed t c) = refl
  tape-same m (refused n) = refl

  model-same : (model tape : List ℕ) (r : Parsed BlockModel) → model_of_lem old model beginning ≡ r
      → with_model tape (under_rules asked r) ≡ under (with_model tape r)
  unfolding with_model under tape_of list_field
  model-same model tape (parsed m c) e =
      subst (λ (k : Rules). with_tape (with_rules asked m) (tape_of asked tape m.lists beginning) ≡ under
      (with_tape m (tape_of k tape m.lists beginning)))
      (sym (own-rules old model m c e)) (tape-same m (tape_of asked tape m.lists beginning))
  model-same model tape (refused n) e = refl

  validated : (model tape : List ℕ) (work report : ℕ) → validate asked model tape work report ≡ under (validate old model tape work report)
  unfolding validate under
  validated model tape work report =
      first (leb work_numbers work) 1 _ _
      (first (leb report_room report) 2 _ _
      (ap (with_model tape) (model-read asked old refl refl model beginning) ∙ model-same model tape (model_of_lem old model beginning) refl))
    where
      first : (b : Bool) (n : ℕ) (x x' : Validation) → x' ≡ under x → cond b x' (reject n) ≡ under (cond b x (reject n))
      first true n x x' e = e
      first false n x x' e = refl

  -- ---- From bytes

  pub keeps-own-runs : KeepsOwnRuns rules
  unfolding outcome outcome_of under
  keeps-own-runs model tape budget work room report own =
      ap (outcome_of budget room) (validated model tape work report) ∙ go (validate old model tape work report) refl own
    where
      go : (v : Validation) → validate old model tape work report ≡ v → OwnOnly budget room v
          → outcome_of budget room (under v) ≡ outcome_of budget room v
      go (accept m t) e own =
          let is : m.rules ≡ old = rules-from old model tape work report e in
          subst (λ (k : Rules). accepted_run (with_rules k m) (run (with_rules k m) t budget room) ≡ accepted_run m (run m t budget room))
          (ap (asking true) is)
          (ap (accepted_run (with_rules (asking true m.rules) m))
          (own_same m t (proper-from old model tape work report e) (ap (λ (k : Rules). k.holders) is) budget room own)
          ∙ accepted-same (asking true m.rules) m (run m t budget room))
      go (reject n) e own = refl

-- with item 6, and with item 1 alone
pub own_runs : (model tape : List ℕ) (budget work room report : ℕ) → OwnOnly budget room (validate item1 model tape work report)
    → outcome item6 model tape budget work room report ≡ outcome item1 model tape budget work room report
own_runs = keeps-own-runs item6

-- ---- From document 01 to the rules in force

-- what the records tell of holders asks for no rules
module _ (rules : Rules) (m : BlockModel) (tape : List (List ℕ)) where
  abbrev other : BlockModel
  other = with_rules rules m

  holder-again : (l : List Logged) (f : ℕ) → (holder_by other tape l f ≡ holder_by m tape l f) × (loser_by other tape l f ≡ loser_by m tape l f)
  unfolding holder_by loser_by
  holder-again [] f = (refl, refl)
  holder-again (r ∷ l) f = (rw ((holder-again l f).0, (holder-again l f).1) refl, rw (holder-again l f).0 refl)

  own-again : (l : List Logged) → own_only other tape l ≡ own_only m tape l
  unfolding own_only by_holder free_handed held_by
  own-again [] = refl
  own-again (r ∷ l) =
      let holds : up_to m.facilities (λ f. bit (eqb (holder_by other tape l f) r.entry.transaction))
      ≡ up_to m.facilities (λ f. bit (eqb (holder_by m tape l f) r.entry.transaction)) =
      up_to_cong _ _ m.facilities (λ f low high. ap (λ n. bit (eqb n r.entry.transaction)) (holder-again l f).0) in
      rw ((holder-again l (facts (block_at m r.entry.block)).releases).0, holds, own-again l) refl

-- the records of document 01's run are those of item 1's
own_year : (model tape : List ℕ) (budget work room report : ℕ) → OwnOnly budget room (validate document01 model tape work report)
    → (outcome document01 model tape budget work room report).refusal ≡ 0 → ((outcome document01 model tape budget work room report).end ≡ 22 → ⊥)
    → OwnOnly budget room (validate item1 model tape work report)
unfolding outcome outcome_of accepted_run refused_run
own_year model tape budget work room report = go (validate document01 model tape work report) refl
  where
    go : (v : Validation) → validate document01 model tape work report ≡ v → OwnOnly budget room v
        → (outcome_of budget room v).refusal ≡ 0 → ((outcome_of budget room v).end ≡ 22 → ⊥) → OwnOnly budget room (validate item1 model tape work report)
    go (accept m t) e own z early =
        let same = same_runs older_year model tape work report e in
        rw (same.0, same.1 budget room early, own-again item1 m t (run m t budget room).records) own
    go (reject n) e own z early = absurd (omega (arith, z, (refusal-from document01 model tape work report e).0))

-- judged by document 01's own records, as an archived trace has them
pub older-own-runs : (model tape : List ℕ) (budget work room report : ℕ) → OwnOnly budget room (validate document01 model tape work report)
    → SameBytes (outcome document01 model tape budget work room report) (outcome in_force model tape budget work room report)
older-own-runs model tape budget work room report own accepted early =
    let same =
    own_runs model tape budget work room report (own_year model tape budget work room report own accepted early)
    ∙ older-runs model tape budget work room report accepted early in
    older_models model tape budget work room report (ap (λ o. o.refusal) same ∙ accepted) ∙ same
