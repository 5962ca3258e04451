-- More kinds and editions leave the run of every model that was accepted: no question and no effect reads how many there are.
use Rattle.machine.specs.All.{ℕ, ◌≡◌, refl, ap, subst, ◌∙◌, List, [], ◌∷◌, Option, none, some, arith, Rules, item6, item11, document02, Transaction, Gatherer, Interrupted, facility, storage, Block, generate, advance, terminate, takes, frees, wait_server, wait_terms, moves, assign, priority, split, counts, assemble, preempt, give_back, BlockModel, State, ask_generate, ask_advance, ask_holder, held, question, ask_gathers, ask_resume, ask_gives_back, run, Validation, accept, reject, validate, accepted_run, refused_run, outcome_of, outcome, counting, KeepsModels, block_at, times_left, waits_for, interrupted_at}
use Rattle.machine.proofs as our
use our.Decoding.ProperFrom.{rules-from, refusal-from}
use our.Decoding.WiderParsing.{with_rules}
use our.Later.SameTurns.{AnsweredAlike, taken_from, turn-same, accepted-same, run-same}
use our.Later.OlderTapes.{Accepted, validated}

module _ (kinds editions : ℕ) (m : BlockModel) where
  abbrev new : Rules
  new = counting kinds editions m.rules

  abbrev m' : BlockModel
  m' = with_rules new m

  generate-same : (l : List ℕ) (s : State) → ask_generate m' l s ≡ ask_generate m l s
  unfolding ask_generate
  generate-same [] s = refl
  generate-same (time ∷ l) s = refl

  advance-same : (l : List ℕ) (s : State) → ask_advance m' l s ≡ ask_advance m l s
  unfolding ask_advance
  advance-same [] s = refl
  advance-same (time ∷ l) s = refl

  gathers_same : (l : List Gatherer) (t : Transaction) (s : State) → ask_gathers m' l t s ≡ ask_gathers m l t s
  unfolding ask_gathers held
  gathers_same [] t s = refl
  gathers_same (g ∷ l) t s = refl

  resume-same : (l : List Interrupted) (s : State) → ask_resume m' l s ≡ ask_resume m l s
  unfolding ask_resume
  resume-same [] s = refl
  resume-same (i ∷ l) s = refl

  question-same : (b : Block) (t : Transaction) (s : State) → question m' b t s ≡ question m b t s
  unfolding question ask_holder held
  question-same (generate list p) t s = generate-same (times_left s list) s
  question-same (advance list) t s = advance-same (times_left s list) s
  question-same (terminate a) t s = refl
  question-same (takes x) t s = refl
  question-same (frees (facility v)) t s = refl
  question-same (frees (storage v b)) t s = refl
  question-same (wait_server code v c) t s = refl
  question-same (wait_terms a r b) t s = refl
  question-same (moves c target) t s = refl
  question-same (assign k a) t s = refl
  question-same (priority p) t s = refl
  question-same (split n target) t s = refl
  question-same (counts c q) t s = refl
  question-same (assemble n) t s = gathers_same (waits_for t s) t s
  question-same (preempt f) t s = refl
  question-same (give_back f) t s = unfold ask_gives_back in (rw (resume-same (interrupted_at s f) s))

  answered-alike : (o : Option Transaction) (s : State) → AnsweredAlike new m o s
  answered-alike none s = tt
  answered-alike (some t) s = question-same (block_at m t.next) t s

  kinds-same : (tape : List (List ℕ)) (budget room : ℕ) → run m' tape budget room ≡ run m tape budget room
  kinds-same tape budget room =
      run-same new m budget room (λ s. Unit {0}) (λ s. Unit {0}) (λ s t i. tt)
      (λ s t i h. turn-same new m s (answered-alike (taken_from s).moving (taken_from s))) (λ s t i h. tt) (λ s e b z h. tt) tape tt tt

pub keeps_models : (rules : Rules) → KeepsModels rules
unfolding outcome outcome_of refused_run
keeps_models rules kinds editions kinds' editions' le later model tape budget work room report =
    go (validate old model tape work report) (validate (counting kinds' editions' rules) model tape work report) refl
    (validated
    (record { clock = omega arith; time = omega arith; number = omega arith; kinds = le; editions = later }) model tape work report)
  where
    old : Rules
    old = counting kinds editions rules

    go : (v v' : Validation) → validate old model tape work report ≡ v → Accepted (counting kinds' editions' rules) v v'
        → (outcome_of budget room v).refusal ≡ 0
        → outcome_of budget room v' ≡ outcome_of budget room v
    go (accept m t) v' e h z =
        let is : counting kinds' editions' m.rules ≡ counting kinds' editions' rules =
        ap (counting kinds' editions') (rules-from old model tape work report e) in
        ap (outcome_of budget room) h
        ∙ subst (λ (r : Rules). accepted_run (with_rules r m) (run (with_rules r m) t budget room) ≡ accepted_run m (run m t budget room)) is
        (ap (accepted_run (m' kinds' editions' m)) (kinds-same kinds' editions' m t budget room)
        ∙ accepted-same (new kinds' editions' m) m (run m t budget room))
    go (reject n) v' e h z = absurd (omega (arith, (refusal-from old model tape work report e).0))

-- items 7, 8, 11 and 12: "Edition 2 in the model's first number selects it"; what edition 1 gave it gives
pub older_models : (model tape : List ℕ) (budget work room report : ℕ) → (outcome item6 model tape budget work room report).refusal ≡ 0
    → outcome document02 model tape budget work room report ≡ outcome item6 model tape budget work room report
older_models =
    keeps_models document02 item6.kinds item6.editions document02.kinds document02.editions (omega arith) (omega arith)

-- what was accepted before there were editions gives the same bytes now
pub first-edition : (model tape : List ℕ) (budget work room report : ℕ) → (outcome item11 model tape budget work room report).refusal ≡ 0
    → outcome document02 model tape budget work room report ≡ outcome item11 model tape budget work room report
first-edition =
    keeps_models document02 item11.kinds item11.editions document02.kinds document02.editions (omega arith) (omega arith)
