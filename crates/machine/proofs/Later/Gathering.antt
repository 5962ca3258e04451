-- Families that gather (document 02, item 8): in every state of a run, at every ASSEMBLE n, of the records that a family has written there
-- those since the last n-th have come; one of the family waits with that count, and nobody where it is 0.
use Rattle.machine.specs.All.{ℕ, zero, suc, ◌+◌, ◌*◌, ◌-◌, ◌/◌, ◌%◌, ◌≤◌, ◌<◌, ◌≡◌, refl, sym, ap, subst, ◌∙◌, Bool, true, false, cond, ◌&&◌, true≢false, List, [], ◌∷◌, ◌++◌, map, Option, none, some, arith, mod-lt, mod-eq_of_lt, div-add-mod', ℕ_discrete, eqb-true, eqb-false, eq-eqb, ne_eqb, eqb, leb, length, get_or, replicate, get_or-set_same, get_or-set_other, Transaction, Event, Gatherer, those, replace_first, nth, set_nth, Share, share_server, share_units, Block, generate, advance, terminate, takes, frees, wait_server, wait_terms, moves, assign, priority, split, counts, assemble, preempt, give_back, facts, BlockModel, block_at, State, Logged, with_serial, set_turns, set_end, gatherers_at, in_family, waits_for, record_of, log, enters, move_to, to_rel, to_fel, to_ql, to_wel, to_wsl, must_wait, wake_ql, wake_first_wel, wake_wsl, set_use, set_content, arrival, copies, to_gatherers, comes, released, interrupt, resume, take_units, wake_for, check_wels, ends_one, delay, effect, arrive_all, move_clock, next_events, take_first, take_ready, taking, answer, execute, ws_scheme, turn, idle, start_at, start, states, Each, bit, everyone, family_by, come_by, OneGathers, suc-mul, Interrupted, server_at, free, facility, set_moving}
use lib.Arith.{digits_mod}
use Rattle.machine.proofs as our
use our.Lists.Chosen.{those-insert, those-one, those_else, those_replaced, upto, upto-none, upto-some}
use our.Decoding.Proper.{ProperBlock, Proper}
use our.{Runs.RunLaws.each-state, Basic.Bools.cond_cases, Order.Taken.taking-records}
use our.Basic.Each.{each_map, each-passes}
use our.Lists.Cases.{check_wels-kept, wait_server-cases, wait_terms-cases, assemble-cases, ws_scheme-cases, start_of-cases, preempt-cases, give_back-cases}
use our.Runs.Shape.{Shape, gatherers-at}
use our.Order.Steps.{Step, passes, begins, back, returns, assembles, step-effect}
use our.Runs.Everybody.{Maybe, Everybody, like, taking-everybody}
use our.Runs.Placed.{Placed, placed-turn, placed-start}
use our.Conservation.Conservation.{Sound, sound-start, sound-taking, sound-turn}
use our.Later.Families.{Kindred, kindred-taking, kindred-turn, kindred-start, kindred-families}

-- ---- Counting up to n

suc-mod : (k n : ℕ) → 0 < n → suc k % n ≡ cond (eqb (suc (k % n)) n) 0 (suc (k % n))
suc-mod k n positive = go (eqb (suc (k % n)) n) refl
  where
    whole : suc k ≡ k / n * n + suc (k % n)
    whole = omega (arith, div-add-mod' k n)

    go : (b : Bool) → eqb (suc (k % n)) n ≡ b → suc k % n ≡ cond b 0 (suc (k % n))
    go true e =
        let full : suc k ≡ suc (k / n) * n + 0 = omega (arith, whole, eqb-true (suc (k % n)) n e, suc-mul (k / n) n) in
        ap (λ x. x % n) full ∙ digits_mod (suc (k / n)) positive
    go false e = ap (λ x. x % n) whole ∙ digits_mod (k / n) (below (eqb-false (suc (k % n)) n e) (mod-lt k positive))
      where
        below : (suc (k % n) ≡ n → ⊥) → k % n < n → suc (k % n) < n
        below d h = omega arith

none_left : (l : List Gatherer) → map (λ g. g.come) l ≡ [] → l ≡ []
none_left [] e = refl
none_left (g ∷ l) e = absurd (omega (arith, ap (λ (k : List ℕ). length k) e))

abbrev of_family : ℕ → Gatherer → Bool
of_family f g = eqb g.who.family f

-- ---- The taking and the start gather nobody

arrive_all-gatherers : (l : List Event) (s : State) → (arrive_all l s).gatherers ≡ s.gatherers
unfolding arrive_all to_rel
arrive_all-gatherers [] s = refl
arrive_all-gatherers (e ∷ l) s = arrive_all-gatherers l _

next_events-gatherers : (l : List Event) (s : State) → (next_events l s).gatherers ≡ s.gatherers
unfolding next_events move_clock
next_events-gatherers [] s = refl
next_events-gatherers (e ∷ l) s = arrive_all-gatherers _ _

take_first-gatherers : (l : List Transaction) (s : State) → (take_first l s).gatherers ≡ s.gatherers
unfolding take_first
take_first-gatherers [] s = refl
take_first-gatherers (t ∷ l) s = refl

take_ready-gatherers : (l : List Transaction) (s : State) → (take_ready l s).gatherers ≡ s.gatherers
unfolding take_ready
take_ready-gatherers [] s = take_first-gatherers _ _ ∙ next_events-gatherers s.fel s
take_ready-gatherers (t ∷ l) s = take_first-gatherers (t ∷ l) s

-- nobody comes from or to an ASSEMBLE between blocks
pub taking-gatherers : (o : Option Transaction) (s : State) → (taking o s).gatherers ≡ s.gatherers
unfolding taking
taking-gatherers none s = take_ready-gatherers s.rel s
taking-gatherers (some t) s = refl

arrival-gatherers : (l : List ℕ) (list p n : ℕ) (s : State) → (arrival l list p n s).gatherers ≡ s.gatherers
unfolding arrival to_fel
arrival-gatherers [] list p n s = refl
arrival-gatherers (time ∷ l) list p n s = refl

delay-gatherers : (l : List ℕ) (list : ℕ) (t : Transaction) (s : State) → (delay l list t s).gatherers ≡ s.gatherers
unfolding delay to_fel
delay-gatherers [] list t s = refl
delay-gatherers (time ∷ l) list t s = refl

copies-gatherers : (n target : ℕ) (t : Transaction) (s : State) → (copies n target t s).gatherers ≡ s.gatherers
unfolding copies to_rel
copies-gatherers zero target t s = refl
copies-gatherers (suc n) target t s = copies-gatherers n target t _

-- ---- Other blocks gather nobody

module _ (m : BlockModel) where
  interrupt-gatherers : (e : Event) (t : Transaction) (f : ℕ) (s : State) → (interrupt e t f s).gatherers ≡ s.gatherers
  unfolding interrupt
  interrupt-gatherers e t f s = refl

  resume-gatherers : (i : Interrupted) (f : ℕ) (s : State) → (resume i f s).gatherers ≡ s.gatherers
  unfolding resume to_fel
  resume-gatherers i f s = refl

  wake_for-gatherers : (x : Share) (s : State) → (wake_for m x s).gatherers ≡ s.gatherers
  unfolding wake_for wake_ql
  wake_for-gatherers x s = refl

  module _ (t : Transaction) (s : State) where
    abbrev Same : State → Type 0
    Same s' = s'.gatherers ≡ s.gatherers

    waits-same : (put : Transaction → State → State) → ((u : Transaction) (x : State) → (put u x).gatherers ≡ x.gatherers)
        → Same (must_wait put t s)
    unfolding must_wait log
    waits-same put kept = cond_cases Same t.returning _ _ (λ e. kept t s) (λ e. kept _ _)

    checks-same : (v : ℕ) (s' : State) → Same s' → Same (check_wels v s')
    unfolding wake_first_wel
    checks-same v s' h = check_wels-kept Same v (λ code s h. h) s' h

    takes_same : (x : Share) (preempts : Bool) → Same (take_units m x preempts t s)
    unfolding take_units move_to enters log set_use to_ql
    takes_same x preempts =
        let v : ℕ = share_server x in
        cond_cases Same (leb (share_units x) (free (server_at s.view v))) _ _ (λ e. checks-same v _ refl)
        (λ e. waits-same (to_ql m.edition v) (λ u x. refl))

    effect-gatherers : (b : Block) → ProperBlock m b → (facts b).gathers ≡ 0 → Same (effect m b t s)
    unfolding effect take_units facts move_to enters log set_use set_content ends_one to_ql to_wel to_wsl to_rel wake_first_wel
    effect-gatherers (generate list p) k z = arrival-gatherers _ list p _ _
    effect-gatherers (advance list) k z = delay-gatherers _ list t _
    effect-gatherers (terminate a) k z = refl
    effect-gatherers (takes x) k z = takes_same x false
    effect-gatherers (frees x) k z = checks-same (share_server x) _ (wake_for-gatherers x _)
    effect-gatherers (wait_server code v c) k z =
        wait_server-cases Same m code v c t s (λ e. waits-same (to_wel m.edition v code) (λ u x. refl)) (λ e. refl) (λ e. refl)
    effect-gatherers (wait_terms a r b) k z = wait_terms-cases Same m a r b t s (λ e. waits-same to_wsl (λ u x. refl)) (λ e. refl)
    effect-gatherers (moves c target) k z = refl
    effect-gatherers (assign i a) k z = refl
    effect-gatherers (priority p) k z = refl
    effect-gatherers (split n target) k z = copies-gatherers n target t _
    effect-gatherers (counts c q) k z = refl
    effect-gatherers (assemble n) k z = absurd (omega (arith, k.0))
    effect-gatherers (preempt f) k z =
        preempt-cases Same m f t s (λ e. takes_same (facility f) true) (λ x l e. checks-same f _ (interrupt-gatherers x t f _))
    effect-gatherers (give_back f) k z =
        give_back-cases Same m f t s (λ e. checks-same f _ (wake_for-gatherers (facility f) _))
        (λ i l e. checks-same f _ (resume-gatherers i f _))

-- ---- Which blocks gather

data Role : Block → Type 0 where
  gathering : (n : ℕ) → Role (assemble n)
  other : {b : Block} → (facts b).gathers ≡ 0 → Role b

role : (b : Block) → Role b
unfolding facts
role (generate list p) = other refl
role (advance list) = other refl
role (terminate a) = other refl
role (takes x) = other refl
role (frees x) = other refl
role (wait_server code v c) = other refl
role (wait_terms a r b) = other refl
role (moves c target) = other refl
role (assign k a) = other refl
role (priority p) = other refl
role (split n target) = other refl
role (counts c q) = other refl
role (assemble n) = gathering n
role (preempt f) = other refl
role (give_back f) = other refl

-- the invariant
pub record Gathering (m : BlockModel) (tape : List (List ℕ)) (s : State) : Type 0 where
  pub kindred : Kindred m tape s
  -- at each ASSEMBLE, of each family: at most one waits there, with the count that the records tell
  pub gathers : (b f : ℕ) → 1 ≤ b → 0 < (facts (block_at m b)).gathers → OneGathers m tape s b f

-- the claims of one state
pub record Assembled (m : BlockModel) (tape : List (List ℕ)) (s : State) : Type 0 where
  pub families : Each (λ t. t.family ≡ family_by m tape s.records t.number) (everyone s)
  pub gathered : (b f : ℕ) → 1 ≤ b → 0 < (facts (block_at m b)).gathers → OneGathers m tape s b f

module _ {m : BlockModel} {tape : List (List ℕ)} (proper : Proper m tape) where
  -- ---- Definition

  GathersIn : List Logged → List (List Gatherer) → Type 0
  GathersIn records gatherers =
      (b f : ℕ) → 1 ≤ b → 0 < (facts (block_at m b)).gathers
      → map (λ g. g.come) (those (of_family f) (nth gatherers b [])) ≡ upto (come_by m tape records b f % (facts (block_at m b)).gathers)

  abbrev Gathers : State → Type 0
  Gathers s = GathersIn s.records s.gatherers

  -- ---- One more record

  module _ (r : Logged) (l : List Logged) (b f : ℕ) where
    come_else : (r.entry.block ≡ b → ⊥) → come_by m tape (r ∷ l) b f ≡ come_by m tape l b f
    unfolding come_by
    come_else d = rw (ne_eqb r.entry.block b d) (omega arith)

    come-other : (family_by m tape l r.entry.transaction ≡ f → ⊥) → come_by m tape (r ∷ l) b f ≡ come_by m tape l b f
    unfolding come_by
    come-other d = rw (ne_eqb (family_by m tape l r.entry.transaction) f d) (go (eqb r.entry.block b))
      where
        go : (x : Bool) → bit (x && false) + come_by m tape l b f ≡ come_by m tape l b f
        go true = omega arith
        go false = omega arith

    come-one : r.entry.block ≡ b → family_by m tape l r.entry.transaction ≡ f → come_by m tape (r ∷ l) b f ≡ suc (come_by m tape l b f)
    unfolding come_by
    come-one e k = rw (eq-eqb r.entry.block b e, eq-eqb (family_by m tape l r.entry.transaction) f k) (omega arith)

  -- at a block that gathers nobody
  gathers_else : (r : Logged) (l : List Logged) (gatherers : List (List Gatherer)) → (facts (block_at m r.entry.block)).gathers ≡ 0
      → GathersIn l gatherers → GathersIn (r ∷ l) gatherers
  unfolding GathersIn
  gathers_else r l gatherers off h b f low positive =
      h b f low positive
      ∙ ap (λ k. upto (k % (facts (block_at m b)).gathers))
      (sym (come_else r l b f (λ e. omega (arith, ap (λ b. (facts (block_at m b)).gathers) e))))

  step-gathers : {b : Block} (t : Transaction) (s s' : State) → Step b t s s' → (facts (block_at m t.next)).gathers ≡ 0
      → s'.gatherers ≡ s.gatherers → Gathers s → Gathers s'
  unfolding enters log record_of
  step-gathers t s s' (passes g q) off same h = rw (q.records, same) (gathers_else _ s.records s.gatherers off h)
  step-gathers t s s' (begins e p) off same h = rw (p.records, same) (gathers_else _ s.records s.gatherers off h)
  step-gathers t s s' (back e p) off same h = rw (p.records, same) h
  step-gathers t s s' (returns z q) off same h = rw (q.records, same) h
  step-gathers t s s' (assembles z q) off same h = rw (q.records, same) (gathers_else _ s.records s.gatherers off h)

  -- ---- ASSEMBLE n

  module _ (t : Transaction) (s : State) (h : Gathers s) (low : 1 ≤ t.next) (own : t.family ≡ family_by m tape s.records t.number)
      (n : ℕ) (at : block_at m t.next ≡ assemble n) (more : 2 ≤ n) (there : t.next - 1 < length s.gatherers) where
    abbrev come : ℕ
    come = come_by m tape s.records t.next t.family

    abbrev here : List Gatherer
    here = gatherers_at s t.next

    gathers-at : (facts (block_at m t.next)).gathers ≡ n
    unfolding facts
    gathers-at = ap (λ b. (facts b).gathers) at

    known : map (λ g. g.come) (those (of_family t.family) here) ≡ upto (come % n)
    unfolding GathersIn
    known = h t.next t.family low (omega (arith, gathers-at)) ∙ ap (λ k. upto (come % k)) gathers-at

    -- the list of the block with other gatherers of the family
    gathers-set : (r : Logged) (l : List Gatherer) → r.entry.block ≡ t.next → r.entry.transaction ≡ t.number
        → ((f : ℕ) → (t.family ≡ f → ⊥) → those (of_family f) l ≡ those (of_family f) here)
        → map (λ g. g.come) (those (of_family t.family) l) ≡ upto (suc come % n)
        → GathersIn (r ∷ s.records) (set_nth s.gatherers t.next l)
    unfolding GathersIn
    gathers-set r l block number others own-list b f one positive = go (ℕ_discrete b t.next)
      where
        K : ℕ
        K = (facts (block_at m b)).gathers

        go : Dec (b ≡ t.next)
            → map (λ g. g.come) (those (of_family f) (nth (set_nth s.gatherers t.next l) b [])) ≡ upto
            (come_by m tape (r ∷ s.records) b f % K)
        go (no d) =
            rw (get_or-set_other s.gatherers (t.next - 1) (b - 1) l [] (λ e. d (omega arith)))
            (h b f one positive ∙ ap (λ k. upto (k % K)) (sym (come_else r s.records b f (λ e. d (sym e ∙ block)))))
        go (yes e) = family (ℕ_discrete t.family f)
          where
            list : nth (set_nth s.gatherers t.next l) b [] ≡ l
            list = ap (λ b. nth (set_nth s.gatherers t.next l) b []) e ∙ get_or-set_same s.gatherers (t.next - 1) l [] there

            told : family_by m tape s.records r.entry.transaction ≡ t.family
            told = ap (family_by m tape s.records) number ∙ sym own

            family : Dec (t.family ≡ f)
                → map (λ g. g.come) (those (of_family f) (nth (set_nth s.gatherers t.next l) b [])) ≡ upto
                (come_by m tape (r ∷ s.records) b f % K)
            family (no d) =
                ap (λ l. map (λ g. g.come) (those (of_family f) l)) list ∙ ap (map (λ g. g.come)) (others f d)
                ∙ ap (λ b. map (λ g. g.come) (those (of_family f) (gatherers_at s b))) (sym e)
                ∙ h b f one positive ∙ ap (λ k. upto (k % K)) (sym (come-other r s.records b f (λ z. d (sym told ∙ z))))
            family (yes z) =
                let one_more : come_by m tape (r ∷ s.records) b f ≡ suc come =
                come-one r s.records b f (block ∙ sym e) (told ∙ z)
                ∙ ap suc (ap (λ b. come_by m tape s.records b f) e ∙ ap (come_by m tape s.records t.next) (sym z)) in
                ap (λ l. map (λ g. g.come) (those (of_family f) l)) list ∙ ap (λ f. map (λ g. g.come) (those (of_family f) l)) (sym z)
                ∙ own-list
                ∙ ap (λ k. upto (k % n)) (sym one_more)
                ∙ ap (λ k. upto (come_by m tape (r ∷ s.records) b f % k)) (sym (ap (λ b. (facts (block_at m b)).gathers) e ∙ gathers-at))

    -- the first waits
    gathers-first : waits_for t s ≡ [] → Gathers (to_gatherers (with_serial (suc s.serial) t) (log 1 t s))
    unfolding to_gatherers log record_of in_family
    gathers-first e =
        let g : Gatherer = record { who = with_serial (suc s.serial) t; come = 1 } in
        let nobody : come % n ≡ 0 = upto-none (come % n) (ap (map (λ g. g.come)) (sym e) ∙ known) in
        gathers-set _ _ refl refl
        (λ f d. those-insert (of_family f) _ g here (ne_eqb t.family f d))
        (ap (map (λ g. g.come)) (those-one (of_family t.family) _ g here (eq-eqb t.family t.family refl) e)
        ∙ sym (ap upto
        (suc-mod come n (omega arith) ∙ ap (λ k. cond (eqb (suc k) n) 0 (suc k)) nobody
        ∙ ap (λ b. cond b 0 1) (ne_eqb 1 n (λ z. omega arith)))))

    module _ (g : Gatherer) (l : List Gatherer) (e : waits_for t s ≡ g ∷ l) where
      waits : (g.come ≡ come % n) × (map (λ g. g.come) l ≡ []) × (0 < come % n)
      unfolding in_family
      waits = upto-some (come % n) g.come (map (λ g. g.come) l) (ap (map (λ g. g.come)) (sym e) ∙ known)

      of-family : in_family t g ≡ true
      of-family = (rw e at (each-passes (in_family t) here)).0

      another : (f : ℕ) → (t.family ≡ f → ⊥) → (x : Gatherer) → in_family t x ≡ true → of_family f x ≡ false
      unfolding in_family
      another f d x q = ne_eqb x.who.family f (λ z. d (sym (eqb-true x.who.family t.family q) ∙ z))

      -- at the n-th nobody is left
      gathers-last : eqb (suc g.come) n ≡ true → (r : Logged) → r.entry.block ≡ t.next → r.entry.transaction ≡ t.number
          → GathersIn (r ∷ s.records) (set_nth s.gatherers t.next (replace_first (in_family t) [] here))
      unfolding in_family
      gathers-last z r block number =
          gathers-set r _ block number
          (λ f d. those_else (of_family f) (in_family t) [] here (another f d) (unfold those in refl))
          (ap (map (λ g. g.come)) (those_replaced (of_family t.family) [] here g l e) ∙ unfold those in waits.1
          ∙ sym (ap upto
          (suc-mod come n (omega arith) ∙ ap (λ k. cond (eqb (suc k) n) 0 (suc k)) (sym waits.0)
          ∙ ap (λ b. cond b 0 (suc g.come)) z)))

      only : those (of_family t.family) (record { who = g.who; come = suc g.come } ∷ []) ++ l
          ≡ record { who = g.who; come = suc g.come } ∷ []
      unfolding those in_family
      only = rw (of-family, none_left l waits.1)

      -- else one more has come
      gathers-more : eqb (suc g.come) n ≡ false → (r : Logged) → r.entry.block ≡ t.next → r.entry.transaction ≡ t.number
          → GathersIn (r ∷ s.records)
          (set_nth s.gatherers t.next (replace_first (in_family t) (record { who = g.who; come = suc g.come } ∷ []) here))
      unfolding in_family
      gathers-more z r block number =
          let g' : Gatherer = record { who = g.who; come = suc g.come } in
          gathers-set r _ block number
          (λ f d. those_else (of_family f) (in_family t) (g' ∷ []) here (another f d) (unfold those in (rw (another f d g of-family))))
          (ap (map (λ g. g.come)) (those_replaced (of_family t.family) (g' ∷ []) here g l e ∙ only)
          ∙ sym (ap upto
          (suc-mod come n (omega arith) ∙ ap (λ k. cond (eqb (suc k) n) 0 (suc k)) (sym waits.0) ∙ ap (λ b. cond b 0 (suc g.come)) z)
          ∙ ap (λ b. cond b [] (suc g.come ∷ [])) (ne_eqb (suc g.come) 0 (λ z. omega arith))))

    assemble-gathers : Gathers (effect m (assemble n) t s)
    unfolding enters log record_of comes released to_rel
    assemble-gathers =
        assemble-cases Gathers m n t s (λ e. unfold to_gatherers in (gathers-first e))
        (λ g l e z. gathers-last g l e z _ refl refl) (λ g l e z. gathers-more g l e z _ refl refl)

  -- ---- A turn

  effect-gathers : {b : Block} (t : Transaction) (s : State) → Role b → block_at m t.next ≡ b → ProperBlock m b → Shape m s → 1 ≤ t.next
      → t.family ≡ family_by m tape s.records t.number → Gathers s → Gathers (effect m b t s)
  effect-gathers t s (gathering n) e k shape low own h = assemble-gathers t s h low own n e k.0 (gatherers-at shape t.next n e)
  effect-gathers {b} t s (other z) e k shape low own h =
      step-gathers t s (effect m b t s) (step-effect m b t s k shape) (ap (λ b. (facts b).gathers) e ∙ z) (effect-gatherers m t s b k z) h

  -- whoever moves stands at a block and knows its family
  abbrev Known : State → Transaction → Type 0
  Known s t = (1 ≤ t.next) × (t.family ≡ family_by m tape s.records t.number)

  answer-gathers : (n : ℕ) (t : Transaction) (s : State) → Known s t → Shape m s → Gathers s
      → Gathers (answer n m (block_at m t.next) t s)
  unfolding answer
  answer-gathers zero t s k shape h =
      effect-gathers t (set_moving none s) (role (block_at m t.next)) refl (proper.block t.next) shape k.0 k.1 h
  answer-gathers (suc n) t s k shape h = h

  execute-gathers : (o : Option Transaction) (s : State) → Maybe (Known s) o → Shape m s → Gathers s → Gathers (execute o m s)
  unfolding execute
  execute-gathers none s k shape h = h
  execute-gathers (some t) s k shape h = answer-gathers _ t s k shape h

  ws_scheme-gathers : (s : State) → Gathers s → Gathers (ws_scheme m s)
  unfolding wake_wsl
  ws_scheme-gathers s h = ws_scheme-cases Gathers m s (λ e. h) (λ e. h)

  -- a turn of a sound state whose transactions stand at blocks
  pub gathering-turn : (s : State) → Sound m tape s → Everybody (Placed m) s → Gathering m tape s → Gathering m tape (turn m s)
  unfolding GathersIn
  gathering-turn s sound placed h =
      record {
        kindred = kindred-turn m tape s sound h.kindred;
        gathers =
            unfold turn in
            (ws_scheme-gathers _
            (execute-gathers taken.moving taken (known taken.moving everywhere.moving kindred.moving)
            (sound-taking m tape s sound).shape same));
      }
    where
      taken : State
      taken = set_turns (suc s.turns) (taking s.moving s)

      everywhere : Everybody (Placed m) (taking s.moving s)
      everywhere = taking-everybody (Placed m) (record { mark = λ b t h. h; serial = λ n t h. h }) s.moving s placed

      kindred : Kindred m tape (taking s.moving s)
      kindred = kindred-taking m tape s sound h.kindred

      known : (o : Option Transaction) → Maybe (Placed m) o
          → Maybe (λ t. (t.number ≤ taken.made) × (t.family ≡ family_by m tape taken.records t.number)) o → Maybe (Known taken) o
      known none p k = tt
      known (some t) p k = (p.0.0, k.1)

      before : GathersIn s.records s.gatherers
      before = unfold GathersIn in h.gathers

      same : GathersIn (taking s.moving s).records (taking s.moving s).gatherers
      same = rw (taking-records s.moving s) (subst (GathersIn s.records) (sym (taking-gatherers s.moving s)) before)

  -- ---- The start

  arrival-gathers : (l : List ℕ) (list p n : ℕ) (s : State) → Gathers s → Gathers (arrival l list p n s)
  unfolding arrival to_fel
  arrival-gathers [] list p n s h = h
  arrival-gathers (time ∷ l) list p n s h = h

  start_at-gathers : (n : ℕ) (l : List Block) (s : State) → Gathers s → Gathers (start_at n l s)
  unfolding start_at
  start_at-gathers n [] s h = h
  start_at-gathers n (b ∷ l) s h =
      start_at-gathers (suc n) l _
      (start_of-cases Gathers b n s (λ e. h) (λ e. arrival-gathers _ _ _ n s h))

  -- no list of the empty machine holds anybody
  empty-at : (n k : ℕ) → get_or {A = List Gatherer} (replicate n []) k [] ≡ []
  empty-at zero k = refl
  empty-at (suc n) zero = refl
  empty-at (suc n) (suc k) = empty-at n k

  idle-gathers : Gathers (idle m tape)
  unfolding idle GathersIn those come_by
  idle-gathers b f low positive =
      ap (λ (l : List Gatherer). map (λ g. g.come) (those (of_family f) l)) (empty-at (length m.blocks) (b - 1))
      ∙ sym (ap upto (mod-eq_of_lt positive))

  pub gathering-start : Gathering m tape (start m tape)
  unfolding GathersIn
  gathering-start =
      record { kindred = kindred-start m tape; gathers = unfold start in (start_at-gathers 1 m.blocks (idle m tape) idle-gathers) }

  -- ---- The run

  pub gathering-end : (s : State) (e : ℕ) → Gathering m tape s → Gathering m tape (set_end e s)
  gathering-end s e h =
      record {
        kindred = like _ (record { mark = λ b t h. h; serial = λ n t h. h }) s _ refl refl refl refl refl refl refl refl
            h.kindred;
        gathers = h.gathers;
      }

  record Whole (s : State) : Type 0 where
    sound : Sound m tape s
    everywhere : Everybody (Placed m) s
    gathering : Gathering m tape s

  whole-turn : (s : State) → Whole s → Whole (turn m s)
  whole-turn s h =
      record {
        sound = sound-turn m tape proper s h.sound;
        everywhere = placed-turn m tape proper s h.everywhere;
        gathering = gathering-turn s h.sound h.everywhere h.gathering;
      }

  whole-end : (s : State) (e : ℕ) → Whole s → Whole (set_end e s)
  whole-end s e h =
      record {
        sound = record { shape = h.sound.shape; balanced = h.sound.balanced; books = h.sound.books };
        everywhere = like _ (record { mark = λ b t h. h; serial = λ n t h. h }) s _ refl refl refl refl refl refl refl refl h.everywhere;
        gathering = gathering-end s e h.gathering;
      }

  pub assembled : (budget room : ℕ) → Each (Assembled m tape) (states m tape budget room)
  assembled budget room =
      each_map (λ s h. record { families = kindred-families m tape s h.gathering.kindred; gathered = h.gathering.gathers })
      (states m tape budget room)
      (each-state m budget room Whole (λ s t h. whole-turn s h) (λ s e c h. whole-end s e h) tape
      (record { sound = sound-start m tape proper; everywhere = placed-start m tape proper; gathering = gathering-start }))

  -- ---- Fewer have come than the ASSEMBLE gathers

  all-families : (P : Gatherer → Type 0) (l : List Gatherer) → ((f : ℕ) → Each P (those (of_family f) l)) → Each P l
  unfolding those
  all-families P [] h = tt
  all-families P (x ∷ l) h = (
    first (those (of_family x.who.family) l) (of_family x.who.family x) (eq-eqb x.who.family x.who.family refl)
        (h x.who.family),
    all-families P l (λ f. later (those (of_family f) l) (of_family f x) (h f)),
  )
    where
      first : (k : List Gatherer) (b : Bool) → b ≡ true → Each P (cond b (x ∷ k) k) → P x
      first k true e p = p.0
      first k false e p = absurd (true≢false (sym e))

      later : (k : List Gatherer) (b : Bool) → Each P (cond b (x ∷ k) k) → Each P k
      later k true p = p.1
      later k false p = p

  -- the last to come goes on at once, so a waiting count never reaches the number that is gathered
  pub come-below : (s : State) → Gathering m tape s → (b : ℕ) → 1 ≤ b → 0 < (facts (block_at m b)).gathers
      → Each (λ g. g.come < (facts (block_at m b)).gathers) (gatherers_at s b)
  come-below s h b low positive =
      all-families (λ g. g.come < (facts (block_at m b)).gathers) (gatherers_at s b)
      (λ f. below (those (of_family f) (gatherers_at s b)) (come_by m tape s.records b f) (h.gathers b f low positive))
    where
      n : ℕ
      n = (facts (block_at m b)).gathers

      below : (l : List Gatherer) (k : ℕ) → map (λ g. g.come) l ≡ upto (k % n) → Each (λ g. g.come < n) l
      below [] k e = tt
      below (g ∷ l) k e =
          let x = upto-some (k % n) g.come (map (λ g. g.come) l) e in
          (omega (arith, x.0, mod-lt k positive), rw (none_left l x.1) tt)
