-- "Copies made by SPLIT belong to the family of the original, and so do copies of copies" (document 02, item 8): in every state of a run
-- everybody's family is the one that the records tell.
use Rattle.machine.specs.All.{ℕ, zero, suc, ◌+◌, ◌≤◌, ◌<◌, ◌≡◌, refl, sym, ap, ◌∙◌, Bool, true, false, cond, ◌&&◌, List, [], ◌∷◌, Option, none, some, arith, lt-ltb, le-ltb, le-leb, lt-leb, ltb, leb, Transaction, newborn, Event, Interrupted, Gatherer, server_at, Code, Share, share_server, share_units, share_holder, Block, generate, advance, terminate, takes, frees, wait_server, wait_terms, moves, assign, priority, split, counts, assemble, preempt, give_back, facts, BlockModel, block_at, State, Logged, set_turns, set_ended, set_made, record_of, log, enters, move_to, go_on_lem, to_rel, to_fel, to_ql, to_wel, to_wsl, begin_wait, must_wait, wake_ql, wake_first_wel, wake_wsl, set_use, set_content, arrival, copies, to_gatherers, comes, released, losers_to, interrupted_at, interrupt, resume, set_holder, times_left, use_time, waits_for, take_units, free_units, wake_for, check_wels, ends_one, delay, effect, taking, answer, execute, ws_scheme, turn, idle, start_at, start, Each, bit, everyone, facts_at, entered, gets_time, used_by, made_by, family_by, ◌-◌, facility, with_serial, set_moving, set_serial, fresh, copy_of}
use Rattle.machine.proofs as our
use our.{Basic.Bools.cond_cases, Basic.Each.each_map, Order.Taken.taking-records}
use our.Lists.Cases.{check_wels-kept, wait_server-cases, wait_terms-cases, assemble-cases, ws_scheme-cases, start_of-cases, preempt-cases, give_back-cases, takes-cases}
use our.Conservation.Conservation.{Sound, sound-taking}
use our.Runs.Everybody.{Maybe, Everybody, Unmoved, like, everybody-map, everybody-each, to_rel-everybody, to_fel-everybody, to_ql-everybody, to_wel-everybody, to_wsl-everybody, move_to-everybody, wake_for-everybody, wake_first_wel-everybody, wake_wsl-everybody, delay-everybody, to_gatherers-everybody, comes-everybody, released-everybody, waiter-everybody, taking-everybody, idle-everybody, loser-everybody, interrupted-everybody, interrupt-everybody, resume-everybody}

module _ (m : BlockModel) (tape : List (List ℕ)) where
  -- ---- Families by the records

  -- who was made before a record keeps its family
  family-kept : (r : Logged) (l : List Logged) (n : ℕ) → n ≤ made_by m tape l → family_by m tape (r ∷ l) n ≡ family_by m tape l n
  unfolding family_by
  family-kept r l n h = rw (le-ltb (made_by m tape l) n h) (go (entered m tape r))
    where
      go : (b : Bool)
          → cond (b && false && leb n (made_by m tape l + (facts_at m tape r).copies)) (family_by m tape l r.entry.transaction)
          (family_by m tape l n) ≡ family_by m tape l n
      go true = refl
      go false = refl

  -- a copy has the family of the original
  family_copy : (r : Logged) (l : List Logged) (n : ℕ) → entered m tape r ≡ true → made_by m tape l < n
      → n ≤ made_by m tape l + (facts_at m tape r).copies
      → family_by m tape (r ∷ l) n ≡ family_by m tape l r.entry.transaction
  unfolding family_by
  family_copy r l n e low high = rw (e, lt-ltb (made_by m tape l) n low, le-leb n (made_by m tape l + (facts_at m tape r).copies) high)

  -- a number not made yet is its own
  family-new : (l : List Logged) (n : ℕ) → made_by m tape l < n → family_by m tape l n ≡ n
  unfolding family_by made_by
  family-new [] n h = refl
  family-new (r ∷ l) n h = go (entered m tape r) h (family-new l n)
    where
      more : ℕ
      more = bit (gets_time m tape (facts_at m tape r) (used_by m tape l)) + (facts_at m tape r).copies

      go : (b : Bool) → cond b more 0 + made_by m tape l < n → (made_by m tape l < n → family_by m tape l n ≡ n)
          → cond (b && ltb (made_by m tape l) n && leb n (made_by m tape l + (facts_at m tape r).copies))
          (family_by m tape l r.entry.transaction) (family_by m tape l n) ≡ n
      go true h older =
          rw (lt-ltb (made_by m tape l) n (omega arith), lt-leb n (made_by m tape l + (facts_at m tape r).copies) (omega arith))
          (older (omega arith))
      go false h older = older (omega arith)

  -- ---- Definition

  -- made already, and of the family that the records tell
  abbrev Kin : List Logged → (made : ℕ) → Transaction → Type 0
  Kin records made t = (t.number ≤ made) × (t.family ≡ family_by m tape records t.number)

  unmoved : (records : List Logged) (made : ℕ) → Unmoved (Kin records made)
  unmoved records made = record { mark = λ b t h. h; serial = λ n t h. h }

  abbrev pub Kindred : State → Type 0
  Kindred s = Everybody (Kin s.records s.made) s

  everybody-up : {P Q : Transaction → Type 0} → ((t : Transaction) → P t → Q t) → (s : State) → Everybody P s → Everybody Q s
  everybody-up f s h = everybody-map (λ t p q. f t p) s h h

  -- ---- Moves

  kindred-move_to : (n : ℕ) (t : Transaction) (s : State) → Kin s.records s.made t → Kindred s → Kindred (move_to n t s)
  kindred-move_to n t s p h = unfold move_to in (move_to-everybody _ (unmoved s.records s.made) n t s p h)

  kindred-to_rel : (t : Transaction) (s : State) → Kin s.records s.made t → Kindred s → Kindred (to_rel t s)
  kindred-to_rel t s p h = unfold to_rel in (to_rel-everybody _ (unmoved s.records s.made) t s p h)

  kindred-to_ql : (v : ℕ) (t : Transaction) (s : State) → Kin s.records s.made t → Kindred s → Kindred (to_ql m.edition v t s)
  kindred-to_ql v t s p h = unfold to_ql in (to_ql-everybody _ (unmoved s.records s.made) m.edition v t s p h)

  kindred-to_wel : (v : ℕ) (code : Code) (t : Transaction) (s : State) → Kin s.records s.made t → Kindred s
      → Kindred (to_wel m.edition v code t s)
  kindred-to_wel v code t s p h = unfold to_wel in (to_wel-everybody _ (unmoved s.records s.made) m.edition v code t s p h)

  kindred-to_wsl : (t : Transaction) (s : State) → Kin s.records s.made t → Kindred s → Kindred (to_wsl t s)
  kindred-to_wsl t s p h = unfold to_wsl in (to_wsl-everybody _ (unmoved s.records s.made) t s p h)

  kindred-interrupt : (e : Event) (t : Transaction) (f : ℕ) (s : State) → Kin s.records s.made e.who → Kindred s
      → Kindred (interrupt e t f s)
  kindred-interrupt e t f s p h = unfold interrupt in (interrupt-everybody _ (unmoved s.records s.made) e t f s p h)

  kindred-resume : (i : Interrupted) (f : ℕ) (s : State) → Kin s.records s.made i.who → Kindred s → Kindred (resume i f s)
  kindred-resume i f s p h = unfold resume to_fel in (resume-everybody _ (unmoved s.records s.made) i f s p h)

  kindred-to_gatherers : (t : Transaction) (s : State) → Kin s.records s.made t → Kindred s → Kindred (to_gatherers t s)
  kindred-to_gatherers t s p h = unfold to_gatherers in (to_gatherers-everybody _ (unmoved s.records s.made) t s p h)

  kindred-wake_first_wel : (v : ℕ) (code : Code) (s : State) → Kindred s → Kindred (wake_first_wel v code s)
  kindred-wake_first_wel v code s h = unfold wake_first_wel in (wake_first_wel-everybody _ (unmoved s.records s.made) v code s h)

  kindred-check_wels : (v : ℕ) (s : State) → Kindred s → Kindred (check_wels v s)
  kindred-check_wels v s h = check_wels-kept Kindred v (kindred-wake_first_wel v) s h

  kindred-wake_for : (x : Share) (s : State) → Kindred s → Kindred (wake_for m x s)
  kindred-wake_for x s h = unfold wake_for wake_ql in (wake_for-everybody _ (unmoved s.records s.made) m x s h)

  kindred_use : (v n holder : ℕ) (preempted : Bool) (s : State) → Kindred s → Kindred (set_use v n holder preempted s)
  unfolding set_use
  kindred_use v n holder preempted s h =
      like _ (unmoved s.records s.made) s (set_use v n holder preempted s) refl refl refl refl refl refl refl refl h

  kindred-delay : (l : List ℕ) (list : ℕ) (t : Transaction) (s : State) → Kin s.records s.made t → Kindred s
      → Kindred (delay l list t s)
  unfolding delay to_fel
  kindred-delay [] list t s p h = h
  kindred-delay (time ∷ l) list t s p h = delay-everybody _ (unmoved s.records s.made) (time ∷ l) list t s (λ time. p) h

  -- ---- Making

  -- one founds a family of its own
  kindred-arrival : (l : List ℕ) (list p n : ℕ) (s : State) → family_by m tape s.records (suc s.made) ≡ suc s.made → Kindred s
      → Kindred (arrival l list p n s)
  unfolding arrival newborn to_fel
  kindred-arrival [] list p n s own h = h
  kindred-arrival (time ∷ l) list p n s own h =
      let made : State = set_made (suc s.made) (use_time list s) in
      let P : Transaction → Type 0 = Kin s.records (suc s.made) in
      to_fel-everybody P (unmoved s.records (suc s.made)) (s.view.clock + time) (newborn (suc s.made) p n) made
      (omega arith, sym own)
      (like P (unmoved s.records (suc s.made)) s made refl refl refl refl refl refl refl refl
      (everybody-up (λ t p. (omega (arith, p.0), p.1)) s h))

  kindred-copies : (n target : ℕ) (t : Transaction) (s : State)
      → ((k : ℕ) → s.made < k → k ≤ s.made + n → t.family ≡ family_by m tape s.records k)
      → Kindred s → Kindred (copies n target t s)
  unfolding copies
  kindred-copies zero target t s of h = h
  kindred-copies (suc n) target t s of h =
      let made : State = set_made (suc s.made) s in
      let P : Transaction → Type 0 = Kin s.records (suc s.made) in
      kindred-copies n target t (to_rel (copy_of t (suc s.made) target) made)
      (unfold to_rel in (λ k low high. of k (omega arith) (omega arith)))
      (kindred-to_rel (copy_of t (suc s.made) target) made (omega arith, of (suc s.made) (omega arith) (omega arith))
      (like P (unmoved s.records (suc s.made)) s made refl refl refl refl refl refl refl refl
      (everybody-up (λ t p. (omega (arith, p.0), p.1)) s h)))

  -- ---- One block, for the transaction t whose next block it is

  module _ (t : Transaction) (s : State) (p : Kin s.records s.made t) (h : Kindred s)
      (makes : s.made ≡ made_by m tape s.records) where
    -- a record leaves everybody's family
    kin-more : (r : Logged) (u : Transaction) → Kin s.records s.made u → Kin (r ∷ s.records) s.made u
    kin-more r u q = (q.0, q.1 ∙ sym (family-kept r s.records u.number (omega (arith, q.0))))

    kindred-log : Kindred (set_serial (fresh s) (log 1 t s))
    unfolding log record_of
    kindred-log =
        like _ (unmoved _ s.made) s (set_serial (fresh s) (log 1 t s)) refl refl refl refl refl refl refl refl
        (everybody-up (kin-more (record { entry = record_of 1 t s; priority = t.priority })) s h)

    kindred-begin : (put : Transaction → State → State)
        → ((u : Transaction) (x : State) → Kin x.records x.made u → Kindred x → Kindred (put u x)) → Kindred (begin_wait put t s)
    unfolding log record_of
    kindred-begin put kept = kept (with_serial (fresh s) t) (set_serial (fresh s) (log 1 t s)) (kin-more _ t p) kindred-log

    kindred_wait : (put : Transaction → State → State)
        → ((u : Transaction) (x : State) → Kin x.records x.made u → Kindred x → Kindred (put u x)) → Kindred (must_wait put t s)
    unfolding must_wait
    kindred_wait put kept = cond_cases Kindred t.returning _ _ (λ e. kept t s p h) (λ e. kindred-begin put kept)

    p' : Kin (enters t s).records (enters t s).made t
    unfolding enters log record_of
    p' = kin-more _ t p

    h' : Kindred (enters t s)
    unfolding enters log record_of
    h' =
        like _ (unmoved _ s.made) s (enters t s) refl refl refl refl refl refl refl refl
        (everybody-up (kin-more (record { entry = record_of 0 t s; priority = t.priority })) s h)

    ended : Kindred (set_ended (suc (enters t s).ended) (enters t s))
    ended =
        like _ (unmoved (enters t s).records (enters t s).made) (enters t s)
        (set_ended (suc (enters t s).ended) (enters t s)) refl refl refl refl refl refl refl refl h'

    -- the number that a GENERATE gives next
    next-own : {b : Block} → block_at m t.next ≡ b → (facts b).copies ≡ 0
        → family_by m tape (enters t s).records (suc s.made) ≡ suc s.made
    unfolding enters log record_of family_by
    next-own e makes_none =
        rw (ap (λ b. (facts b).copies) e ∙ makes_none, lt-leb (suc s.made) (made_by m tape s.records + 0) (omega (arith, makes)))
        (go (ltb (made_by m tape s.records) (suc s.made)))
      where
        go : (b : Bool)
            → cond (true && b && false) (family_by m tape s.records t.number) (family_by m tape s.records (suc s.made)) ≡ suc
            s.made
        go true = family-new s.records (suc s.made) (omega (arith, makes))
        go false = family-new s.records (suc s.made) (omega (arith, makes))

    of_original : (n : ℕ) → (facts (block_at m t.next)).copies ≡ n → (k : ℕ) → s.made < k → k ≤ s.made + n
        → t.family ≡ family_by m tape (enters t s).records k
    unfolding enters log record_of
    of_original n e k low high =
        p.1 ∙ sym
        (family_copy (record { entry = record_of 0 t s; priority = t.priority }) s.records k refl (omega (arith, makes))
        (omega (arith, makes, e)))

    -- ---- With the one that moves

    abbrev Beside : State → Type 0
    Beside s' = Kin s'.records s'.made t × Kindred s'

    goes_on : (n : ℕ) (s' : State) → Beside s' → Kindred (move_to n t s')
    goes_on n s' h = kindred-move_to n t s' h.0 h.1

    beside-arrival : (l : List ℕ) (list q n : ℕ) (s' : State) → family_by m tape s'.records (suc s'.made) ≡ suc s'.made → Beside s'
        → Beside (arrival l list q n s')
    beside-arrival l list q n s' own h = (kin l, kindred-arrival l list q n s' own h.1)
      where
        kin : (l : List ℕ) → Kin (arrival l list q n s').records (arrival l list q n s').made t
        kin [] = unfold arrival in h.0
        kin (time ∷ l) = unfold arrival to_fel in (omega (arith, h.0.0), h.0.1)

    beside-check_wels : (v : ℕ) (s' : State) → Beside s' → Beside (check_wels v s')
    beside-check_wels v s' h =
        check_wels-kept Beside v (λ code x h. (unfold wake_first_wel in h.0, kindred-wake_first_wel v code x h.1)) s' h

    beside-wake_for : (x : Share) (s' : State) → Beside s' → Beside (wake_for m x s')
    beside-wake_for x s' h = (unfold wake_for wake_ql in h.0, kindred-wake_for x s' h.1)

    beside_use : (v n holder : ℕ) (preempted : Bool) (s' : State) → Beside s' → Beside (set_use v n holder preempted s')
    beside_use v n holder preempted s' h = (unfold set_use in h.0, kindred_use v n holder preempted s' h.1)

    -- its WELs are checked, and it goes on
    checked : (v : ℕ) (s' : State) → Beside s' → Kindred (go_on_lem t (check_wels v s'))
    checked v s' h = goes_on (suc t.next) (check_wels v s') (beside-check_wels v s' h)

    kin-copies : (n target : ℕ) (s' : State) → Kin s'.records s'.made t
        → Kin (copies n target t s').records (copies n target t s').made t
    unfolding copies to_rel
    kin-copies zero target s' k = k
    kin-copies (suc n) target s' k = kin-copies n target _ (omega (arith, k.0), k.1)

    content : (q n : ℕ) → Beside (set_content q n (enters t s))
    unfolding set_content
    content q n = (
      p',
      like _ (unmoved (enters t s).records (enters t s).made) (enters t s)
          (set_content q n (enters t s)) refl refl refl refl refl refl refl refl h',
    )

    entered_beside : Beside (enters t s)
    entered_beside = (p', h')

    kindred-takes : (x : Share) (preempts : Bool) → Kindred (take_units m x preempts t s)
    kindred-takes x preempts =
        let v : ℕ = share_server x in
        let units : ℕ = (server_at s.view v).in_use + share_units x in
        let holder : ℕ = share_holder x t.number in
        takes-cases Kindred m x preempts t s
        (λ fit. checked v (set_use v units holder preempts (enters t s)) (beside_use v units holder preempts (enters t s) entered_beside))
        (λ full. kindred_wait (to_ql m.edition v) (kindred-to_ql v))

    beside-free : (v b : ℕ) → Beside (free_units v b (enters t s))
    beside-free v b = beside_use v ((server_at (enters t s).view v).in_use - b) 0 false (enters t s) entered_beside

    beside-interrupt : (x : Event) (f : ℕ) (l : List Event) → losers_to t f s ≡ x ∷ l → Beside (interrupt x t f (enters t s))
    unfolding server_at
    beside-interrupt x f l k = (
      unfold interrupt in p',
      kindred-interrupt x t f _
          (unfold enters log in (loser-everybody _ (unmoved _ _) t f (enters t s) x l k h')) h',
    )

    beside-resume : (i : Interrupted) (f n : ℕ) (l : List Interrupted) → interrupted_at s f ≡ i ∷ l
        → Beside (resume i f (set_holder f n false (enters t s)))
    beside-resume i f n l k =
        let held : Beside (set_holder f n false (enters t s)) = beside_use f _ _ _ _ entered_beside in (
          unfold resume to_fel in held.0,
          kindred-resume i f _
              (unfold enters log set_use in (interrupted-everybody _ (unmoved _ _) f (set_holder f n false (enters t s)) i l k held.1))
              held.1,
        )

    effect-kindred : (b : Block) → block_at m t.next ≡ b → Kindred (effect m b t s)
    unfolding effect take_units facts
    effect-kindred (generate list q) e =
        goes_on (suc t.next) (arrival (times_left s list) list q t.next (enters t s))
        (beside-arrival (times_left s list) list q t.next (enters t s) (unfold enters log in (next-own e refl)) entered_beside)
    effect-kindred (advance list) e = kindred-delay _ list t (enters t s) p' h'
    effect-kindred (terminate a) e =
        unfold ends_one in
        (like _ (unmoved (enters t s).records (enters t s).made) (enters t s)
        (ends_one a (enters t s)) refl refl refl refl refl refl refl refl h')
    effect-kindred (takes x) e = kindred-takes x false
    effect-kindred (frees x) e =
        let v : ℕ = share_server x in
        let freed : State = free_units v (share_units x) (enters t s) in
        checked v (wake_for m x freed) (beside-wake_for x freed (beside-free v (share_units x)))
    effect-kindred (wait_server code v c) e =
        wait_server-cases Kindred m code v c t s (λ holds. kindred_wait (to_wel m.edition v code) (kindred-to_wel v code))
        (λ late. kindred-move_to _ t _ (unfold wake_first_wel in p) (kindred-wake_first_wel v code s h))
        (λ now. kindred-move_to _ _ _ (unfold wake_first_wel in p') (kindred-wake_first_wel v code (enters t s) h'))
    effect-kindred (wait_terms a r b) e =
        wait_terms-cases Kindred m a r b t s (λ holds. kindred_wait to_wsl kindred-to_wsl) (λ passes. goes_on _ (enters t s) entered_beside)
    effect-kindred (moves c target) e = goes_on _ (enters t s) entered_beside
    effect-kindred (assign i a) e = kindred-move_to _ _ (enters t s) p' h'
    effect-kindred (priority q) e = kindred-to_rel _ (enters t s) p' h'
    effect-kindred (split n target) e =
        goes_on (suc t.next) (copies n target t (enters t s)) (
          kin-copies n target (enters t s) p',
          kindred-copies n target t (enters t s) (unfold enters log in (of_original n (ap (λ b. (facts b).copies) e))) h',
        )
    effect-kindred (counts c q) e = goes_on _ _ (content q _)
    effect-kindred (assemble n) e =
        assemble-cases Kindred m n t s (λ first. kindred-begin to_gatherers kindred-to_gatherers)
        (λ g l waits last.
        unfold released to_rel in
        (released-everybody _ (unmoved (enters t s).records (enters t s).made) g t later (waiter g l waits) ended))
        (λ g l waits more.
        unfold comes in (comes-everybody _ (unmoved (enters t s).records (enters t s).made) g t later (waiter g l waits) ended))
      where
        later : State
        later = set_ended (suc (enters t s).ended) (enters t s)

        waiter : (g : Gatherer) (l : List Gatherer) → waits_for t s ≡ g ∷ l
            → Kin (enters t s).records (enters t s).made g.who
        waiter g l e = unfold enters log in (waiter-everybody _ (unmoved (enters t s).records (enters t s).made) t later g l e ended)
    effect-kindred (preempt f) e =
        preempt-cases Kindred m f t s (λ k. kindred-takes (facility f) true)
        (λ x l k. taken-over x (beside-interrupt x f l k))
      where
        taken-over : (x : Event) → Beside (interrupt x t f (enters t s))
            → Kindred (go_on_lem t (check_wels f (set_holder f t.number true (interrupt x t f (enters t s)))))
        taken-over x b =
            let lost : State = interrupt x t f (enters t s) in
            checked f (set_holder f t.number true lost) (beside_use f (server_at lost.view f).in_use t.number true lost b)
    effect-kindred (give_back f) e =
        give_back-cases Kindred m f t s
        (λ k. checked f (wake_for m (facility f) (free_units f 1 (enters t s)))
        (beside-wake_for (facility f) (free_units f 1 (enters t s)) (beside-free f 1)))
        (λ i l k. checked f (resume i f (set_holder f i.who.number false (enters t s))) (beside-resume i f i.who.number l k))

  -- ---- A turn

  kindred-answer : (n : ℕ) (t : Transaction) (s : State) → Kin s.records s.made t → s.made ≡ made_by m tape s.records → Kindred s
      → Kindred (answer n m (block_at m t.next) t s)
  unfolding answer
  kindred-answer zero t s p makes h =
      effect-kindred t (set_moving none s) p
      (record {
        ql = h.ql;
        wel = h.wel;
        wsl = h.wsl;
        rel = h.rel;
        fel = h.fel;
        gatherers = h.gatherers;
        interrupted = h.interrupted;
        moving = tt;
      }) makes (block_at m t.next) refl
  kindred-answer (suc n) t s p makes h = like _ (unmoved s.records s.made) s _ refl refl refl refl refl refl refl refl h

  kindred-execute : (o : Option Transaction) (s : State) → Maybe (Kin s.records s.made) o → s.made ≡ made_by m tape s.records
      → Kindred s → Kindred (execute o m s)
  unfolding execute
  kindred-execute none s p makes h = h
  kindred-execute (some t) s p makes h = kindred-answer _ t s p makes h

  kindred-ws_scheme : (s : State) → Kindred s → Kindred (ws_scheme m s)
  kindred-ws_scheme s h =
      ws_scheme-cases Kindred m s (λ e. unfold wake_wsl in (wake_wsl-everybody _ (unmoved s.records s.made) _ s h)) (λ e. h)

  -- the taking writes nothing and makes nobody
  pub kindred-taking : (s : State) → Sound m tape s → Kindred s → Kindred (taking s.moving s)
  unfolding taking
  kindred-taking s sound h =
      let made : (taking s.moving s).made ≡ s.made =
      (sound-taking m tape s sound).books.makes ∙ ap (made_by m tape) (taking-records s.moving s) ∙ sym sound.books.makes in
      rw (made, taking-records s.moving s) (taking-everybody _ (unmoved s.records s.made) s.moving s h)

  pub kindred-turn : (s : State) → Sound m tape s → Kindred s → Kindred (turn m s)
  unfolding turn
  kindred-turn s sound h =
      let k : Kindred (taking s.moving s) = kindred-taking s sound h in
      let taken : State = set_turns (suc s.turns) (taking s.moving s) in
      let k' : Kindred taken =
      like _ (unmoved taken.records taken.made) (taking s.moving s) taken refl refl refl refl refl refl refl refl k in
      kindred-ws_scheme _ (kindred-execute taken.moving taken k'.moving (sound-taking m tape s sound).books.makes k')

  -- ---- The start

  start_at-kindred : (n : ℕ) (l : List Block) (s : State) → s.records ≡ [] → Kindred s → Kindred (start_at n l s)
  unfolding start_at
  start_at-kindred n [] s e h = h
  start_at-kindred n (b ∷ l) s e h =
      let x = start_of-cases (λ s'. (s'.records ≡ []) × Kindred s') b n s (λ z. (e, h))
      (λ z. (arrival-records _ _ _ n s ∙ e, kindred-arrival _ _ _ n s (own s.records e) h)) in
      start_at-kindred (suc n) l _ x.0 x.1
    where
      own : (l : List Logged) → l ≡ [] → family_by m tape l (suc s.made) ≡ suc s.made
      own l z = unfold family_by in (rw z)

      arrival-records : (l : List ℕ) (list p n : ℕ) (s : State) → (arrival l list p n s).records ≡ s.records
      arrival-records [] list p n s = unfold arrival in refl
      arrival-records (time ∷ l) list p n s = unfold arrival to_fel in refl

  pub kindred-start : Kindred (start m tape)
  unfolding start idle
  kindred-start = start_at-kindred 1 m.blocks (idle m tape) refl (idle-everybody _ (unmoved [] 0) m tape)

  -- ---- What the claim says

  -- of the invariant, what demand 3 asks for
  pub kindred-families : (s : State) → Kindred s → Each (λ t. t.family ≡ family_by m tape s.records t.number) (everyone s)
  kindred-families s h = each_map (λ t p. p.1) (everyone s) (everybody-each _ s h)
