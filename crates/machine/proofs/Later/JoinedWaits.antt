-- "Whoever enters a kind 17 block entered its whole group at that clock" (document 02, item 7). Whoever stands inside a group came through
-- its first block, at its stamp, and through every block since: their last entries lie between the stamp and the clock. It enters the
-- kind 17 block only where the two are one.
use Rattle.machine.specs.All.{ℕ, zero, suc, ◌+◌, ◌-◌, ◌≤◌, ◌<◌, ◌≡◌, refl, sym, ap, subst, ◌∙◌, Bool, true, false, cond, ◌&&◌, true≢false, List, [], ◌∷◌, map, Option, none, some, arith, eq-eqb, ne_eqb, ltb-true, ltb-false, lt-ltb, eqb, ltb, leb, get_or, Transaction, Event, newborn, earlier, Gatherer, Interrupted, others, flat, truth, Code, Share, share_server, share_units, Block, generate, advance, terminate, takes, frees, wait_server, wait_terms, moves, assign, priority, split, counts, assemble, preempt, give_back, facts, BlockModel, block_at, back_at, begins_group, State, Logged, with_next, with_serial, with_returning, set_moving, set_turns, set_serial, set_ended, record_of, log, enters, move_to, fresh, to_rel, to_fel, to_ql, to_wel, to_wsl, must_wait, wake_ql, wake_first_wel, wake_wsl, set_use, set_content, arrival, copies, begin_wait, to_gatherers, comes, released, interrupt, resume, stamped, take_units, wake_for, check_wels, ends_one, delay, effect, sample, arrive_all, move_clock, next_events, take_first, take_ready, taking, answer, execute, ws_scheme, turn, idle, start_at, start, states, moving_one, Each, standing, everyone, last_entry, WholeGroup, Joined, Stamped, server_at, free, facility, due}
use Rattle.machine.proofs as our
use our.Decoding.Proper.{ProperBlock, Proper, Role, generating, taking as taking-role, neither, role, preempting}
use our.{Runs.RunLaws.each-state, Basic.Bools.cond_cases, Runs.Ahead.Rising}
use our.Basic.Each.{each_map, each-insert, each-those, each_replace}
use our.Lists.Cases.{check_wels-kept, wait_server-cases, wait_terms-cases, ws_scheme-cases, start_of-cases, assemble-cases, preempt-cases, give_back-cases}
use our.Lists.Sums.{sum_on, sum-append, sum-map}
use our.Conservation.Conservation.{Sound, sound-start, sound-taking, sound-turn, stands-at-most-once}
use our.Order.Taken.{has, has-own, standing-sum}
use our.Decoding.Groups.{Wait8, first_of, back-within, group-waits, apart, begins, begins-none, target-outside}
use our.Runs.Ahead.{Ahead, rising-insert, rising-those, rising-without}
use our.Runs.Everybody.{Maybe, Everybody, Unmoved, like as everybody-like, everybody-map, everybody-each, to_rel-everybody, to_fel-everybody, to_ql-everybody, to_wel-everybody, to_wsl-everybody, move_to-everybody, wake_for-everybody, wake_first_wel-everybody, wake_wsl-everybody, idle-everybody, to_gatherers-everybody, comes-everybody, released-everybody, waiter-everybody, interrupt-everybody}

-- ---- Last entries

-- a record of another outcome or number leaves them
entry_else : (n b : ℕ) (r : Logged) (l : List Logged) → (eqb r.entry.outcome 0 && eqb r.entry.transaction n) ≡ false
    → last_entry n b (r ∷ l) ≡ last_entry n b l
unfolding last_entry
entry_else n b r l e = rw e

-- so does one at another block
entry-block : (n b : ℕ) (r : Logged) (l : List Logged) → (r.entry.block ≡ b → ⊥) → last_entry n b (r ∷ l) ≡ last_entry n b l
unfolding last_entry
entry-block n b r l d = go (eqb r.entry.outcome 0 && eqb r.entry.transaction n)
  where
    go : (x : Bool) → cond (x && eqb r.entry.block b) (some r.entry.clock) (last_entry n b l) ≡ last_entry n b l
    go true = rw (ne_eqb r.entry.block b d)
    go false = refl

-- and none is after the clock
entry_bound : (clock n b x : ℕ) (l : List Logged) → Each (λ (r : Logged). r.entry.clock ≤ clock) l → last_entry n b l ≡ some x → x ≤ clock
unfolding last_entry
entry_bound clock n b x [] h e = absurd (nothing e)
  where
    nothing : none ≡ some x → ⊥
    nothing z = let q : ◌≡◌ {A = ℕ} 0 1 = cc in omega arith
entry_bound clock n b x (r ∷ l) h e =
    go (eqb r.entry.outcome 0 && eqb r.entry.transaction n && eqb r.entry.block b) e (entry_bound clock n b x l h.1)
  where
    go : (y : Bool) → cond y (some r.entry.clock) (last_entry n b l) ≡ some x → (last_entry n b l ≡ some x → x ≤ clock) → x ≤ clock
    go true e k = let same : r.entry.clock ≡ x = cc in omega (arith, h.0)
    go false e k = k e

-- ---- Nobody else has the number of the one that moves

module _ (n : ℕ) where
  abbrev Not : Transaction → Type 0
  Not t = t.number ≡ n → ⊥

  none_has : (l : List Transaction) → sum_on (has n) l ≡ 0 → Each Not l
  none_has [] e = tt
  none_has (t ∷ l) e = (λ same. omega (arith, has-own n t same), none_has l (omega arith))

  none-flat : (ls : List (List Transaction)) → sum_on (has n) (flat ls) ≡ 0 → Each (Each Not) ls
  unfolding flat
  none-flat [] e = tt
  none-flat (l ∷ ls) e =
      let parts = sum-append (has n) l (flat ls) in
      (none_has l (omega arith), none-flat ls (omega arith))

  none-who : (l : List Event) → sum_on (has n) (map (λ e. e.who) l) ≡ 0 → Each (λ (e : Event). Not e.who) l
  none-who [] e = tt
  none-who (x ∷ l) e = (λ same. omega (arith, has-own n x.who same), none-who l (omega arith))

  none-interrupted : (l : List Interrupted) → sum_on (has n) (map (λ i. i.who) l) ≡ 0 → Each (λ (i : Interrupted). Not i.who) l
  none-interrupted [] e = tt
  none-interrupted (x ∷ l) e = (λ same. omega (arith, has-own n x.who same), none-interrupted l (omega arith))

  none-gatherer : (l : List Gatherer) → sum_on (λ (g : Gatherer). has n g.who) l ≡ 0 → Each (λ (g : Gatherer). Not g.who) l
  none-gatherer [] e = tt
  none-gatherer (x ∷ l) e = (λ same. omega (arith, has-own n x.who same), none-gatherer l (omega arith))

  none-gathers : (ls : List (List Gatherer)) → sum_on (λ (g : Gatherer). has n g.who) (flat ls) ≡ 0
      → Each (Each (λ (g : Gatherer). Not g.who)) ls
  unfolding flat
  none-gathers [] e = tt
  none-gathers (l ∷ ls) e =
      let parts = sum-append (λ (g : Gatherer). has n g.who) l (flat ls) in
      (none-gatherer l (omega arith), none-gathers ls (omega arith))

  nobody_else : (s : State) (t : Transaction) → standing s n ≤ 1 → s.moving ≡ some t → t.number ≡ n → Everybody Not (set_moving none s)
  nobody_else s t once e same =
      let whole = standing-sum n s in
      let own = ap (λ o. sum_on (has n) (moving_one o)) e in
      let one : sum_on (has n) (moving_one (some t)) ≡ 1 = unfold moving_one in (omega (arith, has-own n t same)) in
      record {
        ql = none-flat s.ql (omega arith);
        wel = none-flat s.wel (omega arith);
        wsl = none_has s.wsl (omega arith);
        rel = none_has s.rel (omega arith);
        fel = none-who s.fel (omega arith);
        gatherers = none-gathers s.gatherers (omega (arith, sum-map (has n) (λ (g : Gatherer). g.who) (flat s.gatherers)));
        interrupted = none-interrupted s.interrupted (omega arith);
        moving = tt;
      }

-- the claims of one state
pub record Gathered (m : BlockModel) (tape : List (List ℕ)) (s : State) : Type 0 where
  pub joined : Joined m tape s.records
  pub stamps : Each (Stamped m tape s.records) (everyone s)

-- a GENERATE waits for nothing
plain-role : {b : Block} → Role b → ((facts b).generates ≡ 0 → ⊥) → ((facts b).wel ≡ 0) × ((facts b).back ≡ 0)
unfolding facts
plain-role (generating list p) n = (refl, refl)
plain-role (taking-role x) n = absurd (n refl)
plain-role (preempting f) n = absurd (n refl)
plain-role (neither e z) n = absurd (n e)

module _ {m : BlockModel} {tape : List (List ℕ)} (proper : Proper m tape) where
  abbrev first : ℕ → ℕ
  first k = first_of proper k

  -- ---- Blocks inside no group

  abbrev Outside : ℕ → Type 0
  Outside n = (k : ℕ) → first k < n → n ≤ k → ⊥

  -- the next block after one that is no wait of kind 8
  after-other : (n : ℕ) → (Wait8 (block_at m n) → ⊥) → Outside (suc n)
  after-other n other k low high = other (group-waits proper k n (omega arith) (omega arith))

  -- a block that waits for no server
  at_other : (n : ℕ) → (facts (block_at m n)).wel ≡ 0 → back_at m n ≡ 0 → Outside n
  at_other n off alone k low high = go (ltb n k) refl
    where
      go : (b : Bool) → ltb n k ≡ b → ⊥
      go true e = (group-waits proper k n (omega arith) (ltb-true _ _ e)).0 off
      go false e =
          let same : k ≡ n = omega (arith, ltb-false n k e) in
          omega (arith, ap (back_at m) same)

  -- the first block of a group
  at_first : (k : ℕ) → 1 ≤ back_at m k → Outside (first k)
  at_first k closes k' low high = go (ltb k' k) (ltb k k') refl refl
    where
      go : (a b : Bool) → ltb k' k ≡ a → ltb k k' ≡ b → ⊥
      go true b e q = omega (arith, (group-waits proper k k' high (ltb-true _ _ e)).1)
      go false true e q = apart proper k k' closes (omega arith) (ltb-true _ _ q)
      go false false e q =
          let same : k' ≡ k = omega (arith, ltb-false k' k e, ltb-false k k' q) in
          omega (arith, ap (back_at m) same)

  -- ---- Definition

  -- the last entry of block i, which stands in the group that block k closes
  record Came (records : List Logged) (t : Transaction) (k i : ℕ) : Type 0 where
    clock : ℕ
    last : last_entry t.number i records ≡ some clock
    since : t.stamp ≤ clock
    at-start : i ≡ first k → clock ≡ t.stamp

  abbrev Inside : List Logged → Transaction → Type 0
  Inside records t = (k : ℕ) → first k < t.next → t.next ≤ k → (i : ℕ) → first k ≤ i → i < t.next → Came records t k i

  outside : (records : List Logged) (t : Transaction) → Outside t.next → Inside records t
  outside records t out k low high i a b = absurd (out k low high)

  unmoved : (records : List Logged) → Unmoved (Inside records)
  unmoved records =
      record {
        mark = λ b t h k low high i a c. again b t.serial t (h k low high i a c);
        serial = λ n t h k low high i a c. again t.returning n t (h k low high i a c);
      }
    where
      again : (b : Bool) (n : ℕ) (t : Transaction) {k i : ℕ} → Came records t k i → Came records (with_returning b (with_serial n t)) k i
      again b n t h = record { clock = h.clock; last = h.last; since = h.since; at-start = h.at-start }

  -- a record that leaves the last entries of a transaction
  inside-more : (r : Logged) (records : List Logged) (t : Transaction)
      → (eqb r.entry.outcome 0 && eqb r.entry.transaction t.number) ≡ false
      → Inside records t → Inside (r ∷ records) t
  inside-more r records t else h k low high i a b =
      let c = h k low high i a b in
      record { clock = c.clock; last = entry_else t.number i r records else ∙ c.last; since = c.since; at-start = c.at-start }

  record Joins (s : State) : Type 0 where
    everybody : Everybody (Inside s.records) s
    joined : Joined m tape s.records
    clocks : Each (λ (r : Logged). r.entry.clock ≤ s.view.clock) s.records
    ahead : Ahead s
    -- who is delayed or interrupted stands inside no group
    delayed : Each (λ (e : Event). Outside e.who.next) s.fel
    interrupted : Each (λ (i : Interrupted). Outside i.who.next) s.interrupted

  -- ---- Moves that write nothing

  -- where records, clock, FEL and the interrupted ones stay
  lists : (s s' : State) → s'.records ≡ s.records → s'.view.clock ≡ s.view.clock → s'.fel ≡ s.fel
      → s'.interrupted ≡ s.interrupted → Everybody (Inside s.records) s' → Joins s → Joins s'
  lists s s' records clock fel interrupted everybody h =
      record {
        everybody = rw (← records) at everybody;
        joined = rw records h.joined;
        clocks = rw (records, clock) h.clocks;
        ahead = record { later = rw (fel, clock) h.ahead.later; rising = rw fel h.ahead.rising };
        delayed = rw fel h.delayed;
        interrupted = rw interrupted h.interrupted;
      }

  -- everybody stands where it stood
  like : (s s' : State) → s'.records ≡ s.records → s'.view.clock ≡ s.view.clock → s'.ql ≡ s.ql → s'.wel ≡ s.wel
      → s'.wsl ≡ s.wsl → s'.rel ≡ s.rel
      → s'.fel ≡ s.fel → s'.moving ≡ s.moving → s'.gatherers ≡ s.gatherers → s'.interrupted ≡ s.interrupted → Joins s → Joins s'
  like s s' records clock ql wel wsl rel fel moving gatherers interrupted h =
      lists s s' records clock fel interrupted
      (record {
        ql = rw ql h.everybody.ql;
        wel = rw wel h.everybody.wel;
        wsl = rw wsl h.everybody.wsl;
        rel = rw rel h.everybody.rel;
        fel = rw fel h.everybody.fel;
        gatherers = rw gatherers h.everybody.gatherers;
        interrupted = rw interrupted h.everybody.interrupted;
        moving = rw moving h.everybody.moving;
      })
      h

  joins-move_to : (n : ℕ) (t : Transaction) (s : State) → Inside s.records (with_next n t) → Joins s → Joins (move_to n t s)
  joins-move_to n t s p h =
      lists s _ (unfold move_to in refl) (unfold move_to in refl) (unfold move_to in refl) (unfold move_to in refl)
      (move_to-everybody _ (unmoved s.records) n t s p h.everybody) h

  joins-to_rel : (t : Transaction) (s : State) → Inside s.records t → Joins s → Joins (to_rel t s)
  joins-to_rel t s p h =
      lists s _ (unfold to_rel in refl) (unfold to_rel in refl) (unfold to_rel in refl) (unfold to_rel in refl)
      (to_rel-everybody _ (unmoved s.records) t s p h.everybody) h

  joins-to_fel : (time : ℕ) (t : Transaction) (s : State) → s.view.clock ≤ time → Outside t.next → Joins s → Joins (to_fel time t s)
  unfolding to_fel
  joins-to_fel time t s le out h =
      record {
        everybody = to_fel-everybody _ (unmoved s.records) time t s (outside _ _ out) h.everybody;
        joined = h.joined;
        clocks = h.clocks;
        ahead =
            record {
              later = each-insert (λ (e : Event). s.view.clock ≤ e.time) earlier _ s.fel le h.ahead.later;
              rising = rising-insert _ s.fel h.ahead.rising;
            };
        delayed = each-insert (λ (e : Event). Outside e.who.next) earlier _ s.fel out h.delayed;
        interrupted = h.interrupted;
      }

  joins-to_ql : (edition v : ℕ) (t : Transaction) (s : State) → Inside s.records t → Joins s → Joins (to_ql edition v t s)
  joins-to_ql edition v t s p h =
      lists s _ (unfold to_ql in refl) (unfold to_ql in refl) (unfold to_ql in refl) (unfold to_ql in refl)
      (to_ql-everybody _ (unmoved s.records) edition v t s p h.everybody) h

  joins-to_wel : (edition v : ℕ) (code : Code) (t : Transaction) (s : State) → Inside s.records t → Joins s
      → Joins (to_wel edition v code t s)
  joins-to_wel edition v code t s p h =
      lists s _ (unfold to_wel in refl) (unfold to_wel in refl) (unfold to_wel in refl) (unfold to_wel in refl)
      (to_wel-everybody _ (unmoved s.records) edition v code t s p h.everybody) h

  joins-to_wsl : (t : Transaction) (s : State) → Inside s.records t → Joins s → Joins (to_wsl t s)
  joins-to_wsl t s p h =
      lists s _ (unfold to_wsl in refl) (unfold to_wsl in refl) (unfold to_wsl in refl) (unfold to_wsl in refl)
      (to_wsl-everybody _ (unmoved s.records) t s p h.everybody) h

  joins-to_gatherers : (t : Transaction) (s : State) → Inside s.records t → Joins s → Joins (to_gatherers t s)
  joins-to_gatherers t s p h =
      lists s _ (unfold to_gatherers in refl) (unfold to_gatherers in refl) (unfold to_gatherers in refl) (unfold to_gatherers in refl)
      (to_gatherers-everybody _ (unmoved s.records) t s p h.everybody) h

  joins-comes : (g : Gatherer) (t : Transaction) (s : State) → Inside s.records g.who → Joins s → Joins (comes g t s)
  joins-comes g t s p h =
      lists s _ (unfold comes in refl) (unfold comes in refl) (unfold comes in refl) (unfold comes in refl)
      (comes-everybody _ (unmoved s.records) g t s p h.everybody) h

  joins-released : (g : Gatherer) (t : Transaction) (s : State) → Inside s.records (with_next (suc t.next) g.who) → Joins s
      → Joins (released g t s)
  joins-released g t s p h =
      lists s _ (unfold released to_rel in refl) (unfold released to_rel in refl) (unfold released to_rel in refl)
      (unfold released to_rel in refl) (released-everybody _ (unmoved s.records) g t s p h.everybody) h

  joins-wake_first_wel : (v : ℕ) (code : Code) (s : State) → Joins s → Joins (wake_first_wel v code s)
  joins-wake_first_wel v code s h =
      lists s _ (unfold wake_first_wel in refl) (unfold wake_first_wel in refl) (unfold wake_first_wel in refl) (unfold wake_first_wel in refl)
      (wake_first_wel-everybody _ (unmoved s.records) v code s h.everybody) h

  joins-check_wels : (v : ℕ) (s : State) → Joins s → Joins (check_wels v s)
  joins-check_wels v s h = check_wels-kept Joins v (joins-wake_first_wel v) s h

  joins-wake_for : (x : Share) (s : State) → Joins s → Joins (wake_for m x s)
  joins-wake_for x s h =
      lists s _ (unfold wake_for wake_ql in refl) (unfold wake_for wake_ql in refl) (unfold wake_for wake_ql in refl)
      (unfold wake_for wake_ql in refl) (wake_for-everybody _ (unmoved s.records) m x s h.everybody) h

  joins_use : (v n holder : ℕ) (preempted : Bool) (s : State) → Joins s → Joins (set_use v n holder preempted s)
  unfolding set_use
  joins_use v n holder preempted s h = like s _ refl refl refl refl refl refl refl refl refl refl h

  joins-interrupt : (e : Event) (t : Transaction) (f : ℕ) (s : State) → Outside e.who.next → Joins s → Joins (interrupt e t f s)
  unfolding interrupt
  joins-interrupt e t f s out h =
      record {
        everybody = interrupt-everybody _ (unmoved s.records) e t f s (outside _ _ out) h.everybody;
        joined = h.joined;
        clocks = h.clocks;
        ahead =
            record {
              later = each_replace (λ (e : Event). s.view.clock ≤ e.time) _ [] s.fel tt h.ahead.later;
              rising = rising-without _ s.fel h.ahead.rising;
            };
        delayed = each_replace (λ (e : Event). Outside e.who.next) _ [] s.fel tt h.delayed;
        interrupted = each-insert (λ (i : Interrupted). Outside i.who.next) _ _ s.interrupted out h.interrupted;
      }

  joins-resume : (i : Interrupted) (f : ℕ) (s : State) → Outside i.who.next → Joins s → Joins (resume i f s)
  unfolding resume
  joins-resume i f s out h =
      joins-to_fel _ _ _ (omega arith) out
      (record {
        everybody =
            record {
              ql = h.everybody.ql;
              wel = h.everybody.wel;
              wsl = h.everybody.wsl;
              rel = h.everybody.rel;
              fel = h.everybody.fel;
              gatherers = h.everybody.gatherers;
              interrupted =
                  each_replace (λ (i : Interrupted). Inside s.records i.who) _ [] s.interrupted tt h.everybody.interrupted;
              moving = h.everybody.moving;
            };
        joined = h.joined;
        clocks = h.clocks;
        ahead = record { later = h.ahead.later; rising = h.ahead.rising };
        delayed = h.delayed;
        interrupted = each_replace (λ (i : Interrupted). Outside i.who.next) _ [] s.interrupted tt h.interrupted;
      })

  joins-arrival : (l : List ℕ) (list p n : ℕ) (s : State) → Outside n → Joins s → Joins (arrival l list p n s)
  unfolding arrival newborn
  joins-arrival [] list p n s out h = h
  joins-arrival (time ∷ l) list p n s out h =
      joins-to_fel _ _ _ (omega arith) out (like s _ refl refl refl refl refl refl refl refl refl refl h)

  joins-delay : (l : List ℕ) (list : ℕ) (t : Transaction) (s : State) → Outside (suc t.next) → Joins s → Joins (delay l list t s)
  unfolding delay
  joins-delay [] list t s out h = h
  joins-delay (time ∷ l) list t s out h = joins-to_fel _ _ _ (omega arith) out (like s _ refl refl refl refl refl refl refl refl refl refl h)

  joins-copies : (n target : ℕ) (t : Transaction) (s : State) → Outside target → Joins s → Joins (copies n target t s)
  unfolding copies
  joins-copies zero target t s out h = h
  joins-copies (suc n) target t s out h =
      joins-copies n target t _ out (joins-to_rel _ _ (outside _ _ out) (like s _ refl refl refl refl refl refl refl refl refl refl h))

  -- ---- Records

  module _ (t : Transaction) (s : State) (p : Inside s.records t) (others : Everybody (Not t.number) s) (h : Joins s) where
    -- the beginning of a wait is no entry
    joins-log : Joins (set_serial (fresh s) (log 1 t s))
    unfolding log record_of
    joins-log =
        record {
          everybody =
              everybody-like _ (unmoved _) s (set_serial (fresh s) (log 1 t s)) refl refl refl refl refl refl refl refl
              (everybody-map (λ u q n. inside-more (record { entry = record_of 1 t s; priority = t.priority }) s.records u refl q) s
              h.everybody others);
          joined = (λ e. absurd (true≢false (sym e)), h.joined);
          clocks = (omega arith, h.clocks);
          ahead = record { later = h.ahead.later; rising = h.ahead.rising };
          delayed = h.delayed;
          interrupted = h.interrupted;
        }

    waits-on : Inside (log 1 t s).records t
    unfolding log record_of
    waits-on = inside-more _ s.records t refl p

    joins-begin : (put : Transaction → State → State) → ((u : Transaction) (x : State) → Inside x.records u → Joins x → Joins (put u x))
        → Joins (begin_wait put t s)
    joins-begin put kept = kept _ _ ((unmoved (log 1 t s).records).serial (fresh s) t waits-on) joins-log

    joins_wait : (put : Transaction → State → State) → ((u : Transaction) (x : State) → Inside x.records u → Joins x → Joins (put u x))
        → Joins (must_wait put t s)
    unfolding must_wait
    joins_wait put kept =
        cond_cases Joins t.returning _ _ (λ e. kept t s p h) (λ e. joins-begin put kept)

    joins-enters : WholeGroup m tape s.records (record { entry = record_of 0 t s; priority = t.priority }) → Joins (enters t s)
    unfolding enters log record_of
    joins-enters whole =
        record {
          everybody =
              everybody-like _ (unmoved _) s (enters t s) refl refl refl refl refl refl refl refl
              (everybody-map
              (λ u q n. inside-more (record { entry = record_of 0 t s; priority = t.priority }) s.records u
              (ne_eqb t.number u.number (λ e. n (sym e))) q)
              s h.everybody others);
          joined = (whole, h.joined);
          clocks = (omega arith, h.clocks);
          ahead = record { later = h.ahead.later; rising = h.ahead.rising };
          delayed = h.delayed;
          interrupted = h.interrupted;
        }

  -- ---- Each kind, for the transaction t whose next block it is

  module _ (t : Transaction) (s : State) (p : Inside s.records t) (others : Everybody (Not t.number) s) (h : Joins s) where
    -- who enters a kind 17 block came to it since its stamp, which is not behind the clock
    whole_group : (ltb 0 (back_at m t.next) && ltb t.stamp s.view.clock) ≡ false
        → WholeGroup m tape s.records (record { entry = record_of 0 t s; priority = t.priority })
    unfolding record_of
    whole_group now e i one high =
        let within = back-within proper t.next in
        now-last (at-clock (ltb t.stamp s.view.clock) refl)
        (p t.next (omega arith) (omega arith) (t.next - i) (omega arith) (omega arith))
      where
        now-last : s.view.clock ≤ t.stamp → Came s.records t t.next (t.next - i)
            → last_entry t.number (t.next - i) s.records ≡ some s.view.clock
        now-last least c =
            let most = entry_bound s.view.clock t.number (t.next - i) c.clock s.records h.clocks c.last in
            let same : c.clock ≡ s.view.clock = omega (arith, c.since) in
            c.last ∙ ap some same

        at-clock : (b : Bool) → ltb t.stamp s.view.clock ≡ b → s.view.clock ≤ t.stamp
        at-clock true e = absurd (true≢false (sym (rw (lt-ltb 0 (back_at m t.next) (omega arith)) e) ∙ now))
        at-clock false e = ltb-false _ _ e

    -- where no group ends
    no_group : {b : Block} → block_at m t.next ≡ b → (facts b).back ≡ 0
        → WholeGroup m tape s.records (record { entry = record_of 0 t s; priority = t.priority })
    unfolding record_of
    no_group e alone q i one high = absurd (omega (arith, ap (λ b. (facts b).back) e))

    after-plain : {b : Block} → block_at m t.next ≡ b → (facts b).wel ≡ 0 → Outside (suc t.next)
    after-plain e off = after-other t.next (λ w. w.0 (ap (λ b. (facts b).wel) e ∙ off))

    plain : {b : Block} → block_at m t.next ≡ b → (facts b).back ≡ 0 → Joins (enters t s)
    plain e alone = joins-enters t s p others h (no_group e alone)

    -- behind a block of kind 8 inside a group, and nowhere else
    stamped-on : Inside (enters t s).records (with_next (suc t.next) (stamped m t s))
    unfolding enters log record_of
    stamped-on k a b i c d = go (ltb (first k) t.next) refl
      where
        r : Logged
        r = record { entry = record_of 0 t s; priority = t.priority }

        own : last_entry t.number t.next (r ∷ s.records) ≡ some s.view.clock
        own = unfold last_entry record_of in (rw (eq-eqb t.number t.number refl, eq-eqb t.next t.next refl))

        closes : 1 ≤ back_at m k
        closes = omega arith

        go : (x : Bool) → ltb (first k) t.next ≡ x → Came (r ∷ s.records) (with_next (suc t.next) (stamped m t s)) k i
        go true e = later (ltb i t.next) refl
          where
            inside : first k < t.next
            inside = ltb-true _ _ e

            kept : cond (begins_group m t.next) s.view.clock t.stamp ≡ t.stamp
            kept = rw (begins-none proper k t.next inside (omega arith))

            later : (y : Bool) → ltb i t.next ≡ y → Came (r ∷ s.records) (with_next (suc t.next) (stamped m t s)) k i
            later true q =
                let before : i < t.next = ltb-true _ _ q in
                let came = p k inside (omega arith) i c before in
                record {
                  clock = came.clock;
                  last = entry-block t.number i r s.records (λ z. omega arith) ∙ came.last;
                  since = omega (arith, kept, came.since);
                  at-start = λ z. came.at-start z ∙ sym kept;
                }
            later false q =
                let here : i ≡ t.next = omega (arith, ltb-false i t.next q) in
                let came = p k inside (omega arith) (first k) (omega arith) inside in
                let bound = entry_bound s.view.clock t.number (first k) came.clock s.records h.clocks came.last in
                record {
                  clock = s.view.clock;
                  last = ap (λ j. last_entry t.number j (r ∷ s.records)) here ∙ own;
                  since = omega (arith, kept, came.since, bound);
                  at-start = λ z. absurd (omega (arith, z, here, inside));
                }
        go false e =
            let here : first k ≡ t.next = omega (arith, ltb-false (first k) t.next e) in
            let taken : cond (begins_group m t.next) s.view.clock t.stamp ≡ s.view.clock =
            rw (rw here at (begins proper k closes)) in
            let same : i ≡ t.next = omega arith in
            record {
              clock = s.view.clock;
              last = ap (λ j. last_entry t.number j (r ∷ s.records)) same ∙ own;
              since = omega (arith, taken);
              at-start = λ z. sym taken;
            }

    next-outside : {b : Block} → block_at m t.next ≡ b → (facts b).wel ≡ 0 → (records : List Logged) (u : Transaction)
        → u.next ≡ suc t.next → Inside records u
    next-outside e off records u z = outside records u (rw z (after-plain e off))

    target_at : {b : Block} → block_at m t.next ≡ b → 1 ≤ (facts b).target → Outside (facts b).target
    target_at {b} e named = rw (← e) (λ k. target-outside proper t.next k (λ z. omega (arith, ap (λ b. (facts b).target) e)))

    joins-takes : {b : Block} → block_at m t.next ≡ b → (facts b).wel ≡ 0 → (facts b).back ≡ 0 → (x : Share) (preempts : Bool)
        → Joins (take_units m x preempts t s)
    unfolding take_units
    joins-takes e off alone x preempts =
        let v : ℕ = share_server x in
        cond_cases Joins (leb (share_units x) (free (server_at s.view v))) _ _
        (λ fit. joins-move_to _ t _ (next-outside e off _ _ refl) (joins-check_wels v _ (joins_use v _ _ _ _ (plain e alone))))
        (λ full. joins_wait t s p others h (to_ql m.edition v) (joins-to_ql m.edition v))

    effect_joins : (b : Block) → block_at m t.next ≡ b → ProperBlock m b → Joins (effect m b t s)
    unfolding effect facts take_units set_content ends_one
    effect_joins (generate list q) e k =
        joins-move_to _ t _ (next-outside e refl _ _ refl)
        (joins-arrival _ list q _ _ (at_other t.next (ap (λ b. (facts b).wel) e) (ap (λ b. (facts b).back) e)) (plain e refl))
    effect_joins (advance list) e k = joins-delay _ list t _ (after-plain e refl) (plain e refl)
    effect_joins (terminate a) e k = like (enters t s) _ refl refl refl refl refl refl refl refl refl refl (plain e refl)
    effect_joins (takes x) e k = joins-takes e refl refl x false
    effect_joins (frees x) e k =
        joins-move_to _ t _ (next-outside e refl _ _ refl)
        (joins-check_wels (share_server x) _ (joins-wake_for x _ (joins_use (share_server x) _ _ _ _ (plain e refl))))
    effect_joins (wait_server code v c) e k =
        let is : back_at m t.next ≡ c = ap (λ b. (facts b).back) e in
        wait_server-cases Joins m code v c t s
        (λ holds. joins_wait t s p others h (to_wel m.edition v code) (joins-to_wel m.edition v code))
        (λ late.
        joins-move_to _ t _
        (outside _ _ (rw is at (at_first t.next (omega (arith, is, goes_back (ltb 0 c) (ltb t.stamp s.view.clock) refl late)))))
        (joins-wake_first_wel v code s h))
        (λ now.
        joins-move_to _ (stamped m t s) _ (unfold wake_first_wel in stamped-on)
        (joins-wake_first_wel v code _
        (joins-enters t s p others h (whole_group (ap (λ c. ltb 0 c && ltb t.stamp s.view.clock) is ∙ now)))))
      where
        goes_back : (a b : Bool) → ltb 0 c ≡ a → (a && b) ≡ true → 0 < c
        goes_back true b e q = ltb-true _ _ e
        goes_back false b e q = absurd (true≢false (sym q))
    effect_joins (wait_terms a r b) e k =
        wait_terms-cases Joins m a r b t s (λ holds. joins_wait t s p others h to_wsl joins-to_wsl)
        (λ passes. joins-move_to _ t _ (next-outside e refl _ _ refl) (plain e refl))
    effect_joins (moves c target) e k =
        joins-move_to _ t _
        (outside _ _
        (cond_cases Outside (truth m.values s.view t.parameters c) _ _ (λ z. target_at e k.0) (λ z. after-plain e refl)))
        (plain e refl)
    effect_joins (assign i a) e k = joins-move_to _ _ _ (next-outside e refl _ _ refl) (plain e refl)
    effect_joins (priority q) e k = joins-to_rel _ _ (next-outside e refl _ _ refl) (plain e refl)
    effect_joins (split n target) e k =
        joins-move_to _ t _ (next-outside e refl _ _ refl) (joins-copies n target t _ (target_at e k.1.0) (plain e refl))
    effect_joins (counts c q) e k =
        joins-move_to _ t _ (next-outside e refl _ _ refl)
        (like (enters t s) _ refl refl refl refl refl refl refl refl refl refl (plain e refl))
    effect_joins (assemble n) e k =
        assemble-cases Joins m n t s (λ first. joins-begin t s p others h to_gatherers joins-to_gatherers)
        (λ g l waits last. joins-released g t _ (next-outside e refl _ _ refl) ended)
        (λ g l waits more. joins-comes g t _
        (unfold enters log in (waiter-everybody _ (unmoved _) t (set_ended (suc (enters t s).ended) (enters t s)) g l waits
        ended.everybody)) ended)
      where
        ended : Joins (set_ended (suc (enters t s).ended) (enters t s))
        ended = like (enters t s) _ refl refl refl refl refl refl refl refl refl refl (plain e refl)
    effect_joins (preempt f) e k =
        preempt-cases Joins m f t s (λ z. joins-takes e refl refl (facility f) true)
        (λ x l z.
        joins-move_to _ t _ (next-outside e refl _ _ refl)
        (joins-check_wels f _
        (joins_use f _ _ _ _
        (joins-interrupt x t f _
        (subst (Each (λ (e : Event). Outside e.who.next)) z
        (each-those (λ (e : Event). Outside e.who.next) _ s.fel h.delayed)).0 (plain e refl)))))
    effect_joins (give_back f) e k =
        give_back-cases Joins m f t s
        (λ z. joins-move_to _ t _ (next-outside e refl _ _ refl)
        (joins-check_wels f _ (joins-wake_for (facility f) _ (joins_use f _ _ _ _ (plain e refl)))))
        (λ i l z.
        joins-move_to _ t _ (next-outside e refl _ _ refl)
        (joins-check_wels f _
        (joins-resume i f _
        (subst (Each (λ (i : Interrupted). Outside i.who.next)) z
        (each-those (λ (i : Interrupted). Outside i.who.next) _ s.interrupted h.interrupted)).0
        (joins_use f _ _ _ _ (plain e refl)))))

  -- ---- A turn

  joins-idle : (s : State) → Joins s → Joins (set_moving none s)
  joins-idle s h =
      lists s _ refl refl refl refl
      (record {
        ql = h.everybody.ql;
        wel = h.everybody.wel;
        wsl = h.everybody.wsl;
        rel = h.everybody.rel;
        fel = h.everybody.fel;
        gatherers = h.everybody.gatherers;
        interrupted = h.everybody.interrupted;
        moving = tt;
      }) h

  joins-answer : (n : ℕ) (t : Transaction) (s : State) → s.moving ≡ some t → Inside s.records t → standing s t.number ≤ 1 → Joins s
      → Joins (answer n m (block_at m t.next) t s)
  unfolding answer
  joins-answer zero t s e p once h =
      effect_joins t (set_moving none s) p (nobody_else t.number s t once e refl) (joins-idle s h) (block_at m t.next) refl
      (proper.block t.next)
  joins-answer (suc n) t s e p once h = like s _ refl refl refl refl refl refl refl refl refl refl h

  joins-execute : (o : Option Transaction) (s : State) → s.moving ≡ o → Maybe (Inside s.records) o → ((n : ℕ) → standing s n ≤ 1)
      → Joins s → Joins (execute o m s)
  unfolding execute
  joins-execute none s e p once h = h
  joins-execute (some t) s e p once h = joins-answer _ t s e p (once t.number) h

  joins-arrive_all : (l : List Event) (s : State) → Each (λ (e : Event). Inside s.records e.who) l → Joins s → Joins (arrive_all l s)
  unfolding arrive_all
  joins-arrive_all [] s k h = h
  joins-arrive_all (e ∷ l) s k h =
      joins-arrive_all l _ (unfold to_rel in k.1) (joins-to_rel _ s ((unmoved s.records).mark false e.who k.0) h)

  joins-next_events : (l : List Event) (s : State) → s.fel ≡ l → Joins s → Joins (next_events l s)
  unfolding next_events move_clock sample
  joins-next_events [] s e h = h
  joins-next_events (x ∷ l) s e h =
      let later : Each (λ (y : Event). s.view.clock ≤ y.time) (x ∷ l) = rw e at h.ahead.later in
      let rising : Rising (x ∷ l) = rw e at h.ahead.rising in
      let all : Each (λ (y : Event). x.time ≤ y.time) s.fel = rw e (omega arith, rising.0) in
      joins-arrive_all _ _ (each-those (λ (y : Event). Inside s.records y.who) (due x.time) s.fel h.everybody.fel)
      (record {
        everybody =
            record {
              ql = h.everybody.ql;
              wel = h.everybody.wel;
              wsl = h.everybody.wsl;
              rel = h.everybody.rel;
              fel = each-those (λ (y : Event). Inside s.records y.who) _ s.fel h.everybody.fel;
              gatherers = h.everybody.gatherers;
              interrupted = h.everybody.interrupted;
              moving = h.everybody.moving;
            };
        joined = h.joined;
        clocks = each_map (λ r (le : r.entry.clock ≤ s.view.clock). omega (arith, le, later.0)) s.records h.clocks;
        ahead =
            record {
              later = each-those (λ (y : Event). x.time ≤ y.time) _ s.fel all;
              rising = rising-those _ s.fel h.ahead.rising;
            };
        delayed = each-those (λ (y : Event). Outside y.who.next) _ s.fel h.delayed;
        interrupted = h.interrupted;
      })

  joins-take_first : (l : List Transaction) (s : State) → s.rel ≡ l → Joins s → Joins (take_first l s)
  unfolding take_first
  joins-take_first [] s e h = h
  joins-take_first (t ∷ l) s e h =
      let rel : Each (Inside s.records) (t ∷ l) = rw e at h.everybody.rel in
      lists s _ refl refl refl refl
      (record {
        ql = h.everybody.ql;
        wel = h.everybody.wel;
        wsl = h.everybody.wsl;
        rel = rel.1;
        fel = h.everybody.fel;
        gatherers = h.everybody.gatherers;
        interrupted = h.everybody.interrupted;
        moving = rel.0;
      }) h

  joins-take_ready : (l : List Transaction) (s : State) → s.rel ≡ l → Joins s → Joins (take_ready l s)
  unfolding take_ready
  joins-take_ready [] s e h = joins-take_first _ _ refl (joins-next_events s.fel s refl h)
  joins-take_ready (t ∷ l) s e h = joins-take_first (t ∷ l) s e h

  joins-taking : (o : Option Transaction) (s : State) → Joins s → Joins (taking o s)
  unfolding taking
  joins-taking none s h = joins-take_ready s.rel s refl h
  joins-taking (some t) s h = h

  joins-ws_scheme : (s : State) → Joins s → Joins (ws_scheme m s)
  joins-ws_scheme s h =
      ws_scheme-cases Joins m s
      (λ e. lists s _ (unfold wake_wsl in refl) (unfold wake_wsl in refl) (unfold wake_wsl in refl) (unfold wake_wsl in refl)
      (wake_wsl-everybody _ (unmoved s.records) _ s h.everybody) h)
      (λ e. h)

  -- ---- The start

  joins-turn : (s : State) → Sound m tape s → Joins s → Joins (turn m s)
  unfolding turn standing everyone
  joins-turn s sound h =
      let taken : State = set_turns (suc s.turns) (taking s.moving s) in
      let k : Joins taken =
      like (taking s.moving s) taken refl refl refl refl refl refl refl refl refl refl (joins-taking s.moving s h) in
      joins-ws_scheme _
      (joins-execute taken.moving taken refl k.everybody.moving
      (λ n. stands-at-most-once m tape _ (sound-taking m tape s sound) n) k)

  start_at_joins : (n : ℕ) (l : List Block) (s : State) → ((i : ℕ) → ((facts (get_or l i (terminate 0))).generates ≡ 0 → ⊥) → Outside (n + i))
      → Joins s → Joins (start_at n l s)
  unfolding start_at
  start_at_joins n [] s out h = h
  start_at_joins n (b ∷ l) s out h =
      start_at_joins (suc n) l _ (λ i g. rw (next i) at (out (suc i) g))
      (start_of-cases Joins b n s (λ e. h) (λ e. joins-arrival _ _ _ n s (rw here at (out 0 e)) h))
    where
      here : n + 0 ≡ n
      here = omega arith

      next : (i : ℕ) → n + suc i ≡ suc n + i
      next i = omega arith

  -- a GENERATE stands in no group
  generates-outside : (i : ℕ) → ((facts (get_or m.blocks i (terminate 0))).generates ≡ 0 → ⊥) → Outside (1 + i)
  generates-outside i g =
      let e : 1 + i - 1 ≡ i = omega arith in
      let r = plain-role (role (block_at m (1 + i))) (rw e g) in
      at_other (1 + i) r.0 r.1

  -- ---- The run

  joins-start : Joins (start m tape)
  unfolding start idle
  joins-start =
      start_at_joins 1 m.blocks (idle m tape) generates-outside
      (record {
        everybody = idle-everybody _ (unmoved []) m tape;
        joined = tt;
        clocks = tt;
        ahead = record { later = tt; rising = tt };
        delayed = tt;
        interrupted = tt;
      })

  gathered : (s : State) → Joins s → Gathered m tape s
  gathered s h =
      record {
        joined = h.joined;
        stamps =
            each_map
            (λ t p k low high. let c = p k low high (first k) (omega arith) low in c.last ∙ ap some (c.at-start refl))
            (everyone s) (everybody-each _ s h.everybody);
      }

  pub joined-waits : (budget room : ℕ) → Each (Gathered m tape) (states m tape budget room)
  joined-waits budget room =
      each_map (λ s h. gathered s h.1) (states m tape budget room)
      (each-state m budget room (λ s. Sound m tape s × Joins s) (λ s t h. (sound-turn m tape proper s h.0, joins-turn s h.0 h.1))
      (λ s e c h. (
        record { shape = h.0.shape; balanced = h.0.balanced; books = h.0.books },
        like s _ refl refl refl refl refl refl refl refl refl refl h.1,
      )) tape
      (sound-start m tape proper, joins-start))
