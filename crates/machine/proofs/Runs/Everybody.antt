-- A claim about every transaction of a state: what the single moves of transactions keep, a turn and the start keep.
use Rattle.machine.specs.All.{ℕ, zero, suc, ◌+◌, ◌*◌, ◌-◌, ◌≡◌, refl, subst, Bool, true, false, List, [], ◌∷◌, ◌++◌, map, Option, none, some, length, set, take, replicate, Transaction, Event, Gatherer, Interrupted, precedes, earlier, newborn, flat, Code, Share, BlockModel, State, with_next, with_serial, with_returning, with_stamp, set_ended, set_gatherers, gatherers_at, waits_for, to_gatherers, comes, released, interrupted_at, losers_to, interrupt, of_facility, resume, begin_wait, log, enters, move_to, to_rel, to_fel, to_ql, to_wel, to_wsl, must_wait, wake, wake_ql, wake_first_wel, wake_wsl, set_use, set_content, arrival, copy_of, copies, ql_of, wel_of, wake_for, check_wels, ends_one, delay, arrive_all, move_clock, next_events, take_first, take_ready, taking, ws_scheme, idle, moving_one, Each, everyone, share_server, wel_index, set_serial, in_family, loses_to, fresh, due}
use Rattle.machine.proofs as our
use our.Basic.Bools.{cond_cases}
use our.Basic.Each.{each_set, each-get_or, each-insert, each-those, each-drop, each_replace}
use our.Lists.Cases.{check_wels-kept, ws_scheme-cases}
use our.Lists.Lines.{each-line_up, both-part_for}
use our.Basic.Each.{each_append, each-flat, each-replicate, each_take, each_mapped}

-- ---- Definition

abbrev pub Maybe : (Transaction → Type 0) → Option Transaction → Type 0
Maybe P none = Unit {0}
Maybe P (some t) = P t

pub record Everybody (P : Transaction → Type 0) (s : State) : Type 0 where
  pub ql : Each (Each P) s.ql
  pub wel : Each (Each P) s.wel
  pub wsl : Each P s.wsl
  pub rel : Each P s.rel
  pub fel : Each (λ e. P e.who) s.fel
  pub gatherers : Each (Each (λ g. P g.who)) s.gatherers
  pub interrupted : Each (λ i. P i.who) s.interrupted
  pub moving : Maybe P s.moving

-- a claim that neither mark nor serial bears on
pub record Unmoved (P : Transaction → Type 0) : Type 0 where
  pub mark : (b : Bool) (t : Transaction) → P t → P (with_returning b t)
  pub serial : (n : ℕ) (t : Transaction) → P t → P (with_serial n t)

-- ---- Lists

module _ (P : Transaction → Type 0) (U : Unmoved P) where
  each-wake : (l rel : List Transaction) → Each P l → Each P rel → Each P (wake l rel)
  unfolding wake
  each-wake [] rel h k = k
  each-wake (t ∷ l) rel h k = each-wake l _ h.1 (each-insert P precedes _ rel (U.mark true t h.0) k)

  one-ql : (v : ℕ) (s : State) → Everybody P s → Each P (ql_of s v)
  one-ql v s h = each-get_or (Each P) s.ql (v - 1) [] h.ql tt

  one-wel : (v : ℕ) (code : Code) (s : State) → Everybody P s → Each P (wel_of s v code)
  one-wel v code s h = each-get_or (Each P) s.wel (wel_index v code) [] h.wel tt

  -- ---- Onto lists

  pub to_rel-everybody : (t : Transaction) (s : State) → P t → Everybody P s → Everybody P (to_rel t s)
  unfolding to_rel
  to_rel-everybody t s p h =
      record {
        ql = h.ql;
        wel = h.wel;
        wsl = h.wsl;
        rel = each-insert P precedes _ s.rel (U.serial _ t p) h.rel;
        fel = h.fel;
        gatherers = h.gatherers;
        interrupted = h.interrupted;
        moving = h.moving;
      }

  -- who goes to the FEL is stamped with its time
  pub to_fel-everybody : (time : ℕ) (t : Transaction) (s : State) → P (with_stamp time t) → Everybody P s → Everybody P (to_fel time t s)
  unfolding to_fel
  to_fel-everybody time t s p h =
      record {
        ql = h.ql;
        wel = h.wel;
        wsl = h.wsl;
        rel = h.rel;
        fel = each-insert (λ (e : Event). P e.who) earlier _ s.fel (U.serial _ (with_stamp time t) p) h.fel;
        gatherers = h.gatherers;
        interrupted = h.interrupted;
        moving = h.moving;
      }

  pub to_ql-everybody : (edition v : ℕ) (t : Transaction) (s : State) → P t → Everybody P s → Everybody P (to_ql edition v t s)
  unfolding to_ql
  to_ql-everybody edition v t s p h =
      record {
        ql = each_set (Each P) s.ql (v - 1) _ h.ql (each-line_up P edition t _ p (one-ql v s h));
        wel = h.wel;
        wsl = h.wsl;
        rel = h.rel;
        fel = h.fel;
        gatherers = h.gatherers;
        interrupted = h.interrupted;
        moving = h.moving;
      }

  pub to_wel-everybody : (edition v : ℕ) (code : Code) (t : Transaction) (s : State) → P t → Everybody P s
      → Everybody P (to_wel edition v code t s)
  unfolding to_wel
  to_wel-everybody edition v code t s p h =
      record {
        ql = h.ql;
        wel = each_set (Each P) s.wel (wel_index v code) _ h.wel (each-line_up P edition t _ p (one-wel v code s h));
        wsl = h.wsl;
        rel = h.rel;
        fel = h.fel;
        gatherers = h.gatherers;
        interrupted = h.interrupted;
        moving = h.moving;
      }

  pub to_wsl-everybody : (t : Transaction) (s : State) → P t → Everybody P s → Everybody P (to_wsl t s)
  unfolding to_wsl
  to_wsl-everybody t s p h =
      record {
        ql = h.ql;
        wel = h.wel;
        wsl = each-insert P precedes t s.wsl p h.wsl;
        rel = h.rel;
        fel = h.fel;
        gatherers = h.gatherers;
        interrupted = h.interrupted;
        moving = h.moving;
      }

  -- nothing but lists matters
  pub like : (s s' : State) → s'.ql ≡ s.ql → s'.wel ≡ s.wel → s'.wsl ≡ s.wsl → s'.rel ≡ s.rel → s'.fel ≡ s.fel
      → s'.moving ≡ s.moving
      → s'.gatherers ≡ s.gatherers → s'.interrupted ≡ s.interrupted → Everybody P s → Everybody P s'
  like s s' a b c d e f g i h =
      record {
        ql = rw a h.ql;
        wel = rw b h.wel;
        wsl = rw c h.wsl;
        rel = rw d h.rel;
        fel = rw e h.fel;
        gatherers = rw g h.gatherers;
        interrupted = rw i h.interrupted;
        moving = rw f h.moving;
      }

  pub must_wait-everybody : (put : Transaction → State → State)
      → ((t : Transaction) (s : State) → P t → Everybody P s → Everybody P (put t s)) → (t : Transaction) (s : State)
      → P t → Everybody P s → Everybody P (must_wait put t s)
  unfolding must_wait log
  must_wait-everybody put kept t s p h =
      cond_cases (Everybody P) t.returning _ _ (λ e. kept t s p h)
      (λ e. kept _ _ (U.serial _ t p) (like s (set_serial (fresh s) (log 1 t s)) refl refl refl refl refl refl refl refl h))

  pub wait_ql-everybody : (edition v : ℕ) (t : Transaction) (s : State) → P t → Everybody P s → Everybody P (must_wait (to_ql edition v) t s)
  wait_ql-everybody edition v = must_wait-everybody (to_ql edition v) (to_ql-everybody edition v)

  pub wait_wel-everybody : (edition v : ℕ) (code : Code) (t : Transaction) (s : State) → P t → Everybody P s
      → Everybody P (must_wait (to_wel edition v code) t s)
  wait_wel-everybody edition v code = must_wait-everybody (to_wel edition v code) (to_wel-everybody edition v code)

  pub wait_wsl-everybody : (t : Transaction) (s : State) → P t → Everybody P s → Everybody P (must_wait to_wsl t s)
  wait_wsl-everybody = must_wait-everybody to_wsl to_wsl-everybody

  pub move_to-everybody : (n : ℕ) (t : Transaction) (s : State) → P (with_next n t) → Everybody P s → Everybody P (move_to n t s)
  unfolding move_to
  move_to-everybody n t s p h =
      record {
        ql = h.ql;
        wel = h.wel;
        wsl = h.wsl;
        rel = h.rel;
        fel = h.fel;
        gatherers = h.gatherers;
        interrupted = h.interrupted;
        moving = U.mark false _ p;
      }

  -- ---- Gathering

  abbrev PG : Gatherer → Type 0
  PG g = P g.who

  one_block : (b : ℕ) (s : State) → Everybody P s → Each PG (gatherers_at s b)
  one_block b s h = each-get_or (Each PG) s.gatherers (b - 1) [] h.gatherers tt

  set-gatherers-everybody : (i : ℕ) (l : List Gatherer) (s : State) → Each PG l → Everybody P s
      → Everybody P (set_gatherers (set s.gatherers i l) s)
  set-gatherers-everybody i l s p h =
      record {
        ql = h.ql;
        wel = h.wel;
        wsl = h.wsl;
        rel = h.rel;
        fel = h.fel;
        gatherers = each_set (Each PG) s.gatherers i l h.gatherers p;
        interrupted = h.interrupted;
        moving = h.moving;
      }

  pub to_gatherers-everybody : (t : Transaction) (s : State) → P t → Everybody P s → Everybody P (to_gatherers t s)
  unfolding to_gatherers
  to_gatherers-everybody t s p h = set-gatherers-everybody _ _ s (each-insert PG _ _ _ p (one_block t.next s h)) h

  pub begins-everybody : (t : Transaction) (s : State) → P t → Everybody P s → Everybody P (begin_wait to_gatherers t s)
  unfolding log
  begins-everybody t s p h =
      to_gatherers-everybody _ _ (U.serial _ t p) (like s (set_serial (fresh s) (log 1 t s)) refl refl refl refl refl refl refl refl h)

  -- one of the family waits, with what the claim says of it
  pub waiter-everybody : (t : Transaction) (s : State) (g : Gatherer) (l : List Gatherer) → waits_for t s ≡ g ∷ l → Everybody P s
      → P g.who
  waiter-everybody t s g l e h = (subst (Each PG) e (each-those PG (in_family t) _ (one_block t.next s h))).0

  pub comes-everybody : (g : Gatherer) (t : Transaction) (s : State) → P g.who → Everybody P s → Everybody P (comes g t s)
  unfolding comes
  comes-everybody g t s p h = set-gatherers-everybody _ _ s (each_replace PG _ _ _ (p, tt) (one_block t.next s h)) h

  -- the one that gathered goes on; who came last leaves the machine
  pub released-everybody : (g : Gatherer) (t : Transaction) (s : State) → P (with_next (suc t.next) g.who) → Everybody P s
      → Everybody P (released g t s)
  unfolding released
  released-everybody g t s p h =
      to_rel-everybody _ _ (U.mark false _ p) (set-gatherers-everybody _ _ s (each_replace PG _ _ _ tt (one_block t.next s h)) h)

  pub ended-everybody : (n : ℕ) (s : State) → Everybody P s → Everybody P (set_ended n s)
  ended-everybody n s h = like s _ refl refl refl refl refl refl refl refl h

  -- ---- Interrupted ones

  -- somebody loses the facility, or gets it back, with what the claim says of it
  pub loser-everybody : (t : Transaction) (f : ℕ) (s : State) (e : Event) (l : List Event) → losers_to t f s ≡ e ∷ l → Everybody P s
      → P e.who
  loser-everybody t f s e l q h =
      (subst (Each (λ (e : Event). P e.who)) q (each-those (λ (e : Event). P e.who) (loses_to t _) s.fel h.fel)).0

  pub interrupted-everybody : (f : ℕ) (s : State) (i : Interrupted) (l : List Interrupted) → interrupted_at s f ≡ i ∷ l → Everybody P s
      → P i.who
  interrupted-everybody f s i l q h =
      (rw q at (each-those (λ (i : Interrupted). P i.who) (of_facility f) s.interrupted h.interrupted)).0

  -- it keeps the time that is left in its stamp
  pub interrupt-everybody : (e : Event) (t : Transaction) (f : ℕ) (s : State) → P (with_stamp (e.time - s.view.clock) e.who)
      → Everybody P s
      → Everybody P (interrupt e t f s)
  unfolding interrupt
  interrupt-everybody e t f s p h =
      record {
        ql = h.ql;
        wel = h.wel;
        wsl = h.wsl;
        rel = h.rel;
        fel = each_replace (λ (e : Event). P e.who) _ [] s.fel tt h.fel;
        gatherers = h.gatherers;
        interrupted = each-insert (λ (i : Interrupted). P i.who) _ _ s.interrupted p h.interrupted;
        moving = h.moving;
      }

  -- its time goes on from this clock
  pub resume-everybody : (i : Interrupted) (f : ℕ) (s : State) → P (with_stamp (s.view.clock + i.remaining) i.who) → Everybody P s
      → Everybody P (resume i f s)
  unfolding resume
  resume-everybody i f s p h =
      to_fel-everybody _ _ _ p
      (record {
        ql = h.ql;
        wel = h.wel;
        wsl = h.wsl;
        rel = h.rel;
        fel = h.fel;
        gatherers = h.gatherers;
        interrupted = each_replace (λ (i : Interrupted). P i.who) _ [] s.interrupted tt h.interrupted;
        moving = h.moving;
      })

  -- ---- Waking

  pub wake_for-everybody : (m : BlockModel) (x : Share) (s : State) → Everybody P s → Everybody P (wake_for m x s)
  unfolding wake_for wake_ql
  wake_for-everybody m x s h =
      let both = both-part_for P m x s.view (ql_of s (share_server x)) (one-ql (share_server x) s h) in
      record {
        ql = each_set (Each P) s.ql (share_server x - 1) _ h.ql both.1;
        wel = h.wel;
        wsl = h.wsl;
        rel = each-wake _ s.rel both.0 h.rel;
        fel = h.fel;
        gatherers = h.gatherers;
        interrupted = h.interrupted;
        moving = h.moving;
      }

  pub wake_first_wel-everybody : (v : ℕ) (code : Code) (s : State) → Everybody P s → Everybody P (wake_first_wel v code s)
  unfolding wake_first_wel
  wake_first_wel-everybody v code s h =
      record {
        ql = h.ql;
        wel = each_set (Each P) s.wel (wel_index v code) _ h.wel (each-drop P (wel_of s v code) (one-wel v code s h));
        wsl = h.wsl;
        rel = each-wake _ s.rel (each_take P (wel_of s v code) (one-wel v code s h)) h.rel;
        fel = h.fel;
        gatherers = h.gatherers;
        interrupted = h.interrupted;
        moving = h.moving;
      }

  pub wake_wsl-everybody : (p : Transaction → Bool) (s : State) → Everybody P s → Everybody P (wake_wsl p s)
  unfolding wake_wsl
  wake_wsl-everybody p s h =
      record {
        ql = h.ql;
        wel = h.wel;
        wsl = each-those P _ s.wsl h.wsl;
        rel = each-wake _ s.rel (each-those P p s.wsl h.wsl) h.rel;
        fel = h.fel;
        gatherers = h.gatherers;
        interrupted = h.interrupted;
        moving = h.moving;
      }

  pub check_wels-everybody : (v : ℕ) (s : State) → Everybody P s → Everybody P (check_wels v s)
  check_wels-everybody v s h = check_wels-kept (Everybody P) v (wake_first_wel-everybody v) s h

  pub ws_scheme-everybody : (m : BlockModel) (s : State) → Everybody P s → Everybody P (ws_scheme m s)
  ws_scheme-everybody m s h = ws_scheme-cases (Everybody P) m s (λ e. wake_wsl-everybody _ s h) (λ e. h)

  -- ---- Making

  -- a newborn comes before its GENERATE, at some time; where the list is used up nobody comes
  pub arrival-everybody : (l : List ℕ) (list p n : ℕ) (s : State) → ((time : ℕ) → P (with_stamp time (newborn (suc s.made) p n)))
      → Everybody P s
      → Everybody P (arrival l list p n s)
  unfolding arrival
  arrival-everybody [] list p n s new h = h
  arrival-everybody (time ∷ l) list p n s new h = to_fel-everybody _ _ _ (new _) (like s _ refl refl refl refl refl refl refl refl h)

  -- a copy, whatever its number
  pub copies-everybody : (n target : ℕ) (t : Transaction) (s : State)
      → ((k : ℕ) → P (copy_of t k target))
      → Everybody P s → Everybody P (copies n target t s)
  unfolding copies
  copies-everybody zero target t s new h = h
  copies-everybody (suc n) target t s new h =
      copies-everybody n target t _ new (to_rel-everybody _ _ (new _) (like s _ refl refl refl refl refl refl refl refl h))

  pub delay-everybody : (l : List ℕ) (list : ℕ) (t : Transaction) (s : State)
      → ((time : ℕ) → P (with_stamp time (with_next (suc t.next) t))) → Everybody P s
      → Everybody P (delay l list t s)
  unfolding delay
  delay-everybody [] list t s p h = h
  delay-everybody (time ∷ l) list t s p h =
      to_fel-everybody _ _ _ (U.mark false _ (p _)) (like s _ refl refl refl refl refl refl refl refl h)

  pub enters-everybody : (t : Transaction) (s : State) → Everybody P s → Everybody P (enters t s)
  unfolding enters log
  enters-everybody t s h = like s _ refl refl refl refl refl refl refl refl h

  pub in_use-everybody : (v n holder : ℕ) (preempted : Bool) (s : State) → Everybody P s → Everybody P (set_use v n holder preempted s)
  unfolding set_use
  in_use-everybody v n holder preempted s h = like s _ refl refl refl refl refl refl refl refl h

  pub content-everybody : (q n : ℕ) (s : State) → Everybody P s → Everybody P (set_content q n s)
  unfolding set_content
  content-everybody q n s h = like s _ refl refl refl refl refl refl refl refl h

  pub ends_one-everybody : (a : ℕ) (s : State) → Everybody P s → Everybody P (ends_one a s)
  unfolding ends_one
  ends_one-everybody a s h = like s _ refl refl refl refl refl refl refl refl h

  -- ---- The taking

  arrive_all-everybody : (l : List Event) (s : State) → Each (λ e. P e.who) l → Everybody P s → Everybody P (arrive_all l s)
  unfolding arrive_all
  arrive_all-everybody [] s k h = h
  arrive_all-everybody (e ∷ l) s k h = arrive_all-everybody l _ k.1 (to_rel-everybody _ s (U.mark false _ k.0) h)

  move_clock-everybody : (time : ℕ) (s : State) → Everybody P s → Everybody P (move_clock time s)
  unfolding move_clock
  move_clock-everybody time s h =
      arrive_all-everybody _ _ (each-those (λ (e : Event). P e.who) (due time) s.fel h.fel)
      (record {
        ql = h.ql;
        wel = h.wel;
        wsl = h.wsl;
        rel = h.rel;
        fel = each-those (λ (e : Event). P e.who) _ s.fel h.fel;
        gatherers = h.gatherers;
        interrupted = h.interrupted;
        moving = h.moving;
      })

  next_events-everybody : (l : List Event) (s : State) → Everybody P s → Everybody P (next_events l s)
  unfolding next_events
  next_events-everybody [] s h = h
  next_events-everybody (e ∷ l) s h = move_clock-everybody e.time s h

  take_first-everybody : (l : List Transaction) (s : State) → Each P l → Everybody P s → Everybody P (take_first l s)
  unfolding take_first
  take_first-everybody [] s k h = h
  take_first-everybody (t ∷ l) s k h =
      record {
        ql = h.ql;
        wel = h.wel;
        wsl = h.wsl;
        rel = k.1;
        fel = h.fel;
        gatherers = h.gatherers;
        interrupted = h.interrupted;
        moving = k.0;
      }

  take_ready-everybody : (l : List Transaction) (s : State) → Each P l → Everybody P s → Everybody P (take_ready l s)
  unfolding take_ready
  take_ready-everybody [] s k h =
      let h' : Everybody P (next_events s.fel s) = next_events-everybody s.fel s h in
      take_first-everybody _ _ h'.rel h'
  take_ready-everybody (t ∷ l) s k h = take_first-everybody (t ∷ l) s k h

  pub taking-everybody : (o : Option Transaction) (s : State) → Everybody P s → Everybody P (taking o s)
  unfolding taking
  taking-everybody none s h = take_ready-everybody s.rel s h.rel h
  taking-everybody (some t) s h = h

  pub idle-everybody : (m : BlockModel) (tape : List (List ℕ)) → Everybody P (idle m tape)
  unfolding idle
  idle-everybody m tape =
      record {
        ql = each-replicate (Each P) (m.facilities + length m.capacities) [] tt;
        wel = each-replicate (Each P) ((m.facilities + length m.capacities) * 6) [] tt;
        wsl = tt;
        rel = tt;
        fel = tt;
        gatherers = each-replicate (Each (λ (g : Gatherer). P g.who)) (length m.blocks) [] tt;
        interrupted = tt;
        moving = tt;
      }

-- ---- Everybody as one list

module _ (P : Transaction → Type 0) where
  each-moving : (o : Option Transaction) → Maybe P o → Each P (moving_one o)
  unfolding moving_one
  each-moving none h = tt
  each-moving (some t) h = (h, tt)

  pub everybody-each : (s : State) → Everybody P s → Each P (everyone s)
  unfolding everyone
  everybody-each s h =
      let fel = map (λ (e : Event). e.who) s.fel in
      let gatherers = map (λ (g : Gatherer). g.who) (flat s.gatherers) in
      each_append P (flat s.ql ++ flat s.wel ++ s.wsl ++ s.rel ++ fel ++ moving_one s.moving ++ gatherers)
      (map (λ (i : Interrupted). i.who) s.interrupted)
      (each_append P (flat s.ql ++ flat s.wel ++ s.wsl ++ s.rel ++ fel ++ moving_one s.moving) gatherers
      (each_append P (flat s.ql ++ flat s.wel ++ s.wsl ++ s.rel ++ fel) (moving_one s.moving)
      (each_append P (flat s.ql ++ flat s.wel ++ s.wsl ++ s.rel) fel
      (each_append P (flat s.ql ++ flat s.wel ++ s.wsl) s.rel
      (each_append P (flat s.ql ++ flat s.wel) s.wsl
      (each_append P (flat s.ql) (flat s.wel) (each-flat P s.ql h.ql) (each-flat P s.wel h.wel)) h.wsl)
      h.rel)
      (each_mapped (λ (e : Event). e.who) P s.fel h.fel))
      (each-moving s.moving h.moving))
      (each_mapped (λ (g : Gatherer). g.who) P (flat s.gatherers)
      (each-flat (λ (g : Gatherer). P g.who) s.gatherers h.gatherers)))
      (each_mapped (λ (i : Interrupted). i.who) P s.interrupted h.interrupted)

-- one claim from two
pub everybody-map : {P Q R : Transaction → Type 0} → ((t : Transaction) → P t → Q t → R t) → (s : State) → Everybody P s → Everybody Q s
    → Everybody R s
everybody-map {P} {Q} {R} f s h k =
    record {
      ql = both-lists s.ql h.ql k.ql;
      wel = both-lists s.wel h.wel k.wel;
      wsl = both s.wsl h.wsl k.wsl;
      rel = both s.rel h.rel k.rel;
      fel = both_events s.fel h.fel k.fel;
      gatherers = both-gatherers s.gatherers h.gatherers k.gatherers;
      interrupted = both-interrupted s.interrupted h.interrupted k.interrupted;
      moving = both-moving s.moving h.moving k.moving;
    }
  where
    both : (l : List Transaction) → Each P l → Each Q l → Each R l
    both [] h k = tt
    both (x ∷ l) h k = (f x h.0 k.0, both l h.1 k.1)

    both-lists : (l : List (List Transaction)) → Each (Each P) l → Each (Each Q) l → Each (Each R) l
    both-lists [] h k = tt
    both-lists (x ∷ l) h k = (both x h.0 k.0, both-lists l h.1 k.1)

    both_events : (l : List Event) → Each (λ (e : Event). P e.who) l → Each (λ (e : Event). Q e.who) l
        → Each (λ (e : Event). R e.who) l
    both_events [] h k = tt
    both_events (x ∷ l) h k = (f x.who h.0 k.0, both_events l h.1 k.1)

    both-ones : (l : List Gatherer) → Each (λ (g : Gatherer). P g.who) l → Each (λ (g : Gatherer). Q g.who) l
        → Each (λ (g : Gatherer). R g.who) l
    both-ones [] h k = tt
    both-ones (x ∷ l) h k = (f x.who h.0 k.0, both-ones l h.1 k.1)

    both-gatherers : (l : List (List Gatherer)) → Each (Each (λ (g : Gatherer). P g.who)) l
        → Each (Each (λ (g : Gatherer). Q g.who)) l → Each (Each (λ (g : Gatherer). R g.who)) l
    both-gatherers [] h k = tt
    both-gatherers (x ∷ l) h k = (both-ones x h.0 k.0, both-gatherers l h.1 k.1)

    both-interrupted : (l : List Interrupted) → Each (λ (i : Interrupted). P i.who) l → Each (λ (i : Interrupted). Q i.who) l
        → Each (λ (i : Interrupted). R i.who) l
    both-interrupted [] h k = tt
    both-interrupted (x ∷ l) h k = (f x.who h.0 k.0, both-interrupted l h.1 k.1)

    both-moving : (o : Option Transaction) → Maybe P o → Maybe Q o → Maybe R o
    both-moving none h k = tt
    both-moving (some t) h k = f t h k
