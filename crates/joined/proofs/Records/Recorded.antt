-- Whoever waits, gathers, holds a facility or was interrupted has a record; so in a run that ends dry everybody made has one.
use Rattle.machine.specs.All.{ℕ, zero, suc, ◌*◌, ◌≤◌, ◌≡◌, refl, sym, ap, ◌∙◌, subst, Bool, true, false, cond, not, ◌&&◌, ◌||◌, true≢false, List, [], ◌∷◌, ◌++◌, map, Option, none, some, arith, leb, eqb, length, take, replicate, eqb-true, eqb-false, eq-eqb, le-leb, Transaction, precedes, Event, Gatherer, Interrupted, those, any_of, flat, Server, idle_server, server_at, Code, Share, facility, storage, share_server, share_units, share_holder, Block, generate, advance, terminate, takes, frees, wait_server, wait_terms, moves, assign, priority, split, counts, assemble, preempt, give_back, BlockModel, State, Logged, set_ended, record_of, log, enters, move_to, to_rel, to_fel, to_ql, to_wel, to_wsl, ql_of, wel_of, begin_wait, must_wait, wake, Parted, wake_ql, wake_first_wel, wake_wsl, set_use, set_content, arrival, copies, gatherers_at, in_family, waits_for, to_gatherers, comes, released, of_facility, losers_to, interrupt, resume, set_waits_for, check_wels, wake_for, free_units, ends_one, delay, take_units, effect, sample_servers, sample, arrive_all, move_clock, next_events, take_first, take_ready, taking, answer, execute, turn, start_at, idle, start, run, run_from, steps, nobody_left, moving_one, Each, count, everyone, standing, is_living, terminates, Keeps, bit, free, wel_index, fresh, copy_of, interrupted_at, part_for, states, made_by, with_returning, with_serial, set_moving, set_turns, ◌-◌}
use Rattle.machine.proofs.{Decoding.Proper.Proper, Decoding.Proper.servers, Demand3.keeps-all, Lists.Lines.each-line_up, Lists.Lines.both-part_for, Runs.Everybody.Maybe, Order.Losers.loser-loses, Basic.Bools.and_true, Basic.Bools.cond_cases, Runs.RunLaws.each-state, Runs.RunLaws.each_last, Runs.RunLaws.last}
use Rattle.machine.proofs.Basic.Each.{each_append, each-flat, each_mapped, each_set, each-get_or, each_map, each-insert, each-those, each-drop, each_replace}
use Rattle.machine.proofs.Lists.Cases.{check_wels-kept, wait_server-cases, wait_terms-cases, assemble-cases, preempt-cases, give_back-cases, ws_scheme-cases, start_of-cases}
use Rattle.joined.proofs as our
use our.Turns.DryEnd.{Dries, dry, turns, dries}
use our.Turns.DryRuns.{empty_of}

-- ---- Definition

-- a number has a record; 0 is nobody's
abbrev pub HasRecord : List Logged → ℕ → Type 0
HasRecord l n = 1 ≤ n → any_of (λ r. eqb r.entry.transaction n) l ≡ true

module _ (R : ℕ → Type 0) where
  abbrev Has : Transaction → Type 0
  Has t = R t.number

  -- if it comes from a list
  abbrev Mark : Transaction → Type 0
  Mark t = t.returning ≡ true → R t.number

  data Holder (n : ℕ) : Type 0 where
    nobody : n ≡ 0 → Holder n
    known : R n → Holder n

  -- R says which numbers have a record
  record Knows (s : State) : Type 0 where
    ql : Each (Each Has) s.ql
    wel : Each (Each Has) s.wel
    wsl : Each Has s.wsl
    rel : Each Mark s.rel
    gatherers : Each (Each (λ g. Has g.who)) s.gatherers
    interrupted : Each (λ i. Has i.who) s.interrupted
    holders : Each (λ v. Holder v.holder) s.view.servers
    moving : Maybe Mark s.moving
    kept : (n : ℕ) → R n → HasRecord s.records n

  wakes : (l rel : List Transaction) → Each Has l → Each Mark rel → Each Mark (wake l rel)
  unfolding wake
  wakes [] rel h k = k
  wakes (t ∷ l) rel h k = wakes l _ h.1 (each-insert Mark precedes _ rel (λ q. h.0) k)

  at_row : {A : Type 0} (P : A → Type 0) (l : List (List A)) (i : ℕ) → Each (Each P) l → Each P (lib.ListN.get_or l i [])
  at_row P l i h = each-get_or (Each P) l i [] h tt

  server-of : (s : State) → Knows s → (v : ℕ) → Holder (server_at s.view v).holder
  unfolding server_at idle_server
  server-of s h v = each-get_or (λ (x : Server). Holder x.holder) s.view.servers (v - 1) (idle_server 0) h.holders (nobody refl)

  -- ---- Steps

  rel-knows : (t : Transaction) (s : State) → Mark t → Knows s → Knows (to_rel t s)
  unfolding to_rel
  rel-knows t s q h =
      record {
        ql = h.ql;
        wel = h.wel;
        wsl = h.wsl;
        rel = each-insert Mark precedes _ s.rel q h.rel;
        gatherers = h.gatherers;
        interrupted = h.interrupted;
        holders = h.holders;
        moving = h.moving;
        kept = h.kept;
      }

  ql-knows : (edition v : ℕ) (t : Transaction) (s : State) → Has t → Knows s → Knows (to_ql edition v t s)
  unfolding to_ql
  ql-knows edition v t s q h =
      record {
        ql = each_set (Each Has) s.ql (v - 1) _ h.ql
            (each-line_up Has edition t (ql_of s v) q (at_row Has s.ql (v - 1) h.ql));
        wel = h.wel;
        wsl = h.wsl;
        rel = h.rel;
        gatherers = h.gatherers;
        interrupted = h.interrupted;
        holders = h.holders;
        moving = h.moving;
        kept = h.kept;
      }

  wel-knows : (edition v : ℕ) (code : Code) (t : Transaction) (s : State) → Has t → Knows s → Knows (to_wel edition v code t s)
  unfolding to_wel
  wel-knows edition v code t s q h =
      record {
        ql = h.ql;
        wel =
            each_set (Each Has) s.wel (wel_index v code) _ h.wel
            (each-line_up Has edition t (wel_of s v code) q (at_row Has s.wel (wel_index v code) h.wel));
        wsl = h.wsl;
        rel = h.rel;
        gatherers = h.gatherers;
        interrupted = h.interrupted;
        holders = h.holders;
        moving = h.moving;
        kept = h.kept;
      }

  wsl-knows : (t : Transaction) (s : State) → Has t → Knows s → Knows (to_wsl t s)
  unfolding to_wsl
  wsl-knows t s q h =
      record {
        ql = h.ql;
        wel = h.wel;
        wsl = each-insert Has precedes t s.wsl q h.wsl;
        rel = h.rel;
        gatherers = h.gatherers;
        interrupted = h.interrupted;
        holders = h.holders;
        moving = h.moving;
        kept = h.kept;
      }

  gathers-knows : (t : Transaction) (s : State) → Has t → Knows s → Knows (to_gatherers t s)
  unfolding to_gatherers
  gathers-knows t s q h =
      record {
        ql = h.ql;
        wel = h.wel;
        wsl = h.wsl;
        rel = h.rel;
        gatherers =
            each_set (Each (λ g. Has g.who)) s.gatherers (t.next - 1) _ h.gatherers
            (each-insert (λ (g : Gatherer). Has g.who) (λ a b. precedes a.who b.who) _ (gatherers_at s t.next) q
            (at_row (λ g. Has g.who) s.gatherers (t.next - 1) h.gatherers));
        interrupted = h.interrupted;
        holders = h.holders;
        moving = h.moving;
        kept = h.kept;
      }

  replaced : (few : List Gatherer) (t : Transaction) (s : State) → Each (λ g. Has g.who) few → Knows s → Knows (set_waits_for t few s)
  replaced few t s q h =
      record {
        ql = h.ql;
        wel = h.wel;
        wsl = h.wsl;
        rel = h.rel;
        gatherers =
            each_set (Each (λ g. Has g.who)) s.gatherers (t.next - 1) _ h.gatherers
            (each_replace (λ (g : Gatherer). Has g.who) (in_family t) few (gatherers_at s t.next) q
            (at_row (λ g. Has g.who) s.gatherers (t.next - 1) h.gatherers));
        interrupted = h.interrupted;
        holders = h.holders;
        moving = h.moving;
        kept = h.kept;
      }

  wake_ql-knows : (part : List Transaction → Parted) (v : ℕ) (s : State) → Each Has (part (ql_of s v)).go → Each Has (part (ql_of s v)).stay
      → Knows s → Knows (wake_ql part v s)
  unfolding wake_ql
  wake_ql-knows part v s a b h =
      record {
        ql = each_set (Each Has) s.ql (v - 1) _ h.ql b;
        wel = h.wel;
        wsl = h.wsl;
        rel = wakes (part (ql_of s v)).go s.rel a h.rel;
        gatherers = h.gatherers;
        interrupted = h.interrupted;
        holders = h.holders;
        moving = h.moving;
        kept = h.kept;
      }

  wake_wel-knows : (v : ℕ) (code : Code) (s : State) → Knows s → Knows (wake_first_wel v code s)
  unfolding wake_first_wel
  wake_wel-knows v code s h =
      let row : Each Has (wel_of s v code) = at_row Has s.wel (wel_index v code) h.wel in
      record {
        ql = h.ql;
        wel = each_set (Each Has) s.wel (wel_index v code) _ h.wel (each-drop Has (wel_of s v code) row);
        wsl = h.wsl;
        rel = wakes (take 1 (wel_of s v code)) s.rel (first (wel_of s v code) row) h.rel;
        gatherers = h.gatherers;
        interrupted = h.interrupted;
        holders = h.holders;
        moving = h.moving;
        kept = h.kept;
      }
    where
      first : (l : List Transaction) → Each Has l → Each Has (take 1 l)
      first [] k = tt
      first (t ∷ l) k = (k.0, tt)

  wake_wsl-knows : (p : Transaction → Bool) (s : State) → Knows s → Knows (wake_wsl p s)
  unfolding wake_wsl
  wake_wsl-knows p s h =
      record {
        ql = h.ql;
        wel = h.wel;
        wsl = each-those Has (λ t. not (p t)) s.wsl h.wsl;
        rel = wakes (those p s.wsl) s.rel (each-those Has p s.wsl h.wsl) h.rel;
        gatherers = h.gatherers;
        interrupted = h.interrupted;
        holders = h.holders;
        moving = h.moving;
        kept = h.kept;
      }

  use-knows : (v units holder : ℕ) (preempted : Bool) (s : State) → Holder holder → Knows s → Knows (set_use v units holder preempted s)
  unfolding set_use
  use-knows v units holder preempted s q h =
      record {
        ql = h.ql;
        wel = h.wel;
        wsl = h.wsl;
        rel = h.rel;
        gatherers = h.gatherers;
        interrupted = h.interrupted;
        holders = each_set (λ (x : Server). Holder x.holder) s.view.servers (v - 1) _ h.holders q;
        moving = h.moving;
        kept = h.kept;
      }

  check-knows : (v : ℕ) (s : State) → Knows s → Knows (check_wels v s)
  check-knows v s h = check_wels-kept Knows v (λ code s h. wake_wel-knows v code s h) s h

  moves-knows : (b : ℕ) (t : Transaction) (s : State) → Knows s → Knows (move_to b t s)
  unfolding move_to
  moves-knows b t s h =
      record {
        ql = h.ql;
        wel = h.wel;
        wsl = h.wsl;
        rel = h.rel;
        gatherers = h.gatherers;
        interrupted = h.interrupted;
        holders = h.holders;
        moving = λ q. absurd (true≢false (sym q));
        kept = h.kept;
      }

  arrival-knows : (l : List ℕ) (list p n : ℕ) (s : State) → Knows s → Knows (arrival l list p n s)
  unfolding arrival to_fel
  arrival-knows [] list p n s h = h
  arrival-knows (x ∷ l) list p n s h =
      record {
        ql = h.ql;
        wel = h.wel;
        wsl = h.wsl;
        rel = h.rel;
        gatherers = h.gatherers;
        interrupted = h.interrupted;
        holders = h.holders;
        moving = h.moving;
        kept = h.kept;
      }

  delay-knows : (l : List ℕ) (list : ℕ) (t : Transaction) (s : State) → Knows s → Knows (delay l list t s)
  unfolding delay to_fel
  delay-knows [] list t s h = h
  delay-knows (x ∷ l) list t s h =
      record {
        ql = h.ql;
        wel = h.wel;
        wsl = h.wsl;
        rel = h.rel;
        gatherers = h.gatherers;
        interrupted = h.interrupted;
        holders = h.holders;
        moving = h.moving;
        kept = h.kept;
      }

  copies-knows : (n target : ℕ) (t : Transaction) (s : State) → Knows s → Knows (copies n target t s)
  unfolding copies
  copies-knows zero target t s h = h
  copies-knows (suc n) target t s h =
      copies-knows n target t _
      (rel-knows (copy_of t (suc s.made) target) _ (λ q. absurd (true≢false (sym q)))
      (record {
        ql = h.ql;
        wel = h.wel;
        wsl = h.wsl;
        rel = h.rel;
        gatherers = h.gatherers;
        interrupted = h.interrupted;
        holders = h.holders;
        moving = h.moving;
        kept = h.kept;
      }))

  content-knows : (q n : ℕ) (s : State) → Knows s → Knows (set_content q n s)
  unfolding set_content
  content-knows q n s h =
      record {
        ql = h.ql;
        wel = h.wel;
        wsl = h.wsl;
        rel = h.rel;
        gatherers = h.gatherers;
        interrupted = h.interrupted;
        holders = h.holders;
        moving = h.moving;
        kept = h.kept;
      }

  interrupt-knows : (e : Event) (t : Transaction) (f : ℕ) (s : State) → Has e.who → Knows s → Knows (interrupt e t f s)
  unfolding interrupt
  interrupt-knows e t f s q h =
      record {
        ql = h.ql;
        wel = h.wel;
        wsl = h.wsl;
        rel = h.rel;
        gatherers = h.gatherers;
        interrupted =
            each-insert (λ (i : Interrupted). Has i.who) (λ a b. precedes a.who b.who) _ s.interrupted q h.interrupted;
        holders = h.holders;
        moving = h.moving;
        kept = h.kept;
      }

  resume-knows : (i : Interrupted) (f : ℕ) (s : State) → Knows s → Knows (resume i f s)
  unfolding resume to_fel
  resume-knows i f s h =
      record {
        ql = h.ql;
        wel = h.wel;
        wsl = h.wsl;
        rel = h.rel;
        gatherers = h.gatherers;
        interrupted = each_replace (λ (x : Interrupted). Has x.who) (of_facility f) [] s.interrupted tt h.interrupted;
        holders = h.holders;
        moving = h.moving;
        kept = h.kept;
      }

  ended-knows : (n : ℕ) (s : State) → Knows s → Knows (set_ended n s)
  ended-knows n s h =
      record {
        ql = h.ql;
        wel = h.wel;
        wsl = h.wsl;
        rel = h.rel;
        gatherers = h.gatherers;
        interrupted = h.interrupted;
        holders = h.holders;
        moving = h.moving;
        kept = h.kept;
      }

  ends-knows : (a : ℕ) (s : State) → Knows s → Knows (ends_one a s)
  unfolding ends_one
  ends-knows a s h =
      record {
        ql = h.ql;
        wel = h.wel;
        wsl = h.wsl;
        rel = h.rel;
        gatherers = h.gatherers;
        interrupted = h.interrupted;
        holders = h.holders;
        moving = h.moving;
        kept = h.kept;
      }

-- by another test, of a state with these lists
grows : (R R' : ℕ → Type 0) (s s' : State) → ((n : ℕ) → R n → R' n) → ((n : ℕ) → R' n → HasRecord s'.records n) → s'.ql ≡ s.ql
    → s'.wel ≡ s.wel → s'.wsl ≡ s.wsl → s'.rel ≡ s.rel
    → s'.gatherers ≡ s.gatherers → s'.interrupted ≡ s.interrupted → s'.view.servers ≡ s.view.servers → s'.moving ≡ s.moving
    → Knows R s → Knows R' s'
grows R R' s s' f kept a b c d e g i j h =
    record {
      ql = rw a (each_map (λ l k. each_map (λ t q. f _ q) l k) s.ql h.ql);
      wel = rw b (each_map (λ l k. each_map (λ t q. f _ q) l k) s.wel h.wel);
      wsl = rw c (each_map (λ t q. f _ q) s.wsl h.wsl);
      rel = rw d (each_map {P = Mark R} {Q = Mark R'} (λ t q r. f _ (q r)) s.rel h.rel);
      gatherers = rw e (each_map (λ l k. each_map (λ x q. f _ q) l k) s.gatherers h.gatherers);
      interrupted = rw g (each_map (λ x q. f _ q) s.interrupted h.interrupted);
      holders = rw i (each_map (λ x q. holder q) s.view.servers h.holders);
      moving = rw j (mover s.moving h.moving);
      kept = kept;
    }
  where
    holder : {n : ℕ} → Holder R n → Holder R' n
    holder (nobody e) = nobody e
    holder (known k) = known (f _ k)

    mover : (o : Option Transaction) → Maybe (Mark R) o → Maybe (Mark R') o
    mover none k = tt
    mover (some t) k = λ q. f _ (k q)

-- ---- Blocks

abbrev Good : State → Type 0
Good s = Knows (HasRecord s.records) s

-- whatever the test was
close : (R : ℕ → Type 0) (s : State) → Knows R s → Good s
close R s h = grows R (HasRecord s.records) s s h.kept (λ n k. k) refl refl refl refl refl refl refl refl h

has_first : (r : Logged) (l : List Logged) → HasRecord (r ∷ l) r.entry.transaction
unfolding any_of
has_first r l one = rw (eq-eqb r.entry.transaction r.entry.transaction refl) refl

has_more : (r : Logged) (l : List Logged) (n : ℕ) → HasRecord l n → HasRecord (r ∷ l) n
unfolding any_of
has_more r l n h one = or_true (eqb r.entry.transaction n) _ (h one)
  where
    or_true : (a b : Bool) → b ≡ true → (a || b) ≡ true
    or_true true b e = refl
    or_true false b e = e

log-knows : (outcome : ℕ) (t : Transaction) (s : State) → Good s → Knows (HasRecord (log outcome t s).records) (log outcome t s)
unfolding log
log-knows outcome t s h =
    grows (HasRecord s.records) _ s (log outcome t s) (λ n k. has_more _ s.records n k)
    (λ n k. k) refl refl refl refl refl refl refl refl h

log-has : (outcome : ℕ) (t : Transaction) (s : State) → HasRecord (log outcome t s).records t.number
unfolding log record_of
log-has outcome t s = has_first _ s.records

enters-knows : (t : Transaction) (s : State) → Good s → Knows (HasRecord (enters t s).records) (enters t s)
unfolding enters
enters-knows t s h =
    log-knows 0 t _
    (record {
      ql = h.ql;
      wel = h.wel;
      wsl = h.wsl;
      rel = h.rel;
      gatherers = h.gatherers;
      interrupted = h.interrupted;
      holders = h.holders;
      moving = h.moving;
      kept = h.kept;
    })

enters-has : (t : Transaction) (s : State) → HasRecord (enters t s).records t.number
unfolding enters
enters-has t s = log-has 0 t _

enters-more : (t : Transaction) (s : State) (n : ℕ) → HasRecord s.records n → HasRecord (enters t s).records n
unfolding enters log
enters-more t s n h = has_more _ s.records n h

-- onto a list
abbrev Puts : (Transaction → State → State) → Type 1
Puts put = (R : ℕ → Type 0) (t : Transaction) (s : State) → R t.number → Knows R s → Knows R (put t s)

begins-knows : (put : Transaction → State → State) → Puts put → (t : Transaction) (s : State) → Good s → Good (begin_wait put t s)
begins-knows put P t s h =
    let k = log-knows 1 t s h in
    close _ _ (P (HasRecord (log 1 t s).records) (with_serial (fresh s) t) _ (log-has 1 t s)
    (record {
      ql = k.ql;
      wel = k.wel;
      wsl = k.wsl;
      rel = k.rel;
      gatherers = k.gatherers;
      interrupted = k.interrupted;
      holders = k.holders;
      moving = k.moving;
      kept = k.kept;
    }))

waits-knows : (put : Transaction → State → State) → Puts put → (t : Transaction) (s : State) → Mark (HasRecord s.records) t → Good s
    → Good (must_wait put t s)
unfolding must_wait
waits-knows put P t s q h = cond_cases Good t.returning _ _ (λ e. close _ _ (P _ t s (q e) h)) (λ e. begins-knows put P t s h)

module _ (m : BlockModel) (t : Transaction) (s : State) (h : Good s) (mark : Mark (HasRecord s.records) t) where
  abbrev R : ℕ → Type 0
  R = HasRecord (enters t s).records

  h₁ : Knows (HasRecord (enters t s).records) (enters t s)
  h₁ = enters-knows t s h

  on : (b : ℕ) (u : Transaction) (x : State) → Knows R x → Good (move_to b u x)
  on b u x k = close R _ (moves-knows R b u x k)

  holder-of : (x : Share) → Holder R (share_holder x t.number)
  unfolding share_holder
  holder-of (facility v) = known (enters-has t s)
  holder-of (storage v b) = nobody refl

  units-knows : (x : Share) (preempts : Bool) → Good (take_units m x preempts t s)
  unfolding take_units
  units-knows x preempts =
      cond_cases Good (leb (share_units x) (free (server_at s.view (share_server x)))) _ _
      (λ e. on _ t _ (check-knows R (share_server x) _ (use-knows R (share_server x) _ _ preempts _ (holder-of x) h₁)))
      (λ e. waits-knows (to_ql m.edition (share_server x)) (λ R t s q h. ql-knows R m.edition (share_server x) t s q h) t s mark h)

  frees-knows : (x : Share) (y : State) → Knows R y → Knows R (wake_for m x (free_units (share_server x) (share_units x) y))
  unfolding wake_for
  frees-knows x y k =
      let f = use-knows R (share_server x) ((server_at y.view (share_server x)).in_use - share_units x) 0 false y (nobody refl) k in
      let parts =
      both-part_for (Has R) m x (free_units (share_server x) (share_units x) y).view
      (ql_of (free_units (share_server x) (share_units x) y) (share_server x))
      (at_row R (Has R) (free_units (share_server x) (share_units x) y).ql (share_server x - 1) f.ql) in
      wake_ql-knows R (part_for m x (free_units (share_server x) (share_units x) y).view) (share_server x) _ parts.0 parts.1 f

  -- a loser held the facility
  loser-has : (f : ℕ) (e : Event) (l : List Event) → losers_to t f s ≡ e ∷ l → R e.who.number
  loser-has f e l k = rw (loser-loses t f s e l k).number (holder (server-of (HasRecord s.records) s h f))
    where
      holder : {n : ℕ} → Holder (HasRecord s.records) n → R n
      holder {n} (nobody z) = λ one. absurd (omega arith)
      holder {n} (known q) = enters-more t s n q

  -- who gathers or was interrupted
  waiter-has : (g : Gatherer) (l : List Gatherer) → waits_for t s ≡ g ∷ l → R g.who.number
  waiter-has g l k =
      enters-more t s _
      (rw k at (each-those (λ (x : Gatherer). HasRecord s.records x.who.number) (in_family t) (gatherers_at s t.next)
      (at_row (HasRecord s.records) (λ (x : Gatherer). HasRecord s.records x.who.number) s.gatherers (t.next - 1)
      h.gatherers))).0

  stopped-has : (f : ℕ) (i : Interrupted) (l : List Interrupted) → interrupted_at s f ≡ i ∷ l → R i.who.number
  stopped-has f i l k =
      enters-more t s _
      (rw k at (each-those (λ (x : Interrupted). HasRecord s.records x.who.number) (of_facility f) s.interrupted
      h.interrupted)).0

  released-knows : (g : Gatherer) → Knows R (released g t (set_ended (suc (enters t s).ended) (enters t s)))
  unfolding released
  released-knows g = rel-knows R _ _ (λ q. absurd (true≢false (sym q))) (replaced R [] t _ tt (ended-knows R _ _ h₁))

  comes-knows : (g : Gatherer) → R g.who.number → Knows R (comes g t (set_ended (suc (enters t s).ended) (enters t s)))
  unfolding comes
  comes-knows g q = replaced R (record { who = g.who; come = suc g.come } ∷ []) t _ (q, tt) (ended-knows R _ _ h₁)

  effect-knows : (b : Block) → Good (effect m b t s)
  unfolding effect take_units share_server share_units
  effect-knows (generate list p) = on _ t _ (arrival-knows R _ list p _ _ h₁)
  effect-knows (advance list) = close R _ (delay-knows R _ list t _ h₁)
  effect-knows (terminate a) = close R _ (ends-knows R a _ h₁)
  effect-knows (takes x) = units-knows x false
  effect-knows (frees x) = on _ t _ (check-knows R (share_server x) _ (frees-knows x _ h₁))
  effect-knows (wait_server code v c) =
      wait_server-cases Good m code v c t s
      (λ e. waits-knows (to_wel m.edition v code) (λ R t s q h. wel-knows R m.edition v code t s q h) t s mark h)
      (λ e. close (HasRecord s.records) _
      (moves-knows (HasRecord s.records) _ t _ (wake_wel-knows (HasRecord s.records) v code s h)))
      (λ e. on _ _ _ (wake_wel-knows R v code _ h₁))
  effect-knows (wait_terms a r b) =
      wait_terms-cases Good m a r b t s (λ e. waits-knows to_wsl (λ R t s q h. wsl-knows R t s q h) t s mark h) (λ e. on _ t _ h₁)
  effect-knows (moves c target) = on _ t _ h₁
  effect-knows (assign k a) = on _ _ _ h₁
  effect-knows (priority p) = close R _ (rel-knows R _ _ (λ q. absurd (true≢false (sym q))) h₁)
  effect-knows (split n target) = on _ t _ (copies-knows R n target t _ h₁)
  effect-knows (counts c q) = on _ t _ (content-knows R q _ _ h₁)
  effect-knows (assemble n) =
      assemble-cases Good m n t s (λ e. begins-knows to_gatherers (λ R t s q h. gathers-knows R t s q h) t s h)
      (λ g l e z. close R _ (released-knows g))
      (λ g l e z. close R _ (comes-knows g (waiter-has g l e)))
  effect-knows (preempt f) =
      preempt-cases Good m f t s (λ e. units-knows (facility f) true)
      (λ x l e. on _ t _
      (check-knows R f _ (use-knows R f _ t.number true _ (known (enters-has t s)) (interrupt-knows R x t f _ (loser-has f x l e) h₁))))
  effect-knows (give_back f) =
      give_back-cases Good m f t s (λ e. on _ t _ (check-knows R f _ (frees-knows (facility f) _ h₁)))
      (λ i l e. on _ t _
      (check-knows R f _ (resume-knows R i f _ (use-knows R f _ i.who.number false _ (known (stopped-has f i l e)) h₁))))

-- ---- Turns

module _ (R : ℕ → Type 0) where
  sampled : (k : ℕ) (l : List Server) (q : List (List Transaction)) → Each (λ v. Holder R v.holder) l
      → Each (λ v. Holder R v.holder) (sample_servers k l q)
  unfolding sample_servers
  sampled k [] q h = tt
  sampled k (v ∷ l) [] h = h
  sampled k (v ∷ l) (x ∷ q) h = (h.0, sampled k l q h.1)

  arrives-knows : (l : List Event) (s : State) → Knows R s → Knows R (arrive_all l s)
  unfolding arrive_all
  arrives-knows [] s h = h
  arrives-knows (e ∷ l) s h = arrives-knows l _ (rel-knows R (with_returning false e.who) s (λ q. absurd (true≢false (sym q))) h)

  clock-knows : (time : ℕ) (s : State) → Knows R s → Knows R (move_clock time s)
  unfolding move_clock sample
  clock-knows time s h =
      arrives-knows _ _
      (record {
        ql = h.ql;
        wel = h.wel;
        wsl = h.wsl;
        rel = h.rel;
        gatherers = h.gatherers;
        interrupted = h.interrupted;
        holders = sampled _ s.view.servers s.ql h.holders;
        moving = h.moving;
        kept = h.kept;
      })

  events-knows : (l : List Event) (s : State) → Knows R s → Knows R (next_events l s)
  unfolding next_events
  events-knows [] s h = h
  events-knows (e ∷ l) s h = clock-knows e.time s h

  first-knows : (l : List Transaction) (s : State) → Each (Mark R) l → Knows R s → Knows R (take_first l s)
  unfolding take_first
  first-knows [] s k h = h
  first-knows (t ∷ l) s k h =
      record {
        ql = h.ql;
        wel = h.wel;
        wsl = h.wsl;
        rel = k.1;
        gatherers = h.gatherers;
        interrupted = h.interrupted;
        holders = h.holders;
        moving = k.0;
        kept = h.kept;
      }

  ready-knows : (l : List Transaction) (s : State) → Each (Mark R) l → Knows R s → Knows R (take_ready l s)
  unfolding take_ready
  ready-knows [] s k h = let x = events-knows s.fel s h in first-knows _ _ x.rel x
  ready-knows (t ∷ l) s k h = first-knows (t ∷ l) s k h

  taking-knows : (o : Option Transaction) (s : State) → Knows R s → Knows R (taking o s)
  unfolding taking
  taking-knows none s h = ready-knows s.rel s h.rel h
  taking-knows (some t) s h = h

answer-knows : (n : ℕ) (m : BlockModel) (b : Block) (t : Transaction) (s : State) → Mark (HasRecord s.records) t → Good s
    → Good (answer n m b t s)
unfolding answer
answer-knows zero m b t s q h =
    effect-knows m t (set_moving none s)
    (record {
      ql = h.ql;
      wel = h.wel;
      wsl = h.wsl;
      rel = h.rel;
      gatherers = h.gatherers;
      interrupted = h.interrupted;
      holders = h.holders;
      moving = tt;
      kept = h.kept;
    }) q b
answer-knows (suc n) m b t s q h =
    record {
      ql = h.ql;
      wel = h.wel;
      wsl = h.wsl;
      rel = h.rel;
      gatherers = h.gatherers;
      interrupted = h.interrupted;
      holders = h.holders;
      moving = h.moving;
      kept = h.kept;
    }

execute-knows : (o : Option Transaction) (m : BlockModel) (s : State) → Maybe (Mark (HasRecord s.records)) o → Good s
    → Good (execute o m s)
unfolding execute
execute-knows none m s q h = h
execute-knows (some t) m s q h = answer-knows _ m _ t s q h

turn-knows : (m : BlockModel) (s : State) → Good s → Good (turn m s)
unfolding turn
turn-knows m s g =
    let k = close _ _ (taking-knows (HasRecord s.records) s.moving s g) in
    let h : Good (set_turns (suc s.turns) (taking s.moving s)) =
    record {
      ql = k.ql;
      wel = k.wel;
      wsl = k.wsl;
      rel = k.rel;
      gatherers = k.gatherers;
      interrupted = k.interrupted;
      holders = k.holders;
      moving = k.moving;
      kept = k.kept;
    } in
    let x = execute-knows (taking s.moving s).moving m (set_turns (suc s.turns) (taking s.moving s)) h.moving h in
    ws_scheme-cases Good m _ (λ e. close _ _ (wake_wsl-knows _ _ _ x)) (λ e. x)

-- ---- The start

rows_empty : {A : Type 0} (P : A → Type 0) (n : ℕ) → Each (Each P) (replicate n [])
rows_empty P zero = tt
rows_empty P (suc n) = (tt, rows_empty P n)

idle-holders : (n : ℕ) (l : List ℕ) → Each (λ v. Holder (HasRecord []) v.holder) (replicate n (idle_server 1) ++ map idle_server l)
unfolding idle_server
idle-holders zero [] = tt
idle-holders zero (c ∷ l) = (nobody refl, idle-holders zero l)
idle-holders (suc n) l = (nobody refl, idle-holders n l)

idle-knows : (m : BlockModel) (tape : List (List ℕ)) → Good (idle m tape)
unfolding idle
idle-knows m tape =
    record {
      ql = rows_empty (Has (HasRecord [])) (servers m);
      wel = rows_empty (Has (HasRecord [])) (servers m * 6);
      wsl = tt;
      rel = tt;
      gatherers = rows_empty (λ g. Has (HasRecord []) g.who) (length m.blocks);
      interrupted = tt;
      holders = idle-holders m.facilities m.capacities;
      moving = tt;
      kept = λ n k. k;
    }

start_at-knows : (n : ℕ) (l : List Block) (s : State) → Good s → Good (start_at n l s)
unfolding start_at
start_at-knows n [] s h = h
start_at-knows n (b ∷ l) s h = start_at-knows (suc n) l _ (start_of-cases Good b n s (λ e. h) (λ e. close _ _ (arrival-knows _ _ _ _ n s h)))

-- ---- A run that ends dry

module _ (m : BlockModel) (budget room : ℕ) where
  nobody-last : (k : ℕ) (s : State) → s.end ≡ 0 → (run_from k m budget room s).end ≡ 1 → nobody_left (run_from k m budget room s) ≡ true
  unfolding run_from
  nobody-last zero s z e = cc
  nobody-last (suc k) s z e = go (dries m budget room _ s z e) e (nobody-last k)
    where
      go : Dries m budget room s (suc k) → (run_from (suc k) m budget room s).end ≡ 1
          → ((s : State) → s.end ≡ 0 → (run_from k m budget room s).end ≡ 1 → nobody_left (run_from k m budget room s) ≡ true)
          → nobody_left (run_from (suc k) m budget room s) ≡ true
      go (dry left q) e rest = rw q (unfold nobody_left in left)
      go (turns left zt q) e rest = rw q (rest _ zt (ap (λ (x : State). x.end) (sym q) ∙ e))

start-knows : (m : BlockModel) (tape : List (List ℕ)) → Good (start m tape)
unfolding start
start-knows m tape = start_at-knows 1 m.blocks _ (idle-knows m tape)

all_know : (m : BlockModel) (tape : List (List ℕ)) (budget room : ℕ) → Each Good (states m tape budget room)
all_know m tape budget room =
    each-state m budget room Good (λ s t h. turn-knows m s h)
    (λ s e c h.
    record {
      ql = h.ql;
      wel = h.wel;
      wsl = h.wsl;
      rel = h.rel;
      gatherers = h.gatherers;
      interrupted = h.interrupted;
      holders = h.holders;
      moving = h.moving;
      kept = h.kept;
    }) tape (start-knows m tape)

-- everybody who is left then
everyone-has : (s : State) → Good s → nobody_left s ≡ true → Each (λ t. HasRecord s.records t.number) (everyone s)
unfolding everyone moving_one
everyone-has s h left =
    let e = empty_of s left in
    let P : Transaction → Type 0 = λ t. HasRecord s.records t.number in
    let l₁ : List Transaction = flat s.ql ++ flat s.wel in
    let e₁ : Each P l₁ = each_append P (flat s.ql) (flat s.wel) (each-flat P s.ql h.ql) (each-flat P s.wel h.wel) in
    let e₂ : Each P (l₁ ++ s.wsl) = each_append P l₁ s.wsl e₁ h.wsl in
    let e₃ : Each P (l₁ ++ s.wsl ++ s.rel) = each_append P (l₁ ++ s.wsl) s.rel e₂ (rw e.rel tt) in
    let f : List Transaction = map (λ x. x.who) s.fel in
    let e₄ : Each P (l₁ ++ s.wsl ++ s.rel ++ f) = each_append P (l₁ ++ s.wsl ++ s.rel) f e₃ (rw e.fel tt) in
    let e₅ : Each P (l₁ ++ s.wsl ++ s.rel ++ f ++ moving_one s.moving) =
    each_append P (l₁ ++ s.wsl ++ s.rel ++ f) (moving_one s.moving) e₄ (rw e.moving tt) in
    let g : List Transaction = map (λ x. x.who) (flat s.gatherers) in
    let e₆ : Each P (l₁ ++ s.wsl ++ s.rel ++ f ++ moving_one s.moving ++ g) =
    each_append P (l₁ ++ s.wsl ++ s.rel ++ f ++ moving_one s.moving) g e₅
    (each_mapped (λ (x : Gatherer). x.who) P (flat s.gatherers)
    (each-flat (λ (x : Gatherer). P x.who) s.gatherers h.gatherers)) in
    each_append P (l₁ ++ s.wsl ++ s.rel ++ f ++ moving_one s.moving ++ g) (map (λ i. i.who) s.interrupted) e₆
    (each_mapped (λ (i : Interrupted). i.who) P s.interrupted h.interrupted)

-- a count that is not 0 finds one
counted : {A : Type 0} (p : A → Bool) (l : List A) (C : Type 0) → (count p l ≡ 0 → ⊥) → (P : A → Type 0) → Each P l
    → ((x : A) → P x → p x ≡ true → C) → C
unfolding count those
counted p [] C n P h f = absurd (n refl)
counted {A} p (x ∷ l) C n P h f = go (p x) refl n (λ k. counted p l C k P h.1 f)
  where
    go : (b : Bool) → p x ≡ b → (length (cond b (x ∷ those p l) (those p l)) ≡ 0 → ⊥) → ((length (those p l) ≡ 0 → ⊥) → C) → C
    go true e n rest = f x h.0 e
    go false e n rest = rest n

found : (p : Logged → Bool) (n : ℕ) (l : List Logged) → ((r : Logged) → p r ≡ true → eqb r.entry.transaction n ≡ true)
    → (count p l ≡ 0 → ⊥) → any_of (λ r. eqb r.entry.transaction n) l ≡ true
unfolding count those any_of
found p n [] f h = absurd (h refl)
found p n (r ∷ l) f h = go (p r) refl h (λ k. found p n l f k)
  where
    or_true : (a b : Bool) → b ≡ true → (a || b) ≡ true
    or_true true b e = refl
    or_true false b e = e

    go : (b : Bool) → p r ≡ b → (length (cond b (r ∷ those p l) (those p l)) ≡ 0 → ⊥)
        → ((length (those p l) ≡ 0 → ⊥) → any_of (λ r. eqb r.entry.transaction n) l ≡ true)
        → (eqb r.entry.transaction n || any_of (λ r. eqb r.entry.transaction n) l) ≡ true
    go true e h rest = rw (f r e) refl
    go false e h rest = or_true (eqb r.entry.transaction n) _ (rest h)

-- a run that ends dry has nobody left who was made and has not entered a block
pub everybody-recorded : {m : BlockModel} {tape : List (List ℕ)} → Proper m tape → (budget room : ℕ) → (start m tape).end ≡ 0
    → (run m tape budget room).end ≡ 1
    → (n : ℕ) → 1 ≤ n → n ≤ (run m tape budget room).made
    → any_of (λ r. eqb r.entry.transaction n) (run m tape budget room).records ≡ true
unfolding run standing is_living
everybody-recorded {m} {tape} proper budget room z e n low high = go (is_living m tape (run m tape budget room).records n) refl
  where
    knows : Good (run m tape budget room)
    knows = each_last Good (last m budget room tape) (all_know m tape budget room)

    keeps : Keeps m tape (run m tape budget room)
    keeps = each_last (Keeps m tape) (last m budget room tape) (keeps-all proper budget room)

    left : nobody_left (run m tape budget room) ≡ true
    left = nobody-last m budget room steps (start m tape) z e

    third_false : (a b c : Bool) → a ≡ true → b ≡ true → (a && b && c) ≡ false → c ≡ false
    third_false true true c x y d = d
    third_false true false c x y d = absurd (true≢false (sym y))
    third_false false b c x y d = absurd (true≢false (sym x))

    ours : (r : Logged) → (terminates m tape r && eqb r.entry.transaction n) ≡ true → eqb r.entry.transaction n ≡ true
    ours r d = (and_true (terminates m tape r) (eqb r.entry.transaction n) d).1

    go : (b : Bool) → is_living m tape (run m tape budget room).records n ≡ b
        → any_of (λ r. eqb r.entry.transaction n) (run m tape budget room).records ≡ true
    go true d =
        counted (λ (t : Transaction). eqb t.number n) (everyone (run m tape budget room)) _ (λ c. one c (keeps.one_place n ∙ ap bit d))
        (λ t. HasRecord (run m tape budget room).records t.number) (everyone-has (run m tape budget room) knows left)
        (λ t h q. subst (HasRecord (run m tape budget room).records) (eqb-true t.number n q) h low)
      where
        one : {k : ℕ} → k ≡ 0 → k ≡ 1 → ⊥
        one q c = omega arith
    go false d =
        found (λ r. terminates m tape r && eqb r.entry.transaction n) n (run m tape budget room).records ours
        (eqb-false _ _
        (third_false (leb 1 n) (leb n (made_by m tape (run m tape budget room).records)) _ (le-leb 1 n low)
        (le-leb n _ (rw keeps.made at high)) d))
