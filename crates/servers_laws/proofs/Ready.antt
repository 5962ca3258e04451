-- The rows stand for a state in which a server's units are known: what setting them, waking from the QL and the check of the
-- WELs make of it.
use Rattle.machine.specs.All.{ℕ, ◌+◌, ◌-◌, ◌≤◌, ◌<◌, ◌≡◌, refl, sym, ap, ◌∙◌, Bool, true, false, List, [], some, arith, length, get_or, set, length-set, get_or-set_same, Transaction, precedes, bit, Server, idle_server, Code, wel_index, State, with_use, ql_of, Parted, first_of, wake_ql}
use Rattle.machine.specs.Term
use Rattle.machine.proofs.{NobodyAble.QueueRemove.walk, Runs.Shape.wel-below}
use Rattle.machine.specs.Moves as Moves
use Rattle.machine.specs.Execute as Execute
use Rattle.rows_laws.specs.All.{links, head, tail, rel, load, first, outranks, keep_holder, wake_first, wake_walk, wake_whole, transaction_at, Sorted}
use Rattle.rows_laws.proofs.ByKind.Interruption.{keep-holder-wakes}
use Rattle.state.specs.declared.scalars.Scalars.{Scalars}
use Rattle.state.specs.All.{behind, update_server, lists_of, Listing, Tallying, Counting, Done, entering}
use Rattle.state.proofs.{ListsOf.lists-ql, StandsLaws.listing-steady, StatisticsLaws.server-tallying, StatisticsLaws.server-current}
use Rattle.state.proofs.WakingLaws.{everybody, wake-first-ql-listing, wake-ql-listing, wake-whole-ql-listing}
use Rattle.moves.specs.Motion.{with_tally, go_on_lem}
use Rattle.servers_laws.specs.{set_use, check_wels, shorter, wake_stays}
use Rattle.servers_laws.proofs as our
use our.Staying.{stays-shows}
use our.Tallies.{units-tallying, units-current, length-tallying, first-tallying}
use our.Checking.{unchecked, all-checked, checked-done}
use mathlib.Core.Path.{subst}
use lib.ListN.{drop}
use Rattle.machine.specs.Lists.{set_nth}
use Rattle.machine.specs.Setters.{set_ql, set_rel}
use Rattle.machine.specs.Moves.{wake}
use Rattle.rows_laws.proofs.Laws.{Wakes}

pub record Ready (tape_bytes : List ℕ) (x : Scalars) (t : Transaction) (v units all : ℕ) (w tally : List ℕ) (s : State) : Type 0 where
  pub listing : Listing w x.moving (some t) s
  pub tallying : Tallying tape_bytes tally s
  pub counting : Counting x s
  pub low : 1 ≤ v
  pub high : v ≤ 64
  pub held : units ≡ (Term.server_at s.view v).in_use
  pub holds : all ≡ (Term.server_at s.view v).capacity
  pub wels : (code : Code) → wel_index v code < length s.wel
  pub ql : v - 1 < length s.ql
  pub server : v - 1 < length s.view.servers
  pub samples : length s.samples ≤ 16

-- ---- Partings that agree on the QL

-- only what a part makes of this QL counts
pub wake_ql-same : (part other : List Transaction → Parted) (v : ℕ) (s : State) → part (ql_of s v) ≡ other (ql_of s v)
    → wake_ql part v s ≡ wake_ql other v s
unfolding wake_ql
wake_ql-same part other v s e = ap (λ (p : Parted). set_ql (set_nth s.ql v p.stay) (set_rel (wake p.go s.rel) s)) e

-- ---- What is done

module _ {tape_bytes : List ℕ} {x : Scalars} {t : Transaction} {v units all : ℕ} {w tally : List ℕ} {s : State}
    (h : Ready tape_bytes x t v units all w tally s) where
  low : v - 1 < 64
  low = omega (arith, h.low, h.high)

  -- other rows and another tally stand for a state with the same servers and samples
  pub as-ready : {y : Scalars} {w' tally' : List ℕ} {s' : State} → Listing w' y.moving (some t) s' → Tallying tape_bytes tally' s'
      → Counting y s'
      → s.view.servers ≡ s'.view.servers → length s.wel ≡ length s'.wel → length s.ql ≡ length s'.ql
      → s.samples ≡ s'.samples
      → Ready tape_bytes y t v units all w' tally' s'
  unfolding Term.server_at
  as-ready listing tallying counting servers wel ql samples =
      record {
        listing = listing;
        tallying = tallying;
        counting = counting;
        low = h.low;
        high = h.high;
        held = h.held ∙ ap (λ (l : List Server). (get_or l (v - 1) (idle_server 0)).in_use) servers;
        holds = h.holds ∙ ap (λ (l : List Server). (get_or l (v - 1) (idle_server 0)).capacity) servers;
        wels = λ code. omega (arith, h.wels code, wel);
        ql = omega (arith, h.ql, ql);
        server = omega (arith, h.server, ap length servers);
        samples = omega (arith, h.samples, ap length samples);
      }

  -- its statistics are brought up to date
  pub update-ready : Ready tape_bytes x t v units all w (update_server tally (v - 1) x.clock) s
  update-ready =
      as-ready h.listing
      (subst (λ (c : ℕ). Tallying tape_bytes (update_server tally (v - 1) c) s) (sym h.counting.clock)
      (server-tallying tape_bytes tally s h.tallying h.samples (v - 1) low))
      h.counting refl refl refl refl

  -- after an update nothing of the server is behind the clock
  pub update-current : behind (update_server tally (v - 1) x.clock) (v - 1) ≡ false
  update-current =
      subst (λ (c : ℕ). behind (update_server tally (v - 1) c) (v - 1) ≡ false) (sym h.counting.clock)
      (server-current tape_bytes tally s h.tallying h.samples (v - 1) low)

  -- the row of its holder is kept
  pub keep-ready : (k : ℕ) → Ready tape_bytes x t v units all (keep_holder w (v - 1) k) tally s
  keep-ready k =
      let kept : Wakes w (keep_holder w (v - 1) k) (lists_of s) s.fel =
      keep-holder-wakes w (lists_of s) s.fel h.listing.shows (v - 1) k in
      as-ready (listing-steady kept.shows kept.steady h.listing) h.tallying h.counting refl refl refl refl

  -- the WELs are checked and the transaction goes on
  pub ready-done : t.next < 4294967295
      → Done tape_bytes (with_tally (go_on_lem (check_wels w (v - 1) units all) x) tally) (entering (Moves.go_on_lem t (Execute.check_wels v s)))
  ready-done =
      checked-done x
      (all-checked x.moving (some t) s v units all h.held h.holds (λ code. wel-below v code 64 h.low h.high) h.wels w s
      (unchecked s h.listing))
      h.tallying h.counting

  -- where its statistics are up to date
  module _ (now : behind tally (v - 1) ≡ false) where
    -- so many units are in use, who holds it, and whether by PREEMPT
    pub set-ready : (n who : ℕ) (preempts : Bool)
        → Ready tape_bytes x t v n all w (set_use tally (v - 1) n who (bit preempts)) (Moves.set_use v n who preempts s)
    unfolding Moves.set_use Term.server_at
    set-ready n who preempts =
        let server : Server = get_or s.view.servers (v - 1) (idle_server 0) in
        let is : get_or (set s.view.servers (v - 1) (with_use n who preempts server)) (v - 1) (idle_server 0)
        ≡ with_use n who preempts server =
        get_or-set_same s.view.servers (v - 1) (with_use n who preempts server) (idle_server 0) h.server in
        record {
          listing = h.listing;
          tallying = units-tallying tape_bytes tally s h.tallying h.samples v h.low h.high now n who preempts h.server;
          counting = h.counting;
          low = h.low;
          high = h.high;
          held = sym (ap (λ (y : Server). y.in_use) is);
          holds = h.holds ∙ sym (ap (λ (y : Server). y.capacity) is);
          wels = h.wels;
          ql = h.ql;
          server = omega (arith, h.server, length-set s.view.servers (v - 1) (with_use n who preempts server));
          samples = h.samples;
        }

    -- setting the use leaves the statistics where they are
    pub set-current : (n who : ℕ) (preempts : Bool) → behind (set_use tally (v - 1) n who (bit preempts)) (v - 1) ≡ false
    set-current n who preempts =
        units-current tape_bytes tally s h.tallying h.samples v h.low h.high now n who preempts h.server

    -- the first of the QL is woken
    pub first-ready : Ready tape_bytes x t v units all (wake_first w (v - 1)) (shorter tally (v - 1)) (wake_ql first_of v s)
    unfolding wake_ql
    first-ready =
        as-ready (wake-first-ql-listing w x.moving (some t) s h.listing v low h.ql)
        (first-tallying tape_bytes tally s h.tallying h.samples v h.low h.high now h.ql) h.counting
        refl refl (sym (length-set s.ql (v - 1) (drop 1 (ql_of s v)))) refl

    -- all of the QL are woken at once
    pub whole_ready : Sorted precedes (ql_of s v) → first w (v - 1) < 1024
        → (first w rel < 1024 → outranks w (load w (tail (v - 1)) - links) (first w rel) ≡ true)
        → Ready tape_bytes x t v units all (wake_whole w (v - 1) (get_or tally (768 + (v - 1)) 0)) (set tally (768 + (v - 1)) 0)
        (wake_ql everybody v s)
    unfolding wake_ql
    whole_ready sorted there ahead =
        as-ready (wake-whole-ql-listing w _ _ s h.listing v low h.ql sorted there ahead _ (h.tallying.servers.waiting _ low))
        (length-tallying tape_bytes tally s h.tallying h.samples v h.low h.high now [] 0 refl h.ql) h.counting
        refl refl (sym (length-set s.ql _ [])) refl

    -- those of the QL that a walk takes are woken
    module _ (test : ℕ → List ℕ → ℕ → Bool) (next : ℕ → List ℕ → ℕ → ℕ) (P : ℕ → Transaction → Bool) (N : ℕ → Transaction → ℕ)
        (agree : (n : ℕ) (u : List ℕ) (j : ℕ) → test n u j ≡ P n (transaction_at u j))
        (follow : (n : ℕ) (u : List ℕ) (j : ℕ) → next n u j ≡ N n (transaction_at u j)) (left : ℕ) where
      stay : wake_stays test next 1024 left w (v - 1) (head (v - 1)) ≡ length (walk P N left (ql_of s v)).stay
      stay =
          stays-shows test next P N agree follow s.fel (v - 1) (omega (arith, low)) left w (lists_of s) h.listing.shows
          ∙ ap (λ (l : List Transaction). length (walk P N left l).stay) (lists-ql s (v - 1) low)

      pub passed-ready : Ready tape_bytes x t v units all (wake_walk test next 1024 left w (v - 1) (head (v - 1)))
          (set tally (768 + (v - 1)) (wake_stays test next 1024 left w (v - 1) (head (v - 1)))) (wake_ql (walk P N left) v s)
      unfolding wake_ql
      passed-ready =
          let l : List Transaction = (walk P N left (ql_of s v)).stay in
          as-ready (wake-ql-listing w x.moving (some t) s h.listing v low h.ql test next P N agree follow left)
          (length-tallying tape_bytes tally s h.tallying h.samples v h.low h.high now l _ stay h.ql) h.counting
          refl refl (sym (length-set s.ql (v - 1) l)) refl
