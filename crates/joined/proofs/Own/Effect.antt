-- One block of the part, executed in the joined state and in the part's own: the relation is kept.
use Rattle.machine.specs.All.{ℕ, suc, ◌+◌, ◌-◌, ◌≤◌, ◌<◌, ◌≡◌, refl, sym, ap₂, subst, Bool, true, false, cond, ◌&&◌, List, [], ◌∷◌, map, Option, none, some, arith, ltb, leb, eqb, lt-ltb, le-leb, Transaction, Event, Gatherer, Interrupted, set_nth, Term, server_at, free, evaluate, truth, compare, Condition, always, when_true, Code, status, Share, facility, storage, share_server, share_units, share_holder, Block, generate, advance, terminate, takes, frees, wait_server, wait_terms, moves, assign, priority, split, counts, assemble, preempt, give_back, facts, BlockModel, unconditional, State, with_priority, with_parameters, with_next, with_returning, with_stamp, set_ended, log, enters, move_to, go_on_lem, to_ql, to_wel, to_wsl, begin_wait, must_wait, wake_first_wel, set_use, set_holder, waits_for, to_gatherers, comes, released, interrupted_at, losers_to, check_wels, wake_for, free_units, ends_one, gathers, gives_back, stamped, take_units, effect, gathering, preempting, Each, Relation, queue_at, Change, begins_group, delay, changed, part_for, to_rel, set_content, times_left, arrival, wake_ql}
use Rattle.machine.proofs.Decoding.Proper.{Names, servers, ProperShare, ProperBlock, code-server, share-server}
use Rattle.joined.specs.{Part, server_in, share_in, term_in, condition_in, block_in, in_part}
use Rattle.joined.proofs as our
use our.Lists.Ranks.{listed, nobody, rank_in, rank-zero, Named}
use our.Relation.Naming.{Naming, Known, event_as, gatherer_as}
use our.Relation.Seen.{size, Tables, alone_as, interrupted_as, Seen}
use our.Own.Terms.{evaluate-same, truth-same, PlainCondition}
use our.Own.Inside.{PlainBlock, Inside, share-server as share-image, share-units}
use our.Own.Moves.{Standing, standing, Together, enters-own, ql-own, wel-own, wsl-own}
use our.Own.Steps.{ql-seen, server-seen, wake_ql-own, wake_first_wel-own, set_use-own, set_content-own, content-seen, times-seen, status-seen, check_wels-own}
use our.Own.Makes.{After, after-here, to_rel-after, arrival-own, copies-own, delay-own, next-back, begin_wait-own, must_wait-own}
use our.Own.Assemble.{waits_for-seen, comes-own, released-own, gatherers-put}
use our.Own.Preempt.{Others, losers-seen, interrupt-own, interrupted_at-seen, resume-own}
use our.Own.Parting.{parts-own}
use lib.IntN.{ℤ}

module _ (p : Part) (m : BlockModel) where
  -- who moves on both sides
  pub data Moved (N : Naming) : Option Transaction → Option Transaction → Type 0 where
    still : Moved N none none
    goes : (t : Transaction) → Known p (size p m) N t → Moved N (some t) (some (alone_as p m N t))

  -- what a turn of the part leaves
  pub record Done (N : Naming) (s s' : State) : Type 0 where
    pub naming : Naming
    pub seen : Seen p m naming s s'
    pub clock : s'.view.clock ≡ s.view.clock
    pub moving : Moved naming s.moving s'.moving
    pub numbers : (k : ℕ) → k ≤ N.since → naming.numbers k ≡ N.numbers k
    pub since : naming.since ≡ N.since

  pub in-part : (b : ℕ) → Names (size p m) b → in_part p (size p m) (b + p.to_block) ≡ true
  in-part b n = rw (lt-ltb p.to_block (b + p.to_block) (omega arith), le-leb (b + p.to_block) (p.to_block + size p m) (omega arith)) refl

  done-still : {N : Naming} {s s' : State} → After p m N s s' → Done N s s'
  done-still {N} {s} {s'} a =
      record {
        naming = a.naming;
        seen = a.together.seen;
        clock = a.together.clock;
        moving =
            subst (λ (o : Option Transaction). Moved a.naming o s'.moving) (sym a.together.still.0)
            (subst (λ (o : Option Transaction). Moved a.naming none o) (sym a.together.still.1) still);
        numbers = a.keeps.numbers;
        since = a.keeps.since;
      }

  -- it goes to block b
  done-moves : {N : Naming} {s s' : State} → After p m N s s' → (t : Transaction) → Known p (size p m) N t → (b : ℕ)
      → in_part p (size p m) b ≡ true
      → Done N (move_to b t s) (move_to (b - p.to_block) (alone_as p m N t) s')
  unfolding move_to
  done-moves {N} {s} {s'} a t k b on =
      let k' = a.keeps.known t k in
      let h = a.together.seen in
      record {
        naming = a.naming;
        seen = record { counted = h.counted; fixtures = h.fixtures; lined = h.lined; listed = h.listed; told = h.told };
        clock = a.together.clock;
        moving =
            subst (λ (u : Transaction). Moved a.naming (some (with_returning false (with_next b t)))
            (some (with_returning false (with_next (b - p.to_block) u)))) (sym (a.keeps.same t k))
            (goes (with_returning false (with_next b t))
            (record { own = on; serial = k'.serial; number = k'.number; family = k'.family }));
        numbers = a.keeps.numbers;
        since = a.keeps.since;
      }

  module _ (T : Tables p m) where
    -- one block on
    done_on : {N : Naming} {s s' : State} → After p m N s s' → (t : Transaction) → Known p (size p m) N t
        → in_part p (size p m) (suc t.next) ≡ true
        → Done N (go_on_lem t s) (go_on_lem (alone_as p m N t) s')
    done_on {N} {s} {s'} a t k on =
        subst (λ (b : ℕ). Done N (go_on_lem t s) (move_to b (alone_as p m N t) s')) (next-back p m T t k.own)
        (done-moves a t k (suc t.next) on)

-- ---- Each kind

module _ (p : Part) (m M : BlockModel) (I : Inside p m M) (N : Naming) (s s' : State) (h : Together p m N s s') (t : Transaction)
    (k : Known p (size p m) N t) where
  abbrev T : Tables p m
  T = I.tables

  abbrev t' : Transaction
  t' = alone_as p m N t

  abbrev On : Type 0
  On = in_part p (size p m) (suc t.next) ≡ true

  h₁ : Together p m N (enters t s) (enters t' s')
  h₁ = enters-own p m T N s s' h t k

  generate-own : (list rank : ℕ) → Names m.lists list → On
      → Done p m N (effect M (generate (list + p.to_list) rank) t s) (effect m (generate list rank) t' s')
  unfolding effect
  generate-own list rank i on =
      done_on p m T
      (subst
      (λ (l : List ℕ). After p m N (arrival (times_left s (list + p.to_list)) (list + p.to_list) rank t.next (enters t s))
      (arrival l list rank (t.next - p.to_block) (enters t' s')))
      (sym (times-seen p m T N s s' h list i))
      (arrival-own p m T (times_left s (list + p.to_list)) list rank t.next i k.own N _ _ h₁)) t k on

  advance-own : (list : ℕ) → Names m.lists list → On
      → Done p m N (effect M (advance (list + p.to_list)) t s) (effect m (advance list) t' s')
  unfolding effect
  advance-own list i on =
      done-still p m
      (subst
      (λ (l : List ℕ). After p m N (delay (times_left s (list + p.to_list)) (list + p.to_list) t (enters t s))
      (delay l list t' (enters t' s')))
      (sym (times-seen p m T N s s' h list i)) (delay-own p m T (times_left s (list + p.to_list)) list i t N _ _ h₁ k on))

  terminate-own : (a : ℕ) → Done p m N (effect M (terminate a) t s) (effect m (terminate a) t' s')
  unfolding effect ends_one
  terminate-own a =
      done-still p m
      (after-here p m
      (record {
        seen =
            record {
              counted = h₁.seen.counted;
              fixtures = h₁.seen.fixtures;
              lined = h₁.seen.lined;
              listed = h₁.seen.listed;
              told = h₁.seen.told;
            };
        clock = h₁.clock;
        still = h₁.still;
      }))

  -- ---- Servers

  -- on the QL, on a WEL
  queues-own : (v : ℕ) → Names (servers m) v
      → Done p m N (must_wait (to_ql M.edition (server_in p v)) t s) (must_wait (to_ql m.edition v) t' s')
  queues-own v i =
      subst (λ (e : ℕ). Done p m N (must_wait (to_ql e (server_in p v)) t s) (must_wait (to_ql m.edition v) t' s')) (sym I.edition)
      (done-still p m
      (must_wait-own p m T (to_ql m.edition (server_in p v)) (to_ql m.edition v)
      (λ N s s' h u q. ql-own p m T N s s' h m.edition v i u q) t N s s' h k))

  gates-own : (v : ℕ) (code : Code) → Names (servers m) v
      → Done p m N (must_wait (to_wel M.edition (server_in p v) code) t s) (must_wait (to_wel m.edition v code) t' s')
  gates-own v code i =
      subst (λ (e : ℕ). Done p m N (must_wait (to_wel e (server_in p v) code) t s) (must_wait (to_wel m.edition v code) t' s'))
      (sym I.edition)
      (done-still p m
      (must_wait-own p m T (to_wel m.edition (server_in p v) code) (to_wel m.edition v code)
      (λ N s s' h u q. wel-own p m T N s s' h m.edition v code i u q) t N s s' h k))

  -- it holds units of a server, and the WEL check follows
  holds-own : (v units holder holder' : ℕ) (preempted : Bool) → Names (servers m) v → Named N.numbers holder
      → rank_in N.numbers holder ≡ holder'
      → (r r' : State) → Together p m N r r'
      → Together p m N (check_wels (server_in p v) (set_use (server_in p v) units holder preempted r))
      (check_wels v (set_use v units holder' preempted r'))
  holds-own v units holder holder' preempted i n e r r' q =
      subst (λ (x : ℕ). Together p m N (check_wels (server_in p v) (set_use (server_in p v) units holder preempted r))
      (check_wels v (set_use v units x preempted r'))) e
      (check_wels-own p m T N v i _ _ (set_use-own p m T N r r' q v units holder preempted i n))

  takes-own : (v b holder holder' : ℕ) (preempted : Bool) → Names (servers m) v → Named N.numbers holder
      → rank_in N.numbers holder ≡ holder' → On
      → Done p m N
      (cond (leb b (free (server_at s.view (server_in p v))))
      (go_on_lem t
      (check_wels (server_in p v) (set_use (server_in p v) ((server_at s.view (server_in p v)).in_use + b) holder preempted (enters t s))))
      (must_wait (to_ql M.edition (server_in p v)) t s))
      (cond (leb b (free (server_at s'.view v)))
      (go_on_lem t' (check_wels v (set_use v ((server_at s'.view v).in_use + b) holder' preempted (enters t' s'))))
      (must_wait (to_ql m.edition v) t' s'))
  takes-own v b holder holder' preempted i n e on =
      let same = server-seen p m T N s s' h v i in
      subst
      (λ (c : Bool).
      Done p m N
      (cond (leb b (free (server_at s.view (server_in p v))))
      (go_on_lem t
      (check_wels (server_in p v) (set_use (server_in p v) ((server_at s.view (server_in p v)).in_use + b) holder preempted (enters t s))))
      (must_wait (to_ql M.edition (server_in p v)) t s))
      (cond c (go_on_lem t' (check_wels v (set_use v ((server_at s'.view v).in_use + b) holder' preempted (enters t' s'))))
      (must_wait (to_ql m.edition v) t' s')))
      (ap₂ (λ (x y : ℕ). leb b (x - y)) (sym same.capacity) (sym same.in_use))
      (go (leb b (free (server_at s.view (server_in p v)))) same.in_use)
    where
      go : (c : Bool) → (server_at s'.view v).in_use ≡ (server_at s.view (server_in p v)).in_use
          → Done p m N
          (cond c
          (go_on_lem t
          (check_wels (server_in p v)
          (set_use (server_in p v) ((server_at s.view (server_in p v)).in_use + b) holder preempted (enters t s)))) (must_wait (to_ql
          M.edition (server_in p v)) t s))
          (cond c (go_on_lem t' (check_wels v (set_use v ((server_at s'.view v).in_use + b) holder' preempted (enters t' s'))))
          (must_wait (to_ql m.edition v) t' s'))
      go true same =
          subst
          (λ (x : ℕ).
          Done p m N
          (go_on_lem t
          (check_wels (server_in p v) (set_use (server_in p v) ((server_at s.view (server_in p v)).in_use + b) holder preempted (enters t s))))
          (go_on_lem t' (check_wels v (set_use v (x + b) holder' preempted (enters t' s')))))
          (sym same) (done_on p m T (after-here p m (holds-own v _ holder holder' preempted i n e _ _ h₁)) t k on)
      go false same = queues-own v i

  units-own : (x : Share) (preempts : Bool) → ProperShare m x → On
      → Done p m N (take_units M (share_in p x) preempts t s) (take_units m x preempts t' s')
  unfolding take_units share_in share_server share_units share_holder
  units-own (facility v) preempts ok on =
      takes-own v 1 t.number (rank_in N.numbers t.number) preempts (share-server m (facility v) ok) (listed k.number) refl on
  units-own (storage v b) preempts ok on =
      takes-own v b 0 0 preempts (share-server m (storage v b) ok) (nobody refl) (rank-zero N.numbers) on

  -- units are freed and waiters woken
  frees-own : (x : Share) → Names (servers m) (share_server x) → (r r' : State) → Together p m N r r'
      → Together p m N (wake_for M (share_in p x) (free_units (share_server (share_in p x)) (share_units (share_in p x)) r))
      (wake_for m x (free_units (share_server x) (share_units x) r'))
  unfolding wake_for
  frees-own x i r r' q =
      let v : ℕ = share_server x in
      let b : ℕ = share_units x in
      subst
      (λ (v'' : ℕ). Together p m N
      (wake_ql (part_for M (share_in p x) (free_units v'' (share_units (share_in p x)) r).view) v'' (free_units v'' (share_units (share_in p x)) r))
      (wake_for m x (free_units v b r')))
      (sym (share-image p x))
      (subst
      (λ (b'' : ℕ). Together p m N
      (wake_ql (part_for M (share_in p x) (free_units (server_in p v) b'' r).view) (server_in p v) (free_units (server_in p v) b'' r))
      (wake_for m x (free_units v b r')))
      (sym (share-units p x))
      (woken v b))
    where
      freed : (v b : ℕ) → Names (servers m) v → Together p m N (free_units (server_in p v) b r) (free_units v b r')
      freed v b i =
          subst (λ (y : ℕ). Together p m N (free_units (server_in p v) b r) (set_use v (y - b) 0 false r'))
          (sym (server-seen p m T N r r' q v i).in_use)
          (subst
          (λ (z : ℕ). Together p m N (free_units (server_in p v) b r) (set_use v ((server_at r.view (server_in p v)).in_use - b) z false r'))
          (rank-zero N.numbers)
          (set_use-own p m T N r r' q v ((server_at r.view (server_in p v)).in_use - b) 0 false i (nobody refl)))

      woken : (v b : ℕ)
          → Together p m N
          (wake_ql (part_for M (share_in p x) (free_units (server_in p (share_server x)) (share_units x) r).view) (server_in p (share_server x))
          (free_units (server_in p (share_server x)) (share_units x) r)) (wake_for m x (free_units (share_server x) (share_units x) r'))
      woken v b =
          let f = freed (share_server x) (share_units x) i in
          wake_ql-own p m T N _ _ f _ _ (share_server x) i
          (parts-own p m M I N x _ _ (server-seen p m T N _ _ f (share_server x) i) _ _ (ql-seen p m T N _ _ f (share_server x) i))

  release-own : (x : Share) → ProperShare m x → On → Done p m N (effect M (frees (share_in p x)) t s) (effect m (frees x) t' s')
  unfolding effect
  release-own x ok on =
      let i = share-server m x ok in
      let f = frees-own x i _ _ h₁ in
      subst
      (λ (v : ℕ).
      Done p m N
      (go_on_lem t (check_wels v (wake_for M (share_in p x) (free_units (share_server (share_in p x)) (share_units (share_in p x)) (enters t s)))))
      (go_on_lem t' (check_wels (share_server x) (wake_for m x (free_units (share_server x) (share_units x) (enters t' s'))))))
      (sym (share-image p x)) (done_on p m T (after-here p m (check_wels-own p m T N (share_server x) i _ _ f)) t k on)

  -- ---- Waits on a code

  at : Standing p m t.next
  at = standing p m t.next k.own

  stamp-same : begins_group m (t.next - p.to_block) ≡ begins_group M t.next
  stamp-same =
      sym (subst (λ (b : ℕ). begins_group M b ≡ begins_group m (t.next - p.to_block)) at.there
      (I.groups (t.next - p.to_block) at.names))

  passes-own : (code : Code) (v : ℕ) → Names (servers m) v → On
      → Done p m N (go_on_lem (stamped M t s) (wake_first_wel (server_in p v) code (enters t s)))
      (go_on_lem (stamped m t' s') (wake_first_wel v code (enters t' s')))
  passes-own code v i on =
      subst
      (λ (x : ℕ).
      Done p m N (go_on_lem (stamped M t s) (wake_first_wel (server_in p v) code (enters t s)))
      (go_on_lem (with_stamp x t') (wake_first_wel v code (enters t' s'))))
      (ap₂ (λ (b : Bool) (c : ℕ). cond b c t.stamp) (sym stamp-same) (sym h.clock))
      (done_on p m T (after-here p m (wake_first_wel-own p m T N _ _ h₁ v code i)) (stamped M t s)
      (record { own = k.own; serial = k.serial; number = k.number; family = k.family }) on)

  back-own : (code : Code) (v c : ℕ) → Names (servers m) v → c < t.next - p.to_block
      → Done p m N (move_to (t.next - c) t (wake_first_wel (server_in p v) code s))
      (move_to (t.next - p.to_block - c) t' (wake_first_wel v code s'))
  back-own code v c i lt =
      let b : Names (size p m) (t.next - p.to_block - c) = (omega arith, omega (arith, at.names.1)) in
      let e : t.next - p.to_block - c + p.to_block ≡ t.next - c = omega (arith, at.there) in
      let e' : t.next - c - p.to_block ≡ t.next - p.to_block - c = omega (arith, at.there) in
      subst (λ (n : ℕ). Done p m N (move_to (t.next - c) t (wake_first_wel (server_in p v) code s)) (move_to n t' (wake_first_wel v code s'))) e'
      (done-moves p m (after-here p m (wake_first_wel-own p m T N s s' h v code i)) t k (t.next - c)
      (subst (λ (n : ℕ). in_part p (size p m) n ≡ true) e (in-part p m (t.next - p.to_block - c) b)))

  wait_server-own : (code : Code) (v c : ℕ) → Names (servers m) v → c < t.next - p.to_block → On
      → Done p m N (effect M (wait_server code (server_in p v) c) t s) (effect m (wait_server code v c) t' s')
  unfolding effect
  wait_server-own code v c i lt on =
      rw (status-seen p m T N code _ _ (server-seen p m T N s s' h v i))
      (subst
      (λ (n : ℕ).
      Done p m N
      (cond (status code (server_at s.view (server_in p v))) (must_wait (to_wel M.edition (server_in p v) code) t s)
      (cond (ltb 0 c && ltb t.stamp s.view.clock) (move_to (t.next - c) t (wake_first_wel (server_in p v) code s))
      (go_on_lem (stamped M t s) (wake_first_wel (server_in p v) code (enters t s)))))
      (cond (status code (server_at s.view (server_in p v))) (must_wait (to_wel m.edition v code) t' s')
      (cond (ltb 0 c && ltb t.stamp n) (move_to (t.next - p.to_block - c) t' (wake_first_wel v code s'))
      (go_on_lem (stamped m t' s') (wake_first_wel v code (enters t' s'))))))
      (sym h.clock) (go (status code (server_at s.view (server_in p v))) (ltb 0 c && ltb t.stamp s.view.clock)))
    where
      go : (a b : Bool)
          → Done p m N
          (cond a (must_wait (to_wel M.edition (server_in p v) code) t s)
          (cond b (move_to (t.next - c) t (wake_first_wel (server_in p v) code s))
          (go_on_lem (stamped M t s) (wake_first_wel (server_in p v) code (enters t s)))))
          (cond a (must_wait (to_wel m.edition v code) t' s')
          (cond b (move_to (t.next - p.to_block - c) t' (wake_first_wel v code s'))
          (go_on_lem (stamped m t' s') (wake_first_wel v code (enters t' s')))))
      go true b = gates-own v code i
      go false true = back-own code v c i lt
      go false false = passes-own code v i on

  -- ---- Terms

  truth-own : (c : Condition) → PlainCondition p m c
      → truth m.values s'.view t.parameters c ≡ truth M.values s.view t.parameters (condition_in p c)
  truth-own c q = truth-same p m M I.values N _ _ _ _ h.seen.fixtures t.parameters c q

  wait_terms-own : (a : Term) (r : Relation) (b : Term) → PlainBlock p m (wait_terms a r b) → On
      → Done p m N (effect M (wait_terms (term_in p a) r (term_in p b)) t s) (effect m (wait_terms a r b) t' s')
  unfolding effect truth condition_in
  wait_terms-own a r b q on =
      subst
      (λ (c : Bool). Done p m N (effect M (wait_terms (term_in p a) r (term_in p b)) t s)
      (cond c (must_wait to_wsl t' s') (go_on_lem t' (enters t' s'))))
      (sym (truth-own (when_true a r b) q)) (go (compare M.values s.view t.parameters (term_in p a) r (term_in p b)))
    where
      go : (c : Bool)
          → Done p m N (cond c (must_wait to_wsl t s) (go_on_lem t (enters t s))) (cond c (must_wait to_wsl t' s') (go_on_lem t' (enters t' s')))
      go true = done-still p m (must_wait-own p m T to_wsl to_wsl (λ N s s' h u q. wsl-own p m T N s s' h u q) t N s s' h k)
      go false = done_on p m T (after-here p m h₁) t k on

  falls : (c : Condition) → truth M.values s.view t.parameters (condition_in p c) ≡ false → unconditional c ≡ false
  unfolding truth condition_in unconditional
  falls always e = e
  falls (when_true a r b) e = refl

  moves-own : (c : Condition) (target : ℕ) → PlainBlock p m (moves c target) → Names (size p m) target → (unconditional c ≡ false → On)
      → Done p m N (effect M (moves (condition_in p c) (target + p.to_block)) t s) (effect m (moves c target) t' s')
  unfolding effect
  moves-own c target q n on = rw (truth-own c q) (go (truth M.values s.view t.parameters (condition_in p c)) (falls c))
    where
      back : target + p.to_block - p.to_block ≡ target
      back = omega arith

      go : (b : Bool) → (b ≡ false → unconditional c ≡ false)
          → Done p m N (move_to (cond b (target + p.to_block) (suc t.next)) t (enters t s))
          (move_to (cond b target (suc (t.next - p.to_block))) t' (enters t' s'))
      go true f =
          subst (λ (b : ℕ). Done p m N (move_to (target + p.to_block) t (enters t s)) (move_to b t' (enters t' s'))) back
          (done-moves p m (after-here p m h₁) t k (target + p.to_block) (in-part p m target n))
      go false f = done_on p m T (after-here p m h₁) t k (on (f refl))

  assign-own : (i : ℕ) (a : Term) → PlainBlock p m (assign i a) → On
      → Done p m N (effect M (assign i (term_in p a)) t s) (effect m (assign i a) t' s')
  unfolding effect
  assign-own i a q on =
      let x : ℤ = evaluate M.values s.view t.parameters (term_in p a) in
      subst (λ (y : ℤ). Done p m N (effect M (assign i (term_in p a)) t s)
      (go_on_lem (with_parameters (set_nth t.parameters i y) t') (enters t' s')))
      (sym (evaluate-same p m M I.values N _ _ _ _ h.seen.fixtures t.parameters a q))
      (done_on p m T (after-here p m h₁) (with_parameters (set_nth t.parameters i x) t)
      (record { own = k.own; serial = k.serial; number = k.number; family = k.family }) on)

  -- ---- Flow

  priority-own : (r : ℕ) → On → Done p m N (effect M (priority r) t s) (effect m (priority r) t' s')
  unfolding effect
  priority-own r on =
      subst (λ (b : ℕ). Done p m N (effect M (priority r) t s)
      (to_rel (with_priority r (with_returning false (with_next b t'))) (enters t' s'))) (next-back p m T t k.own)
      (done-still p m
      (to_rel-after p m T N _ _ h₁ (with_priority r (with_returning false (with_next (suc t.next) t)))
      (record { own = on; number = k.number; family = k.family })))

  -- ---- Families

  split-own : (n target : ℕ) → Names (size p m) target → On
      → Done p m N (effect M (split n (target + p.to_block)) t s) (effect m (split n target) t' s')
  unfolding effect
  split-own n target i on = done_on p m T (copies-own p m T n target (in-part p m target i) t N _ _ h₁ k) t k on

  counts-own : (c : Change) (q : ℕ) → Names m.queues q → On
      → Done p m N (effect M (counts c (q + p.to_queue)) t s) (effect m (counts c q) t' s')
  unfolding effect
  counts-own c q i on =
      subst (λ (x : ℕ). Done p m N (effect M (counts c (q + p.to_queue)) t s) (go_on_lem t' (set_content q (changed c x) (enters t' s'))))
      (sym (content-seen p m T N s s' h q i))
      (done_on p m T (after-here p m (set_content-own p m T N _ _ h₁ q (changed c (queue_at s.view (q + p.to_queue)).content) i)) t k on)

  ended-own : Together p m N (set_ended (suc (enters t s).ended) (enters t s)) (set_ended (suc (enters t' s').ended) (enters t' s'))
  ended-own =
      record {
        seen =
            record {
              counted = h₁.seen.counted;
              fixtures = h₁.seen.fixtures;
              lined = h₁.seen.lined;
              listed = h₁.seen.listed;
              told = h₁.seen.told;
            };
        clock = h₁.clock;
        still = h₁.still;
      }

  assemble-own : (n : ℕ) → On → Done p m N (effect M (assemble n) t s) (effect m (assemble n) t' s')
  unfolding effect gathers
  assemble-own n on =
      let w = waits_for-seen p m T N s s' h t k in
      subst
      (λ (l : List Gatherer).
      Done p m N (effect M (assemble n) t s)
      (gathering (λ f. f (enters t' s')) (λ put. must_wait put t' s') (λ f. f s') (λ put. begin_wait put t' s') l n t'))
      (sym w.same) (go (waits_for t s) w.known)
    where
      go : (l : List Gatherer) → Each (λ g. Known p (size p m) N g.who) l
          → Done p m N (gathering (λ f. f (enters t s)) (λ put. must_wait put t s) (λ f. f s) (λ put. begin_wait put t s) l n t)
          (gathering (λ f. f (enters t' s')) (λ put. must_wait put t' s') (λ f. f s') (λ put. begin_wait put t' s')
          (map (gatherer_as p (size p m) N) l) n t')
      go [] q = done-still p m (begin_wait-own p m T to_gatherers to_gatherers (gatherers-put p m T) t N s s' h k)
      go (g ∷ l) q = either (eqb (suc g.come) n)
        where
          either : (b : Bool)
              → Done p m N
              (cond b (released g t (set_ended (suc (enters t s).ended) (enters t s)))
              (comes g t (set_ended (suc (enters t s).ended) (enters t s))))
              (cond b (released (gatherer_as p (size p m) N g) t' (set_ended (suc (enters t' s').ended) (enters t' s')))
              (comes (gatherer_as p (size p m) N g) t' (set_ended (suc (enters t' s').ended) (enters t' s'))))
          either true = done-still p m (released-own p m T N _ _ ended-own t k g q.0 on)
          either false = done-still p m (after-here p m (comes-own p m T N _ _ ended-own t k g q.0))

  -- ---- Facilities that are taken over

  server-of : (f : ℕ) → Names m.facilities f → Names (servers m) f
  server-of f ok = (ok.0, omega arith)

  others-entered : Others p m T N s.fel → Others p m T N (enters t s).fel
  unfolding enters log
  others-entered o = o

  -- another holds a facility
  holder-own : (f holder : ℕ) (preempted : Bool) → Names (servers m) f → Named N.numbers holder → (r r' : State) → Together p m N r r'
      → Together p m N (set_holder (server_in p f) holder preempted r) (set_holder f (rank_in N.numbers holder) preempted r')
  holder-own f holder preempted i n r r' q =
      subst (λ (x : ℕ). Together p m N (set_holder (server_in p f) holder preempted r)
      (set_use f x (rank_in N.numbers holder) preempted r')) (sym (server-seen p m T N r r' q f i).in_use)
      (set_use-own p m T N r r' q f (server_at r.view (server_in p f)).in_use holder preempted i n)

  preempt-own : (f : ℕ) → Names m.facilities f → On → Others p m T N s.fel
      → Done p m N (effect M (preempt (server_in p f)) t s) (effect m (preempt f) t' s')
  unfolding effect take_units
  preempt-own f ok on o =
      let i = server-of f ok in
      let w = losers-seen p m T N t _ _ (server-seen p m T N s s' h f i) s.fel s'.fel h.seen.listed.fel.part o in
      subst
      (λ (l : List Event).
      Done p m N (effect M (preempt (server_in p f)) t s)
      (preempting (λ f. f (enters t' s')) (λ put. must_wait put t' s') (λ f. f s') (λ put. begin_wait put t' s') l m f t' s'))
      (sym w.same) (go i (losers_to t (server_in p f) s) w.known)
    where
      go : Names (servers m) f → (l : List Event) → Each (λ e. Known p (size p m) N e.who) l
          → Done p m N
          (preempting (λ f. f (enters t s)) (λ put. must_wait put t s) (λ f. f s) (λ put. begin_wait put t s) l M (server_in p f) t s)
          (preempting (λ f. f (enters t' s')) (λ put. must_wait put t' s') (λ f. f s') (λ put. begin_wait put t' s')
          (map (event_as p (size p m) N) l) m f t' s')
      go i [] q = unfold share_in in units-own (facility f) true ok on
      go i (e ∷ l) q =
          done_on p m T
          (after-here p m
          (check_wels-own p m T N f i _ _
          (holder-own f t.number true i (listed k.number) _ _
          (interrupt-own p m T N _ _ h₁ f ok (I.facility f ok) e t q.0 (others-entered o))))) t k on

  give_back-own : (f : ℕ) → Names m.facilities f → On → Done p m N (effect M (give_back (server_in p f)) t s) (effect m (give_back f) t' s')
  unfolding effect gives_back share_in share_server share_units
  give_back-own f ok on =
      let i = server-of f ok in
      let w = interrupted_at-seen p m T N s s' h f ok (I.facility f ok) in
      subst (λ (l : List Interrupted). Done p m N (effect M (give_back (server_in p f)) t s)
      (go_on_lem t' (check_wels f (gives_back m l f (enters t' s'))))) (sym w.same) (go i (interrupted_at s (server_in p f)) w.known)
    where
      go : Names (servers m) f → (l : List Interrupted) → Each (λ x. Known p (size p m) N x.who) l
          → Done p m N (go_on_lem t (check_wels (server_in p f) (gives_back M l (server_in p f) (enters t s))))
          (go_on_lem t' (check_wels f (gives_back m (map (interrupted_as p m N) l) f (enters t' s'))))
      go i [] q = done_on p m T (after-here p m (check_wels-own p m T N f i _ _ (frees-own (facility f) i _ _ h₁))) t k on
      go i (x ∷ l) q =
          let a =
          resume-own p m T N _ _ (holder-own f x.who.number false i (listed q.0.number) _ _ h₁) f ok (I.facility f ok) x q.0 in
          done_on p m T
          (record { naming = a.naming; together = check_wels-own p m T a.naming f i _ _ a.together; keeps = a.keeps }) t k on

  -- ---- Any block

  -- of each kind, the steps that it is made of are those of the part alone, under the numbers of the part
  pub effect-own : (b : Block) → ProperBlock m b → PlainBlock p m b → ((facts b).leaves ≡ false → On) → (facts b).back < t.next - p.to_block
      → Others p m T N s.fel
      → Done p m N (effect M (block_in p b) t s) (effect m b t' s')
  unfolding block_in facts
  effect-own (generate list r) ok q on lt o = generate-own list r ok.0 (on refl)
  effect-own (advance list) ok q on lt o = advance-own list ok (on refl)
  effect-own (terminate a) ok q on lt o = terminate-own a
  effect-own (takes x) ok q on lt o = unfold effect take_units in units-own x false ok (on refl)
  effect-own (frees x) ok q on lt o = release-own x ok (on refl)
  effect-own (wait_server code v c) ok q on lt o = wait_server-own code v c (code-server m code v ok.0) lt (on refl)
  effect-own (wait_terms a r b) ok q on lt o = wait_terms-own a r b q (on refl)
  effect-own (moves c target) ok q on lt o = moves-own c target q ok on
  effect-own (assign i a) ok q on lt o = assign-own i a q (on refl)
  effect-own (priority r) ok q on lt o = priority-own r (on refl)
  effect-own (split n target) ok q on lt o = split-own n target ok.1 (on refl)
  effect-own (counts c i) ok q on lt o = counts-own c i ok (on refl)
  effect-own (assemble n) ok q on lt o = assemble-own n (on refl)
  effect-own (preempt f) ok q on lt o = preempt-own f ok (on refl) o
  effect-own (give_back f) ok q on lt o = give_back-own f ok (on refl)
