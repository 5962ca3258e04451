-- What is known of those who wait is kept by every block: one lemma for each kind, for the one that moves in front of REL.
use Rattle.machine.specs.All.{ℕ, zero, suc, ◌-◌, ◌≤◌, ◌≡◌, refl, ap, ◌∙◌, Bool, true, false, List, [], ◌∷◌, arith, leb, length, get_or-set_same, eq-eqb, Transaction, server_at, free, Code, status, Share, facility, storage, share_server, share_units, Block, generate, advance, terminate, takes, frees, wait_server, wait_terms, moves, assign, priority, split, counts, assemble, preempt, give_back, facts, BlockModel, block_at, wel_index, State, with_use, ql_of, log, enters, move_to, to_rel, to_fel, to_ql, to_wel, to_wsl, must_wait, wake_ql, wake_first_wel, set_use, set_content, arrival, copies, to_gatherers, comes, released, interrupt, resume, units_of_lem, fits, part_for, take_units, check_wels, ends_one, delay, effect, free_units, wake_for, sym, take, with_serial, wel_of, Parted}
use Rattle.machine.proofs as our
use our.Decoding.Proper.{Proper, ProperBlock, servers, code-server, share-server, ProperShare, Names}
use our.{Basic.Bools.cond_cases, Order.Losers.loser-loses, Lists.Lines.both-part_for}
use our.Lists.Cases.{check_wels-kept, wait_server-cases, wait_terms-cases, assemble-cases, preempt-cases, give_back-cases}
use our.Runs.Shape.{Shape, server-length, facility-capacity}
use our.NobodyAble.Waiting.{server_of, AtServer, AtWel, server_in, Queued, Gated, WaitsOver}
use our.NobodyAble.Ready.{grows-not, grows-insert, grows-wake, queued-more, waits-more, ql_else, wel_else}
use our.NobodyAble.Queued.{taken-queued, waits-queued, Kept, parted-queued, first-kept, fitting-kept, handed-queued, in_use-waits}
use our.NobodyAble.Gated.{Open, WelAt, checks-gated, others_wait, waits-gated, passes-gated}

-- ---- After a block

abbrev QueuedIn : BlockModel → State → Type 0
QueuedIn m s = Queued m s.rel s.rel s.view.servers s.ql

-- where REL alone is ready; and the run has not ended dry
abbrev pub Walked : BlockModel → State → Type 0
Walked m s = WaitsOver m s.rel s.rel s.view.servers s.ql s.wel × (s.end ≡ 1 → ⊥)

module _ (m : BlockModel) where
  pub to_rel-walked : (t : Transaction) (s : State) → Walked m s → Walked m (to_rel t s)
  unfolding to_rel
  to_rel-walked t s w = let g = grows-insert (with_serial (suc s.serial) t) s.rel in (waits-more g.keeps g.sorted w.0, w.1)

  copies-walked : (n target : ℕ) (t : Transaction) (s : State) → Walked m s → Walked m (copies n target t s)
  unfolding copies
  copies-walked zero target t s w = w
  copies-walked (suc n) target t s w = copies-walked n target t _ (to_rel-walked _ _ w)

  arrival-walked : (l : List ℕ) (list p n : ℕ) (s : State) → Walked m s → Walked m (arrival l list p n s)
  unfolding arrival to_fel
  arrival-walked [] list p n s w = w
  arrival-walked (x ∷ l) list p n s w = w

  delay-walked : (l : List ℕ) (list : ℕ) (t : Transaction) (s : State) → Walked m s → Walked m (delay l list t s)
  unfolding delay to_fel
  delay-walked [] list t s w = w
  delay-walked (x ∷ l) list t s w = w

  ends_one-walked : (a : ℕ) (s : State) → Walked m s → Walked m (ends_one a s)
  unfolding ends_one
  ends_one-walked a s w = (w.0, cond_cases (λ n. n ≡ 1 → ⊥) (leb s.counter a) 2 0 (λ e z. omega arith) (λ e z. omega arith))

  -- the check of a server's WELs
  checks-walked : (v : ℕ) (s : State) → 1 ≤ v → v ≤ servers m → QueuedIn m s → Open m s.wel
      → ((v' : ℕ) (code : Code) → 1 ≤ v' → v' ≤ servers m → (v' ≡ v → ⊥) → WelAt m v' code s) → (s.end ≡ 1 → ⊥)
      → Walked m (check_wels v s)
  unfolding wake_first_wel
  checks-walked v s one known queued opened others going = (
    record { queued = check_wels-kept (QueuedIn m) v wakes s queued; gated = checks-gated v one known s opened others },
    check_wels-kept (λ s. s.end ≡ 1 → ⊥) v (λ code s h. h) s going,
  )
    where
      wakes : (code : Code) (s : State) → QueuedIn m s → QueuedIn m (wake_first_wel v code s)
      wakes code s w = let g = grows-wake (take 1 (wel_of s v code)) s.rel in queued-more g.keeps g.sorted w

-- ---- Each kind, for t in front of REL

module _ {m : BlockModel} {tape : List (List ℕ)} (proper : Proper m tape) (t : Transaction) (s : State) (shape : Shape m s)
    (w : WaitsOver m (t ∷ s.rel) s.rel s.view.servers s.ql s.wel) (going : s.end ≡ 1 → ⊥) where
  -- where t stands at no SEIZE or ENTER
  queued_else : server_of m t ≡ 0 → QueuedIn m s
  queued_else off =
      record {
        rel-sorted = w.queued.rel-sorted;
        ql-sorted = w.queued.ql-sorted;
        ql-stands = w.queued.ql-stands;
        ql-waits = λ first v a b. ql_else (λ h. omega arith) (w.queued.ql-waits first v a b);
      }

  -- at no WAITIF of a code
  gated_else : (facts (block_at m t.next)).wel ≡ 0 → Gated m s.rel s.view.servers s.wel
  gated_else off =
      record {
        wel-sorted = w.gated.wel-sorted;
        wel-stands = w.gated.wel-stands;
        wel-waits = λ v code a b. wel_else (λ h. omega arith) (w.gated.wel-waits v code a b);
      }

  -- at neither
  quiet : (b : Block) → block_at m t.next ≡ b → (facts b).server ≡ 0 → (facts b).wel ≡ 0 → Walked m s
  quiet b e off off' =
      (record { queued = queued_else (ap (λ b. (facts b).server) e ∙ off); gated = gated_else (ap (λ b. (facts b).wel) e ∙ off') }, going)

  opened : Open m s.wel
  opened = record { sorted = w.gated.wel-sorted; stands = w.gated.wel-stands; size = shape.wel-length }

  module _ (v : ℕ) (one : 1 ≤ v) (known : v ≤ servers m) where
    in-servers : v ≤ length s.view.servers
    in-servers = omega (arith, server-length shape)

    in-ql : v ≤ length s.ql
    in-ql = omega (arith, shape.ql-length)

    -- 8 WAITIF of a code
    wait_server-walked : (code : Code) (c : ℕ) → AtWel m (wel_index v code) t → server_of m t ≡ 0
        → Walked m (effect m (wait_server code v c) t s)
    unfolding must_wait enters log move_to to_wel wake_first_wel server_at
    wait_server-walked code c at off =
        wait_server-cases (Walked m) m code v c t s
        (λ holds.
        cond_cases (Walked m) t.returning _ _
        (λ e. waiting holds t at) (λ e. waiting holds (with_serial (suc s.serial) t) at))
        (λ e. woken) (λ e. woken)
      where
        -- whoever goes back wakes the next too
        woken : Walked m (wake_first_wel v code s)
        woken =
            let g = grows-wake (take 1 (wel_of s v code)) s.rel in (
              record {
                queued = queued-more g.keeps g.sorted (queued_else off);
                gated = passes-gated v code s one known shape.wel-length at w.gated;
              },
              going,
            )

        waiting : status code (server_at s.view v) ≡ true → (t' : Transaction) → AtWel m (wel_index v code) t'
            → Walked m (to_wel m.edition v code t' s)
        waiting holds t' at' = (record { queued = queued_else off; gated = waits-gated w.gated v code t' one at at' holds }, going)

  -- 4 SEIZE and 6 ENTER, and 19 PREEMPT from whom nobody loses the facility
  take_units-walked : (x : Share) (preempts : Bool) → 1 ≤ share_server x → share_server x ≤ servers m → AtServer m (share_server x) t
      → units_of_lem m t ≡ share_units x
      → (facts (block_at m t.next)).wel ≡ 0 → Walked m (take_units m x preempts t s)
  unfolding take_units must_wait enters log move_to set_use server_at to_ql
  take_units-walked x preempts one known at units off =
      cond_cases (Walked m) (leb (share_units x) (free (server_at s.view v))) _ _
      (λ fit.
      checks-walked m v _ one known
      (taken-queued w.queued v one (in-servers v one known) (in-ql v one known) (share_units x) _ _ proper known
      (λ f. facility-capacity shape v one f) at units)
      opened (others_wait w.gated v _ s.rel one off (grows-not s.rel)) going)
      (λ full.
      cond_cases (Walked m) t.returning _ _ (λ e. waiting full t at units) (λ e. waiting full (with_serial (suc s.serial) t) at units))
    where
      v : ℕ
      v = share_server x

      waiting : leb (share_units x) (free (server_at s.view v)) ≡ false → (t' : Transaction) → AtServer m v t'
          → units_of_lem m t' ≡ share_units x
          → Walked m (to_ql m.edition v t' s)
      waiting full t' at' units' = (
        record {
          queued =
              waits-queued w.queued v one (in-servers v one known) (in-ql v one known) t' proper known at at'
              (ap (λ n. leb n (free (server_in s.view.servers v))) units' ∙ full);
          gated = gated_else off;
        },
        going,
      )

  -- 5 RELEASE and 7 LEAVE
  abbrev freed : Share → State
  freed x = free_units (share_server x) (share_units x) (enters t s)

  abbrev KeptOn : (x : Share) → 1 ≤ share_server x → share_server x ≤ servers m → Type 0
  KeptOn x one known =
      Kept w.queued (share_server x) one (in-servers (share_server x) one known) (in-ql (share_server x) one known)
      (with_use ((server_in s.view.servers (share_server x)).in_use - share_units x) 0 false (server_in s.view.servers (share_server x)))
      (part_for m x (freed x).view (ql_of s (share_server x)))

  -- under edition 1 the first of a facility's QL goes, and nobody who fits stays on a storage's
  kept : m.edition ≡ 1 → (x : Share) (one : 1 ≤ share_server x) (known : share_server x ≤ servers m) → ProperShare m x → KeptOn x one known
  unfolding share_server share_units part_for enters log set_use server_at fits
  kept first (facility v) one known k = first-kept w.queued v one (in-servers v one known) (in-ql v one known) _ k.1 first
  kept first (storage v b) one known k =
      rw (eq-eqb m.edition 1 first)
      (fitting-kept w.queued v one (in-servers v one known) (in-ql v one known) _ (fits m (freed (storage v b)).view v)
      (λ u e. rw (get_or-set_same s.view.servers (v - 1) _ _ (omega (arith, in-servers v one known))) at e) first)

  frees-walked : (x : Share) → 1 ≤ share_server x → share_server x ≤ servers m → ProperShare m x → server_of m t ≡ 0
      → (facts (block_at m t.next)).wel ≡ 0
      → Walked m (check_wels (share_server x) (wake_for m x (freed x)))
  unfolding enters log set_use server_at wake_for wake_ql
  frees-walked x one known k off off' =
      let v : ℕ = share_server x in
      let part : Parted = part_for m x (freed x).view (ql_of s v) in
      checks-walked m v _ one known
      (parted-queued w.queued v one (in-servers v one known) (in-ql v one known) _ part
      (both-part_for (AtServer m v) m x (freed x).view (ql_of s v) (w.queued.ql-stands v one)) (λ first. kept first x one known k) off)
      opened (others_wait w.gated v _ _ one off' (grows-wake part.go s.rel)) going

  -- 19 PREEMPT: somebody loses the facility, which stays in use
  preempt-walked : (f : ℕ) → Names m.facilities f → AtServer m f t → units_of_lem m t ≡ 1 → (facts (block_at m t.next)).wel ≡ 0
      → Walked m (effect m (preempt f) t s)
  unfolding move_to enters log set_use server_at interrupt share_server share_units
  preempt-walked f at_f at units off =
      let known : f ≤ servers m = omega (arith, at_f.1) in
      preempt-cases (Walked m) m f t s (λ e. take_units-walked (facility f) true at_f.0 known at units off)
      (λ x l e.
      checks-walked m f _ at_f.0 known
      (handed-queued w.queued f at_f.0 (in-servers f at_f.0 known) (in-ql f at_f.0 known) t.number true known
      (λ v' a n h. n (sym h ∙ at))
      (λ waits. in_use-waits w.queued f at_f.0 (in-servers f at_f.0 known) (in-ql f at_f.0 known) proper at_f.1
      (facility-capacity shape f at_f.0 at_f.1) (loser-loses t f s x l e).in_use))
      opened (others_wait w.gated f _ s.rel at_f.0 off (grows-not s.rel)) going)

  -- 20 RETURN: it does as RELEASE, or the interrupted one gets the facility back
  give_back-walked : (f : ℕ) → Names m.facilities f → server_of m t ≡ 0 → (facts (block_at m t.next)).wel ≡ 0
      → Walked m (effect m (give_back f) t s)
  unfolding move_to enters log set_use server_at resume to_fel share_server share_units
  give_back-walked f at_f off off' =
      let known : f ≤ servers m = omega (arith, at_f.1) in
      give_back-cases (Walked m) m f t s (λ e. frees-walked (facility f) at_f.0 known at_f off off')
      (λ i l e.
      checks-walked m f _ at_f.0 known
      (handed-queued w.queued f at_f.0 (in-servers f at_f.0 known) (in-ql f at_f.0 known) i.who.number false known
      (λ v' a n h. omega arith)
      (λ waits. ql_else (λ h. omega (arith, at_f.0)) waits))
      opened (others_wait w.gated f _ s.rel at_f.0 off' (grows-not s.rel)) going)

  pub effect-walked : (b : Block) → block_at m t.next ≡ b → ProperBlock m b → Walked m (effect m b t s)
  unfolding effect must_wait facts enters log move_to set_content to_wsl take_units to_gatherers comes released
  effect-walked (generate list p) e k = arrival-walked m _ list p _ (enters t s) (quiet (generate list p) e refl refl)
  effect-walked (advance list) e k = delay-walked m _ list t (enters t s) (quiet (advance list) e refl refl)
  effect-walked (terminate a) e k = ends_one-walked m a (enters t s) (quiet (terminate a) e refl refl)
  effect-walked (takes x) e k =
      let (one, known) = share-server m x k in
      take_units-walked x false one known (ap (λ b. (facts b).server) e) (ap (λ b. (facts b).units) e) (ap (λ b. (facts b).wel) e)
  effect-walked (frees x) e k =
      let (one, known) = share-server m x k in
      frees-walked x one known k (ap (λ b. (facts b).server) e) (ap (λ b. (facts b).wel) e)
  effect-walked (wait_server code v c) e k =
      let (one, known) = code-server m code v k.0 in
      wait_server-walked v one known code c (ap (λ b. (facts b).wel) e) (ap (λ b. (facts b).server) e)
  effect-walked (wait_terms a r b) e k =
      let q = quiet (wait_terms a r b) e refl refl in
      wait_terms-cases (Walked m) m a r b t s (λ c. cond_cases (Walked m) t.returning _ _ (λ c. q) (λ c. q)) (λ c. q)
  effect-walked (moves c target) e k = quiet (moves c target) e refl refl
  effect-walked (assign i a) e k = quiet (assign i a) e refl refl
  effect-walked (priority p) e k = to_rel-walked m _ (enters t s) (quiet (priority p) e refl refl)
  effect-walked (split n target) e k = copies-walked m n target t (enters t s) (quiet (split n target) e refl refl)
  effect-walked (counts c q) e k = quiet (counts c q) e refl refl
  effect-walked (assemble n) e k =
      let q = quiet (assemble n) e refl refl in
      assemble-cases (Walked m) m n t s (λ c. q) (λ g l c z. to_rel-walked m _ _ q) (λ g l c z. q)
  effect-walked (preempt f) e k = preempt-walked f k (ap (λ b. (facts b).server) e) (ap (λ b. (facts b).units) e) (ap (λ b. (facts b).wel) e)
  effect-walked (give_back f) e k = give_back-walked f k (ap (λ b. (facts b).server) e) (ap (λ b. (facts b).wel) e)
