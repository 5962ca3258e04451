-- The tally follows a server's units, its holder, whether by PREEMPT, and the length of its QL, where its statistics are up to date.
use Rattle.machine.specs.All.{ℕ, zero, suc, ◌+◌, ◌-◌, ◌%◌, ◌≤◌, ◌<◌, min, ◌≡◌, refl, sym, ap, ◌∙◌, ◌≢◌, Bool, true, false, cond, List, [], ◌∷◌, arith, ℕ_discrete, le-ltb, eq-eqb, ne_eqb, eqb, length, get_or, set, drop, length-set, length-drop, get_or-set_same, get_or-set_other, Transaction, bit, Server, idle_server, State, with_use, set_ql}
use Rattle.machine.specs.Term
use Rattle.machine.specs.Moves as Moves
use Rattle.machine.proofs.{Lists.Sums.sum-length, Lists.Lines.sum-line_up}
use Rattle.layout.specs.Layout as Layout
use Rattle.layout.specs.All.{most64}
use Rattle.state.specs.All.{behind, sum_now, longest_now, of_residue, held_in, Tallying}
use Rattle.state.proofs.StandsLaws.{entries-set, waits-set, pair_set, seen_same, seen-set, queueing-same, queueing-set, sampling-same, sampling-set}
use Rattle.state.proofs.Held.{held-most, held_at, held-set}
use Rattle.state.proofs.StatisticsLaws.{SamePair, behind-same, sum_same, longest-same, sum_moved, longest-moved}
use Rattle.servers_laws.specs.{residue_cell, set_held, held_less, held_more, set_use, shorter, longer}
use mathlib.Core.Path.{subst}

-- ---- Lists

-- a field that a change of element i leaves
field-kept : {A : Type 0} (f : A → ℕ) (l : List A) (i : ℕ) (a d : A) → f a ≡ f (get_or l i d) → (j : ℕ)
    → f (get_or (set l i a) j d) ≡ f (get_or l j d)
field-kept f [] i a d e j = refl
field-kept f (x ∷ l) zero a d e zero = e
field-kept f (x ∷ l) zero a d e (suc j) = refl
field-kept f (x ∷ l) (suc i) a d e zero = refl
field-kept f (x ∷ l) (suc i) a d e (suc j) = field-kept f l i a d e j

-- under either edition
line-length : (edition : ℕ) (t : Transaction) (l : List Transaction) → length (Moves.line_up edition t l) ≡ suc (length l)
line-length edition t l = omega (arith, sum-line_up (λ u. 1) edition t l, sum-length (Moves.line_up edition t l), sum-length l)

-- ---- Counts of what is held

module _ (tally : List ℕ) (n : ℕ) where
  set-length : (count : ℕ) → length (set_held tally n count) ≡ length tally
  unfolding set_held
  set-length count = go (eqb n 0)
    where
      go : (b : Bool) → length (cond b tally (set tally (residue_cell n) count)) ≡ length tally
      go true = refl
      go false = length-set tally (residue_cell n) count

  -- no cell but that of the residue is changed
  set_other : (count j : ℕ) → j ≢ residue_cell n → get_or (set_held tally n count) j 0 ≡ get_or tally j 0
  unfolding set_held
  set_other count j d = go (eqb n 0)
    where
      go : (b : Bool) → get_or (cond b tally (set tally (residue_cell n) count)) j 0 ≡ get_or tally j 0
      go true = refl
      go false = get_or-set_other tally (residue_cell n) j count 0 d

  less-length : length (held_less tally n) ≡ length tally
  unfolding held_less
  less-length = set-length _

  more-length : length (held_more tally n) ≡ length tally
  unfolding held_more
  more-length = set-length _

  less_other : (j : ℕ) → j ≢ residue_cell n → get_or (held_less tally n) j 0 ≡ get_or tally j 0
  unfolding held_less
  less_other = set_other _

  more-other : (j : ℕ) → j ≢ residue_cell n → get_or (held_more tally n) j 0 ≡ get_or tally j 0
  unfolding held_more
  more-other = set_other _

  -- the cell of a residue
  module _ (size : length tally ≡ Layout.tally_size) (r : ℕ) (hr : r < 256) where
    less-cell : get_or (held_less tally n) (1088 + r) 0 ≡ get_or tally (1088 + r) 0 - of_residue r n
    unfolding held_less set_held of_residue
    less-cell = go (eqb n 0) (ℕ_discrete (n % 256) r)
      where
        go : (b : Bool) → Dec (n % 256 ≡ r)
            → get_or (cond b tally (set tally (residue_cell n) (get_or tally (residue_cell n) 0 - 1))) (1088 + r) 0
            ≡ get_or tally (1088 + r) 0 - cond b 0 (bit (eqb (n % 256) r))
        go true d = omega arith
        go false (yes e) = rw (e, eq-eqb r r refl) (get_or-set_same tally (1088 + r) (get_or tally (1088 + r) 0 - 1) 0 (omega arith))
        go false (no d) =
            rw (ne_eqb (n % 256) r d)
            (get_or-set_other tally (1088 + n % 256) (1088 + r) (get_or tally (1088 + n % 256) 0 - 1) 0 (λ e. d (omega arith)) ∙ omega arith)

    more-cell : get_or tally (1088 + r) 0 ≤ 64 → get_or (held_more tally n) (1088 + r) 0 ≡ get_or tally (1088 + r) 0 + of_residue r n
    unfolding held_more set_held of_residue
    more-cell few = go (eqb n 0) (ℕ_discrete (n % 256) r)
      where
        go : (b : Bool) → Dec (n % 256 ≡ r)
            → get_or (cond b tally (set tally (residue_cell n) (min (get_or tally (residue_cell n) 0 + 1) most64))) (1088 + r) 0
            ≡ get_or tally (1088 + r) 0 + cond b 0 (bit (eqb (n % 256) r))
        go true d = omega arith
        go false (yes e) =
            rw (e, eq-eqb r r refl)
            (get_or-set_same tally (1088 + r) (min (get_or tally (1088 + r) 0 + 1) most64) 0 (omega arith) ∙ omega arith)
        go false (no d) =
            rw (ne_eqb (n % 256) r d)
            (get_or-set_other tally (1088 + n % 256) (1088 + r) (min (get_or tally (1088 + n % 256) 0 + 1) most64) 0 (λ e. d (omega arith))
            ∙ omega arith)

-- ---- The cells of each kind

module _ (tape_bytes tally : List ℕ) (s : State) (h : Tallying tape_bytes tally s) (few : length s.samples ≤ 16) (v : ℕ) (low : 1 ≤ v)
    (high : v ≤ 64)
    (now : behind tally (v - 1) ≡ false) where
  abbrev clock : ℕ
  clock = s.view.clock

  at-clock : get_or tally (1344 + (v - 1)) 0 ≡ clock
  at-clock = h.seen.current (v - 1) (omega arith) now

  -- so many units are in use, who holds it, and whether by PREEMPT
  module _ (units who : ℕ) (preempts : Bool) (there : v - 1 < length s.view.servers) where
    abbrev i : ℕ
    i = 512 + (v - 1)

    abbrev o : ℕ
    o = 960 + (v - 1)

    abbrev z : ℕ
    z = 1024 + (v - 1)

    abbrev server : Server
    server = get_or s.view.servers (v - 1) (idle_server 0)

    abbrev server' : Server
    server' = with_use units who preempts server

    abbrev servers' : List Server
    servers' = set s.view.servers (v - 1) server'

    -- who held it
    abbrev old : ℕ
    old = get_or tally o 0

    abbrev off : List ℕ
    off = held_less tally old

    abbrev on : List ℕ
    on = held_more off who

    abbrev one : List ℕ
    one = set on i units

    abbrev two : List ℕ
    two = set one o who

    abbrev all : List ℕ
    all = set two z (bit preempts)

    size₀ : length on ≡ Layout.tally_size
    size₀ = more-length off who ∙ less-length tally old ∙ h.size

    size₁ : length one ≡ Layout.tally_size
    size₁ = length-set on i units ∙ size₀

    size₂ : length two ≡ Layout.tally_size
    size₂ = length-set one o who ∙ size₁

    set_is : set_use tally (v - 1) units who (bit preempts) ≡ all
    unfolding set_use
    set_is = rw (le-ltb (length tally) Layout.tally_size (omega (arith, h.size))) refl

    sets : (j : ℕ) → j ≢ i → j ≢ o → j ≢ z → get_or all j 0 ≡ get_or on j 0
    sets j d e f = get_or-set_other two z j (bit preempts) 0 f ∙ get_or-set_other one o j who 0 e ∙ get_or-set_other on i j units 0 d

    -- cells below the counts, and above them
    other : (j : ℕ) → j < 1088 → j ≢ i → j ≢ o → j ≢ z → get_or all j 0 ≡ get_or tally j 0
    other j a d e f = sets j d e f ∙ more-other off who j (λ q. omega arith) ∙ less_other tally old j (λ q. omega arith)

    above : (j : ℕ) → 1344 ≤ j → get_or all j 0 ≡ get_or tally j 0
    above j a =
        sets j (λ e. omega arith) (λ e. omega arith) (λ e. omega arith)
        ∙ more-other off who j (λ q. omega arith)
        ∙ less_other tally old j (λ q. omega arith)

    -- the counts
    held-cell : (r : ℕ) → r < 256 → get_or all (1088 + r) 0 ≡ held_in servers' r
    held-cell r hr =
        let was : get_or tally (1088 + r) 0 ≡ held_in s.view.servers r = h.servers.held r hr in
        let gone : get_or off (1088 + r) 0 ≡ get_or tally (1088 + r) 0 - of_residue r old = less-cell tally old h.size r hr in
        sets (1088 + r) (λ e. omega (arith, was, gone)) (λ e. omega arith) (λ e. omega arith)
        ∙ more-cell off who (less-length tally old ∙ h.size) r hr (omega (arith, held-most r s.view.servers))
        ∙ omega (
          arith,
          held-set r s.view.servers (v - 1) server' (omega arith) there,
          held_at r s.view.servers (v - 1) (omega arith),
          ap (of_residue r) (h.servers.holders (v - 1) (omega arith)),
        )

    -- the cells of a field that is set
    set-cell : (base : ℕ) (f : Server → ℕ) → base ≤ 1024
        → ((u : ℕ) → u < 64 → get_or tally (base + u) 0 ≡ f (get_or s.view.servers u (idle_server 0)))
        → get_or all (base + (v - 1)) 0 ≡ f server' → ((u : ℕ) → u < 64 → u ≢ v - 1 → (base + u ≢ i) × (base + u ≢ o) × (base + u ≢ z))
        → (u : ℕ) → u < 64 → get_or all (base + u) 0 ≡ f (get_or servers' u (idle_server 0))
    set-cell base f b was is apart u hu = go (ℕ_discrete u (v - 1))
      where
        go : Dec (u ≡ v - 1) → get_or all (base + u) 0 ≡ f (get_or servers' u (idle_server 0))
        go (yes e) = rw e (is ∙ sym (ap f (get_or-set_same s.view.servers (v - 1) server' (idle_server 0) there)))
        go (no d) =
            let k = apart u hu d in
            other (base + u) (omega arith) k.0 k.1 k.2
            ∙ was u hu
            ∙ sym (ap f (get_or-set_other s.view.servers (v - 1) u server' (idle_server 0) d))

    -- the pairs stay
    pair : (j : ℕ) → SamePair tally all j
    pair j = record { clock = above (1344 + j) (omega arith); moves = above (1440 + j) (omega arith); all = above 1536 (omega arith) }

    -- cells between them stay
    mid : (j : ℕ) → 576 ≤ j → j < 960 → get_or all j 0 ≡ get_or tally j 0
    mid j a b = other j (omega arith) (λ e. omega arith) (λ e. omega arith) (λ e. omega arith)

    unit-sum : (u : ℕ) → u < 64 → Dec (u ≡ v - 1) → sum_now all (576 + u) (512 + u) u clock ≡ sum_now tally (576 + u) (512 + u) u clock
    unit-sum u hu (yes e) =
        rw e (sum_moved tally all (v - 1) (pair (v - 1)) (576 + (v - 1)) i (mid (576 + (v - 1)) (omega arith) (omega arith)) clock at-clock)
    unit-sum u hu (no d) =
        sum_same tally all u (pair u) (576 + u) (512 + u) clock (mid (576 + u) (omega arith) (omega arith))
        (other (512 + u) (omega arith) (λ e. d (omega arith)) (λ e. omega arith) (λ e. omega arith))

    pub units-current : behind (set_use tally (v - 1) units who (bit preempts)) (v - 1) ≡ false
    units-current = ap (λ (l : List ℕ). behind l (v - 1)) set_is ∙ behind-same tally all (v - 1) (pair (v - 1)) ∙ now

    -- what the change leaves of each server
    kept : (f : Server → ℕ) → f server' ≡ f server → (u : ℕ)
        → f (get_or s.view.servers u (idle_server 0)) ≡ f (get_or servers' u (idle_server 0))
    kept f e u = sym (field-kept f s.view.servers (v - 1) server' (idle_server 0) e u)

    all-tallying : Tallying tape_bytes all (Moves.set_use v units who preempts s)
    unfolding Moves.set_use Term.server_at
    all-tallying =
        record {
          size = length-set two z (bit preempts) ∙ size₂;
          entries = λ b hb. other (0 + b) (omega arith) (λ e. omega arith) (λ e. omega arith) (λ e. omega arith) ∙ h.entries b hb;
          waits = λ b hb. other (256 + b) (omega arith) (λ e. omega arith) (λ e. omega arith) (λ e. omega arith) ∙ h.waits b hb;
          seen = seen_same tally all pair clock s.turns h.seen;
          servers =
              record {
                in_use =
                    set-cell 512 (λ x. x.in_use) (omega arith) h.servers.in_use
                    (get_or-set_other two z i (bit preempts) 0 (λ f. omega arith)
                    ∙ get_or-set_other one o i who 0 (λ f. omega arith)
                    ∙ get_or-set_same on i units 0 (omega (arith, size₀)))
                    (λ u hu d. (λ e. d (omega arith), λ e. omega arith, λ e. omega arith));
                holders =
                    set-cell 960 (λ x. x.holder) (omega arith) h.servers.holders
                    (get_or-set_other two z o (bit preempts) 0 (λ f. omega arith) ∙ get_or-set_same one o who 0 (omega (arith, size₁)))
                    (λ u hu d. (λ e. omega arith, λ e. d (omega arith), λ e. omega arith));
                preempts =
                    set-cell 1024 (λ x. bit x.preempted) (omega arith) h.servers.preempts
                    (get_or-set_same two z (bit preempts) 0 (omega (arith, size₂)))
                    (λ u hu d. (λ e. omega arith, λ e. omega arith, λ e. d (omega arith)));
                held = held-cell;
                unit-ticks = λ u hu. unit-sum u hu (ℕ_discrete u (v - 1)) ∙ h.servers.unit-ticks u hu ∙ kept (λ x. x.unit_ticks) refl u;
                wait-ticks = λ u hu.
                    sum_same tally all u (pair u) (640 + u) (768 + u) clock (mid (640 + u) (omega arith) (omega arith))
                    (mid (768 + u) (omega arith) (omega arith))
                    ∙ h.servers.wait-ticks u hu
                    ∙ kept (λ x. x.wait_ticks) refl u;
                longest = λ u hu.
                    longest-same tally all u (pair u) (704 + u) (768 + u) (mid (704 + u) (omega arith) (omega arith))
                    (mid (768 + u) (omega arith) (omega arith))
                    ∙ h.servers.longest u hu
                    ∙ kept (λ x. x.longest) refl u;
                waiting = λ u hu. mid (768 + u) (omega arith) (omega arith) ∙ h.servers.waiting u hu;
              };
          queues = queueing-same tally all pair clock s.view.queues (λ j a b. mid j (omega arith) (omega arith)) h.queues;
          samples = sampling-same tally all tape_bytes s.samples few (λ j a b. mid j (omega arith) b) h.samples;
        }

    -- units, holder and residue counts are changed together
    pub units-tallying : Tallying tape_bytes (set_use tally (v - 1) units who (bit preempts)) (Moves.set_use v units who preempts s)
    units-tallying = subst (λ (l : List ℕ). Tallying tape_bytes l (Moves.set_use v units who preempts s)) (sym set_is) all-tallying

  -- the QL is of such a length
  module _ (l : List Transaction) (n : ℕ) (e : n ≡ length l) (there : v - 1 < length s.ql) where
    abbrev k : ℕ
    k = 768 + (v - 1)

    apart : (j : ℕ) → j ≢ k → get_or (set tally k n) j 0 ≡ get_or tally j 0
    apart j d = get_or-set_other tally k j n 0 d

    length-cell : (u : ℕ) → u < 64 → get_or (set tally k n) (768 + u) 0 ≡ length (get_or (set s.ql (v - 1) l) u [])
    length-cell u hu = go (ℕ_discrete u (v - 1))
      where
        go : Dec (u ≡ v - 1) → get_or (set tally k n) (768 + u) 0 ≡ length (get_or (set s.ql (v - 1) l) u [])
        go (yes f) =
            rw f
            (get_or-set_same tally k n 0 (omega (arith, h.size)) ∙ e ∙ sym (ap length (get_or-set_same s.ql (v - 1) l [] there)))
        go (no d) =
            apart (768 + u) (λ f. d (omega arith)) ∙ h.servers.waiting u hu ∙ sym (ap length (get_or-set_other s.ql (v - 1) u l [] d))

    pair-kept : (j : ℕ) → SamePair tally (set tally k n) j
    pair-kept j = pair_set tally k n (omega arith) j

    wait-sum : (u : ℕ) → u < 64 → Dec (u ≡ v - 1)
        → sum_now (set tally k n) (640 + u) (768 + u) u clock ≡ sum_now tally (640 + u) (768 + u) u clock
    wait-sum u hu (yes f) =
        rw f
        (sum_moved tally (set tally k n) (v - 1) (pair-kept (v - 1)) (640 + (v - 1)) k (apart (640 + (v - 1)) (λ g. omega arith)) clock
        at-clock)
    wait-sum u hu (no d) =
        sum_same tally (set tally k n) u (pair-kept u) (640 + u) (768 + u) clock (apart (640 + u) (λ g. omega arith))
        (apart (768 + u) (λ g. d (omega arith)))

    longest-cell : (u : ℕ) → u < 64 → Dec (u ≡ v - 1)
        → longest_now (set tally k n) (704 + u) (768 + u) u ≡ longest_now tally (704 + u) (768 + u) u
    longest-cell u hu (yes f) =
        rw f
        (longest-moved tally (set tally k n) (v - 1) (pair-kept (v - 1)) (704 + (v - 1)) k (apart (704 + (v - 1)) (λ g. omega arith)) now)
    longest-cell u hu (no d) =
        longest-same tally (set tally k n) u (pair-kept u) (704 + u) (768 + u) (apart (704 + u) (λ g. omega arith))
        (apart (768 + u) (λ g. d (omega arith)))

    -- a QL and its length are changed together
    pub length-tallying : Tallying tape_bytes (set tally k n) (set_ql (set s.ql (v - 1) l) s)
    length-tallying =
        record {
          size = length-set tally k n ∙ h.size;
          entries = entries-set tally k n s.view.entries (omega arith) h.entries;
          waits = waits-set tally k n s.records (omega arith) h.waits;
          seen = seen-set tally k n clock s.turns (omega arith) h.seen;
          servers =
              record {
                in_use = λ u hu. apart (512 + u) (λ f. omega arith) ∙ h.servers.in_use u hu;
                holders = λ u hu. apart (960 + u) (λ f. omega arith) ∙ h.servers.holders u hu;
                preempts = λ u hu. apart (1024 + u) (λ f. omega arith) ∙ h.servers.preempts u hu;
                held = λ r hr. apart (1088 + r) (λ f. omega arith) ∙ h.servers.held r hr;
                unit-ticks = λ u hu.
                    sum_same tally (set tally k n) u (pair-kept u) (576 + u) (512 + u) clock (apart (576 + u) (λ f. omega arith))
                    (apart (512 + u) (λ f. omega arith))
                    ∙ h.servers.unit-ticks u hu;
                wait-ticks = λ u hu. wait-sum u hu (ℕ_discrete u (v - 1)) ∙ h.servers.wait-ticks u hu;
                longest = λ u hu. longest-cell u hu (ℕ_discrete u (v - 1)) ∙ h.servers.longest u hu;
                waiting = length-cell;
              };
          queues = queueing-set tally k n clock s.view.queues (omega arith) (λ j a b f. omega arith) h.queues;
          samples = sampling-set tally k n tape_bytes s.samples few (λ j a b f. omega arith) h.samples;
        }

  -- ---- Waiting and waking

  module _ (there : v - 1 < length s.ql) where
    ql-length : get_or tally (768 + (v - 1)) 0 ≡ length (Moves.ql_of s v)
    ql-length = h.servers.waiting (v - 1) (omega arith)

    -- the first of the QL leaves
    pub first-tallying : Tallying tape_bytes (shorter tally (v - 1)) (Moves.wake_ql Moves.first_of v s)
    unfolding shorter Moves.wake_ql
    first-tallying =
        let l : List Transaction = drop 1 (Moves.ql_of s v) in
        length-tallying l (get_or tally (768 + (v - 1)) 0 - 1) (ap (λ (n : ℕ). n - 1) ql-length ∙ sym (length-drop 1 (Moves.ql_of s v))) there

    -- one more waits
    module _ (short : length (Moves.ql_of s v) ≤ 1024) where
      one_more : (edition : ℕ) (t : Transaction)
          → min (get_or tally (768 + (v - 1)) 0 + 1) 18446744073709551615 ≡ length (Moves.line_up edition t (Moves.ql_of s v))
      one_more edition t = omega (arith, ql-length, line-length edition t (Moves.ql_of s v))

      pub queued-tallying : (edition : ℕ) (t : Transaction) → Tallying tape_bytes (longer tally (v - 1)) (Moves.to_ql edition v t s)
      unfolding longer Moves.to_ql
      queued-tallying edition t = length-tallying (Moves.line_up edition t (Moves.ql_of s v)) _ (one_more edition t) there
