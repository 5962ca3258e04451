-- What one block does to the waits: the transaction passes, and no other wait begins or ends; or its wait begins, for units or for its
-- family; or it is put back, or goes back to the first block of its group, and nothing is written.
use Rattle.machine.specs.All.{ℕ, ◌+◌, ◌-◌, ◌<◌, ◌≡◌, refl, Bool, true, false, List, arith, leb, length, Transaction, precedes, Gatherer, Event, Interrupted, server_at, free, Code, Share, share_server, share_units, Block, generate, advance, terminate, takes, frees, wait_server, wait_terms, moves, assign, priority, split, counts, assemble, preempt, give_back, facts, BlockModel, wel_index, State, with_serial, set_serial, set_gatherers, set_ended, log, enters, move_to, fresh, ql_of, wel_of, line_up, to_ql, to_wel, to_wsl, must_wait, set_use, set_content, to_gatherers, comes, released, to_fel, interrupt, resume, take_units, ends_one, effect, facility}
use Rattle.machine.proofs as our
use our.Decoding.Proper.{ProperBlock, servers}
use our.{Basic.Bools.cond_cases, NobodyAble.Waiting.server_in, Lists.Lines.sum-line_up}
use our.Lists.Cases.{wait_server-cases, wait_terms-cases, assemble-cases, preempt-cases, give_back-cases}
use our.Runs.Shape.{Shape, ql-at, wel-at}
use our.Decoding.Proper.{code-server, share-server}
use our.Lists.Sums.{sum-insert, sum-flat-set}
use our.Order.Weights.{Wait, weight, waiting, Quiet, quiet_refl, quiet_trans, quiet-wake_for, quiet-wake_first_wel, quiet-check_wels, quiet-to_rel, quiet-arrival, quiet-delay, quiet-copies}

-- ---- Definition

-- t came onto a list of waiters
pub record Puts (t : Transaction) (s s' : State) : Type 0 where
  pub records : s'.records ≡ s.records
  pub serials : s'.serial ≡ s.serial
  pub weights : (f : Wait → ℕ) → waiting f s' ≡ weight f t + waiting f s
  pub moving : s'.moving ≡ s.moving

-- who is about to take units of a server, and not by PREEMPT, finds them free
abbrev pub GetsIn : Block → State → Type 0
GetsIn b s =
    ((facts b).server ≡ 0 → ⊥) → (facts b).preempts ≡ 0 → leb (facts b).units (free (server_in s.view.servers (facts b).server)) ≡ true

pub data Step (b : Block) (t : Transaction) (s s' : State) : Type 0 where
  passes : GetsIn b s → Quiet (enters t s) s' → Step b t s s'
  begins : t.returning ≡ false → Puts (with_serial (fresh s) t) (set_serial (fresh s) (log 1 t s)) s' → Step b t s s'
  back : t.returning ≡ true → Puts t s s' → Step b t s s'
  -- it goes back to the first block of its group: it waited for no units, and nothing is written
  returns : (facts b).server ≡ 0 → Quiet s s' → Step b t s s'
  -- it begins to wait for its family, and for no units
  assembles : (facts b).server ≡ 0 → Quiet (set_serial (fresh s) (log 1 t s)) s' → Step b t s s'

-- ---- Waiting

puts-ql : (edition v : ℕ) (t : Transaction) (s : State) → v - 1 < length s.ql → Puts t s (to_ql edition v t s)
unfolding to_ql waiting
puts-ql edition v t s h =
    record {
      records = refl;
      serials = refl;
      weights = λ f.
          omega (
            arith,
            sum-flat-set (weight f) s.ql (v - 1) (line_up edition t (ql_of s v)) h,
            sum-line_up (weight f) edition t (ql_of s v),
          );
      moving = refl;
    }

puts-wel : (edition v : ℕ) (code : Code) (t : Transaction) (s : State) → wel_index v code < length s.wel
    → Puts t s (to_wel edition v code t s)
unfolding to_wel waiting
puts-wel edition v code t s h =
    record {
      records = refl;
      serials = refl;
      weights = λ f.
          omega (
            arith,
            sum-flat-set (weight f) s.wel (wel_index v code) (line_up edition t (wel_of s v code)) h,
            sum-line_up (weight f) edition t (wel_of s v code),
          );
      moving = refl;
    }

puts-wsl : (t : Transaction) (s : State) → Puts t s (to_wsl t s)
unfolding to_wsl waiting
puts-wsl t s =
    record { records = refl; serials = refl; weights = λ f. omega (arith, sum-insert (weight f) precedes t s.wsl); moving = refl }

-- the wait begins with a record, or a returning one is put back
step_wait : (b : Block) (put : Transaction → State → State) (t : Transaction) (s : State) → Puts t s (put t s)
    → Puts (with_serial (fresh s) t) (set_serial (fresh s) (log 1 t s)) (put (with_serial (fresh s) t) (set_serial (fresh s) (log 1 t s)))
    → Step b t s (must_wait put t s)
unfolding must_wait
step_wait b put t s old new = cond_cases (Step b t s) t.returning _ _ (λ e. back e old) (λ e. begins e new)

-- ---- Passing

step-ql : (b : Block) (edition v : ℕ) (t : Transaction) (s : State) → v - 1 < length s.ql → Step b t s (must_wait (to_ql edition v) t s)
unfolding log
step-ql b edition v t s h = step_wait b (to_ql edition v) t s (puts-ql edition v t s h) (puts-ql edition v _ _ h)

step-wel : (b : Block) (edition v : ℕ) (code : Code) (t : Transaction) (s : State) → wel_index v code < length s.wel
    → Step b t s (must_wait (to_wel edition v code) t s)
unfolding log
step-wel b edition v code t s h = step_wait b (to_wel edition v code) t s (puts-wel edition v code t s h) (puts-wel edition v code _ _ h)

step-wsl : (b : Block) (t : Transaction) (s : State) → Step b t s (must_wait to_wsl t s)
step-wsl b t s = step_wait b to_wsl t s (puts-wsl t s) (puts-wsl _ _)

quiet-move_to : (n : ℕ) (t : Transaction) {a s : State} → Quiet a s → Quiet a (move_to n t s)
unfolding move_to waiting
quiet-move_to n t h = record { records = h.records; serials = h.serials; weights = h.weights; moving = λ u. refl }

quiet_use : (v n holder : ℕ) (preempted : Bool) (s : State) → Quiet s (set_use v n holder preempted s)
unfolding set_use waiting
quiet_use v n holder preempted s = record { records = refl; serials = omega arith; weights = λ f. refl; moving = λ h. h }

quiet-content : (q n : ℕ) (s : State) → Quiet s (set_content q n s)
unfolding set_content waiting
quiet-content q n s = record { records = refl; serials = omega arith; weights = λ f. refl; moving = λ h. h }

quiet-ends_one : (a : ℕ) (s : State) → Quiet s (ends_one a s)
unfolding ends_one waiting
quiet-ends_one a s = record { records = refl; serials = omega arith; weights = λ f. refl; moving = λ h. h }

step-take_units : (m : BlockModel) (b : Block) (x : Share) (preempts : Bool) (t : Transaction) (s : State)
    → (leb (share_units x) (free (server_at s.view (share_server x))) ≡ true → GetsIn b s) → share_server x - 1 < length s.ql
    → Step b t s (take_units m x preempts t s)
unfolding take_units
step-take_units m b x preempts t s gets h =
    cond_cases (Step b t s) (leb (share_units x) (free (server_at s.view (share_server x)))) _ _
    (λ e. passes (gets e) (quiet-move_to _ t (quiet_trans (quiet_use (share_server x) _ _ _ _) (quiet-check_wels (share_server x) _))))
    (λ e. step-ql b m.edition (share_server x) t s h)

quiet-interrupt : (e : Event) (t : Transaction) (f : ℕ) (s : State) → Quiet s (interrupt e t f s)
unfolding interrupt waiting
quiet-interrupt e t f s = record { records = refl; serials = omega arith; weights = λ f. refl; moving = λ h. h }

quiet-resume : (i : Interrupted) (f : ℕ) (s : State) → Quiet s (resume i f s)
unfolding resume to_fel waiting
quiet-resume i f s = record { records = refl; serials = omega arith; weights = λ f. refl; moving = λ h. h }

-- gatherers wait for no units
quiet-gatherers : (l : List (List Gatherer)) (s : State) → Quiet s (set_gatherers l s)
unfolding waiting
quiet-gatherers l s = record { records = refl; serials = omega arith; weights = λ f. refl; moving = λ h. h }

quiet-ended : (n : ℕ) (s : State) → Quiet s (set_ended n s)
unfolding waiting
quiet-ended n s = record { records = refl; serials = omega arith; weights = λ f. refl; moving = λ h. h }

-- ---- Each kind

-- the five ways out of a block, of every kind
pub step-effect : (m : BlockModel) (b : Block) (t : Transaction) (s : State) → ProperBlock m b → Shape m s → Step b t s (effect m b t s)
unfolding effect facts server_at take_units to_gatherers comes released share_server
step-effect m (generate list p) t s h k = passes (λ n z. absurd (n refl)) (quiet-move_to _ t (quiet-arrival _ list p _ _))
step-effect m (advance list) t s h k = passes (λ n z. absurd (n refl)) (quiet-delay _ list t _)
step-effect m (terminate a) t s h k = passes (λ n z. absurd (n refl)) (quiet-ends_one a _)
step-effect m (takes x) t s h k =
    let n = share-server m x h in
    step-take_units m (takes x) x false t s (λ e n z. e) (ql-at k (share_server x) n.0 n.1)
step-effect m (frees x) t s h k =
    passes (λ n z. absurd (n refl))
    (quiet-move_to _ t
    (quiet_trans (quiet_use (share_server x) _ _ _ _) (quiet_trans (quiet-wake_for m x _) (quiet-check_wels (share_server x) _))))
step-effect m (wait_server code v c) t s h k =
    let n = code-server m code v h.0 in
    wait_server-cases (Step (wait_server code v c) t s) m code v c t s
    (λ e. step-wel _ m.edition v code t s (wel-at k v code n.0 n.1))
    (λ e. returns refl (quiet-move_to _ t (quiet-wake_first_wel v code s)))
    (λ e. passes (λ n z. absurd (n refl)) (quiet-move_to _ _ (quiet-wake_first_wel v code _)))
step-effect m (wait_terms a r b) t s h k =
    wait_terms-cases (Step (wait_terms a r b) t s) m a r b t s (λ e. step-wsl _ t s)
    (λ e. passes (λ n z. absurd (n refl)) (quiet-move_to _ t (quiet_refl _)))
step-effect m (moves c target) t s h k = passes (λ n z. absurd (n refl)) (quiet-move_to _ t (quiet_refl _))
step-effect m (assign i a) t s h k = passes (λ n z. absurd (n refl)) (quiet-move_to _ _ (quiet_refl _))
step-effect m (priority p) t s h k = passes (λ n z. absurd (n refl)) (quiet-to_rel _ _ refl)
step-effect m (split n target) t s h k = passes (λ n z. absurd (n refl)) (quiet-move_to _ t (quiet-copies n target t _))
step-effect m (counts c q) t s h k = passes (λ n z. absurd (n refl)) (quiet-move_to _ t (quiet-content q _ _))
step-effect m (assemble n) t s h k =
    assemble-cases (Step (assemble n) t s) m n t s (λ e. assembles refl (quiet-gatherers _ _))
    (λ g l e z. passes (λ n z. absurd (n refl)) (quiet_trans (quiet-ended _ _) (quiet_trans (quiet-gatherers _ _) (quiet-to_rel _ _ refl))))
    (λ g l e z. passes (λ n z. absurd (n refl)) (quiet_trans (quiet-ended _ _) (quiet-gatherers _ _)))
step-effect m (preempt f) t s h k =
    preempt-cases (Step (preempt f) t s) m f t s
    (λ e. step-take_units m (preempt f) (facility f) true t s (λ e n z. absurd (omega (arith, h.0)))
    (ql-at k f h.0 (omega (arith, h.1))))
    (λ x l e.
    passes (λ n z. absurd (omega (arith, h.0)))
    (quiet-move_to _ t (quiet_trans (quiet-interrupt x t f _) (quiet_trans (quiet_use f _ _ _ _) (quiet-check_wels f _)))))
step-effect m (give_back f) t s h k =
    give_back-cases (Step (give_back f) t s) m f t s
    (λ e. passes (λ n z. absurd (n refl))
    (quiet-move_to _ t (quiet_trans (quiet_use f _ _ _ _) (quiet_trans (quiet-wake_for m (facility f) _) (quiet-check_wels f _)))))
    (λ i l e. passes (λ n z. absurd (n refl))
    (quiet-move_to _ t (quiet_trans (quiet_use f _ _ _ _) (quiet_trans (quiet-resume i f _) (quiet-check_wels f _)))))
