-- Serials tell apart who waits, is ready or moves: of every weight f of serials, what stands on the QLs, the WELs, the WSL and REL and
-- what is moving
-- weigh together at most as much as the serials given. Every turn keeps it: who comes there has the next serial, or came from there.
use Rattle.machine.specs.All.{ℕ, zero, suc, ◌+◌, ◌*◌, ◌-◌, ◌≤◌, ◌<◌, ◌≡◌, refl, sym, ap, ◌∙◌, subst, Bool, true, false, not, true≢false, inl, inr, List, [], ◌∷◌, Option, none, some, arith, eqb, leb, ltb, get_or, set, take, drop, eq-eqb, leb-true, leb-false, ltb-true, ltb-false, Transaction, Event, Gatherer, precedes, those, flat, Code, Share, share_server, share_units, Block, generate, advance, terminate, takes, frees, wait_server, wait_terms, moves, assign, priority, split, counts, assemble, preempt, give_back, BlockModel, block_at, wel_index, State, with_priority, with_returning, with_next, with_serial, set_moving, log, enters, move_to, fresh, to_rel, to_fel, ql_of, wel_of, line_up, to_ql, to_wel, to_wsl, must_wait, wake_ql, wake_first_wel, wake_wsl, set_use, set_content, arrival, copies, to_gatherers, comes, released, interrupt, resume, take_units, part_for, wake_for, check_wels, ends_one, delay, effect, arrive_all, move_clock, next_events, take_first, take_ready, taking, answer, execute, waits_on, ws_scheme, turn, start_at, idle, start, Each, bit, up_to, server_at, free, facility, set_serial}
use Rattle.machine.proofs as our
use our.{Decoding.Proper.servers, Basic.Bools.cond_cases, Basic.Taking.next_events-moving}
use our.Lists.Cases.{check_wels-kept, wait_server-cases, wait_terms-cases, assemble-cases, preempt-cases, give_back-cases, ws_scheme-cases, start_of-cases}
use our.Lists.Sorted.{Sorted, Before, before-precedes}
use our.Lists.Sums.{sum_on, sum-append, sum-insert, sum-those, sum_first, sum-flat-none, sum-wake, up_to-none, up_to-one}
use our.Lists.Lines.{sum-line_up, sum-part_for}

-- a list set in a place that is not there is lost
sum-set : {A : Type 0} (f : A → ℕ) (ls : List (List A)) (i : ℕ) (l : List A)
    → sum_on f (flat (set ls i l)) + sum_on f (get_or ls i []) ≤ sum_on f (flat ls) + sum_on f l
unfolding flat
sum-set f [] i l = omega arith
sum-set f (k ∷ ls) zero l = omega (arith, sum-append f l (flat ls), sum-append f k (flat ls))
sum-set f (k ∷ ls) (suc i) l = omega (arith, sum-append f k (flat (set ls i l)), sum-append f k (flat ls), sum-set f ls i l)

module _ (f : ℕ → ℕ) where
  -- ---- Definition

  abbrev by : Transaction → ℕ
  by t = f t.serial

  abbrev ready : State → ℕ
  ready s = sum_on by (flat s.ql) + sum_on by (flat s.wel) + sum_on by s.wsl + sum_on by s.rel

  abbrev pub held : Option Transaction → ℕ
  held none = 0
  held (some t) = by t

  -- with x in hand
  abbrev pub Within : ℕ → State → Type 0
  Within x s = x + ready s ≤ up_to s.serial f

  abbrev pub Apart : State → Type 0
  Apart s = Within (held s.moving) s

  -- ---- Moves

  module _ (x : ℕ) where
    within-to_rel : (t : Transaction) (s : State) → Within x s → Within x (to_rel t s)
    unfolding to_rel up_to
    within-to_rel t s w = omega (arith, sum-insert by precedes (with_serial (fresh s) t) s.rel)

    within-to_fel : (time : ℕ) (t : Transaction) (s : State) → Within x s → Within x (to_fel time t s)
    unfolding to_fel up_to
    within-to_fel time t s w = omega arith

    within-to_ql : (edition v : ℕ) (t : Transaction) (s : State) → Within (by t + x) s → Within x (to_ql edition v t s)
    unfolding to_ql
    within-to_ql edition v t s w =
        omega (arith, sum-set by s.ql (v - 1) (line_up edition t (ql_of s v)), sum-line_up by edition t (ql_of s v))

    within-to_wel : (edition v : ℕ) (code : Code) (t : Transaction) (s : State) → Within (by t + x) s → Within x (to_wel edition v code t s)
    unfolding to_wel
    within-to_wel edition v code t s w =
        omega (arith, sum-set by s.wel (wel_index v code) (line_up edition t (wel_of s v code)), sum-line_up by edition t (wel_of s v code))

    within-to_wsl : (t : Transaction) (s : State) → Within (by t + x) s → Within x (to_wsl t s)
    unfolding to_wsl
    within-to_wsl t s w = omega (arith, sum-insert by precedes t s.wsl)

    within-released : (g : Gatherer) (t : Transaction) (s : State) → Within x s → Within x (released g t s)
    unfolding released
    within-released g t s w = within-to_rel _ _ w

    within-wake_for : (m : BlockModel) (y : Share) (s : State) → Within x s → Within x (wake_for m y s)
    unfolding wake_for wake_ql
    within-wake_for m y s w =
        let l : List Transaction = ql_of s (share_server y) in
        let part = part_for m y s.view l in
        omega (
          arith,
          sum-set by s.ql (share_server y - 1) part.stay,
          sum-part_for by m y s.view l,
          sum-wake by (λ t. refl) part.go s.rel,
        )

    within-wake_first : (v : ℕ) (code : Code) (s : State) → Within x s → Within x (wake_first_wel v code s)
    unfolding wake_first_wel
    within-wake_first v code s w =
        let l : List Transaction = wel_of s v code in
        omega (arith, sum-set by s.wel (wel_index v code) (drop 1 l), sum_first by l, sum-wake by (λ t. refl) (take 1 l) s.rel)

    within-check_wels : (v : ℕ) (s : State) → Within x s → Within x (check_wels v s)
    within-check_wels v s w = check_wels-kept (Within x) v (within-wake_first v) s w

    within-wake_wsl : (p : Transaction → Bool) (s : State) → Within x s → Within x (wake_wsl p s)
    unfolding wake_wsl
    within-wake_wsl p s w = omega (arith, sum-those by p s.wsl, sum-wake by (λ t. refl) (those p s.wsl) s.rel)

    within-arrival : (l : List ℕ) (list p n : ℕ) (s : State) → Within x s → Within x (arrival l list p n s)
    unfolding arrival
    within-arrival [] list p n s w = w
    within-arrival (time ∷ l) list p n s w = within-to_fel _ _ _ w

    within-delay : (l : List ℕ) (list : ℕ) (t : Transaction) (s : State) → Within x s → Within x (delay l list t s)
    unfolding delay
    within-delay [] list t s w = w
    within-delay (time ∷ l) list t s w = within-to_fel _ _ _ w

    within-copies : (n target : ℕ) (t : Transaction) (s : State) → Within x s → Within x (copies n target t s)
    unfolding copies
    within-copies zero target t s w = w
    within-copies (suc n) target t s w = within-copies n target t _ (within-to_rel _ _ w)

    within-arrive_all : (l : List Event) (s : State) → Within x s → Within x (arrive_all l s)
    unfolding arrive_all
    within-arrive_all [] s w = w
    within-arrive_all (e ∷ l) s w = within-arrive_all l _ (within-to_rel _ s w)

    within-next_events : (l : List Event) (s : State) → Within x s → Within x (next_events l s)
    unfolding next_events move_clock
    within-next_events [] s w = w
    within-next_events (e ∷ l) s w = within-arrive_all _ _ w

  -- ---- The taking

  apart-take_first : (l : List Transaction) (s : State) → s.rel ≡ l → s.moving ≡ none → Within 0 s → Apart (take_first l s)
  unfolding take_first
  apart-take_first [] s e n w = rw n w
  apart-take_first (t ∷ l) s e n w = omega (arith, ap (sum_on by) e)

  apart-take_ready : (l : List Transaction) (s : State) → s.rel ≡ l → s.moving ≡ none → Within 0 s → Apart (take_ready l s)
  unfolding take_ready
  apart-take_ready [] s e n w = apart-take_first _ _ refl (next_events-moving s.fel s ∙ n) (within-next_events 0 s.fel s w)
  apart-take_ready (t ∷ l) s e n w = apart-take_first (t ∷ l) s e n w

  apart-taking : (o : Option Transaction) (s : State) → s.moving ≡ o → Apart s → Apart (taking o s)
  unfolding taking
  apart-taking none s e w = apart-take_ready s.rel s refl e (rw e at w)
  apart-taking (some t) s e w = w

  -- ---- One block

  module _ (m : BlockModel) (t : Transaction) (s : State) (w : Within (by t) s) where
    abbrev idle-hand : State
    idle-hand = set_moving none s

    -- it waits with the next serial, or with its own
    apart_wait : (put : Transaction → State → State) → ((t : Transaction) (s : State) → Within (by t + 0) s → Within 0 (put t s))
        → ((t : Transaction) (s : State) → (put t s).moving ≡ s.moving) → Apart (must_wait put t idle-hand)
    unfolding must_wait log up_to
    apart_wait put puts stays =
        cond_cases Apart t.returning _ _ (λ e. kept t idle-hand refl (omega arith))
        (λ e. kept (with_serial (fresh s) t) (set_serial (fresh s) (log 1 t idle-hand)) refl (omega arith))
      where
        kept : (u : Transaction) (z : State) → z.moving ≡ none → Within (by u + 0) z → Apart (put u z)
        kept u z e h = subst (λ o. Within (held o) (put u z)) (sym (stays u z ∙ e)) (puts u z h)

    apart-ql : (v : ℕ) → Apart (must_wait (to_ql m.edition v) t idle-hand)
    apart-ql v = apart_wait (to_ql m.edition v) (within-to_ql 0 m.edition v) (λ t s. unfold to_ql in refl)

    apart-takes : (x : Share) (preempts : Bool) → Apart (take_units m x preempts t idle-hand)
    unfolding take_units move_to set_use enters log
    apart-takes x preempts =
        cond_cases Apart (leb (share_units x) (free (server_at s.view (share_server x)))) _ _
        (λ e. within-check_wels (by t) (share_server x) _ w) (λ e. apart-ql (share_server x))

    apart-delay : (l : List ℕ) (list : ℕ) → Apart (delay l list t (enters t idle-hand))
    unfolding delay to_fel enters log up_to
    apart-delay [] list = omega arith
    apart-delay (time ∷ l) list = omega arith

    apart-effect : (b : Block) → Apart (effect m b t idle-hand)
    unfolding effect move_to enters log to_rel set_content take_units set_use ends_one to_gatherers comes released interrupt resume to_fel up_to
    apart-effect (generate list p) = within-arrival (by t) _ list p _ _ w
    apart-effect (advance list) = apart-delay _ list
    apart-effect (terminate a) = omega arith
    apart-effect (takes x) = apart-takes x false
    apart-effect (frees x) = within-check_wels (by t) (share_server x) _ (within-wake_for (by t) m x _ w)
    apart-effect (wait_server code v c) =
        wait_server-cases Apart m code v c t idle-hand
        (λ e. apart_wait (to_wel m.edition v code) (within-to_wel 0 m.edition v code) (λ t s. unfold to_wel in refl))
        (λ e. within-wake_first (by t) v code _ w) (λ e. within-wake_first (by t) v code _ w)
    apart-effect (wait_terms a r b) =
        wait_terms-cases Apart m a r b t idle-hand (λ e. apart_wait to_wsl (within-to_wsl 0) (λ t s. unfold to_wsl in refl)) (λ e. w)
    apart-effect (moves c target) = w
    apart-effect (assign k a) = w
    apart-effect (priority p) =
        within-to_rel 0 (with_priority p (with_returning false (with_next (suc t.next) t))) (enters t idle-hand) (omega arith)
    apart-effect (split n target) = within-copies (by t) n target t _ w
    apart-effect (counts c q) = w
    apart-effect (assemble n) =
        assemble-cases Apart m n t idle-hand (λ e. omega arith) (λ g l e z. within-released 0 g t (enters t idle-hand) (omega arith))
        (λ g l e z. omega arith)
    apart-effect (preempt f) =
        preempt-cases Apart m f t idle-hand (λ e. apart-takes (facility f) true) (λ x l e. within-check_wels (by t) f _ w)
    apart-effect (give_back f) =
        give_back-cases Apart m f t idle-hand (λ e. within-check_wels (by t) f _ (within-wake_for (by t) m (facility f) _ w))
        (λ i l e. within-check_wels (by t) f _ (omega arith))

    apart-answer : (n : ℕ) → s.moving ≡ some t → Apart (answer n m (block_at m t.next) t s)
    unfolding answer
    apart-answer zero e = apart-effect (block_at m t.next)
    apart-answer (suc n) e = rw e w

  -- ---- The turn

  module _ (m : BlockModel) where
    apart-execute : (o : Option Transaction) (s : State) → s.moving ≡ o → Apart s → Apart (execute o m s)
    unfolding execute
    apart-execute none s e w = w
    apart-execute (some t) s e w = apart-answer m t s (rw e at w) _ e

    apart-ws_scheme : (s : State) → Apart s → Apart (ws_scheme m s)
    unfolding wake_wsl
    apart-ws_scheme s w = ws_scheme-cases Apart m s (λ e. within-wake_wsl (held s.moving) (λ t. not (waits_on m s.view t)) s w) (λ e. w)

    pub apart-turn : (s : State) → Apart s → Apart (turn m s)
    unfolding turn
    apart-turn s w = apart-ws_scheme _ (apart-execute _ _ refl (apart-taking s.moving s refl w))

    -- ---- The start

    apart-arrival : (l : List ℕ) (list p n : ℕ) (s : State) → Apart s → Apart (arrival l list p n s)
    unfolding arrival to_fel
    apart-arrival [] list p n s w = w
    apart-arrival (time ∷ l) list p n s w = within-arrival (held s.moving) (time ∷ l) list p n s w

    apart-start_at : (n : ℕ) (l : List Block) (s : State) → Apart s → Apart (start_at n l s)
    unfolding start_at
    apart-start_at n [] s w = w
    apart-start_at n (b ∷ l) s w = apart-start_at (suc n) l _ (start_of-cases Apart b n s (λ e. w) (λ e. apart-arrival _ _ _ n s w))

    apart-idle : (tape : List (List ℕ)) → Apart (idle m tape)
    unfolding idle up_to
    apart-idle tape = omega (arith, sum-flat-none by (servers m), sum-flat-none by (servers m * 6))

    pub apart-start : (tape : List (List ℕ)) → Apart (start m tape)
    unfolding start
    apart-start tape = apart-start_at 1 m.blocks _ (apart-idle tape)

-- ---- What it tells

-- no two of a list have one serial
abbrev pub Single : List Transaction → Type 0
Single l = (n : ℕ) → sum_on (λ t. bit (eqb t.serial n)) l ≤ 1

module _ (s : State) (apart : (f : ℕ → ℕ) → Apart f s) where
  at_most : (n : ℕ) → up_to s.serial (λ k. bit (eqb k n)) ≤ 1
  at_most n = go (leb 1 n) refl (leb n s.serial) refl
    where
      go : (a : Bool) → leb 1 n ≡ a → (b : Bool) → leb n s.serial ≡ b → up_to s.serial (λ k. bit (eqb k n)) ≤ 1
      go true e true q = omega (arith, up_to-one s.serial n (leb-true 1 n e) (leb-true n s.serial q))
      go true e false q = omega (arith, up_to-none s.serial n (λ k a b c. omega (arith, leb-false n s.serial q)))
      go false e b q = omega (arith, up_to-none s.serial n (λ k a b c. omega (arith, leb-false 1 n e)))

  pub single-rel : Single s.rel
  single-rel n = omega (arith, apart (λ k. bit (eqb k n)), at_most n)

  pub single-ql : (i : ℕ) → Single (get_or s.ql i [])
  single-ql i n = omega (arith, apart (λ k. bit (eqb k n)), at_most n, sum-set (λ t. bit (eqb t.serial n)) s.ql i [])

  pub single-wel : (i : ℕ) → Single (get_or s.wel i [])
  single-wel i n = omega (arith, apart (λ k. bit (eqb k n)), at_most n, sum-set (λ t. bit (eqb t.serial n)) s.wel i [])

-- of two with different serials one precedes the other
pub one-precedes : (x y : Transaction) → (y.serial ≡ x.serial → ⊥) → precedes y x ≡ false → precedes x y ≡ true
one-precedes x y d e = go (ltb y.priority x.priority) refl (ltb x.priority y.priority) refl (ltb x.serial y.serial) refl
  where
    not-before : Before y x → ⊥
    not-before h = true≢false (sym (before-precedes y x h) ∙ e)

    same : ltb y.priority x.priority ≡ false → ltb x.priority y.priority ≡ false → x.priority ≡ y.priority
    same p q = omega (arith, ltb-false y.priority x.priority p, ltb-false x.priority y.priority q)

    go : (a : Bool) → ltb y.priority x.priority ≡ a → (b : Bool) → ltb x.priority y.priority ≡ b → (c : Bool)
        → ltb x.serial y.serial ≡ c → precedes x y ≡ true
    go true p b q c r = before-precedes x y (inl (ltb-true _ _ p))
    go false p true q c r = absurd (not-before (inl (ltb-true _ _ q)))
    go false p false q true r = before-precedes x y (inr (same p q, ltb-true _ _ r))
    go false p false q false r = absurd (not-before (inr (sym (same p q), other (ltb-false x.serial y.serial r))))
      where
        other : y.serial ≤ x.serial → y.serial < x.serial
        other le = omega arith

-- ... so in a line in order everybody precedes those behind
pub strictly : (l : List Transaction) → Single l → Sorted precedes l → Sorted (λ y x. not (precedes x y)) l
strictly [] one h = tt
strictly (x ∷ l) one h = (
  behind l (omega (arith, one x.serial, ap bit (eq-eqb x.serial x.serial refl))) h.0,
  strictly l (λ n. omega (arith, one n)) h.1,
)
  where
    behind : (k : List Transaction) → sum_on (λ t. bit (eqb t.serial x.serial)) k ≤ 0 → Each (λ y. precedes y x ≡ false) k
        → Each (λ y. not (precedes x y) ≡ false) k
    behind [] z h = tt
    behind (y ∷ k) z h = (
      ap not (one-precedes x y (λ e. omega (arith, z, ap bit (eq-eqb y.serial x.serial e))) h.0),
      behind k (omega (arith, z)) h.1,
    )
