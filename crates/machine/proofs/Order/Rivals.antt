-- Edition 1: who gets in leaves no open rival behind that began to wait before it: such a one would stand on REL before the first, or on
-- the QL of a server that it fits, with nobody ready whom it does not precede.
use Rattle.machine.specs.All.{ℕ, zero, suc, ◌+◌, ◌-◌, ◌≤◌, ◌<◌, ◌≡◌, refl, sym, ap, subst, ◌∙◌, ◌⊎◌, inl, inr, Bool, true, false, cond, true≢false, List, [], ◌∷◌, none, arith, eqb, ltb, length, get_or, ltb-true, ltb-false, eq-eqb, ne_eqb, Transaction, precedes, flat, View, Block, facts, BlockModel, block_at, State, units_of_lem, holds, waits_on, Each, bit, preempt_names, ap₂, leb, free, terminate}
use Rattle.machine.proofs as our
use our.Decoding.Proper.{servers, Role, generating, taking, preempting, neither, role}
use our.{Basic.Bools.cond_cases, Basic.Lists.none-at, Order.Steps.GetsIn, Order.Records.Key}
use our.Lists.Sorted.{Some, Before, before-precedes}
use our.NobodyAble.Waiting.{server_of, server_in, QlWaits, nobody_fits, next_ready, Queued, Gated}
use our.Order.Records.{Member, opens, Rivals, EndsInOrder}
use our.Lists.Sums.{sum_on, sum-zero}
use our.Lists.SumFacts.{sum-some, sum_which}
use our.Order.Weights.{Wait, wait_of, weight, marked, waiting}
use our.Order.OpenWaits.{ForUnits, Linked, numbered, Alone, waiting_agree}
use our.Order.OpenPairs.{key, Pair, pair, is, only, only_self, only-equal, member-sum}

-- ---- A block that takes a server lets wait on no WEL and not on the WSL

OnlyQl : Block → Type 0
OnlyQl b = ((facts b).wel ≡ 0) × ((facts b).waits_while ≡ none)

takes-or-not : {b : Block} → Role b → ((facts b).server ≡ 0) ⊎ OnlyQl b
unfolding facts OnlyQl
takes-or-not (generating list p) = inl refl
takes-or-not (taking x) = inr (refl, refl)
takes-or-not (preempting f) = inr (refl, refl)
takes-or-not (neither e z) = inl z

-- ---- A block that takes a server that no PREEMPT names is no PREEMPT

preempts-none : (m : BlockModel) (tape : List (List ℕ)) (n : ℕ) → ((facts (block_at m n)).server ≡ 0 → ⊥)
    → preempt_names m tape (facts (block_at m n)).server ≡ false
    → (facts (block_at m n)).preempts ≡ 0
unfolding preempt_names facts
preempts-none m tape n some h =
    go (role (block_at m n)) some
    (none-at (λ b. eqb (facts b).preempts (facts (block_at m n)).server) (terminate 0) (ne_eqb _ _ (λ z. some (sym z))) m.blocks
    (n - 1) h)
  where
    go : {b : Block} → Role b → ((facts b).server ≡ 0 → ⊥) → eqb (facts b).preempts (facts b).server ≡ false → (facts b).preempts ≡ 0
    go (generating list p) some e = refl
    go (taking x) some e = refl
    go (preempting f) some e = absurd (true≢false (sym (eq-eqb f f refl) ∙ e))
    go (neither g z) some e = absurd (some z)

-- ---- Who precedes whom

some-each : {A : Type 0} {P Q : A → Type 0} {C : Type 0} (l : List A) → Some P l → Each Q l → ((x : A) → P x → Q x → C) → C
some-each [] h k f = absurd h
some-each (x ∷ l) (inl h) k f = f x h k.0
some-each (x ∷ l) (inr h) k f = some-each l h k.1 f

not-below : {a b : ℕ} → (a < b → ⊥) → b ≤ a
not-below h = omega arith

unless-before : (u t : Transaction) → Before u t → precedes u t ≡ false → ⊥
unless-before u t b e = true≢false (sym (before-precedes u t b) ∙ e)

-- who precedes t precedes all that do not
before-later : (u t x : Transaction) → Before u t → precedes x t ≡ false → Before u x
before-later u t x b e = go b (ltb x.priority u.priority) refl
  where
    high : x.priority ≤ t.priority
    high = not-below (λ h. unless-before x t (inl h) e)

    low : x.priority ≡ t.priority → t.serial ≤ x.serial
    low q = not-below (λ h. unless-before x t (inr (q, h)) e)

    go : Before u t → (b : Bool) → ltb x.priority u.priority ≡ b → Before u x
    go h true q = inl (ltb-true _ _ q)
    go (inl h) false q = let n : u.priority ≤ x.priority = ltb-false _ _ q in absurd (omega (arith, high))
    go (inr h) false q =
        let n : u.priority ≤ x.priority = ltb-false _ _ q in
        let same : x.priority ≡ t.priority = omega (arith, high) in
        inr (omega (arith, low same))

-- ---- While t is taken

-- one of four sums is above 0
data OneOf (a b c d : ℕ) : Type 0 where
  one : 0 < a → OneOf a b c d
  two : 0 < b → OneOf a b c d
  three : 0 < c → OneOf a b c d
  four : 0 < d → OneOf a b c d

one_of : (a b c d : ℕ) → 0 < a + b + c + d → OneOf a b c d
one_of (suc a) b c d h = one (omega arith)
one_of zero (suc b) c d h = two (omega arith)
one_of zero zero (suc c) d h = three (omega arith)
one_of zero zero zero d h = four (omega arith)

marked-weight : (b : Bool) (n : ℕ) → 0 < cond b n 0 → 0 < n
marked-weight true n h = h
marked-weight false n h = absurd (omega arith)

marked-returning : (b : Bool) (n : ℕ) → 0 < cond b n 0 → b ≡ true
marked-returning true n h = refl
marked-returning false n h = absurd (omega arith)

-- what is known of the waiters while t is taken from REL
pub record StandingOn (m : BlockModel) (t : Transaction) (w : View) (ql wel : List (List Transaction))
    (wsl rel : List Transaction) : Type 0 where
  pub queued : Queued m (t ∷ rel) (t ∷ rel) w.servers ql
  pub gated : Gated m (t ∷ rel) w.servers wel
  pub settled : Each (λ u. waits_on m w u ≡ true) wsl
  pub ql-length : length ql ≡ servers m

abbrev pub Standing : BlockModel → Transaction → State → Type 0
Standing m t s = StandingOn m t s.view s.ql s.wel s.wsl s.rel

-- an older rival w of one that gets in stands on none of the lists
module _ (m : BlockModel) (tape : List (List ℕ)) (t : Transaction) (s : State) (in_place : Standing m t s)
    (gets-in : GetsIn (block_at m t.next) s) (w : Wait) (rival : Rivals m tape w.key (wait_of t).key) (older : w.serial < t.serial)
    (first : m.edition ≡ 1) where
  -- the block is no PREEMPT
  unpreempted : (facts (block_at m t.next)).preempts ≡ 0
  unpreempted = preempts-none m tape t.next (λ z. rival.some-server (rival.server ∙ z)) (rw rival.server at rival.unnamed)

  only-ql : (u : Transaction) → w ≡ wait_of u → OnlyQl (block_at m u.next)
  only-ql u e = go (takes-or-not (role (block_at m u.next)))
    where
      go : (server_of m u ≡ 0) ⊎ OnlyQl (block_at m u.next) → OnlyQl (block_at m u.next)
      go (inl z) = absurd (rival.some-server (ap (λ (x : Wait). (facts (block_at m x.key.block)).server) e ∙ z))
      go (inr h) = h

  before : (u : Transaction) → w ≡ wait_of u → Before u t
  before u e =
      inr (sym (ap (λ (x : Wait). x.key.priority) e) ∙ rival.priority, omega (arith, ap (λ (x : Wait). x.serial) e))

  on-rel : Some (λ u. 0 < marked (only w) u) s.rel → ⊥
  on-rel h =
      some-each s.rel h in_place.queued.rel-sorted.0
      (λ u p q. unless-before u t (before u (only-equal w _ (marked-weight u.returning _ p))) q)

  on-wsl : Some (λ u. 0 < weight (only w) u) s.wsl → ⊥
  unfolding OnlyQl waits_on holds
  on-wsl h =
      some-each s.wsl h in_place.settled
      (λ u p q. true≢false (sym q ∙ ap (holds m.values s.view u.parameters) (only-ql u (only-equal w _ p)).1))

  on-wel : (i : ℕ) → Some (λ u. 0 < weight (only w) u) (get_or s.wel i []) → ⊥
  unfolding OnlyQl
  on-wel i h =
      some-each (get_or s.wel i []) h (in_place.gated.wel-stands i) (λ u p q. omega (arith, q, (only-ql u (only-equal w _ p)).0))

  on-ql : (i : ℕ) → i < length s.ql → Some (λ u. 0 < weight (only w) u) (get_or s.ql i []) → ⊥
  on-ql i d h =
      some-each (get_or s.ql i []) h (rw down at (in_place.queued.ql-stands (suc i) (omega arith)))
      (λ u p q.
      let e : w ≡ wait_of u = only-equal w _ p in
      let same : server_of m t ≡ suc i = sym rival.server ∙ ap (λ (x : Wait). (facts (block_at m x.key.block)).server) e ∙ q in
      waits same
      (subst (QlWaits m (t ∷ s.rel) (server_in s.view.servers (suc i)) (suc i)) (ap (λ k. get_or s.ql k []) down)
      (in_place.queued.ql-waits first (suc i) (omega arith) (omega (arith, in_place.ql-length)))))
    where
      l : List Transaction
      l = get_or s.ql i []

      down : suc i - 1 ≡ i
      down = omega arith

      waits : server_of m t ≡ suc i → QlWaits m (t ∷ s.rel) (server_in s.view.servers (suc i)) (suc i) l → ⊥
      waits same (nobody_fits n) =
          some-each l h n
          (λ u p q.
          let units : units_of_lem m t ≡ units_of_lem m u =
          sym rival.units ∙ ap (λ (x : Wait). (facts (block_at m x.key.block)).units) (only-equal w _ p) in
          true≢false
          (sym (gets-in (λ z. omega arith) unpreempted) ∙ ap₂ (λ (n v : ℕ). leb n (free (server_in s.view.servers v))) units same ∙ q))
      waits same (next_ready f (inl n)) = some-each l h n.1 (λ u p q. unless-before u t (before u (only-equal w _ p)) q)
      waits same (next_ready f (inr r)) =
          some-each s.rel r in_place.queued.rel-sorted.0
          (λ x n z. some-each l h n.1 (λ u p q. unless-before u x (before-later u t x (before u (only-equal w _ p)) z) q))

  no_rival : 0 < waiting (only w) s → ⊥
  unfolding waiting
  no_rival h = go (one_of _ _ _ _ h)
    where
      f : Transaction → ℕ
      f = weight (only w)

      go : OneOf (sum_on f (flat s.ql)) (sum_on f (flat s.wel)) (sum_on f s.wsl) (sum_on (marked (only w)) s.rel) → ⊥
      go (one p) = let r = sum_which f s.ql p in on-ql r.0 r.1 (sum-some f (get_or s.ql r.0 []) r.2)
      go (two p) = let r = sum_which f s.wel p in on-wel r.0 (sum-some f (get_or s.wel r.0 []) r.2)
      go (three p) = on-wsl (sum-some f s.wsl p)
      go (four p) = on-rel (sum-some (marked (only w)) s.rel p)

-- ---- The open waits of the records

bit-zero : (b : Bool) → bit b ≡ 0 → b ≡ false
bit-zero true e = absurd (omega arith)
bit-zero false e = refl

-- nobody weighs nothing
waiting_none : (s : State) → waiting (λ w. 0) s ≡ 0
unfolding waiting
waiting_none s =
    omega (
      arith,
      sum-zero (weight (λ w. 0)) (λ t. refl) (flat s.ql),
      sum-zero (weight (λ w. 0)) (λ t. refl) (flat s.wel),
      sum-zero (weight (λ w. 0)) (λ t. refl) s.wsl,
      sum-zero (marked (λ w. 0)) (λ t. cond_cases (λ n. n ≡ 0) t.returning 0 0 (λ e. refl) (λ e. refl)) s.rel,
    )

module _ (m : BlockModel) (tape : List (List ℕ)) (t : Transaction) (s : State) (alone : Alone t.number s)
    (h : Linked m s.records s.serial (λ f. waiting f s + marked f t)) where
  abbrev Needs : Wait → Type 0
  Needs w = (facts (block_at m w.key.block)).server ≡ 0 → ⊥

  for-units : (w : Wait) → Needs w → ForUnits m (only w)
  for-units w rules x z = go (ltb 0 (only w x)) refl
    where
      go : (b : Bool) → ltb 0 (only w x) ≡ b → only w x ≡ 0
      go true e = absurd (rules (ap (λ (y : Wait). (facts (block_at m y.key.block)).server) (only-equal w x (ltb-true _ _ e)) ∙ z))
      go false e = omega (arith, ltb-false 0 (only w x) e)

  -- an open wait for units is somebody's
  somebody : (w : Wait) → Needs w → Member w h.waits → 0 < waiting (only w) s + marked (only w) t
  somebody w rules i = omega (arith, member-sum (only w) w h.waits i, only_self w, h.same (only w) (for-units w rules))

  -- and one of the taken one's number is its own
  own : (w : Wait) → Needs w → Member w h.waits → w.key.number ≡ t.number → 0 < marked (only w) t
  unfolding only is
  own w rules i e = omega (arith, somebody w rules i, waiting_agree t.number s alone (only w) (λ x. 0) elsewhere, waiting_none s)
    where
      elsewhere : (x : Wait) → numbered t.number x ≡ 0 → only w x ≡ 0
      elsewhere x d = rw (e, bit-zero (eqb t.number x.key.number) d)

  -- whoever gets in ends its wait; none that is open is its rival and began before it
  pub ends_in-order : m.edition ≡ 1 → (t.returning ≡ true → Standing m t s × GetsIn (block_at m t.next) s)
      → EndsInOrder m tape t.number (opens s.records)
  ends_in-order first returner older k b n rival = go (ltb 0 (marked (only p.first) t)) refl
    where
      p : Pair h.waits older k
      p = pair (suc s.serial) older k h.waits h.falling (rw h.keys b)

      first-needs : Needs p.first
      first-needs z = rival.some-server (ap (λ (x : Key). (facts (block_at m x.block)).server) (sym p.first_key) ∙ z)

      second-needs : Needs p.second
      second-needs z =
          rival.some-server (rival.server ∙ ap (λ (x : Key). (facts (block_at m x.block)).server) (sym p.second_key) ∙ z)

      marks : 0 < marked (only p.second) t
      marks = own p.second second-needs p.second_open (ap (λ (x : Key). x.number) p.second_key ∙ n)

      mine : p.second ≡ wait_of t
      mine = only-equal p.second (wait_of t) (marked-weight t.returning _ marks)

      serials : p.first.serial < t.serial
      serials = omega (arith, p.serials, ap (λ (x : Wait). x.serial) mine)

      rival' : Rivals m tape p.first.key (wait_of t).key
      rival' = rw (p.first_key, ← (ap key mine), p.second_key) rival

      go : (c : Bool) → ltb 0 (marked (only p.first) t) ≡ c → ⊥
      go true e =
          let q : p.first ≡ wait_of t = only-equal p.first (wait_of t) (marked-weight t.returning _ (ltb-true _ _ e)) in
          omega (arith, serials, ap (λ (x : Wait). x.serial) q)
      go false e =
          let z : marked (only p.first) t ≤ 0 = ltb-false _ _ e in
          let r = returner (marked-returning t.returning _ marks) in
          no_rival m tape t s r.0 r.1 p.first rival' serials first
          (omega (arith, somebody p.first first-needs p.first_open))
