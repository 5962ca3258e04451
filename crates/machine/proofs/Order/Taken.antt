-- What the taking hands to a block: the transaction taken, whose number no waiter has, and the waits linked to the records.
-- One with the returning mark is the first of REL.
use Rattle.machine.specs.All.{ℕ, ◌+◌, ◌≤◌, ◌≡◌, refl, sym, ap, subst, ◌∙◌, true, false, true≢false, List, [], ◌∷◌, map, Option, none, some, arith, eqb, eqb-true, eq-eqb, Transaction, Event, precedes, flat, those, BlockModel, State, with_returning, with_serial, set_moving, set_rel, fresh, to_rel, arrive_all, due, move_clock, next_events, take_first, take_ready, taking, moving_one, Each, bit, everyone, standing, Bool, cond}
use Rattle.machine.proofs as our
use our.{Basic.Each.each-insert, Order.Rivals.Standing, Runs.Shape.Shape, Basic.Taking.next_events-moving}
use our.Lists.Sums.{sum_on, sum-append, sum-insert, sum-those, sum-map, sum-count, sum-le}
use our.Order.Weights.{weight, marked, waiting, Unmarked, Quiet, quiet-next_events}
use our.Order.OpenWaits.{Linked, LinkedIn, numbered, Alone, linked_as, linked-quiet}
use our.NobodyAble.Waiting.{Waits, WaitsOver, Settled}

-- ---- Numbers on the lists

-- nobody stands twice
abbrev pub Once : State → Type 0
Once s = (n : ℕ) → standing s n ≤ 1

module _ (n : ℕ) where
  abbrev pub has : Transaction → ℕ
  has t = bit (eqb t.number n)

  pub has-own : (t : Transaction) → t.number ≡ n → has t ≡ 1
  has-own t e = ap bit (eq-eqb t.number n e)

  pub standing-sum : (s : State) → standing s n
      ≡ sum_on has (flat s.ql) + sum_on has (flat s.wel) + sum_on has s.wsl + sum_on has s.rel
      + sum_on has (map (λ e. e.who) s.fel) + sum_on has (moving_one s.moving) + sum_on has (map (λ g. g.who) (flat s.gatherers))
      + sum_on has (map (λ i. i.who) s.interrupted)
  unfolding standing everyone
  standing-sum s = sym (sum-count (λ t. eqb t.number n) (everyone s)) ∙ simp sum-append

  weight-has : (t : Transaction) → weight (numbered n) t ≤ has t
  weight-has t = go (eqb n t.number) refl
    where
      go : (b : Bool) → eqb n t.number ≡ b → bit b ≤ has t
      go true e = omega (arith, has-own t (sym (eqb-true _ _ e)))
      go false e = omega arith

  marked-has : (t : Transaction) → marked (numbered n) t ≤ has t
  marked-has t = go t.returning
    where
      go : (b : Bool) → cond b (weight (numbered n) t) 0 ≤ has t
      go true = weight-has t
      go false = omega arith

  waiting-has : (s : State) → waiting (numbered n) s
      ≤ sum_on has (flat s.ql) + sum_on has (flat s.wel) + sum_on has s.wsl + sum_on has s.rel
  unfolding waiting
  waiting-has s =
      omega (
        arith,
        sum-le (weight (numbered n)) has weight-has (flat s.ql),
        sum-le (weight (numbered n)) has weight-has (flat s.wel),
        sum-le (weight (numbered n)) has weight-has s.wsl,
        sum-le (marked (numbered n)) has marked-has s.rel,
      )

  rel-arrive_all : (l : List Event) (s : State) → sum_on has (arrive_all l s).rel ≡ sum_on has s.rel + sum_on has (map (λ e. e.who) l)
  unfolding arrive_all to_rel
  rel-arrive_all [] s = omega arith
  rel-arrive_all (e ∷ l) s =
      omega (
        arith,
        rel-arrive_all l (to_rel (with_returning false e.who) s),
        sum-insert has precedes (with_serial (fresh s) (with_returning false e.who)) s.rel,
      )

  rel-next_events : (l : List Event) (s : State)
      → sum_on has (next_events l s).rel ≤ sum_on has s.rel + sum_on has (map (λ e. e.who) s.fel)
  unfolding next_events move_clock
  rel-next_events [] s = omega arith
  rel-next_events (e ∷ l) s =
      rw rel-arrive_all
      (omega (
        arith,
        sum-map has (λ e. e.who) s.fel,
        sum-map has (λ e. e.who) (those (due e.time) s.fel),
        sum-those (λ e. has e.who) (due e.time) s.fel,
      ))

-- ---- Who comes from the FEL has no mark, and nobody begins to move

fresh-arrive_all : (l : List Event) (s : State) → Each (λ t. t.returning ≡ false) s.rel
    → Each (λ t. t.returning ≡ false) (arrive_all l s).rel
unfolding arrive_all to_rel
fresh-arrive_all [] s h = h
fresh-arrive_all (e ∷ l) s h = fresh-arrive_all l _ (each-insert (λ t. t.returning ≡ false) precedes _ s.rel refl h)

fresh-next_events : (l : List Event) (s : State) → Each (λ t. t.returning ≡ false) s.rel
    → Each (λ t. t.returning ≡ false) (next_events l s).rel
unfolding next_events move_clock
fresh-next_events [] s h = h
fresh-next_events (e ∷ l) s h = fresh-arrive_all _ _ h

-- ---- The taking

module _ (m : BlockModel) where
  -- t moves in s
  pub record InHand (t : Transaction) (s : State) : Type 0 where
    pub moves : s.moving ≡ some t
    pub alone : Alone t.number s
    -- the one that is taken counts among those who wait if it came back from a list
    pub linked : Linked m s.records s.serial (λ f. waiting f s + marked f t)
    pub in_place : t.returning ≡ true → Standing m t s

  module _ (s : State) (once : Once s) (h : LinkedIn m s) where
    -- without anybody moving
    linked-none : s.moving ≡ none → Linked m s.records s.serial (λ f. waiting f s)
    unfolding moving_one
    linked-none e = linked_as (omega arith) (λ f k. omega (arith, ap (λ o. sum_on (marked f) (moving_one o)) e)) h

    from-moving : (t : Transaction) → s.moving ≡ some t → t.returning ≡ false → InHand t s
    unfolding moving_one
    from-moving t e u =
        record {
          moves = e;
          alone =
              omega (
                arith,
                once t.number,
                standing-sum t.number s,
                waiting-has t.number s,
                ap (λ o. sum_on (has t.number) (moving_one o)) e,
                has-own t.number t refl,
              );
          linked = linked_as (omega arith) (λ f k. omega (arith, ap (λ o. sum_on (marked f) (moving_one o)) e)) h;
          in_place = λ r. absurd (true≢false (sym r ∙ u));
        }

    from-rel : (t : Transaction) (l : List Transaction) → s.moving ≡ none → s.rel ≡ t ∷ l → Shape m s → Waits m s → s.end ≡ 0
        → Settled m s
        → InHand t (set_moving (some t) (set_rel l s))
    unfolding waiting
    from-rel t l e r shape w z settled =
        record {
          moves = refl;
          alone =
              omega (
                arith,
                once t.number,
                standing-sum t.number s,
                waiting-has t.number (set_moving (some t) (set_rel l s)),
                ap (sum_on (has t.number)) r,
                has-own t.number t refl,
              );
          linked = linked_as (omega arith) (λ f k. omega (arith, ap (sum_on (marked f)) r)) (linked-none e);
          in_place = λ b.
              record { queued = ready.queued; gated = ready.gated; settled = settled e (omega arith); ql-length = shape.ql-length };
        }
      where
        ready : WaitsOver m (t ∷ l) (t ∷ l) s.view.servers s.ql s.wel
        ready =
            subst (λ k. WaitsOver m k k s.view.servers s.ql s.wel) r
            (rw e at w)

    from-fel : (t : Transaction) (l : List Transaction) → s.moving ≡ none → s.rel ≡ [] → (next_events s.fel s).rel ≡ t ∷ l
        → InHand t (set_moving (some t) (set_rel l (next_events s.fel s)))
    unfolding waiting
    from-fel t l e z r =
        record {
          moves = refl;
          alone =
              omega (
                arith,
                once t.number,
                standing-sum t.number s,
                waiting-has t.number s,
                quiet.weights (numbered t.number),
                rel-next_events t.number s.fel s,
                ap (sum_on (marked (numbered t.number))) r,
                ap (sum_on (has t.number)) r,
                ap (sum_on (has t.number)) z,
                has-own t.number t refl,
              );
          linked =
              rw quiet.records
              (linked_as quiet.serials (λ f k. omega (arith, quiet.weights f, ap (sum_on (marked f)) r)) (linked-none e));
          in_place = λ b. absurd (true≢false (sym b ∙ first.0));
        }
      where
        quiet : Quiet s (next_events s.fel s)
        quiet = quiet-next_events s.fel s

        first : Each (λ u. u.returning ≡ false) (t ∷ l)
        first = rw r at (fresh-next_events s.fel s (rw z tt))

  -- what the taking leaves
  pub data Handed (s : State) : Type 0 where
    nobody : s.moving ≡ none → LinkedIn m s → Handed s
    hand : (t : Transaction) → InHand t s → Handed s

  module _ (s : State) (once : Once s) (h : LinkedIn m s) (shape : Shape m s) (w : Waits m s) (z : s.end ≡ 0) (settled : Settled m s)
      (unmarked : Unmarked s.moving) where
    handed-rel : (l : List Transaction) → s.rel ≡ l → s.moving ≡ none → Handed (take_ready l s)
    unfolding take_ready take_first
    handed-rel [] r e = go (next_events s.fel s).rel refl
      where
        go : (l : List Transaction) → (next_events s.fel s).rel ≡ l → Handed (take_first l (next_events s.fel s))
        go [] q = nobody (next_events-moving s.fel s ∙ e) (linked-quiet (quiet-next_events s.fel s) (next_events-moving s.fel s) h)
        go (t ∷ l) q = hand t (from-fel s once h t l e r q)
    handed-rel (t ∷ l) r e = hand t (from-rel s once h t l e r shape w z settled)

    pub handed : Handed (taking s.moving s)
    unfolding taking
    handed = go s.moving refl
      where
        go : (o : Option Transaction) → s.moving ≡ o → Handed (taking o s)
        go none e = handed-rel s.rel refl e
        go (some t) e = hand t (from-moving s once h t e (rw e at unmarked))

-- ---- The taking writes nothing

take_first-records : (l : List Transaction) (s : State) → (take_first l s).records ≡ s.records
unfolding take_first
take_first-records [] s = refl
take_first-records (t ∷ l) s = refl

take_ready-records : (l : List Transaction) (s : State) → (take_ready l s).records ≡ s.records
unfolding take_ready
take_ready-records [] s = take_first-records _ _ ∙ (quiet-next_events s.fel s).records
take_ready-records (t ∷ l) s = take_first-records (t ∷ l) s

pub taking-records : (o : Option Transaction) (s : State) → (taking o s).records ≡ s.records
unfolding taking
taking-records none s = take_ready-records s.rel s
taking-records (some t) s = refl
