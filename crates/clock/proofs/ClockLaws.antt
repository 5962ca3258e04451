-- A clock move follows the machine: it is counted, and all of the first time come from the FEL to REL.
use Rattle.machine.specs.All.{ℕ, suc, ◌+◌, ◌≤◌, ◌<◌, ◌≡◌, refl, sym, ◌∙◌, subst, Bool, false, List, [], ◌∷◌, none, arith, lt-ltb, le-ltb, length, get_or, max_clock, Transaction, Event, precedes, insert, those, others, BlockModel, State, set_rel, set_serial, with_serial, with_returning, ap, Each}
use Rattle.machine.specs.Turn as Machine
use Rattle.machine.proofs.{Decoding.Proper.Proper, Lists.Sums.sum-length, Lists.Sums.sum-insert, Lists.Sums.sum-those}
use Rattle.layout.specs.All.{clock_moves}
use Rattle.rows_laws.specs.All.{rel, fel, first, Arrived, arrive, arrivals, event_at, update}
use Rattle.rows_laws.proofs.{Chains.TakeFirst.Head, Chains.TakeFirst.nobody, Chains.TakeFirst.somebody, Laws.Arrives, Laws.head-fel-shows, Laws.arrive-shows}
use Rattle.state.specs.declared.scalars.Scalars.{Scalars}
use Rattle.state.specs.All.{put_clock, put_serial, Rows, rows_of, lists_in, lists_of, Listing, Tallying, Counting, Stands}
use Rattle.state.proofs.{Sane.Sane, Measured.clocked, Measured.moved-clock, ListsOf.lists-set-rel}
use Rattle.clock.specs.{count_move, move_clock, next_events}
use Rattle.clock.proofs.{Population.listing-ready, SampleLaws.tally-moved}

-- ---- How many arrive

arrivals-length : (l : List Event) (n : ℕ) (r : List Transaction) → length (arrivals l n r) ≡ length r + length l
unfolding arrivals
arrivals-length [] n r = omega arith
arrivals-length (e ∷ l) n r =
    let t : Transaction = with_serial (suc n) (with_returning false e.who) in
    omega (
      arith,
      arrivals-length l (suc n) (insert precedes (with_serial (suc n) (with_returning false e.who)) r),
      sum-insert (λ x. 1) precedes (with_serial (suc n) (with_returning false e.who)) r,
      sum-length r,
      sum-length (insert precedes (with_serial (suc n) (with_returning false e.who)) r),
    )

split-length : (p : Event → Bool) (l : List Event) → length (those p l) + length (others p l) ≡ length l
split-length p l = omega (arith, sum-those (λ x. 1) p l, sum-length l, sum-length (those p l), sum-length (others p l))

module _ {m : BlockModel} {tape : List (List ℕ)} (proper : Proper m tape) (tape_bytes : List ℕ) (r : Rows) (s : State) (sane : Sane m s)
    (h : Stands tape_bytes r none s) (fewer : get_or r.tally clock_moves 0 < s.turns) where
  abbrev w : List ℕ
  w = r.work

  abbrev x : Scalars
  x = r.scalars

  -- ---- To the time of the first event

  module _ (e : Event) (l : List Event) (future : s.fel ≡ e ∷ l) where
    abbrev time : ℕ
    time = e.time

    abbrev due : List Event
    due = those (Machine.due e.time) s.fel

    abbrev later : List Event
    later = others (Machine.due e.time) s.fel

    abbrev ready : List Transaction
    ready = arrivals (those (Machine.due e.time) s.fel) s.serial s.rel

    -- the machine's state after the move
    abbrev s' : State
    s' =
        set_rel (arrivals (those (Machine.due e.time) s.fel) s.serial s.rel)
        (set_serial (s.serial + length (those (Machine.due e.time) s.fel)) (clocked e.time s))

    abbrev a : Arrived
    a = arrive 1024 e.time w s.serial

    arrives : Arrives w a (update rel ready (lists_of s)) later (s.serial + length due)
    unfolding lists_in
    arrives = arrive-shows w (lists_of s) s.fel h.listing.shows e l future s.serial

    in-time : e.time ≤ max_clock
    in-time = (subst (Each (λ (y : Event). y.time ≤ max_clock)) future sane.timely.times).0

    ahead : s.view.clock ≤ e.time
    ahead = (subst (Each (λ (y : Event). s.view.clock ≤ y.time)) future sane.ahead).0

    listed : Listing a.rows x.moving none s'
    unfolding clocked lists_in
    listed =
        listing-ready w a.rows x.moving x.moving none none s s' h.listing ready later arrives.shows
        (omega (arith, arrives.steady.count, arrivals-length due s.serial s.rel, split-length (Machine.due e.time) s.fel))
        (λ q hq. lists-set-rel s ready q hq) refl refl h.listing.mover

    tallied : Tallying tape_bytes (count_move r.tally) s'
    unfolding clocked Machine.sample
    tallied = tally-moved proper s sane e.time ahead in-time tape_bytes r.tally h.tallying fewer

    counted : Counting (put_serial a.serial (put_clock e.time x)) s'
    unfolding clocked
    counted =
        record {
          clock = refl;
          counter = h.counting.counter;
          serial = arrives.last;
          made = h.counting.made;
          ended = h.counting.ended;
          turns = h.counting.turns;
          used = h.counting.used;
          end = h.counting.end;
        }

    moved : Stands tape_bytes (move_clock w r.tally x e.time) none s'
    unfolding move_clock rows_of
    moved =
        let n : x.serial ≡ s.serial = h.counting.serial in
        rw n (record { listing = listed; tallying = tallied; counting = counted })

    -- a clock move over rows: who is due goes to REL with fresh serials, as the machine moves them
    pub clock-stands : Stands tape_bytes (move_clock w r.tally x e.time) none (Machine.move_clock e.time s)
    clock-stands =
        subst (Stands tape_bytes (move_clock w r.tally x e.time) none) (sym (moved-clock e.time s)) moved

    pub clock-moving : (Machine.move_clock e.time s).moving ≡ s.moving
    unfolding clocked
    clock-moving = ap (λ z. z.moving) (moved-clock e.time s)

  -- ---- Where there is one

  events-none : 1024 ≤ first w fel → next_events w r.tally x ≡ r
  unfolding next_events rows_of
  events-none n = rw (le-ltb (first w fel) 1024 n)

  events-some : first w fel < 1024
      → next_events w r.tally x ≡ move_clock w r.tally x (event_at w (first w fel)).time
  unfolding next_events event_at
  events-some n =
      let small : x.serial < 4000000000 = omega (arith, h.counting.serial, sane.serials) in
      rw (lt-ltb (first w fel) 1024 n, lt-ltb x.serial 4000000000 small)

  pub events-stands : s.moving ≡ none
      → Stands tape_bytes (next_events w r.tally x) none (Machine.next_events s.fel s) × ((Machine.next_events s.fel s).moving ≡ none)
  unfolding Machine.next_events
  events-stands idle = go (head-fel-shows w _ _ h.listing.shows)
    where
      Goal : List Event → Type 0
      Goal l = Stands tape_bytes (next_events w r.tally x) none (Machine.next_events l s) × ((Machine.next_events l s).moving ≡ none)

      go : Head w fel (event_at w) s.fel → Goal s.fel
      go (nobody e n) = subst Goal (sym e) (rw (events-none n) h, idle)
      go (somebody l e n) =
          subst Goal (sym e) (
            rw (events-some n) (clock-stands (event_at w (first w fel)) l e),
            clock-moving _ l e ∙ idle,
          )
