-- The taking follows the machine: where the rows stand for a state before a turn, what `take` leaves stands for the state in which
-- the turn's block finds the machine.
use Rattle.machine.specs.All.{ℕ, suc, ◌≤◌, ◌<◌, ◌≡◌, refl, sym, subst, List, [], ◌∷◌, Option, none, some, arith, lt-ltb, le-ltb, max_turns, Transaction, Event, BlockModel, State, set_turns, to_rel, ap, ◌∙◌, false, with_returning}
use Rattle.machine.specs.Turn as Machine
use Rattle.machine.proofs.Decoding.Proper.{Proper}
use Rattle.rows_laws.specs.All.{rel, transaction_at}
use Rattle.rows_laws.proofs.{Chains.TakeFirst.Head, Chains.TakeFirst.nobody, Chains.TakeFirst.somebody, Laws.head-shows}
use Rattle.state.specs.All.{Rows, rows_of, lists_in, Stands}
use Rattle.state.proofs.{Sane.Sane, Sanity.taken_of, Sanity.sane-turns}
use Rattle.clock.specs.{counted, take}
use Rattle.clock.proofs.{ReadyLaws.ready-stands, ClockLaws.events-stands}

-- ---- The count of turns does not matter to the taking

module _ (n : ℕ) where
  arrive_all-turns : (l : List Event) (s : State) → Machine.arrive_all l (set_turns n s) ≡ set_turns n (Machine.arrive_all l s)
  unfolding Machine.arrive_all to_rel
  arrive_all-turns [] s = refl
  arrive_all-turns (e ∷ l) s = arrive_all-turns l (to_rel (with_returning false e.who) s)

  next_events-turns : (l : List Event) (s : State) → Machine.next_events l (set_turns n s) ≡ set_turns n (Machine.next_events l s)
  unfolding Machine.next_events Machine.move_clock Machine.sample
  next_events-turns [] s = refl
  next_events-turns (e ∷ l) s = arrive_all-turns _ _

  take_first-turns : (l : List Transaction) (s : State) → Machine.take_first l (set_turns n s) ≡ set_turns n (Machine.take_first l s)
  unfolding Machine.take_first
  take_first-turns [] s = refl
  take_first-turns (t ∷ l) s = refl

  take_ready-turns : (l : List Transaction) (s : State) → Machine.take_ready l (set_turns n s) ≡ set_turns n (Machine.take_ready l s)
  unfolding Machine.take_ready
  take_ready-turns [] s =
      ap (λ (x : State). Machine.take_first x.rel x) (next_events-turns s.fel s)
      ∙ take_first-turns (Machine.next_events s.fel s).rel (Machine.next_events s.fel s)
  take_ready-turns (t ∷ l) s = take_first-turns (t ∷ l) s

-- ---- A turn is counted

sane-counted : {m : BlockModel} (s : State) → s.turns < max_turns → Sane m s → Sane m (set_turns (suc s.turns) s)
sane-counted s few k = sane-turns (suc s.turns) s.end s (omega arith) (omega arith) k

stands-counted : (tape_bytes : List ℕ) (r : Rows) (o : Option Transaction) (s : State) → s.turns < max_turns → Stands tape_bytes r o s
    → Stands tape_bytes (rows_of (counted r.scalars) r.work r.tally) o (set_turns (suc s.turns) s)
unfolding counted rows_of
stands-counted tape_bytes r o s few h =
    record {
      listing = h.listing;
      tallying =
          record {
            size = h.tallying.size;
            entries = h.tallying.entries;
            waits = h.tallying.waits;
            seen =
                record {
                  moves = omega (arith, h.tallying.seen.moves);
                  before = h.tallying.seen.before;
                  clocks = h.tallying.seen.clocks;
                  current = h.tallying.seen.current;
                };
            servers = h.tallying.servers;
            queues = h.tallying.queues;
            samples = h.tallying.samples;
          };
      counting =
          record {
            clock = h.counting.clock;
            counter = h.counting.counter;
            serial = h.counting.serial;
            made = h.counting.made;
            ended = h.counting.ended;
            turns = omega (arith, h.counting.turns);
            used = h.counting.used;
            end = h.counting.end;
          };
    }

-- ---- The law

module _ {m : BlockModel} {tape : List (List ℕ)} (proper : Proper m tape) (tape_bytes : List ℕ) (r : Rows) (s : State) (sane : Sane m s)
    (few : s.turns < max_turns) where
  abbrev taken : Rows
  taken = take r.work r.tally r.scalars

  -- the rows and the state with the turn counted
  abbrev r⁺ : Rows
  r⁺ = rows_of (counted r.scalars) r.work r.tally

  abbrev s⁺ : State
  s⁺ = set_turns (suc s.turns) s

  -- somebody moves still
  take-moving : (t : Transaction) → Stands tape_bytes r (some t) s → Stands tape_bytes taken (some t) s⁺
  unfolding take
  take-moving t h =
      rw (lt-ltb r.scalars.moving 1024 h.listing.mover.0.row) (stands-counted tape_bytes r (some t) s few h)

  -- else somebody is on REL, or the clock moves
  take_next : Stands tape_bytes r none s → s.moving ≡ none
      → Stands tape_bytes taken (Machine.take_ready s.rel s⁺).moving (Machine.take_ready s.rel s⁺)
  unfolding take Machine.take_ready rows_of counted lists_in
  take_next h idle = go (head-shows _ _ _ h.listing.shows rel (omega arith))
    where
      h⁺ : Stands tape_bytes r⁺ none s⁺
      h⁺ = stands-counted tape_bytes r none s few h

      nobody-moves : 1024 ≤ r.scalars.moving
      nobody-moves = omega arith

      Goal : List Transaction → Type 0
      Goal l = Stands tape_bytes taken (Machine.take_ready l s⁺).moving (Machine.take_ready l s⁺)

      go : Head r.work rel (transaction_at r.work) s.rel → Goal s.rel
      go (somebody l e n) =
          subst Goal (sym e)
          (rw (le-ltb _ 1024 nobody-moves, lt-ltb)
          (rw (← e) (ready-stands tape_bytes r⁺ s⁺ h⁺ idle)))
      go (nobody e n) =
          let later = events-stands proper tape_bytes r⁺ s⁺ (sane-counted s few sane) h⁺ (omega arith) idle in
          subst Goal (sym e)
          (rw (le-ltb _ 1024 nobody-moves, le-ltb)
          (ready-stands tape_bytes _ _ later.0 later.1))

  take_by : (o : Option Transaction) → s.moving ≡ o → Stands tape_bytes r o s
      → Stands tape_bytes taken (Machine.taking o s).moving (set_turns (suc s.turns) (Machine.taking o s))
  unfolding Machine.taking
  take_by (some t) e h = rw (← e) at (take-moving t h)
  take_by none e h =
      rw (take_ready-turns (suc s.turns) s.rel s) at (take_next h e)

  -- taking as a whole, with the clock move where REL is empty
  pub take-stands : Stands tape_bytes r s.moving s → Stands tape_bytes taken (taken_of s).moving (taken_of s)
  take-stands h = take_by s.moving refl h
