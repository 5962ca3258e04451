-- What the relation reads of a state, and single changes that it follows. Lists, tally and scalars each have their own laws, so
-- that a block's law puts them together as its effect needs.
use Rattle.machine.specs.All.{ℕ, suc, ◌+◌, ◌%◌, ◌≤◌, ◌<◌, ◌≡◌, refl, ◌∙◌, ◌≢◌, List, Option, none, some, arith, length, get_or, set, get_or-set_other, Transaction, Event, precedes, earlier, insert, line_up, Server, Queue, State, Logged, with_stamp, set_moving}
use Rattle.layout.specs.Layout as Layout
use Rattle.rows_laws.specs.All.{wsl, free, write, set_time, put, schedule, transaction_at, event_at, update, Sorted, order_of, Shows}
use Rattle.rows_laws.specs.Layout as Layout'
use Rattle.rows_laws.specs.Lines as Lines
use Rattle.rows_laws.proofs.{Chains.Showing.update_other, Order.StayInOrder.line-sorted, Order.StayInOrder.shows_ext, Buffer.RowWrites.write-shown, Buffer.RowWrites.write-loose, Buffer.FieldWrites.write-stamp, Life.LooseRowsStay.Steady, Life.LooseRowsStay.steady-transaction, Counting.Population.free-kept}
use Rattle.rows_laws.proofs.Laws.{Fresh, shows-put, shows-line, shows-schedule}
use Rattle.state.specs.declared.scalars.Scalars.{Scalars}
use Rattle.state.proofs.StatisticsLaws.{SamePair, behind-same, sum_same, longest-same}
use Rattle.state.specs.All.{Rows, rows_of, Moving, Listed, Listing, Seen, Serving, Queueing, Sampling, at_block, Tallying, Numbers, Counted, Counting, Stands}
use mathlib.Core.Path.{sym, ap}
use Rattle.rows_laws.specs.Order.{outranks, sooner}
use Rattle.rows_laws.proofs.Placing.LineUp.{lined}

-- ---- Lists

module _ {w : List ℕ} {k : ℕ} {t : Transaction} {lists : ℕ → List Transaction} {fel : List Event} {living : ℕ}
    (h : Listed w k (some t) lists fel living) where
  -- a field of the moving row is written
  pub listing-write : (f x : ℕ) {t' : Transaction} → f < 11 → transaction_at (write w f k x) k ≡ t'
      → Listed (write w f k x) k (some t') lists fel living
  listing-write f x hf e =
      record {
        shows =
            record {
              rows = h.shows.rows;
              shown = write-shown w f k x hf h.mover.0 h.shows.rows lists fel h.shows.shown;
              ordered = h.shows.ordered;
            };
        mover = (write-loose w f k x hf k h.mover.0.row h.mover.0, e);
        spare = h.spare;
      }

  -- the moving row comes onto a list
  pub listing-put : {lists' : ℕ → List Transaction} (p : ℕ) → wsl ≤ p → p < 770
      → ((q : ℕ) → q < 770 → update p (insert precedes t (lists p)) lists q ≡ lists' q)
      → Listed (put w p k) 1024 none lists' fel living
  listing-put {lists'} p low hp same =
      record {
        shows =
            shows_ext (put w p k) (update p (insert precedes (transaction_at w k) (lists p)) lists) lists' fel fel
            (λ q hq. ap (λ (u : Transaction). update p (insert precedes u (lists p)) lists q) h.mover.1 ∙ same q hq)
            refl
            (shows-put w lists fel h.shows k h.mover.0 p hp (line-sorted p (lists p) low (h.shows.ordered.lists p hp)));
        mover = refl;
        spare = rw (update_other p (insert (outranks w) k (h.shows.rows p)) h.shows.rows free (λ e. omega arith)) h.spare;
      }

  -- the moving row comes onto a line of waiters
  pub listing-line : {lists' : ℕ → List Transaction} (edition p : ℕ) → p < 770 → (edition ≡ 1 → Sorted precedes (lists p))
      → Sorted (order_of p) (line_up edition t (lists p))
      → ((q : ℕ) → q < 770 → update p (line_up edition t (lists p)) lists q ≡ lists' q)
      → Listed (Lines.line_up edition w p k) 1024 none lists' fel living
  listing-line {lists'} edition p hp sorted stays same =
      record {
        shows =
            shows_ext (Lines.line_up edition w p k) (update p (line_up edition (transaction_at w k) (lists p)) lists) lists' fel fel
            (λ q hq. ap (λ (u : Transaction). update p (line_up edition u (lists p)) lists q) h.mover.1 ∙ same q hq)
            refl
            (shows-line w lists fel h.shows k h.mover.0 edition p hp sorted (rw h.mover.1 stays));
        mover = refl;
        spare = rw (update_other p (lined edition w p k (h.shows.rows p)) h.shows.rows free (λ e. omega arith)) h.spare;
      }

  -- the moving row comes onto the FEL
  pub listing-schedule : {fel' : List Event} → Fresh t fel → insert earlier (event_at w k) fel ≡ fel'
      → Listed (schedule w k) 1024 none lists fel' living
  listing-schedule {fel'} fresh future =
      record {
        shows =
            shows_ext (schedule w k) lists lists (insert earlier (event_at w k) fel) fel' (λ q hq. refl) future
            (shows-schedule w lists fel h.shows k h.mover.0 (rw h.mover.1 fresh));
        mover = refl;
        spare =
            rw (update_other Layout'.fel (insert (sooner w) k (h.shows.rows Layout'.fel)) h.shows.rows free (λ e. omega arith))
            h.spare;
      }

-- the move time of the moving one is its stamp
pub listing-time : {w : List ℕ} {k : ℕ} {t : Transaction} {lists : ℕ → List Transaction} {fel : List Event} {living : ℕ}
    → Listed w k (some t) lists fel living
    → (time : ℕ) → Listed (set_time w k time) k (some (with_stamp time t)) lists fel living
unfolding set_time
listing-time {w} {k} {t} {lists} {fel} {living} h time =
    let low : List ℕ = write w 8 k (time % 4294967296) in
    let g : Listed low k (some (transaction_at low k)) lists fel living = listing-write h 8 _ (omega arith) refl in
    listing-write g 9 _ (omega arith)
    (write-stamp w k h.shows.shown.holds.room h.mover.0.row time ∙ ap (with_stamp time) h.mover.1)

-- rows move between lists, none of them moving or free
pub listing-steady : {w w' : List ℕ} {k : ℕ} {o : Option Transaction} {lists lists' : ℕ → List Transaction} {fel fel' : List Event}
    {living : ℕ} → Shows w' lists' fel'
    → Steady w w'
    → Listed w k o lists fel living → Listed w' k o lists' fel' living
listing-steady {w} {w'} {k} {o} shows steady h =
    record {
      shows = shows;
      mover = go o h.mover;
      spare = rw (free-kept w w' h.shows.rows shows.rows h.shows.shown.holds shows.shown.holds steady) h.spare;
    }
  where
    go : (o' : Option Transaction) → Moving w k o' → Moving w' k o'
    go none e = e
    go (some t) e = (steady.loose k e.0, steady-transaction w w' k steady e.0 ∙ e.1)

-- ---- Tally

-- a tally of the same cells
module _ (tally after : List ℕ) (pair : (j : ℕ) → SamePair tally after j) where
  pub seen_same : (clock turns : ℕ) → Seen tally clock turns → Seen after clock turns
  seen_same clock turns h =
      record {
        moves = omega (arith, (pair 0).all, h.moves);
        before = λ j hj. omega (arith, (pair j).moves, (pair j).all, h.before j hj);
        clocks = λ j hj. omega (arith, (pair j).clock, h.clocks j hj);
        current = λ j hj n. (pair j).clock ∙ h.current j hj (sym (behind-same tally after j (pair j)) ∙ n);
      }

  pub queueing-same : (clock : ℕ) (queues : List Queue) → ((j : ℕ) → 832 ≤ j → j < 928 → get_or after j 0 ≡ get_or tally j 0)
      → Queueing tally clock queues
      → Queueing after clock queues
  queueing-same clock queues same h =
      record {
        contents = λ q hq. same (832 + q) (omega arith) (omega arith) ∙ h.contents q hq;
        content-ticks = λ q hq.
            sum_same tally after (64 + q) (pair (64 + q)) (864 + q) (832 + q) clock (same (864 + q) (omega arith) (omega arith))
            (same (832 + q) (omega arith) (omega arith))
            ∙ h.content-ticks q hq;
        longest = λ q hq.
            longest-same tally after (64 + q) (pair (64 + q)) (896 + q) (832 + q) (same (896 + q) (omega arith) (omega arith))
            (same (832 + q) (omega arith) (omega arith))
            ∙ h.longest q hq;
      }

pub sampling-same : (tally after tape_bytes : List ℕ) (samples : List (List ℕ)) → length samples ≤ 16
    → ((j : ℕ) → 928 ≤ j → j < 960 → get_or after j 0 ≡ get_or tally j 0) → Sampling tape_bytes tally samples
    → Sampling tape_bytes after samples
sampling-same tally after tape_bytes samples few same h =
    record {
      begins = λ l hl. rw (same (928 + l) (omega arith) (omega arith)) (h.begins l hl);
      left = λ l hl. same (944 + l) (omega arith) (omega arith) ∙ h.left l hl;
    }

-- a cell elsewhere is set
module _ (tally : List ℕ) (i x : ℕ) where
  other : (j : ℕ) → j ≢ i → get_or (set tally i x) j 0 ≡ get_or tally j 0
  other j d = get_or-set_other tally i j x 0 d

  pub entries-set : (l : List ℕ) → 256 ≤ i → ((b : ℕ) → b < 256 → get_or tally (Layout.entries + b) 0 ≡ get_or l b 0) → (b : ℕ) → b < 256
      → get_or (set tally i x) (Layout.entries + b) 0 ≡ get_or l b 0
  entries-set l h e b hb = other (Layout.entries + b) (λ z. omega arith) ∙ e b hb

  pub waits-set : (l : List Logged) → 512 ≤ i → ((b : ℕ) → b < 256 → get_or tally (Layout.waits + b) 0 ≡ at_block 1 (suc b) l) → (b : ℕ)
      → b < 256
      → get_or (set tally i x) (Layout.waits + b) 0 ≡ at_block 1 (suc b) l
  waits-set l h e b hb = other (Layout.waits + b) (λ z. omega arith) ∙ e b hb

  pub pair_set : i < 1344 → (j : ℕ) → SamePair tally (set tally i x) j
  pair_set low j =
      record {
        clock = other (1344 + j) (λ e. omega arith);
        moves = other (1440 + j) (λ e. omega arith);
        all = other 1536 (λ e. omega arith);
      }

  pub seen-set : (clock turns : ℕ) → i < 1344 → Seen tally clock turns → Seen (set tally i x) clock turns
  seen-set clock turns low = seen_same tally (set tally i x) (pair_set low) clock turns

  -- a cell outside those of the servers leaves what is told of them
  pub serving-set : (clock : ℕ) (servers : List Server) (ql : List (List Transaction)) → i < 960
      → ((j : ℕ) → 512 ≤ j → j < 832 → j ≢ i) → Serving tally clock servers ql
      → Serving (set tally i x) clock servers ql
  serving-set clock servers ql low apart h =
      record {
        in_use = λ v hv. other (512 + v) (apart (512 + v) (omega arith) (omega arith)) ∙ h.in_use v hv;
        holders = λ v hv. other (960 + v) (λ e. omega arith) ∙ h.holders v hv;
        preempts = λ v hv. other (1024 + v) (λ e. omega arith) ∙ h.preempts v hv;
        held = λ r hr. other (1088 + r) (λ e. omega arith) ∙ h.held r hr;
        unit-ticks = λ v hv.
            sum_same tally (set tally i x) v (pair_set (omega arith) v) (576 + v) (512 + v) clock
            (other (576 + v) (apart (576 + v) (omega arith) (omega arith))) (other (512 + v) (apart (512 + v) (omega arith) (omega arith)))
            ∙ h.unit-ticks v hv;
        wait-ticks = λ v hv.
            sum_same tally (set tally i x) v (pair_set (omega arith) v) (640 + v) (768 + v) clock
            (other (640 + v) (apart (640 + v) (omega arith) (omega arith))) (other (768 + v) (apart (768 + v) (omega arith) (omega arith)))
            ∙ h.wait-ticks v hv;
        longest = λ v hv.
            longest-same tally (set tally i x) v (pair_set (omega arith) v) (704 + v) (768 + v)
            (other (704 + v) (apart (704 + v) (omega arith) (omega arith))) (other (768 + v) (apart (768 + v) (omega arith) (omega arith)))
            ∙ h.longest v hv;
        waiting = λ v hv. other (768 + v) (apart (768 + v) (omega arith) (omega arith)) ∙ h.waiting v hv;
      }

  -- a cell outside those of the queues leaves what is told of them
  pub queueing-set : (clock : ℕ) (queues : List Queue) → i < 1344 → ((j : ℕ) → 832 ≤ j → j < 928 → j ≢ i)
      → Queueing tally clock queues
      → Queueing (set tally i x) clock queues
  queueing-set clock queues low apart = queueing-same tally (set tally i x) (pair_set low) clock queues (λ j a b. other j (apart j a b))

  -- a cell outside those of the tape leaves what is told of it
  pub sampling-set : (tape_bytes : List ℕ) (samples : List (List ℕ)) → length samples ≤ 16 → ((j : ℕ) → 928 ≤ j → j < 960 → j ≢ i)
      → Sampling tape_bytes tally samples
      → Sampling tape_bytes (set tally i x) samples
  sampling-set tape_bytes samples few apart = sampling-same tally (set tally i x) tape_bytes samples few (λ j a b. other j (apart j a b))

-- ---- Scalars

-- other numbers of serials, transactions made and ended
abbrev renumbered : (serial made ended : ℕ) → Numbers → Numbers
renumbered serial made ended a =
    record {
      clock = a.clock;
      counter = a.counter;
      serial = serial;
      made = made;
      ended = ended;
      turns = a.turns;
      used = a.used;
      end = a.end;
    }

-- equal counts may take each other's place
pub renumber : {a b : Numbers} → Counted a b → {serial made ended serial' made' ended' : ℕ} → serial ≡ serial' → made ≡ made'
    → ended ≡ ended'
    → Counted (renumbered serial made ended a) (renumbered serial' made' ended' b)
renumber h e f g =
    record {
      clock = h.clock;
      counter = h.counter;
      serial = e;
      made = f;
      ended = g;
      turns = h.turns;
      used = h.used;
      end = h.end;
    }

-- ---- All three

pub stands_of : {tape_bytes : List ℕ} (x : Scalars) {w tally : List ℕ} {o : Option Transaction} {s : State}
    → Listing w x.moving o s → Tallying tape_bytes tally s → Counting x s → Stands tape_bytes (rows_of x w tally) o s
unfolding rows_of
stands_of x listing tallying counting = record { listing = listing; tallying = tallying; counting = counting }

-- the relation does not read who moves in the state
pub stands-moving : (tape_bytes : List ℕ) (r : Rows) (o p : Option Transaction) (s : State) → Stands tape_bytes r o s
    → Stands tape_bytes r o (set_moving p s)
stands-moving tape_bytes r o p s h = record { listing = h.listing; tallying = h.tallying; counting = h.counting }
