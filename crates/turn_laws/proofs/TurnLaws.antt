-- A turn over scalars, buffers and trace is the machine's turn.
use Rattle.machine.specs.All.{cases, ℕ, ◌+◌, ◌-◌, ◌*◌, ◌≤◌, ◌<◌, ◌≡◌, refl, sym, ap, ◌∙◌, subst, Bool, true, false, cond, not, true≢false, List, Option, none, some, arith, lt-ltb, le-ltb, eqb-true, not-false, ltb, eqb, length, get_or, Transaction, Block, BlockModel, block_at, State, records_of, wake_wsl, question, Thing, the_clock, ◌++◌, drop, Record, trace_bytes_lem, Logged}
use Rattle.machine.specs.Turn as Machine
use Rattle.machine.proofs.{Decoding.Proper.Proper, Runs.RunLaws.Taken, NobodyAble.StillWaiting.MoverSpares, NobodyAble.StillWaiting.scheme-unread}
use Rattle.layout.specs.Layout as Layout
use Rattle.layout.specs.All.{Represents, header_of}
use Rattle.evaluation.specs.Nested.{Nested}
use Rattle.state.specs.declared.scalars.Scalars.{Scalars}
use Rattle.state.specs.All.{Rows, rows_of, Stands, Done, Bare, Note, entered_note, waits_note, no_note, note_as, logged, count_entry}
use Rattle.state.proofs.{Sane.Sane, Noted.noted-answer, Gains.Gains, BlockGains.gains-ws_scheme, Measured.Took, Written.in_order_lem}
use Rattle.state.proofs.TurnGains.{Turned, unnoted, noted, turned}
use Rattle.state.proofs.Sanity.{taken_of, Sure, taken-took, sane-taken, sure-turn}
use Rattle.moves.proofs.{Before.bare_block, Before.Before, BeforeLaws.inside, MotionLaws.next-read, MotionLaws.number_read}
use Rattle.clock.specs.Taking.{take}
use Rattle.clock.proofs.TakingLaws.{take-stands}
use Rattle.values_queues_laws.proofs.SchemeLaws.{scheme-stands, scheme-low}
use Rattle.blocks.specs.Execute.{execute}
use Rattle.blocks.proofs.ExecuteLaws.{execute-done}
use Rattle.turn_laws.specs.{note_record, Traced, traced, with_note, act, act_moving, clock_asks, next_of, asks, scheme_if, with_scheme, after_taking, turn}
use Rattle.turn_laws.specs.Writes.{Writes}
use Rattle.turn_laws.proofs.{Runs.Runs, NoteLaws.Follows, NoteLaws.note-follows, Unwritten.Unwritten, Unwritten.unwritten}

-- ---- Where no record is written

writes_like : {before trace : List ℕ} {s s' : State} → s'.records ≡ s.records → s'.written ≡ s.written → Writes before trace s
    → Writes before trace s'
unfolding records_of
writes_like {before} {s = s} {s' = s'} records written h =
    let same : records_of s ≡ records_of s' = ap (λ (l : List Logged). in_order_lem l) (sym records) in
    record {
      bytes =
          h.bytes ∙ ap (λ (l : List Record). trace_bytes_lem l ++ drop s.written before) same
          ∙ ap (λ (n : ℕ). trace_bytes_lem (records_of s') ++ drop n before) (sym written);
      written = written ∙ h.written ∙ ap (λ (l : List Record). length (trace_bytes_lem l)) same;
    }

-- ---- The block and its record

module _ {m : BlockModel} {tape : List (List ℕ)} {tape_bytes tables lists before : List ℕ} (proper : Proper m tape)
    (rep : Represents m tape tape_bytes tables lists) (nested : Nested m)
    (s : State) (sane : Sane m s) (room : s.written + 12 ≤ length before) (few : length s.records ≤ s.turns)
    (r : Rows) (trace : List ℕ) (writes : Writes before trace s) where
  abbrev w : List ℕ
  w = r.work

  abbrev tally : List ℕ
  tally = r.tally

  abbrev x : Scalars
  x = r.scalars

  abbrev values : ℕ
  values = length m.values

  module _ (t : Transaction) (moving : s.moving ≡ some t) (stands : Stands tape_bytes r (some t) s) where
    abbrev after : Rows
    after = execute tables values m.facilities tape_bytes w tally x (8 * (t.next - 1))

    abbrev b : Block
    b = block_at m t.next

    abbrev left : Bare
    left = bare_block m b t s

    stood : Before m tape tape_bytes tables lists w tally x t s b
    stood =
        record {
          proper = proper;
          rep = rep;
          nested = nested;
          sane = sane;
          moving = moving;
          is = refl;
          listing = stands.listing;
          tallying = stands.tallying;
          counting = stands.counting;
        }

    done : Done tape_bytes after left
    done = execute-done b stood

    untouched : Unwritten s left.state
    untouched = unwritten m b t s (proper.block t.next)

    note : Follows tape_bytes before after.work (note_record after.tally trace after.scalars t.number t.next)
        (note_as left.note t s left.state)
    note =
        note-follows stood room few left.state untouched after done.stands
        (writes_like untouched.records untouched.written writes)
        left.note done.note

    noted-runs : Runs tape_bytes before (with_note after trace t.number t.next) (Machine.execute (some t) m s)
    unfolding with_note traced Machine.execute rows_of note_record
    noted-runs =
        rw (← noted-answer (question m b t s) m b t s) (record { stands = note.stands; writes = note.writes })

    below : t.next - 1 < 256
    below = omega (arith, inside stood, proper.blocks.1)

    acting : Runs tape_bytes before (act_moving tables values m.facilities tape_bytes w tally trace x) (Machine.execute (some t) m s)
    unfolding act_moving act
    acting =
        rw (
          lt-ltb x.moving 1024 stands.listing.mover.0.row,
          number_read stands.listing,
          next-read stands.listing,
          lt-ltb (t.next - 1) 256 below,
        ) noted-runs

  nobody : s.moving ≡ none → Stands tape_bytes r none s
      → Runs tape_bytes before (act_moving tables values m.facilities tape_bytes w tally trace x) s
  unfolding act_moving
  nobody e stands =
      rw (le-ltb x.moving 1024 (omega arith)) idle
    where
      idle : Runs tape_bytes before (traced (rows_of x w tally) trace) s
      idle =
          unfold traced rows_of in
          record {
            stands = rw e (record { listing = stands.listing; tallying = stands.tallying; counting = stands.counting });
            writes = writes;
          }

  -- the block of the moving transaction, with its record, over rows and over the machine
  pub act-runs : (o : Option Transaction) → s.moving ≡ o → Stands tape_bytes r o s
      → Runs tape_bytes before (act_moving tables values m.facilities tape_bytes w tally trace x) (Machine.execute o m s)
  act-runs none e stands = unfold Machine.execute in nobody e stands
  act-runs (some t) e stands = acting t e stands

-- ---- The turn

-- a block leaves the clock
clock-left : {s s' : State} → Turned s s' → s'.view.clock ≡ s.view.clock
unfolding note_as logged count_entry
clock-left (unnoted g) = g.clock
clock-left {s} (noted t e n later h g) = cc (g.clock, by-note n, h.gains.clock)
  where
    by-note : (n : Note) → (note_as n t s later).view.clock ≡ later.view.clock
    by-note entered_note = refl
    by-note waits_note = refl
    by-note no_note = refl

module _ {m : BlockModel} {tape : List (List ℕ)} {tape_bytes tables lists before : List ℕ} (proper : Proper m tape)
    (rep : Represents m tape tape_bytes tables lists) (nested : Nested m)
    (budget : ℕ) (s : State) (sure : Sure m tape s) (taken : Taken budget (length before) s) (few : length s.records ≤ s.turns)
    (a : Traced) (runs : Runs tape_bytes before a s) where
  abbrev r : Rows
  r = a.rows

  abbrev y : State
  y = taken_of s

  abbrev r₁ : Rows
  r₁ = take r.work r.tally r.scalars

  sane₁ : Sane m y
  sane₁ = sane-taken proper s sure taken.no_end taken.serials taken.turns-left

  took : Took s.turns s (Machine.taking s.moving s)
  took = taken-took proper s sure taken.no_end taken.serials taken.turns-left

  -- after the block and its note
  abbrev acted : Traced
  acted = act_moving tables (length m.values) m.facilities tape_bytes r₁.work r₁.tally a.trace r₁.scalars

  abbrev z : State
  z = Machine.execute y.moving m y

  acts : Runs tape_bytes before acted z
  acts =
      act-runs proper rep nested y sane₁ (omega (arith, took.written, taken.room-left)) (omega (arith, ap length took.records, few)) r₁
      a.trace (writes_like took.records took.written runs.writes) y.moving refl
      (take-stands proper tape_bytes r s sure.sane taken.turns-left runs.stands)

  -- the scheme leaves who moves and the records
  scheme-moving : (u : State) → (Machine.ws_scheme m u).moving ≡ u.moving
  unfolding Machine.ws_scheme
  scheme-moving u = go (eqb u.end 0)
    where
      go : (c : Bool) → (cond {A = State} c (wake_wsl (λ t. not (Machine.waits_on m u.view t)) u) u).moving ≡ u.moving
      go true = unfold wake_wsl in refl
      go false = refl

  scheme-gains : Gains 0 0 0 z (Machine.ws_scheme m z)
  scheme-gains = gains-ws_scheme m z

  ended : Sure m tape (Machine.ws_scheme m z)
  unfolding Machine.turn
  ended = sure-turn proper s sure taken.no_end taken.serials taken.turns-left

  abbrev asking : Bool
  asking = asks tables r.scalars.clock acted.rows.scalars.clock (next_of r₁.work r₁.scalars.moving)

  -- they are asked
  schemed : Runs tape_bytes before (with_scheme true tables (length m.blocks) (length m.values) acted) (Machine.ws_scheme m z)
  unfolding with_scheme scheme_if traced rows_of
  schemed =
      record {
        stands =
            subst (λ (o : Option Transaction).
            Stands tape_bytes (with_scheme true tables (length m.blocks) (length m.values) acted).rows o (Machine.ws_scheme m z))
            (sym (scheme-moving z))
            (scheme-stands proper rep nested acted.rows z.moving z (scheme-low z ended.sane) acts.stands);
        writes =
            writes_like scheme-gains.records scheme-gains.written acts.writes;
      }

  -- ---- They are not: none reads what the turn changed

  abbrev S : Thing → Type 0
  S x = rep.watching.watched x ≡ true

  not_in : (x : Thing) → rep.watching.watched x ≡ false → S x → ⊥
  not_in x e h = true≢false (sym h ∙ e)

  stands₁ : Stands tape_bytes r₁ y.moving y
  stands₁ = take-stands proper tape_bytes r s sure.sane taken.turns-left runs.stands

  acted-clock : acted.rows.scalars.clock ≡ y.view.clock
  acted-clock = cc (acts.stands.counting.clock, scheme-gains.clock, clock-left (turned proper y))

  clock-kept : clock_asks tables r.scalars.clock acted.rows.scalars.clock ≡ false → S the_clock → s.view.clock ≡ y.view.clock
  unfolding clock_asks
  clock-kept q h = go (eqb r.scalars.clock acted.rows.scalars.clock) refl q
    where
      go : (c : Bool) → eqb r.scalars.clock acted.rows.scalars.clock ≡ c
          → cond c false (not (eqb (get_or tables Layout.clock_asked 0) 0)) ≡ false → s.view.clock ≡ y.view.clock
      go true e q = sym runs.stands.counting.clock ∙ eqb-true _ _ e ∙ acted-clock
      go false e q = absurd (not_in the_clock (rep.watching.clock (eqb-true _ 0 (not-false _ q))) h)

  abbrev block_asks : ℕ → Bool
  block_asks n = cond (ltb (n - 1) 256) (not (eqb (get_or tables (Layout.asked + (n - 1)) 0) 0)) true

  mover-spares : (o : Option Transaction) → y.moving ≡ o → Stands tape_bytes r₁ o y
      → block_asks (next_of r₁.work r₁.scalars.moving) ≡ false → MoverSpares S m o
  unfolding next_of
  mover-spares none e h q = tt
  mover-spares (some t) e h q =
      let next = next-read h.listing in
      let placed = rw e at sane₁.placed.moving in
      let inside : t.next - 1 < length m.blocks = omega arith in
      let low : t.next - 1 < 256 = omega arith in
      let cell = eqb-true _ 0 (not-false _ (rw (lt-ltb _ 1024 h.listing.mover.0.row, next, lt-ltb) at q)) in
      (not_in _ (rep.watching.entries _ inside cell), rep.watching.changes _ inside cell)

  still : asking ≡ false → Machine.ws_scheme m z ≡ z
  unfolding asks
  still f =
      cases (clock_asks tables r.scalars.clock acted.rows.scalars.clock)
      (λ e. absurd (true≢false (rw e at f)))
      (λ e. scheme-unread S m rep.watching.watches s (sure.settled taken.no_end) (clock-kept e)
      (mover-spares _ refl stands₁ (rw e at f)))

  unasked : asking ≡ false → Runs tape_bytes before (with_scheme false tables (length m.blocks) (length m.values) acted)
      (Machine.ws_scheme m z)
  unasked f =
      rw (still f) left_alone
    where
      left_alone : Runs tape_bytes before (with_scheme false tables (length m.blocks) (length m.values) acted) z
      left_alone =
          unfold with_scheme scheme_if traced rows_of in
          record {
            stands = record { listing = acts.stands.listing; tallying = acts.stands.tallying; counting = acts.stands.counting };
            writes = acts.writes;
          }

  either : (c : Bool) → asking ≡ c → Runs tape_bytes before (with_scheme c tables (length m.blocks) (length m.values) acted)
      (Machine.ws_scheme m z)
  either true e = schemed
  either false e = unasked e

  -- one whole turn: taking or clock move, block, record, WS scheme
  pub turn-runs : Runs tape_bytes before (turn (header_of m) tables tape_bytes r.work r.tally a.trace r.scalars) (Machine.turn m s)
  unfolding turn after_taking header_of Machine.turn
  turn-runs = either asking refl
