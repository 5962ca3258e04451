-- 4 SEIZE and 6 ENTER do to the rows what the machine does to its state.
use Rattle.machine.specs.All.{ℕ, ◌+◌, ◌-◌, ◌≤◌, ◌≡◌, refl, Bool, true, false, cond, List, none, arith, leb, Transaction, bit, Server, free, Block, share_server, share_units, share_holder, seize, enter, BlockModel, State, set_moving, set_serial, question}
use Rattle.machine.specs.Term
use Rattle.machine.specs.Moves as Moves
use Rattle.machine.specs.Execute as Execute
use Rattle.machine.proofs.Decoding.Proper.{servers}
use Rattle.layout.specs.All.{block_forms}
use Rattle.state.specs.declared.scalars.Scalars.{Scalars}
use Rattle.state.specs.All.{behind, update_server, Tallying, Done, entering, waiting, bare, bare_answer}
use Rattle.moves.proofs.Before.{place_of, bare_block, Before}
use Rattle.moves.proofs.BeforeLaws.{next_low, serial-low, few-lists, proper-block, operand}
use Rattle.moves.proofs.MotionLaws.{number_read, Puts, puts-ql, wait-on-done}
use Rattle.servers_laws.specs.{hold_units, longer, queue_up, take_units, seize_rows, enter_rows}
use Rattle.servers_laws.proofs as our
use our.{Named.named, Tallies.queued-tallying}
use our.Ready.{Ready, update-ready, update-current, set-ready, keep-ready, ready-done}
use our.Standing.{high, units_are, capacity-is, short, ready}
use Prim.Native.Nat.{suc}
use Rattle.machine.specs.Setters.{with_serial}
use Rattle.machine.proofs.Decoding.Proper.{Names, Storage}

module _ {m : BlockModel} {tape : List (List ℕ)} {tape_bytes tables lists w tally : List ℕ} {x : Scalars} {t : Transaction} {s : State}
    {b : Block}
    (h : Before m tape tape_bytes tables lists w tally x t s b) where
  abbrev s₀ : State
  s₀ = set_moving none s

  -- n units of a server, whoever holds it then
  module _ (v n who : ℕ) (preempts : Bool) (low : 1 ≤ v) (there : v ≤ servers m) where
    abbrev server : Server
    server = Term.server_at s.view v

    -- its statistics are brought up to date
    abbrev current : List ℕ
    current = update_server tally (v - 1) x.clock

    ready-now : Ready tape_bytes x t v server.in_use server.capacity w current s₀
    ready-now = update-ready (ready h v low there)

    now : behind current (v - 1) ≡ false
    now = update-current (ready h v low there)

    -- it enters
    hold-done : Done tape_bytes (hold_units w tally x (v - 1) (server.in_use + n) who x.moving (bit preempts) server.capacity)
        (entering (Moves.go_on_lem t (Execute.check_wels v (Moves.set_use v (server.in_use + n) who preempts s₀))))
    unfolding hold_units
    hold-done = ready-done (keep-ready (set-ready ready-now now (server.in_use + n) who preempts) x.moving) (next_low h)

    -- it waits on the QL, which is in order under edition 1
    puts : (k : ℕ) → Puts m.edition (v - 1) (Moves.to_ql m.edition v) (set_serial k s₀)
    puts k =
        puts-ql m.edition v (set_serial k s₀) (omega (arith, ready-now.high)) ready-now.ql
        (λ first. h.sane.waits.queued.ql-sorted first (v - 1))

    queued : (u : Transaction) → Tallying tape_bytes (longer current (v - 1)) (Moves.to_ql m.edition v u s₀)
    queued =
        queued-tallying tape_bytes current s₀ ready-now.tallying (few-lists h) v low ready-now.high now ready-now.ql
        (short h v low there) m.edition

    queue-done : Done tape_bytes (queue_up w tally x (v - 1) m.edition) (waiting (Moves.to_ql m.edition v) t s₀)
    unfolding queue_up Moves.to_ql
    queue-done =
        wait-on-done x s₀ h.listing h.counting m.edition (v - 1) (omega (arith, ready-now.high)) (Moves.to_ql m.edition v) refl
        (serial-low h)
        (puts s.serial) (puts (suc s.serial)) (queued t) (queued (with_serial (suc s.serial) t))

    pub take_done : Done tape_bytes (take_units tables w tally x (v - 1) n who (bit preempts))
        (cond (leb n (free server)) (entering (Moves.go_on_lem t (Execute.check_wels v (Moves.set_use v (server.in_use + n) who preempts s₀))))
        (waiting (Moves.to_ql m.edition v) t s₀))
    unfolding take_units
    take_done = rw (capacity-is h v low there, units_are h v low there, h.rep.edition) (go (leb n (free server)))
      where
        go : (fits : Bool)
            → Done tape_bytes
            (cond fits (hold_units w tally x (v - 1) (server.in_use + n) who x.moving (bit preempts) server.capacity)
            (queue_up w tally x (v - 1) m.edition))
            (cond fits (entering (Moves.go_on_lem t (Execute.check_wels v (Moves.set_use v (server.in_use + n) who preempts s₀))))
            (waiting (Moves.to_ql m.edition v) t s₀))
        go true = hold-done
        go false = queue-done

module _ {m : BlockModel} {tape : List (List ℕ)} {tape_bytes tables lists w tally : List ℕ} {x : Scalars} {t : Transaction}
    {s : State} {v : ℕ} where
  pub seize-done : Before m tape tape_bytes tables lists w tally x t s (seize v)
      → Done tape_bytes (seize_rows tables w tally x (place_of t)) (bare_block m (seize v) t s)
  unfolding seize_rows question bare_answer bare block_forms share_server share_units share_holder
  seize-done h =
      let proper : Names m.facilities v = proper-block h in
      let there : v ≤ servers m = omega (arith, proper.1) in
      rw (named tables (place_of t + 1) v (high h v proper.0 there) proper.0 (operand h 1 (omega arith)), number_read h.listing)
      (take_done h v 1 t.number false proper.0 there)

  pub enter-done : {n : ℕ} → Before m tape tape_bytes tables lists w tally x t s (enter v n)
      → Done tape_bytes (enter_rows tables w tally x (place_of t)) (bare_block m (enter v n) t s)
  unfolding enter_rows question bare_answer bare block_forms share_server share_units share_holder
  enter-done {n} h =
      let proper : Storage m v = (proper-block h).0 in
      let low : 1 ≤ v = omega (arith, proper.0) in
      rw (named tables (place_of t + 1) v (high h v low proper.1) low (operand h 1 (omega arith)), operand h 2 (omega arith))
      (take_done h v n 0 false low proper.1)
