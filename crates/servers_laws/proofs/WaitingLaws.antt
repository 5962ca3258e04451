-- 8 WAITIF code, server and 17 code, server, back count do to the rows what the machine does to its state.
use Rattle.machine.specs.All.{ℕ, zero, suc, ◌+◌, ◌-◌, ◌%◌, ◌≤◌, ◌<◌, ◌≡◌, refl, ap, ◌∙◌, Bool, true, false, cond, ◌&&◌, List, none, some, arith, ltb, get_or, Transaction, Server, Code, U, NU, E, NE, F, NF, code_index, status, wait_server, BlockModel, begins_group, wel_index, State, with_stamp, set_moving, set_serial, wake_first_wel, question, stamped}
use Rattle.machine.specs.Term
use Rattle.machine.specs.Moves as Moves
use Rattle.machine.proofs.{Decoding.Proper.CodeServer, Decoding.Proper.servers, Runs.Shape.wel-below}
use Rattle.layout.specs.All.{block_forms}
use Rattle.rows_laws.specs.All.{time_of, transaction_at, wake_first}
use Rattle.state.specs.declared.scalars.Scalars.{Scalars}
use Rattle.state.specs.All.{Done, entering, going_back, waiting, bare, bare_answer}
use Rattle.moves.proofs.Before.{place_of, bare_block, Before}
use Rattle.moves.specs.Motion.{with_tally, wait_on}
use Rattle.moves.proofs.BeforeLaws.{placed, next_low, serial-low, proper-block, operand}
use Rattle.moves.proofs.MotionLaws.{Puts, puts-wel, wait-on-done, go-on-done, go-back-done}
use Rattle.state.proofs.StandsLaws.{listing-time}
use Rattle.servers_laws.specs.{back_of, begins_from, is_late, back_from, stamp_on, pass_on, pass_or_back, wait_while, wait_server_rows}
use Rattle.servers_laws.proofs as our
use our.{Named.named, Named.status-is, Ready.Ready, Begins.begins-is}
use our.Checking.{Checked, unchecked, woken-checked}
use our.Standing.{high, units_are, capacity-is, ready}
use mathlib.Core.Path.{subst}
use Rattle.machine.specs.Block.{Block, facts}
use Rattle.rows_laws.specs.Cells.{set_time}
use Rattle.state.specs.Stands.{Listing}

-- codes name servers that are there
code-there : (m : BlockModel) (code : Code) (v : ℕ) → CodeServer m code v → (1 ≤ v) × (v ≤ servers m)
code-there m U v h = (h.0, omega (arith, h.1))
code-there m NU v h = (h.0, omega (arith, h.1))
code-there m E v h = (omega (arith, h.0), h.1)
code-there m NE v h = (omega (arith, h.0), h.1)
code-there m F v h = (omega (arith, h.0), h.1)
code-there m NF v h = (omega (arith, h.0), h.1)

code-small : (code : Code) → code_index code % 6 ≡ code_index code
unfolding code_index
code-small U = refl
code-small NU = refl
code-small E = refl
code-small NE = refl
code-small F = refl
code-small NF = refl

module _ {m : BlockModel} {tape : List (List ℕ)} {tape_bytes tables lists w tally : List ℕ} {x : Scalars} {t : Transaction} {s : State}
    {code : Code} {v c : ℕ} (h : Before m tape tape_bytes tables lists w tally x t s (wait_server code v c)) where
  there : (1 ≤ v) × (v ≤ servers m)
  there = code-there m code v (proper-block h).0

  abbrev s₀ : State
  s₀ = set_moving none s

  abbrev server : Server
  server = Term.server_at s.view v

  ready' : Ready tape_bytes x t v server.in_use server.capacity w tally s₀
  ready' = ready h v there.0 there.1

  abbrev p : ℕ
  p = 64 + wel_index v code

  below : wel_index v code < 384
  below = wel-below v code 64 ready'.low ready'.high

  -- it waits on the WEL, which is in order under edition 1
  puts : (k : ℕ) → Puts m.edition p (Moves.to_wel m.edition v code) (set_serial k s₀)
  puts k =
      puts-wel m.edition v code (set_serial k s₀) below (ready'.wels code)
      (λ first. h.sane.waits.gated.wel-sorted first (wel_index v code))

  wait-done : Done tape_bytes (with_tally (wait_on w x p m.edition) tally) (waiting (Moves.to_wel m.edition v code) t s₀)
  unfolding Moves.to_wel
  wait-done =
      wait-on-done x s₀ h.listing h.counting m.edition p (omega (arith, below)) (Moves.to_wel m.edition v code) refl
      (serial-low h)
      (puts s.serial) (puts (suc s.serial)) h.tallying h.tallying

  woken : Checked x.moving (some t) s₀ (wake_first w p) (wake_first_wel v code s₀)
  woken = woken-checked v code below (ready'.wels code) (unchecked s₀ h.listing)

  -- it goes back
  back_done : Done tape_bytes (with_tally (back_from w x p c) tally) (going_back (Moves.move_to (t.next - c) t (wake_first_wel v code s₀)))
  unfolding back_from wake_first_wel
  back_done = go-back-done x (wake_first_wel v code s₀) woken.listing h.tallying h.counting c

  -- it enters, with the clock as its stamp or without
  stamp-done : Done tape_bytes (with_tally (stamp_on (wake_first w p) x) tally)
      (entering (Moves.go_on_lem (with_stamp s.view.clock t) (wake_first_wel v code s₀)))
  unfolding stamp_on wake_first_wel
  stamp-done =
      go-on-done x (wake_first_wel v code s₀)
      (subst
      (λ (n : ℕ). Listing (set_time (wake_first w p) x.moving x.clock) x.moving (some (with_stamp n t)) (wake_first_wel v code s₀))
      h.counting.clock (listing-time woken.listing x.clock))
      h.tallying h.counting (next_low h)

  pass-done : (begins : Bool)
      → Done tape_bytes (with_tally (pass_on w x p begins) tally)
      (entering (Moves.go_on_lem (with_stamp (cond begins s.view.clock t.stamp) t) (wake_first_wel v code s₀)))
  unfolding pass_on wake_first_wel
  pass-done true = stamp-done
  pass-done false = go-on-done x (wake_first_wel v code s₀) woken.listing h.tallying h.counting (next_low h)

  -- the row's stamp is the transaction's
  stamp-read : time_of w x.moving ≡ t.stamp
  unfolding transaction_at
  stamp-read = ap (λ (u : Transaction). u.stamp) h.listing.mover.1

  late_is : is_late w x c ≡ (ltb 0 c && ltb t.stamp s.view.clock)
  unfolding is_late
  late_is = rw (stamp-read, h.counting.clock)

  begins-at : begins_from tables (place_of t + 8) 1 7 ≡ begins_group m t.next
  unfolding block_forms
  begins-at = begins-is h.proper h.rep t.next (placed h).0.0 (ap (λ (b : Block). (facts b).leaves) h.is) (placed h).0.1

  while-done : back_of tables (place_of t) ≡ c
      → Done tape_bytes (with_tally (wait_while tables w x (place_of t) p (status code server)) tally) (bare m (wait_server code v c) t s₀)
  unfolding wait_while pass_or_back bare
  while-done counts =
      rw (counts, begins-at, late_is, h.rep.edition) (go (status code server) (ltb 0 c && ltb t.stamp s.view.clock))
    where
      go : (b l : Bool)
          → Done tape_bytes
          (with_tally (cond b (wait_on w x p m.edition) (cond l (back_from w x p c) (pass_on w x p (begins_group m t.next)))) tally)
          (cond b (waiting (Moves.to_wel m.edition v code) t s₀)
          (cond l (going_back (Moves.move_to (t.next - c) t (wake_first_wel v code s₀)))
          (entering (Moves.go_on_lem (stamped m t s₀) (wake_first_wel v code s₀)))))
      go true l = wait-done
      go false true = back_done
      go false false = pass-done (begins_group m t.next)

module _ {m : BlockModel} {tape : List (List ℕ)} {tape_bytes tables lists w tally : List ℕ} {x : Scalars} {t : Transaction}
    {s : State} {code : Code} {v : ℕ} where
  -- code and server stand in both kinds alike, and the back count behind them
  code_at : (c : ℕ) → Before m tape tape_bytes tables lists w tally x t s (wait_server code v c)
      → get_or tables (place_of t + 1) 0 ≡ code_index code
  unfolding block_forms
  code_at zero h = operand h 1 (omega arith)
  code_at (suc c) h = operand h 1 (omega arith)

  server-at : (c : ℕ) → Before m tape tape_bytes tables lists w tally x t s (wait_server code v c) → get_or tables (place_of t + 2) 0 ≡ v - 1
  unfolding block_forms
  server-at zero h = operand h 2 (omega arith)
  server-at (suc c) h = operand h 2 (omega arith)

  count-is : (c : ℕ) → Before m tape tape_bytes tables lists w tally x t s (wait_server code v c) → back_of tables (place_of t) ≡ c
  unfolding back_of block_forms
  count-is zero h = let e : place_of t ≡ place_of t + 0 = omega arith in rw (ap (λ (i : ℕ). get_or tables i 0) e ∙ operand h 0 (omega arith))
  count-is (suc c) h =
      let e : place_of t ≡ place_of t + 0 = omega arith in
      rw (ap (λ (i : ℕ). get_or tables i 0) e ∙ operand h 0 (omega arith), operand h 3 (omega arith))

  pub wait-server-done : {c : ℕ} → Before m tape tape_bytes tables lists w tally x t s (wait_server code v c)
      → Done tape_bytes (with_tally (wait_server_rows tables w tally x (place_of t)) tally) (bare_block m (wait_server code v c) t s)
  unfolding wait_server_rows question bare_answer wel_index
  wait-server-done {c} h =
      let known = there h in
      rw (
        named tables (place_of t + 2) v (high h v known.0 known.1) known.0 (server-at c h),
        code_at c h,
        code-small code,
        capacity-is h v known.0 known.1,
        units_are h v known.0 known.1,
        status-is code (Term.server_at s.view v),
      )
      (while-done h (count-is c h))
