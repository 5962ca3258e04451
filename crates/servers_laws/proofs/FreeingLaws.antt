-- 5 RELEASE and 7 LEAVE do to the rows what the machine does to its state, the question asked first.
use Rattle.machine.specs.All.{ℕ, ◌+◌, ◌*◌, ◌-◌, ◌%◌, ◌≤◌, ◌<◌, ◌≡◌, refl, sym, ap, ◌∙◌, Bool, true, false, cond, not, List, [], ◌∷◌, none, arith, lt-ltb, le-ltb, le-leb, eq-eqb, leb-true, leb-false, ltb, leb, eqb, get_or, set, Transaction, precedes, bit, Server, free, storage, share_server, share_units, Block, release, leave, BlockModel, block_at, State, set_moving, ql_of, Parted, first_of, wake_ql, units_of_lem, unless, ask_holder, question, part_for, wake_for, Each}
use Rattle.machine.specs.Term
use Rattle.machine.specs.Moves as Moves
use Rattle.machine.specs.Execute as Execute
use Rattle.machine.proofs.{Decoding.Proper.Proper, Decoding.Proper.servers, Runs.Placed.Placed, Runs.Shape.each-get_or, NobodyAble.Waiting.AtServer}
use Rattle.machine.proofs.NobodyAble.QueueRemove.{walk, walk_same, within, left_after, leave_walks, some-units}
use Rattle.layout.specs.All.{block_forms, Represents}
use Rattle.rows_laws.specs.All.{head, wake_walk, wake_whole, transaction_at}
use Rattle.rows_laws.proofs.Order.StayInOrder.{sorted_of}
use Rattle.state.specs.declared.scalars.Scalars.{Scalars}
use Rattle.state.specs.All.{behind, update_server, rows_of, Done, entering, bare, bare_answer}
use Rattle.state.proofs.WakingLaws.{everybody}
use Rattle.moves.proofs.{Before.place_of, Before.bare_block, Before.Before, MotionLaws.number_read}
use Rattle.moves.proofs.BeforeLaws.{next_low, proper-block, operand, stop-done, asked}
use Rattle.moves.specs.Motion.{with_tally, go_on_lem, stopped}
use Rattle.servers_laws.specs.{set_use, check_wels, units_at, member_units, member_fits, member_left, steps, wake_stays, leave_with, taken_off, left_behind, at_once_lem, woken_rows, woken_length, enter_freed, free_one, free_some, ask_release, release_rows, leave_rows}
use Rattle.servers_laws.proofs as our
use our.AtOnce.{AtOnce, at-once, walk-everybody, member-fits}
use our.Named.{units_of, named}
use our.Ready.{Ready, wake_ql-same, update-ready, update-current, set-ready, set-current, first-ready, whole_ready, passed-ready, ready-done}
use our.Standing.{high, units_are, holder-is, preempted-is, capacity-is, ready}
use mathlib.Core.Bool.{◌||◌}
use Rattle.machine.specs.Rules.{Rules}
use Rattle.machine.proofs.Decoding.Proper.{Names}

-- ---- The units of the block before which a transaction stands, as the tables have them

abbrev rules : List ℕ → Transaction → ℕ
rules tables t = units_at tables (8 * ((t.next - 1) % 256))

units_row : (tables w : List ℕ) (k : ℕ) → member_units tables w k ≡ rules tables (transaction_at w k)
unfolding member_units transaction_at
units_row tables w k = refl

-- what is left behind one
abbrev less : (edition : ℕ) → (Transaction → ℕ) → ℕ → Transaction → ℕ
less edition units n t = left_behind edition n (units t)

less-is : (edition : ℕ) (units : Transaction → ℕ) (n : ℕ) (t : Transaction)
    → less edition units n t ≡ left_after (not (eqb edition 1)) units n t
unfolding left_behind taken_off
less-is edition units n t = go (eqb edition 1) (leb (units t) n) refl
  where
    go : (b fits : Bool) → leb (units t) n ≡ fits
        → cond b n (cond (ltb n (units t)) n (n - units t)) ≡ cond (not b) (cond fits (n - units t) n) n
    go true fits e = refl
    go false true e = rw (le-ltb n (units t) (leb-true (units t) n e))
    go false false e = rw (lt-ltb n (units t) (leb-false (units t) n e))

-- the walk by the tables is that by the model
same-steps : {m : BlockModel} {tape : List (List ℕ)} {tape_bytes tables lists : List ℕ} → Proper m tape
    → Represents m tape tape_bytes tables lists → (l : List Transaction)
    → Each (Placed m) l
    → Each
    (λ t. (n : ℕ) → (within (rules tables) n t ≡ within (units_of_lem m) n t)
    × (less m.edition (rules tables) n t ≡ left_after (not (eqb m.edition 1)) (units_of_lem m) n t)) l
same-steps proper rep [] h = tt
same-steps {m} {tables = tables} proper rep (t ∷ l) h = (
  λ n.
      let e : rules tables t ≡ units_of_lem m t = units_of proper rep t.next h.0.0 in
      (ap (λ (u : ℕ). leb u n) e, ap (left_behind m.edition n) e ∙ less-is m.edition (units_of_lem m) n t),
  same-steps proper rep l h.1,
)

-- ---- The laws

module _ {m : BlockModel} {tape : List (List ℕ)} {tape_bytes tables lists w tally : List ℕ} {x : Scalars} {t : Transaction} {s : State}
    {b : Block}
    (h : Before m tape tape_bytes tables lists w tally x t s b) (v : ℕ) (low : 1 ≤ v) (there : v ≤ servers m) where
  abbrev server : Server
  server = Term.server_at s.view v

  -- its statistics are brought up to date
  abbrev current : List ℕ
  current = update_server tally (v - 1) x.clock

  now : behind current (v - 1) ≡ false
  now = update-current (ready h v low there)

  -- so many units are in use
  module _ (units : ℕ) where
    abbrev s₁ : State
    s₁ = Moves.set_use v units 0 false (set_moving none s)

    freed : Ready tape_bytes x t v units server.capacity w (set_use current (v - 1) units 0 0) s₁
    freed = set-ready (update-ready (ready h v low there)) now units 0 false

    freed-now : behind (set_use current (v - 1) units 0 0) (v - 1) ≡ false
    freed-now = set-current (update-ready (ready h v low there)) now units 0 false

    pub one-done : Done tape_bytes (free_one tables w tally x (v - 1) units)
        (entering (Moves.go_on_lem t (Execute.check_wels v (wake_ql first_of v s₁))))
    unfolding free_one enter_freed
    one-done = rw (capacity-is h v low there) (ready-done (first-ready freed freed-now) (next_low h))

    -- LEAVE of n units, the block before which t stands
    module _ (n : ℕ) (is : block_at m t.next ≡ leave v n) (one : 1 ≤ n) where
      abbrev left : ℕ
      left = leave_with m.edition (server.capacity - units) n

      part : List Transaction → Parted
      part = walk (within (rules tables)) (less m.edition (rules tables)) left

      same-part : part (ql_of s₁ v) ≡ part_for m (storage v n) s₁.view (ql_of s₁ v)
      unfolding leave_with part
      same-part =
          walk_same _ _ _ _ left (ql_of s₁ v) (same-steps h.proper h.rep (ql_of s₁ v) members)
          ∙ ap
          (λ (k : ℕ).
          walk (within (units_of_lem m)) (left_after (not (eqb m.edition 1)) (units_of_lem m)) (cond (eqb m.edition 1) k n) (ql_of s₁ v))
          free-units
          ∙ sym (leave_walks m t.next v n is one s₁.view (ql_of s₁ v) (some-units h.proper v low (ql_of s₁ v) waiters))
        where
          free-units : server.capacity - units ≡ free (Term.server_at s₁.view v)
          free-units = omega (arith, freed.held, freed.holds)

          members : Each (Placed m) (ql_of s₁ v)
          members = unfold Moves.set_use in (each-get_or (Each (Placed m)) s.ql (v - 1) [] h.sane.placed.ql tt)

          waiters : Each (AtServer m v) (ql_of s₁ v)
          waiters = unfold Moves.set_use in (h.sane.waits.queued.ql-stands v low)

      -- how many are on the QL
      abbrev waiting : ℕ
      waiting = get_or (set_use current (v - 1) units 0 0) (768 + (v - 1)) 0

      -- of a storage
      module _ (storage-is : m.facilities < v) where
        -- where all go at once, everybody fits
        module _ (a : AtOnce tables w (v - 1) m.edition left) where
          all_fit : (l : List Transaction) → Each (Placed m) l → Each (AtServer m v) l
              → Each (λ t. (within (rules tables) left t ≡ true) × (less m.edition (rules tables) left t ≡ left)) l
          unfolding left_behind
          all_fit [] p q = tt
          all_fit (u ∷ l) p q = (
            (
              le-leb _ left (member-fits h.proper h.rep v left (high h v low there) storage-is a.none u p.0.0 q.0),
              rw (eq-eqb m.edition 1 a.first-edition),
            ),
            all_fit l p.1 q.1,
          )

          whole_part : everybody (ql_of s₁ v) ≡ part_for m (storage v n) s₁.view (ql_of s₁ v)
          unfolding part Moves.set_use
          whole_part =
              sym
              (walk-everybody _ _ left (ql_of s₁ v)
              (all_fit (ql_of s₁ v) (each-get_or _ s.ql _ [] h.sane.placed.ql tt) (h.sane.waits.queued.ql-stands v low)))
              ∙ same-part

          whole-freed : Ready tape_bytes x t v units server.capacity (wake_whole w (v - 1) waiting)
              (set (set_use current (v - 1) units 0 0) (768 + (v - 1)) 0) (wake_ql everybody v s₁)
          whole-freed =
              whole_ready freed freed-now
              (unfold Moves.set_use in sorted_of precedes _ (h.sane.waits.queued.ql-sorted a.first-edition (v - 1))) a.some
              a.ahead

        some-done : Done tape_bytes (free_some tables w tally x (v - 1) units n)
            (entering (Moves.go_on_lem t (Execute.check_wels v (wake_for m (storage v n) s₁))))
        unfolding free_some enter_freed wake_for share_server part woken_rows woken_length
        some-done = rw (capacity-is h v low there, h.rep.edition) (go (at_once_lem tables w (v - 1) m.edition left waiting) refl)
          where
            go : (b : Bool) → at_once_lem tables w (v - 1) m.edition left waiting ≡ b
                → Done tape_bytes
                (with_tally
                (go_on_lem
                (check_wels
                (cond b (wake_whole w (v - 1) waiting)
                (wake_walk (member_fits tables) (member_left tables m.edition) steps left w (v - 1) (head (v - 1)))) (v - 1) units
                server.capacity) x)
                (set (set_use current (v - 1) units 0 0) (768 + (v - 1))
                (cond b 0 (wake_stays (member_fits tables) (member_left tables m.edition) steps left w (v - 1) (head (v - 1))))))
                (entering (Moves.go_on_lem t (Execute.check_wels v (wake_ql (part_for m (storage v n) s₁.view) v s₁))))
            go true e =
                let a = at-once tables w (v - 1) m.edition left waiting e in
                rw (← wake_ql-same everybody _ v s₁ (whole_part a)) (ready-done (whole-freed a) (next_low h))
            go false e =
                rw (← wake_ql-same part _ v s₁ same-part)
                (ready-done
                (passed-ready freed freed-now _ _ (within (rules tables)) (less _ (rules tables))
                (λ k u j. cc (units_row tables u j)) (λ k u j. cc (units_row tables u j)) left)
                (next_low h))

module _ {m : BlockModel} {tape : List (List ℕ)} {tape_bytes tables lists w tally : List ℕ} {x : Scalars} {t : Transaction}
    {s : State} {v : ℕ} where
  -- the question of RELEASE
  release-asked : Before m tape tape_bytes tables lists w tally x t s (release v)
      → ask_release (Term.server_at s.view v).in_use (bit (Term.server_at s.view v).preempted) (Term.server_at s.view v).holder t.number
      ≡ question m (release v) t s
  unfolding ask_release question ask_holder share_server share_units
  release-asked h =
      go (leb 1 server.in_use) refl server.preempted (eqb server.holder t.number)
      ∙ ap
      (λ (q : Rules). unless (leb 1 server.in_use) 24
      (unless (not server.preempted) 27 (unless (not q.holders || eqb server.holder t.number) 27 0))) (sym h.sane.rules)
    where
      server : Server
      server = Term.server_at s.view v

      go : (held : Bool) → leb 1 server.in_use ≡ held → (taken own : Bool)
          → cond (ltb server.in_use 1) 24 (cond (eqb (bit taken) 0) (cond own 0 27) 27)
          ≡ unless held 24 (unless (not taken) 27 (unless own 27 0))
      go true e true own = rw (le-ltb server.in_use 1 (leb-true 1 server.in_use e))
      go true e false true = rw (le-ltb server.in_use 1 (leb-true 1 server.in_use e))
      go true e false false = rw (le-ltb server.in_use 1 (leb-true 1 server.in_use e))
      go false e taken own = rw (lt-ltb server.in_use 1 (leb-false 1 server.in_use e))

  pub release-done : Before m tape tape_bytes tables lists w tally x t s (release v)
      → Done tape_bytes (release_rows tables w tally x (place_of t)) (bare_block m (release v) t s)
  unfolding release_rows bare wake_for part_for block_forms share_server share_units
  release-done h =
      let proper : Names m.facilities v = proper-block h in
      let there : v ≤ servers m = omega (arith, proper.1) in
      rw (
        named tables (place_of t + 1) v (high h v proper.0 there) proper.0 (operand h 1 (omega arith)),
        units_are h v proper.0 there,
        preempted-is h v proper.0 there,
        holder-is h v proper.0 there,
        number_read h.listing,
        release-asked h,
      )
      (asked h (question m (release v) t s) (free_one tables w tally x (v - 1) ((Term.server_at s.view v).in_use - 1))
      (λ e. one-done h v proper.0 there ((Term.server_at s.view v).in_use - 1)))

  pub leave-done : {n : ℕ} → Before m tape tape_bytes tables lists w tally x t s (leave v n)
      → Done tape_bytes (leave_rows tables w tally x (place_of t)) (bare_block m (leave v n) t s)
  unfolding leave_rows question ask_holder bare_answer bare block_forms share_server share_units
  leave-done {n} h =
      let proper = (proper-block h).0 in
      let low : 1 ≤ v = omega arith in
      rw (
        named tables _ v (high h v low proper.1) low (operand h 1 (omega arith)),
        operand h 2 (omega arith),
        units_are h v low proper.1,
      )
      (go low proper.0 proper.1 _ refl)
    where
      -- "no" is end 24
      go : (low : 1 ≤ v) (is : m.facilities < v) (there : v ≤ servers m) (held : Bool) → leb n (Term.server_at s.view v).in_use ≡ held
          → Done tape_bytes
          (cond (ltb (Term.server_at s.view v).in_use n) (rows_of (stopped x 24) w tally)
          (free_some tables w tally x (v - 1) ((Term.server_at s.view v).in_use - n) n)) (bare_answer (unless held 24 0) m (leave v n) t s)
      go low is there true e =
          rw (le-ltb _ n (leb-true n _ e))
          (some-done h v low there _ n h.is (proper-block h).1.0 is)
      go low is there false e = rw (lt-ltb _ n (leb-false n _ e)) (stop-done h 23)
