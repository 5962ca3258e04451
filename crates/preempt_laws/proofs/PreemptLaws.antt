-- 19 PREEMPT and 20 RETURN do to the rows what the machine does to its state (document 02, item 11).
use Rattle.machine.specs.All.{ℕ, suc, ◌+◌, ◌-◌, ◌≤◌, ◌<◌, min, ◌≡◌, refl, sym, ap, ◌∙◌, ◌≢◌, Bool, true, false, cond, not, ◌&&◌, List, [], ◌∷◌, ◌++◌, map, map-append, none, arith, lt-ltb, le-ltb, leb-true, leb-false, eq-eqb, ne_eqb, eqb-true, ltb, leb, eqb, length, drop, Transaction, Event, Interrupted, precedes, earlier, insert, those, replace_first, bit, Server, Block, share_server, share_units, share_holder, preempt, give_back, BlockModel, State, with_serial, with_stamp, set_moving, to_fel, of_facility, interrupted_at, loses_to, losers_to, interrupt, resume, set_holder, unless, question, ask_gives_back, preempting, gives_back, wake_for, part_for, Each}
use Rattle.machine.specs.Term
use Rattle.machine.specs.Moves as Moves
use Rattle.machine.specs.Execute as Execute
use Rattle.machine.proofs.{Decoding.Proper.Names, Decoding.Proper.servers, Lists.Sorted.each-those}
use Rattle.machine.proofs.Lists.Chosen.{those-insert, those-one, those_else, those_replaced}
use Rattle.layout.specs.All.{block_forms}
use Rattle.rows_laws.specs.All.{fel, read, write, priority_of, time_of, set_time, put, first, take_first, schedule, cancel, loses, find_loser, transaction_at, event_at, update, All, Sorted}
use Rattle.rows_laws.proofs.{Buffer.RowData.transaction-kept, Buffer.FieldWrites.write-serial, Buffer.FieldWrites.write-stamp, Buffer.FieldWrites.write-time, Order.StayInOrder.shows_ext, Chains.TakeFirst.Head, Heap.FutureEvents.rows_strict}
use Rattle.rows_laws.proofs.Life.Making.{Written, written, written_trans, time-written}
use Rattle.rows_laws.proofs.Chains.TakeFirst as Take
use Rattle.rows_laws.proofs.ByKind.Interruption.{Loser, nobody, somebody, find_of, loses-is, taken-later, interrupt-shows, resume-shows}
use Rattle.rows_laws.proofs.Laws.{Wakes, Takes, fresh-given, head-shows, take-shows}
use Rattle.state.specs.declared.scalars.Scalars.{Scalars}
use Rattle.state.specs.All.{put_serial, update_server, interrupted_row, lists_in, lists_of, Done, Bare, entering, going_back, beginning, waiting, bare, bare_answer}
use Rattle.state.proofs.{Alone.alone, ListsOf.lists-interrupted, ListsOf.lists-set-interrupted, StandsLaws.listing-steady, StandsLaws.renumber}
use Rattle.moves.proofs.{Before.place_of, Before.bare_block, Before.Before, MotionLaws.next32-suc, MotionLaws.number_read}
use Rattle.moves.proofs.BeforeLaws.{next_low, serial-low, proper-block, operand, asked}
use Rattle.moves.specs.Motion.{moved, next32}
use Rattle.flow_laws.specs.{Sending.plus64, Sending.to_future, Questions.ask_time}
use Rattle.machine.proofs.Basic.Lists.{those-none}
use Rattle.flow_laws.proofs.{Asked.time-asked, Kin.those-first, Kin.replaced}
use Rattle.servers_laws.specs.{Units.in_use, Units.set_use, Taking.hold_units, Taking.take_units, Freeing.free_one}
use Rattle.preempt_laws.specs.{seized, interrupt_on, take_over, preempt_seized, preempt_rows, ask_resume, ask_give_back, resume_on, resume_rows, give_back_now, give_back_rows}
use Rattle.servers_laws.proofs.{Named.named, TakingLaws.take_done, FreeingLaws.one-done}
use Rattle.servers_laws.proofs.Ready.{Ready, as-ready, update-ready, update-current, set-ready, keep-ready, ready-done}
use Rattle.servers_laws.proofs.Standing.{high, units_are, holder-is, preempted-is, capacity-is, ready}
use mathlib.Core.Path.{subst}
use lib.ListN.{get_or}
use Rattle.rows_laws.specs.Layout.{holder_cell}
use Rattle.rows_laws.specs.Cells.{load}

-- ---- Tests

-- who loses a facility that is in use and not preempted
loses-seized : (t : Transaction) (v : Server) (e : Event) → ltb 0 v.in_use ≡ true → v.preempted ≡ false
    → loses_to t v e ≡ cond (eqb e.who.number v.holder) (ltb e.who.priority t.priority) false
unfolding loses_to
loses-seized t v e used seized = rw (used, seized) (go (eqb e.who.number v.holder))
  where
    go : (b : Bool) → (b && ltb e.who.priority t.priority) ≡ cond b (ltb e.who.priority t.priority) false
    go true = refl
    go false = refl

-- nobody loses an idle or a preempted one
loses-none : (t : Transaction) (v : Server) → cond (eqb (bit v.preempted) 0) (ltb 0 v.in_use) false ≡ false → (l : List Event)
    → those (loses_to t v) l ≡ []
unfolding those loses_to
loses-none t v untaken [] = refl
loses-none t v untaken (e ∷ l) = rw (go v.preempted (ltb 0 v.in_use) untaken) (loses-none t v untaken l)
  where
    go : (taken used : Bool) → cond (eqb (bit taken) 0) used false ≡ false
        → (used && not taken && eqb e.who.number v.holder && ltb e.who.priority t.priority) ≡ false
    go true true e = refl
    go true false e = refl
    go false true e = absurd (omega (arith, ap bit e))
    go false false e = refl

module _ {m : BlockModel} {tape : List (List ℕ)} {tape_bytes tables lists w tally : List ℕ} {x : Scalars} {t : Transaction} {s : State}
    {block : Block}
    (h : Before m tape tape_bytes tables lists w tally x t s block) (v : ℕ) (fac : Names m.facilities v) where
  abbrev s₀ : State
  s₀ = set_moving none s

  abbrev server : Server
  server = Term.server_at s.view v

  there : v ≤ servers m
  there = omega (arith, fac.1)

  ready' : Ready tape_bytes x t v server.in_use server.capacity w tally s₀
  ready' = ready h v fac.0 there

  abbrev L : ℕ → List ℕ
  L = h.listing.shows.rows

  -- the facility's list
  abbrev i : ℕ
  i = v - 1

  abbrev p : ℕ
  p = 706 + i

  own : suc i ≡ v
  own = omega (arith, fac.0)

  here : lists_of s₀ p ≡ map interrupted_row (interrupted_at s v)
  here = lists-interrupted s₀ i (omega (arith, ready'.high)) ∙ ap (λ f. map interrupted_row (interrupted_at s f)) own

  at_else : (j : ℕ) → j ≢ i → (y : Interrupted) → y.facility ≡ v → of_facility (suc j) y ≡ false
  unfolding of_facility
  at_else j d y e = ne_eqb y.facility (suc j) (λ z. d (omega (arith, own)))

  -- ---- PREEMPT: somebody loses it

  module _ (used : ltb 0 server.in_use ≡ true) (is-seized : server.preempted ≡ false) where
    abbrev Row : ℕ → Bool
    Row k = loses w server.holder t.priority k

    row-loses : (k : ℕ) → loses_to t server (event_at w k) ≡ Row k
    row-loses k = loses-seized t server (event_at w k) used is-seized ∙ sym (loses-is w server.holder t.priority k)

    none_lose : (l : List ℕ) → All (λ k. Row k ≡ false) l → Each (λ e. loses_to t server e ≡ false) (map (event_at w) l)
    unfolding All
    none_lose [] h = tt
    none_lose (k ∷ l) h = (row-loses k ∙ h.0, none_lose l h.1)

    future : map (event_at w) (L fel) ≡ s.fel
    future = h.listing.shows.shown.future

    nobody-loses : All (λ k. Row k ≡ false) (L fel) → losers_to t v s ≡ []
    nobody-loses h =
        ap (those (loses_to t server)) (sym future) ∙ those-none (loses_to t server) (map (event_at w) (L fel)) (none_lose (L fel) h)

    module _ (a b : List ℕ) (j : ℕ) (was : L fel ≡ a ++ j ∷ b) (row : j < 1024) (others : All (λ k. Row k ≡ false) a)
        (lost : Row j ≡ true) where
      abbrev e : Event
      e = event_at w j

      parts : s.fel ≡ map (event_at w) a ++ e ∷ map (event_at w) b
      parts = sym future ∙ ap (map (event_at w)) was ∙ map-append (event_at w) a (j ∷ b)

      losers : losers_to t v s ≡ e ∷ those (loses_to t server) (map (event_at w) b)
      losers =
          ap (those (loses_to t server)) parts
          ∙ those-first (loses_to t server) (map (event_at w) a) e (map (event_at w) b) (none_lose a others) (row-loses j ∙ lost)

      left_is : replace_first (loses_to t server) [] s.fel ≡ map (event_at w) (a ++ b)
      left_is =
          ap (replace_first (loses_to t server) []) parts
          ∙ replaced (loses_to t server) [] (map (event_at w) a) e (map (event_at w) b) (none_lose a others) (row-loses j ∙ lost)
          ∙ sym (map-append (event_at w) a b)

      abbrev left : ℕ
      left = time_of w j - s.view.clock

      abbrev w₁ : List ℕ
      w₁ = cancel w j

      abbrev w₂ : List ℕ
      w₂ = set_time w₁ j left

      taken : Takes w w₁ j (lists_of s₀) (map (event_at w) (a ++ b))
      taken = taken-later w (lists_of s₀) s.fel h.listing.shows j a b row was

      row_is : transaction_at w₂ j ≡ with_stamp left (transaction_at w j)
      row_is =
          write-stamp w₁ j taken.shows.shown.holds.room row left
          ∙ ap (with_stamp left) (transaction-kept w w₁ j taken.same)

      abbrev one : Interrupted
      one = record { who = with_stamp left e.who; facility = v; remaining = left }

      abbrev before : Interrupted → Interrupted → Bool
      before a b = precedes a.who b.who

      none-there : interrupted_at s (suc i) ≡ []
      none-there = ap (λ f. interrupted_at s f) own ∙ h.sane.seized v fac is-seized

      empty : lists_of s₀ p ≡ []
      empty = here ∙ ap (map interrupted_row) (h.sane.seized v fac is-seized)

      only : map interrupted_row (those (of_facility (suc i)) (insert before one s.interrupted)) ≡ with_stamp left (transaction_at w j) ∷ []
      unfolding of_facility event_at
      only = ap (map interrupted_row) (those-one (of_facility (suc i)) before one s.interrupted (eq-eqb v (suc i) (sym own)) none-there)

      abbrev s₁ : State
      s₁ = interrupt e t v s₀

      on_list : (q : ℕ) → q < 770 → update p (insert precedes (transaction_at w₂ j) (lists_of s₀ p)) (lists_of s₀) q ≡ lists_of s₁ q
      unfolding interrupt insert event_at
      on_list q hq =
          ap (λ (l : List Transaction). update p (insert precedes (transaction_at w₂ j) l) (lists_of s₀) q) empty
          ∙ ap (λ (u : Transaction). update p (u ∷ []) (lists_of s₀) q) row_is
          ∙ lists-set-interrupted s₀ i (insert before one s.interrupted) (with_stamp left (transaction_at w j) ∷ [])
          (omega (arith, ready'.high)) only
          (λ k d. those-insert (of_facility (suc k)) before one s.interrupted (at_else k d one refl)) q
          ∙ unfold lists_in in refl

      stopped-shows : Wakes w (put w₂ p j) (update p (insert precedes (transaction_at w₂ j) (lists_of s₀ p)) (lists_of s₀))
          (map (event_at w) (a ++ b))
      stopped-shows =
          interrupt-shows w (lists_of s₀) s.fel h.listing.shows j a b row was w₂ (time-written w₁ j row left) p
          (omega (arith, ready'.high))
          (subst (Sorted precedes) (sym empty) (unfold Sorted in tt))

      stopped-ready : Ready tape_bytes x t v server.in_use server.capacity (put w₂ p j) tally s₁
      unfolding interrupt
      stopped-ready =
          as-ready ready'
          (listing-steady (shows_ext (put w₂ p j) _ (lists_of s₁) _ s₁.fel on_list (sym left_is) stopped-shows.shows)
          stopped-shows.steady h.listing)
          h.tallying h.counting refl refl refl refl

      on-is : interrupt_on w x.clock (v - 1) j ≡ put w₂ p j
      unfolding interrupt_on
      on-is = rw h.counting.clock

      over_done : Done tape_bytes (take_over tables w tally x (v - 1) j t.number)
          (entering (Moves.go_on_lem t (Execute.check_wels v (set_holder v t.number true s₁))))
      unfolding take_over hold_units interrupt
      over_done =
          rw (on-is, units_are h v fac.0 there, capacity-is h v fac.0 there)
          (ready-done
          (keep-ready (set-ready (update-ready stopped-ready) (update-current stopped-ready) server.in_use t.number true) x.moving)
          (next_low h))

  -- ---- PREEMPT

  abbrev Doing : List Event → Bare
  Doing l = preempting (λ f. entering (f s₀)) (λ put. waiting put t s₀) (λ f. going_back (f s₀)) (λ put. beginning put t s₀) l m v t s₀

  -- as SEIZE
  as-seize : Done tape_bytes (take_units tables w tally x (v - 1) 1 t.number 1) (Doing [])
  unfolding share_server share_units share_holder
  as-seize = take_done h v 1 t.number true fac.0 there

  priority-is : priority_of w x.moving ≡ t.priority
  unfolding transaction_at
  priority-is = ap (λ (u : Transaction). u.priority) h.listing.mover.1

  seized-done : ltb 0 server.in_use ≡ true → server.preempted ≡ false
      → Done tape_bytes (preempt_seized tables w tally x (v - 1) t.number) (Doing (losers_to t v s))
  unfolding preempt_seized
  seized-done used is-seized =
      rw (holder-is h v fac.0 there, priority-is)
      (go
      (find_of w server.holder t.priority (L fel) (h.listing.shows.shown.holds.listed fel (omega arith))
      (rows_strict w L (lists_of s₀) s.fel h.listing.shows.shown h.listing.shows.ordered.future)
      x.moving (v - 1)
      (alone m w x.moving t s h.listing h.moving server.holder (h.sane.alone server.holder) (load w (holder_cell (v - 1))))))
    where
      k₀ : ℕ
      k₀ = find_loser w server.holder t.priority x.moving (v - 1)

      go : Loser w server.holder t.priority (L fel) k₀
          → Done tape_bytes
          (cond (ltb k₀ 1024) (take_over tables w tally x (v - 1) k₀ t.number) (take_units tables w tally x (v - 1) 1 t.number 1))
          (Doing (losers_to t v s))
      go (nobody apart far) =
          rw (le-ltb k₀ 1024 far)
          (subst (λ (l : List Event). Done tape_bytes (take_units tables w tally x (v - 1) 1 t.number 1) (Doing l))
          (sym (nobody-loses used is-seized apart)) as-seize)
      go (somebody a b k was found row others lost) =
          rw (found, lt-ltb k 1024 row)
          (subst (λ (l : List Event). Done tape_bytes (take_over tables w tally x (v - 1) k t.number) (Doing l))
          (sym (losers used is-seized a b k was row others lost))
          (over_done used is-seized a b k was row others lost))

  preempt-rows : Done tape_bytes
      (cond (cond (eqb (bit server.preempted) 0) (ltb 0 server.in_use) false) (preempt_seized tables w tally x (v - 1) t.number)
      (take_units tables w tally x (v - 1) 1 t.number 1))
      (Doing (losers_to t v s))
  preempt-rows = go server.preempted refl (ltb 0 server.in_use) refl
    where
      nobody-there : cond (eqb (bit server.preempted) 0) (ltb 0 server.in_use) false ≡ false
          → Done tape_bytes (take_units tables w tally x (v - 1) 1 t.number 1) (Doing (losers_to t v s))
      nobody-there untaken =
          subst (λ (l : List Event). Done tape_bytes (take_units tables w tally x (v - 1) 1 t.number 1) (Doing l))
          (sym (loses-none t server untaken s.fel)) as-seize

      go : (taken : Bool) → server.preempted ≡ taken → (used : Bool) → ltb 0 server.in_use ≡ used
          → Done tape_bytes
          (cond (cond (eqb (bit taken) 0) used false) (preempt_seized tables w tally x (v - 1) t.number)
          (take_units tables w tally x (v - 1) 1 t.number 1)) (Doing (losers_to t v s))
      go true e used f = nobody-there (ap (λ b. cond (eqb (bit b) 0) (ltb 0 server.in_use) false) e)
      go false e false f = nobody-there (ap (λ b. cond (eqb (bit b) 0) (ltb 0 server.in_use) false) e ∙ f)
      go false e true f = seized-done f e

  -- ---- RETURN: the interrupted one has it again

  serial-is : next32 x.serial ≡ suc s.serial
  serial-is = ap next32 h.counting.serial ∙ next32-suc s.serial (serial-low h)

  -- the row of who is interrupted
  module _ (one : Interrupted) (l : List Interrupted) (stopped-is : interrupted_at s v ≡ one ∷ l) (row : first w p < 1024)
      (row_is : transaction_at w (first w p) ≡ interrupted_row one) where
    abbrev j : ℕ
    j = first w p

    few : one.remaining ≤ 32000000000
    few =
        (subst (Each (λ (i : Interrupted). i.remaining ≤ 32000000000)) stopped-is
        (each-those (λ (i : Interrupted). i.remaining ≤ 32000000000) (of_facility v) s.interrupted h.sane.timely.remaining)).0

    time-is : time_of w j ≡ one.remaining
    unfolding transaction_at
    time-is = ap (λ (u : Transaction). u.stamp) row_is

    number_is : read w 0 j ≡ one.who.number
    unfolding transaction_at
    number_is = ap (λ (u : Transaction). u.number) row_is

    abbrev due : ℕ
    due = s.view.clock + one.remaining

    due-is : plus64 x.clock (time_of w j) ≡ due
    due-is =
        ap (λ (n : ℕ). min (x.clock + n) 18446744073709551615) time-is ∙ omega (arith, h.counting.clock, h.sane.timely.clock, few)

    abbrev n : ℕ
    n = suc s.serial

    -- the facility is seized by it
    abbrev b₁ : State
    b₁ = set_holder v one.who.number false s₀

    abbrev tally₁ : List ℕ
    tally₁ = set_use (update_server tally (v - 1) x.clock) (v - 1) server.in_use one.who.number 0

    held : Ready tape_bytes x t v server.in_use server.capacity w tally₁ b₁
    held = set-ready (update-ready ready') (update-current ready') server.in_use one.who.number false

    abbrev u₁ : List ℕ
    u₁ = take_first w p

    abbrev u₂ : List ℕ
    u₂ = write u₁ 7 j n

    abbrev u₃ : List ℕ
    u₃ = set_time u₂ j due

    first_taken : Takes w u₁ j (update p (drop 1 (lists_of s₀ p)) (lists_of s₀)) s.fel
    first_taken = take-shows w (lists_of s₀) s.fel h.listing.shows p (omega (arith, ready'.high)) row

    room-left : 16384 ≤ length u₁
    room-left = first_taken.shows.shown.holds.room

    all-written : Written u₁ u₃ j
    all-written = written_trans u₁ u₂ u₃ j (written u₁ 7 j n (omega arith) row) (time-written u₂ j row due)

    event-is : event_at u₃ j ≡ record { time = due; who = with_stamp due (with_serial n one.who) }
    event-is =
        write-time u₂ j ((written u₁ 7 j n (omega arith) row).room room-left) row due
        ∙ ap (λ (u : Transaction). record { time = due; who = with_stamp due u })
        (write-serial u₁ j room-left row n ∙ ap (with_serial n) (transaction-kept w u₁ j first_taken.same ∙ row_is))

    serial-given : (transaction_at u₃ j).serial ≡ suc s.serial
    unfolding event_at
    serial-given = ap (λ (e : Event). e.who.serial) event-is

    resumed : Wakes w (schedule u₃ j) (update p (drop 1 (lists_of s₀ p)) (lists_of s₀)) (insert earlier (event_at u₃ j) s.fel)
    resumed =
        resume-shows w (lists_of s₀) s.fel h.listing.shows p (omega (arith, ready'.high)) row u₃ all-written
        (fresh-given (transaction_at u₃ j) s.serial s.fel serial-given h.sane.timely.serials)

    abbrev b₂ : State
    b₂ = resume one v b₁

    abbrev rest : List Interrupted
    rest = replace_first (of_facility v) [] s.interrupted

    left-list : map interrupted_row (those (of_facility (suc i)) rest) ≡ drop 1 (lists_of s₀ p)
    left-list =
        let gone : those (of_facility v) rest ≡ l = unfold those in (those_replaced (of_facility v) [] s.interrupted one l stopped-is) in
        ap (λ (f : ℕ). map interrupted_row (those (of_facility f) rest)) own
        ∙ ap (map interrupted_row) gone
        ∙ sym (ap (drop 1) (here ∙ ap (map interrupted_row) stopped-is))

    on-lists : (q : ℕ) → q < 770 → update p (drop 1 (lists_of s₀ p)) (lists_of s₀) q ≡ lists_of b₂ q
    unfolding resume to_fel Moves.set_use
    on-lists q hq =
        lists-set-interrupted s₀ i rest (drop 1 (lists_of s₀ p)) (omega (arith, ready'.high)) left-list
        (λ k d. those_else (of_facility (suc k)) (of_facility v) [] s.interrupted (λ y z. at_else k d y (of_it y z)) (unfold those in refl))
        q
        ∙ unfold lists_in in refl
      where
        of_it : (y : Interrupted) → of_facility v y ≡ true → y.facility ≡ v
        of_it y z = unfold of_facility in eqb-true y.facility v z

    resumed-ready : Ready tape_bytes (put_serial n x) t v server.in_use server.capacity (schedule u₃ j) tally₁ b₂
    unfolding resume to_fel Moves.set_use
    resumed-ready =
        as-ready held
        (listing-steady
        (shows_ext (schedule u₃ j) _ (lists_of b₂) _ b₂.fel on-lists (ap (λ (e : Event). insert earlier e s.fel) event-is)
        resumed.shows) resumed.steady h.listing)
        held.tallying (renumber h.counting refl h.counting.made h.counting.ended) refl refl refl refl

    resume-is : resume_on w x (v - 1) j ≡ moved (put_serial n x) (schedule u₃ j)
    unfolding resume_on to_future
    resume-is = rw (due-is, serial-is)

    resume-done : Done tape_bytes (resume_rows tables w tally x (v - 1) j) (entering (Moves.go_on_lem t (Execute.check_wels v b₂)))
    unfolding resume_rows hold_units moved
    resume-done =
        rw (resume-is, number_is, units_are h v fac.0 there, capacity-is h v fac.0 there)
        (ready-done (keep-ready resumed-ready j) (next_low h))

  -- ---- RETURN

  abbrev Giving : List Interrupted → Bare
  Giving l = entering (Moves.go_on_lem t (Execute.check_wels v (gives_back m l v s₀)))

  free-done : Done tape_bytes (free_one tables w tally x (v - 1) (server.in_use - 1)) (Giving [])
  unfolding gives_back wake_for part_for share_server
  free-done = one-done h v fac.0 there (server.in_use - 1)

  -- the head of the facility's list is its interrupted one, or there is none
  data Stopped : Type 0 where
    none-stopped : interrupted_at s v ≡ [] → 1024 ≤ first w p → Stopped
    some-stopped : (one : Interrupted) (l : List Interrupted) → interrupted_at s v ≡ one ∷ l → first w p < 1024
        → transaction_at w (first w p) ≡ interrupted_row one
        → Stopped

  stopped-there : Stopped
  stopped-there = go (head-shows w (lists_of s₀) s.fel h.listing.shows p (omega (arith, ready'.high))) (interrupted_at s v) refl
    where
      go : Head w p (transaction_at w) (lists_of s₀ p) → (l : List Interrupted) → interrupted_at s v ≡ l → Stopped
      go (Take.nobody e far) [] is = none-stopped is far
      go (Take.nobody e far) (one ∷ l) is =
          absurd (omega (arith, ap (λ (k : List Transaction). length k) (sym e ∙ here ∙ ap (map interrupted_row) is)))
      go (Take.somebody k e row) [] is =
          absurd (omega (arith, ap (λ (k : List Transaction). length k) (sym e ∙ here ∙ ap (map interrupted_row) is)))
      go (Take.somebody k e row) (one ∷ l) is =
          some-stopped one l is row
          (ap (λ (k : List Transaction). get_or k 0 (transaction_at w (first w p))) (sym e ∙ here ∙ ap (map interrupted_row) is))

  resume-asked : ask_resume w x (first w p) ≡ Execute.ask_resume m (interrupted_at s v) s
  unfolding ask_resume Execute.ask_resume
  resume-asked = go stopped-there
    where
      go : Stopped → cond (ltb (first w p) 1024) (ask_time x (time_of w (first w p))) 0 ≡ Execute.ask_resume m (interrupted_at s v) s
      go (none-stopped is far) = rw (le-ltb (first w p) 1024 far, is)
      go (some-stopped one l is row row_is) =
          rw (lt-ltb (first w p) 1024 row, is, time-is one l is row row_is)
          (time-asked h one.remaining (few one l is row row_is))

  back-asked : ask_give_back w tally x (v - 1) t.number ≡ question m (give_back v) t s
  unfolding ask_give_back question ask_gives_back
  back-asked =
      rw (units_are h v fac.0 there, preempted-is h v fac.0 there, holder-is h v fac.0 there, resume-asked)
      (go (leb 1 server.in_use) refl server.preempted (eqb server.holder t.number) (Execute.ask_resume m (interrupted_at s v) s))
    where
      go : (used : Bool) → leb 1 server.in_use ≡ used → (taken own : Bool) (later : ℕ)
          → cond (ltb server.in_use 1) 24 (cond (eqb (bit taken) 0) 27 (cond own later 27))
          ≡ unless used 24 (unless (taken && own) 27 later)
      go true e true true later = rw (le-ltb server.in_use 1 (leb-true 1 server.in_use e))
      go true e true false later = rw (le-ltb server.in_use 1 (leb-true 1 server.in_use e))
      go true e false own later = rw (le-ltb server.in_use 1 (leb-true 1 server.in_use e))
      go false e taken own later = rw (lt-ltb server.in_use 1 (leb-false 1 server.in_use e))

  back-rows : Done tape_bytes (give_back_now tables w tally x (v - 1)) (Giving (interrupted_at s v))
  unfolding give_back_now
  back-rows = go stopped-there
    where
      go : Stopped
          → Done tape_bytes
          (cond (ltb (first w p) 1024) (resume_rows tables w tally x (v - 1) (first w p))
          (free_one tables w tally x (v - 1) (in_use tally (v - 1) - 1))) (Giving (interrupted_at s v))
      go (none-stopped is far) =
          rw (le-ltb (first w p) 1024 far, is, units_are h v fac.0 there) free-done
      go (some-stopped one l is row row_is) =
          rw (lt-ltb (first w p) 1024 row)
          (subst (λ (k : List Interrupted). Done tape_bytes (resume_rows tables w tally x (v - 1) (first w p)) (Giving k)) (sym is)
          (unfold gives_back in (resume-done one l is row row_is)))

module _ {m : BlockModel} {tape : List (List ℕ)} {tape_bytes tables lists w tally : List ℕ} {x : Scalars} {t : Transaction}
    {s : State} {v : ℕ} where
  pub preempt-done : Before m tape tape_bytes tables lists w tally x t s (preempt v)
      → Done tape_bytes (preempt_rows tables w tally x (place_of t)) (bare_block m (preempt v) t s)
  unfolding preempt_rows seized question bare_answer bare block_forms
  preempt-done h =
      let fac : Names m.facilities v = proper-block h in
      let there : v ≤ servers m = omega (arith, fac.1) in
      rw (
        named tables (place_of t + 1) v (high h v fac.0 there) fac.0 (operand h 1 (omega arith)),
        number_read h.listing,
        preempted-is h v fac.0 there,
        units_are h v fac.0 there,
      )
      (preempt-rows h v fac)

  pub give-back-done : Before m tape tape_bytes tables lists w tally x t s (give_back v)
      → Done tape_bytes (give_back_rows tables w tally x (place_of t)) (bare_block m (give_back v) t s)
  unfolding give_back_rows bare block_forms
  give-back-done h =
      let fac : Names m.facilities v = proper-block h in
      rw (
        named tables (place_of t + 1) v (high h v fac.0 (omega (arith, fac.1))) fac.0 (operand h 1 (omega arith)),
        number_read h.listing,
        back-asked h v fac,
      )
      (asked h (question m (give_back v) t s) (give_back_now tables w tally x (v - 1)) (λ z. back-rows h v fac))
