-- Turns of those who come back one after the other and wait again: to a WAITIF or to an ENTER.
use Rattle.machine.specs.All.{cases, ℕ, zero, suc, ◌+◌, ◌-◌, ◌<◌, ◌≤◌, ◌≡◌, refl, sym, ap, ◌∙◌, Bool, true, false, cond, ◌||◌, min, List, arith, lt-ltb, lt-leb, ltb-true, ltb, leb, eqb, eq-eqb, leb-false, le_trans, true≢false, length, max_serial, max_turns}
use Rattle.constants.specs.declared.model.Model.{Model}
use Rattle.layout.specs.All.{most32}
use Rattle.rows_laws.specs.All.{rel, row_count, first}
use Rattle.state.specs.{declared.scalars.Scalars.Scalars, All.put_turns, All.rows_of}
use Rattle.clock.specs.Taking.{counted}
use Rattle.turn_laws.specs.Turn.{Traced, traced, turn}
use Rattle.turn_laws.specs.Staying.{back_to, quiet, all_wait, stayed, short, lengthened, lined, crowded, lined_times, Lines, lengthened_by}
use Rattle.turn_laws.proofs.Staying.{quiet_is, stays, queues}
use Rattle.turn_laws.proofs.Lengthening.{crowded-is, short-kept, lengthened-next, lengthened-first}
use Rattle.engine_laws.specs.{nobody_rows, worn_rows, full_rows, limit_rows, end_rows, turns_from, turns_left, Onward, WhereAllWait, WhereEnter}
use Rattle.engine_laws.proofs.TurnsLaws.{turns-on}

-- before a turn, fewer than the most are done
pub turns-below : (work : List ℕ) (x : Scalars) (budget room : ℕ) → end_rows work x budget room ≡ 0 → x.turns < max_turns
unfolding end_rows limit_rows worn_rows full_rows
turns-below work x budget room h =
    go (eqb x.end 0) (nobody_rows work x.moving) (ltb max_serial x.serial) (leb max_turns x.turns) refl refl h
  where
    go : (a b c d : Bool) → eqb x.end 0 ≡ a → leb max_turns x.turns ≡ d
        → cond a (cond b 1 (cond (c || d) 26 (cond (leb budget x.turns) 3 (cond (ltb room (x.used + 12)) 4 0)))) x.end ≡ 0
        → x.turns < max_turns
    go true true c d e f q = absurd (omega (arith, q))
    go true false true d e f q = absurd (omega (arith, q))
    go true false false true e f q = absurd (omega (arith, q))
    go true false false false e f q = leb-false max_turns x.turns f
    go false b c d e f q = absurd (true≢false (cc (eq-eqb x.end 0 q, e)))

module _ (model : Model) (tables tape trace : List ℕ) (budget room : ℕ) where
  abbrev from : ℕ → Scalars → (w tally : List ℕ) → Traced
  from n x w tally = turns_from model tables tape budget room n (traced (rows_of x w tally) trace)

  -- no turn
  pub onward-none : (x : Scalars) (left : ℕ) (w tally : List ℕ)
      → Onward model tables tape trace budget room x left w tally x.turns w tally
  onward-none x left w tally =
      let same : left - (x.turns - x.turns) ≡ left = omega arith in rw same

  -- one more
  module _ (y : Scalars) (w tally : List ℕ) (n block : ℕ) (some : 0 < n) (none : end_rows w y budget room ≡ 0) (back : back_to w ≡ block)
      (nobody : y.moving ≡ row_count) (note : y.note ≡ 2) where
    one_on : (w' tally' : List ℕ) → turn model tables tape w tally trace y ≡ traced (rows_of (counted y) w' tally') trace
        → from n y w tally ≡ from (n - 1) (put_turns (y.turns + 1) y) w' tally'
    unfolding counted
    one_on w' tally' e =
        let low = turns-below w y budget room none in
        let more : min (y.turns + 1) most32 ≡ y.turns + 1 = omega (arith, low) in
        sym (turns-on model tables tape budget room y w tally trace n _ some (sym none) refl _ _ (rw (← more) (sym e)) refl)

    stays_on : all_wait tables model.values tally y.clock block ≡ true
        → from n y w tally ≡ from (n - 1) (put_turns (y.turns + 1) y) (stayed w) tally
    stays_on all = one_on (stayed w) tally (stays model tables tape w tally trace y nobody note block back all)

    queues-on : quiet tables 6 block ≡ true → short tables tally block ≡ true
        → from n y w tally ≡ from (n - 1) (put_turns (y.turns + 1) y) (lined tables w block) (lengthened tables tally y.clock block)
    queues-on enter few = one_on _ _ (queues model tables tape w tally trace y nobody note block back enter few)

-- ---- In the midst of them

-- no scalar has changed but the turns
pub record Passed (x : Scalars) (left : ℕ) (y : Scalars) (rest : ℕ) : Type 0 where
  pub only : y ≡ put_turns y.turns x
  pub count : y.turns + rest ≡ x.turns + left
  pub few : rest ≤ left

passed_none : {x : Scalars} {left : ℕ} → Passed x left x left
passed_none = record { only = refl; count = refl; few = omega arith }

passed-next : {x : Scalars} {left : ℕ} {y : Scalars} {rest : ℕ} → Passed x left y rest → 0 < rest
    → Passed x left (put_turns (y.turns + 1) y) (rest - 1)
passed-next {y = y} h some =
    record {
      only = ap (put_turns (y.turns + 1)) h.only;
      count = omega (arith, h.count);
      few = omega (arith, h.few);
    }

passed-done : {x : Scalars} {left : ℕ} {y : Scalars} {rest : ℕ} → Passed x left y rest
    → (x.turns ≤ y.turns) × (y.turns ≤ x.turns + left)
passed-done h = (omega (arith, h.count, h.few), omega (arith, h.count, h.few))

-- what came of them, from where they began
onward-to : (model : Model) (tables tape trace : List ℕ) (budget room : ℕ) {x : Scalars} {left : ℕ} {y : Scalars} {rest : ℕ}
    (w tally w' tally' : List ℕ) → Passed x left y rest
    → from model tables tape trace budget room left x w tally ≡ from model tables tape trace budget room rest y w' tally'
    → Onward model tables tape trace budget room x left w tally y.turns w' tally'
onward-to model tables tape trace budget room {x} {left} {y} {rest} w tally w' tally' p h =
    let same : left - (y.turns - x.turns) ≡ rest = omega (arith, p.count, p.few) in rw (same, ← p.only) h

-- at a WAITIF
pub record Amid (budget room block : ℕ) (x : Scalars) (left : ℕ) (w : List ℕ) (y : Scalars) (rest : ℕ) (w' : List ℕ) : Type 0 where
  pub same : WhereAllWait block x
      (λ model tables tape tally trace. from model tables tape trace budget room left x w tally
      ≡ from model tables tape trace budget room rest y w' tally)
  pub passed : Passed x left y rest
  pub kept : length w' ≡ length w

-- before the first of the herd nothing has changed
pub amid-none : {budget room block : ℕ} {x : Scalars} {left : ℕ} {w : List ℕ} → Amid budget room block x left w x left w
amid-none = record { same = λ model tables tape tally trace nobody note all. refl; passed = passed_none; kept = refl }

-- one more of the herd goes back to its WAITIF: one turn, and no end came before it
pub amid-next : {budget room block : ℕ} {x : Scalars} {left : ℕ} {w : List ℕ} {y : Scalars} {rest : ℕ} {w' w'' : List ℕ}
    → Amid budget room block x left w y rest w' → 0 < rest
    → end_rows w' y budget room ≡ 0 → back_to w' ≡ block → w'' ≡ stayed w' → length w'' ≡ length w'
    → Amid budget room block x left w (put_turns (y.turns + 1) y) (rest - 1) w''
amid-next {budget} {room} {block} {y = y} {rest = rest} {w' = w'} h some none back is kept =
    let only = h.passed.only in
    record {
      same =
          λ model tables tape tally trace nobody note all.
          h.same model tables tape tally trace nobody note all
          ∙ stays_on model tables tape trace budget room y w' tally rest block some none back (ap (λ z. z.moving) only ∙ nobody)
          (ap (λ z. z.note) only ∙ note) (rw only all)
          ∙ rw (← is);
      passed = passed-next h.passed some;
      kept = kept ∙ h.kept;
    }

-- when the loop stops, the rest of the run is the rest from its beginning, and the turns lie within bounds
pub amid-done : {budget room block : ℕ} {x : Scalars} {left : ℕ} {w : List ℕ} {y : Scalars} {rest : ℕ} {w' : List ℕ}
    → Amid budget room block x left w y rest w'
    → WhereAllWait block x (λ model tables tape tally trace. Onward model tables tape trace budget room x left w tally y.turns w' tally)
    × ((x.turns ≤ y.turns) × (y.turns ≤ x.turns + left))
amid-done {budget} {room} {w = w} {w' = w'} h = (
  λ model tables tape tally trace nobody note all.
      onward-to model tables tape trace budget room w tally w' tally h.passed (h.same model tables tape tally trace nobody note all),
  passed-done h.passed,
)

-- ---- Many at an ENTER

somebody : (w : List ℕ) (moving : ℕ) → first w rel < 1024 → nobody_rows w moving ≡ false
unfolding nobody_rows
somebody w moving some = rw (lt-ltb _ 1024 some) (cases (ltb moving 1024) (λ e. rw e) (λ e. rw e))

-- no end comes between them
end-still : (w w' : List ℕ) (x : Scalars) (budget room t : ℕ) → end_rows w x budget room ≡ 0 → first w' rel < 1024 → t < max_turns
    → t < budget → end_rows w' (put_turns t x) budget room ≡ 0
unfolding end_rows limit_rows worn_rows full_rows
end-still w w' x budget room t h some low few =
    rw (somebody w' x.moving some, lt-leb max_turns t low, lt-leb budget t few)
    (go (eqb x.end 0) (nobody_rows w x.moving) (ltb max_serial x.serial) (leb max_turns x.turns) (leb budget x.turns)
    (ltb room (x.used + 12)) refl h)
  where
    go : (a b c d e f : Bool) → eqb x.end 0 ≡ a → cond a (cond b 1 (cond (c || d) 26 (cond e 3 (cond f 4 0)))) x.end ≡ 0
        → cond a (cond (c || false) 26 (cond f 4 0)) x.end ≡ 0
    go true true c d e f q z = absurd (omega (arith, z))
    go true false true d e f q z = absurd (omega (arith, z))
    go true false false true e f q z = absurd (omega (arith, z))
    go true false false false true f q z = absurd (omega (arith, z))
    go true false false false false true q z = absurd (omega (arith, z))
    go true false false false false false q z = refl
    go false b c d e f q z = z

-- who comes back is on REL
comes-from : (w : List ℕ) (block : ℕ) → back_to w ≡ block → (block ≡ 0 → ⊥) → first w rel < 1024
unfolding back_to
comes-from w block h some = cases (ltb (first w rel) 1024) (λ e. ltb-true _ 1024 e) (λ e. absurd (some (sym (rw e at h))))

module _ (model : Model) (tables tape trace : List ℕ) (budget room : ℕ) (x : Scalars) (left block : ℕ) (w tally : List ℕ)
    (nobody : x.moving ≡ row_count) (note : x.note ≡ 2)
    (enter : quiet tables 6 block ≡ true) (none : end_rows w x budget room ≡ 0) (crowd : crowded tables tally block ≡ true) where
  there : block ≡ 0 → ⊥
  there = (quiet_is tables 6 block enter).some

  abbrev after : ℕ → Traced
  after n =
      from model tables tape trace budget room (left - n) (put_turns (x.turns + n) x) (lined_times tables block n w)
      (lengthened_by tables tally block n)

  queues-all : (n : ℕ) → n < left → x.turns + n < max_turns → x.turns + n < budget
      → ((i : ℕ) → i < suc n → back_to (lined_times tables block i w) ≡ block)
      → from model tables tape trace budget room left x w tally ≡ after (suc n)
  unfolding lined_times
  queues-all zero some low few back =
      let still = crowded-is tables tally block crowd in
      queues-on model tables tape trace budget room x w tally left block some none (back 0 (omega arith)) nobody note enter still.1
      ∙ rw (lengthened-first tables tally block still.0 x.clock)
  queues-all (suc n) some low few back =
      let still = crowded-is tables tally block crowd in
      let here = back (suc n) (omega arith) in
      let more : 0 < left - suc n = omega arith in
      let less : left - suc n - 1 ≡ left - suc (suc n) = omega arith in
      let turn : x.turns + suc n + 1 ≡ x.turns + suc (suc n) = omega arith in
      let one : suc n + 1 ≡ suc (suc n) = omega arith in
      queues-all n (omega arith) (omega arith) (omega arith) (λ i hi. back i (omega arith))
      ∙ queues-on model tables tape trace budget room (put_turns (x.turns + suc n) x) (lined_times tables block (suc n) w)
      (lengthened_by tables tally block (suc n)) (left - suc n) block more
      (end-still w _ x budget room _ none (comes-from _ block here there) low few) here nobody note enter
      (short-kept tables tally block (suc n) ∙ still.1)
      ∙ rw (less, turn, lengthened-next tables tally block (suc n) still.0 x.clock, one)

-- so many fit each limit
pub record Fits (turns budget left n : ℕ) : Type 0 where
  pub steps : n ≤ left
  pub limit : turns + n ≤ max_turns
  pub bought : turns + n ≤ budget

-- so many turns pass neither the steps, nor the limit of turns, nor the budget
pub fits-left : (turns budget left n most : ℕ) → 1 ≤ n → n ≤ most → most ≡ turns_left turns budget left → Fits turns budget left n
unfolding turns_left
fits-left turns budget left n most some few is =
    let a : min (min left (max_turns - turns)) (budget - turns) ≤ min left (max_turns - turns) = omega arith in
    let b : min (min left (max_turns - turns)) (budget - turns) ≤ budget - turns = omega arith in
    let c : min left (max_turns - turns) ≤ left = omega arith in
    let d : min left (max_turns - turns) ≤ max_turns - turns = omega arith in
    let e : n ≤ max_turns - turns = le_trans few (le_trans (rw is a) d) in
    let f : n ≤ budget - turns = le_trans few (rw is b) in
    record {
      steps = le_trans few (le_trans (rw is a) c);
      limit = positive turns max_turns n some e;
      bought = positive turns budget n some f;
    }
  where
    positive : (a b n : ℕ) → 1 ≤ n → n ≤ b - a → a + n ≤ b
    positive a b n h k = omega arith

-- n who come back to an ENTER and go behind its QL with one walk: their n turns, one by one, lead to the same rows
pub queued : (tables : List ℕ) (budget room block : ℕ) (x : Scalars) (left : ℕ) (w tally w' tally' : List ℕ) (n most : ℕ)
    → end_rows w x budget room ≡ 0 → crowded tables tally block ≡ true
    → 1 ≤ n → n ≤ most → most ≡ turns_left x.turns budget left → ((block ≡ 0 → ⊥) → Lines tables block w n w')
    → tally' ≡ lengthened_by tables tally block n
    → WhereEnter tables block x (λ model tape trace. Onward model tables tape trace budget room x left w tally (x.turns + n) w' tally')
    × ((x.turns ≤ x.turns + n) × (x.turns + n ≤ x.turns + left))
queued tables budget room block x left w tally w' tally' n most none crowd some few is lines counts = (
  λ model tape trace nobody note enter.
      let fits = fits-left x.turns budget left n most some few is in
      let done = lines (there model tables tape trace budget room x left block w tally nobody note enter none crowd) in
      let last : n ≡ suc (n - 1) = omega arith in
      let steps : left - (x.turns + n - x.turns) ≡ left - n = omega arith in
      rw (steps, done.rows, counts, last)
      (queues-all model tables tape trace budget room x left block w tally nobody note enter none crowd (n - 1) (omega (arith, fits.steps))
      (omega (arith, fits.limit)) (omega (arith, fits.bought)) (λ i hi. done.back i (omega arith))),
  (omega arith, omega (arith, (fits-left x.turns budget left n most some few is).steps)),
)

-- none does
pub queued-still : (tables : List ℕ) (budget room block : ℕ) (x : Scalars) (left : ℕ) (w tally w' : List ℕ) (n : ℕ) → n ≡ 0
    → ((block ≡ 0 → ⊥) → Lines tables block w n w')
    → WhereEnter tables block x (λ model tape trace. Onward model tables tape trace budget room x left w tally x.turns w' tally)
    × ((x.turns ≤ x.turns) × (x.turns ≤ x.turns + left))
unfolding lined_times
queued-still tables budget room block x left w tally w' n e lines = (
  λ model tape trace nobody note enter.
      rw (rw e at (lines (quiet_is tables 6 block enter).some)).rows (onward-none model tables tape trace budget room x left w tally),
  (omega arith, omega arith),
)

-- where none goes back the rest of the run is untouched
pub queued-none : (tables : List ℕ) (budget room block : ℕ) (x : Scalars) (left : ℕ) (w tally : List ℕ)
    → WhereEnter tables block x (λ model tape trace. Onward model tables tape trace budget room x left w tally x.turns w tally)
    × ((x.turns ≤ x.turns) × (x.turns ≤ x.turns + left))
queued-none tables budget room block x left w tally = (
  λ model tape trace nobody note enter. onward-none model tables tape trace budget room x left w tally,
  (omega arith, omega arith),
)

-- after them too what is left of the run is what was
pub onward-on : (model : Model) (tables tape trace : List ℕ) (budget room : ℕ) (x : Scalars) (left : ℕ) (w tally : List ℕ) (t : ℕ)
    (w' tally' : List ℕ) (room' : ℕ) (whole : Traced) → room' ≡ room
    → Onward model tables tape trace budget room' x left w tally t w' tally'
    → turns_from model tables tape budget room left (traced (rows_of x w tally) trace) ≡ whole
    → turns_from model tables tape budget room (left - (t - x.turns)) (traced (rows_of (put_turns t x) w' tally') trace) ≡ whole
onward-on model tables tape trace budget room x left w tally t w' tally' room' whole e h rest = sym (rw e at h) ∙ rest
