-- The FEL of the program: at most the one who comes next, before GENERATE, and the one who is served, before RELEASE; and what a clock
-- move takes from it.
use Rattle.machine.specs.All.{ℕ, ◌+◌, ◌*◌, ◌≤◌, ◌≡◌, refl, sym, ap, subst, false, List, [], ◌∷◌, Option, none, some, arith, eqb-true, eq-eqb, eqb, Transaction, Event, precedes, earlier, insert, those, others, bit, State, with_returning, with_serial, set_rel, set_serial, fresh, to_rel, arrive_all, due, Each, Bool, true, cond, not}
use Rattle.machine.proofs.{Basic.Bools.cond_cases, Basic.Each.each-insert, Lists.Sorted.earlier-time, Lists.Sorted.later-time, Lists.Sums.sum_on, Lists.Sums.sum-insert}

-- ---- Where somebody stands

-- 1 if it is before that block
abbrev pub at : ℕ → Transaction → ℕ
at n t = bit (eqb t.next n)

-- the blocks before which somebody stands on REL
pub data Ready : ℕ → Type 0 where
  generates : Ready 1
  seizes : Ready 2
  releases : Ready 4

abbrev pub AllReady : List Transaction → Type 0
AllReady l = Each (λ (t : Transaction). Ready t.next) l

-- ---- The FEL

-- the move times of the one who comes next and of the one who is served; none lies before `low`
pub data Pending (low : ℕ) : List Event → (arrival service : Option ℕ) → Type 0 where
  neither : Pending low [] none none
  coming : (e : Event) → e.who.next ≡ 1 → low ≤ e.time → Pending low (e ∷ []) (some e.time) none
  served : (e : Event) → e.who.next ≡ 4 → low ≤ e.time → Pending low (e ∷ []) none (some e.time)
  coming-first : (e f : Event) → e.who.next ≡ 1 → f.who.next ≡ 4 → low ≤ e.time → e.time ≤ f.time
      → Pending low (e ∷ f ∷ []) (some e.time) (some f.time)
  served-first : (e f : Event) → e.who.next ≡ 4 → f.who.next ≡ 1 → low ≤ e.time → e.time ≤ f.time
      → Pending low (e ∷ f ∷ []) (some f.time) (some e.time)

module _ {low : ℕ} where
  -- at most one arrival is pending
  pub insert-coming : {l : List Event} {o : Option ℕ} → Pending low l none o → (e : Event) → e.who.next ≡ 1 → low ≤ e.time
      → Pending low (insert earlier e l) (some e.time) o
  unfolding insert
  insert-coming neither e n le = coming e n le
  insert-coming (served f k lf) e n le =
      cond_cases (λ l. Pending low l (some e.time) (some f.time)) (earlier e f) _ _
      (λ b. coming-first e f n k le (earlier-time e f b)) (λ b. served-first f e k n lf (later-time e f b))

  -- and one that is served
  pub insert-served : {l : List Event} {o : Option ℕ} → Pending low l o none → (e : Event) → e.who.next ≡ 4 → low ≤ e.time
      → Pending low (insert earlier e l) o (some e.time)
  unfolding insert
  insert-served neither e n le = served e n le
  insert-served (coming f k lf) e n le =
      cond_cases (λ l. Pending low l (some f.time) (some e.time)) (earlier e f) _ _
      (λ b. served-first e f n k le (earlier-time e f b)) (λ b. coming-first f e k n lf (later-time e f b))

-- ---- A clock move to the first time

-- one of the two: not there, later, or due
pub data Step (time : ℕ) : (before after : Option ℕ) (due : ℕ) → Type 0 where
  absent : Step time none none 0
  stays : (t : ℕ) → Step time (some t) (some t) 0
  falls-due : (t : ℕ) → t ≡ time → Step time (some t) none 1

-- `now` is what is due and `later` the rest
pub record Moved (low time : ℕ) (now later : List Event) (o p : Option ℕ) : Type 0 where
  pub ahead : low ≤ time
  pub o' : Option ℕ
  pub p' : Option ℕ
  pub one : ℕ
  pub four : ℕ
  pub coming : Step time o o' one
  pub serving : Step time p p' four
  pub rest : Pending time later o' p'
  -- who comes to REL at a clock move: the arrival, the one served, or both
  pub counts : (k : ℕ) → sum_on (λ e. at k e.who) now ≡ one * bit (eqb 1 k) + four * bit (eqb 4 k)
  pub ready : Each (λ (e : Event). Ready e.who.next) now

-- a clock move goes to the first of the two and takes both where they are at one time
pub moved : {low : ℕ} {e : Event} {l : List Event} {o p : Option ℕ} → Pending low (e ∷ l) o p
    → Moved low e.time (those (due e.time) (e ∷ l)) (others (due e.time) (e ∷ l)) o p
unfolding those due
moved (coming e n le) =
    rw (eq-eqb e.time e.time refl)
    (record {
      ahead = le;
      o' = none;
      p' = none;
      one = 1;
      four = 0;
      coming = falls-due e.time refl;
      serving = absent;
      rest = neither;
      counts = λ j. omega (arith, ap (λ i. bit (eqb i j)) n);
      ready = (subst Ready (sym n) generates, tt);
    })
moved (served e n le) =
    rw (eq-eqb e.time e.time refl)
    (record {
      ahead = le;
      o' = none;
      p' = none;
      one = 0;
      four = 1;
      coming = absent;
      serving = falls-due e.time refl;
      rest = neither;
      counts = λ j. omega (arith, ap (λ i. bit (eqb i j)) n);
      ready = (subst Ready (sym n) releases, tt);
    })
moved {low} (coming-first e f n k le ef) = rw (eq-eqb e.time e.time refl) (go (eqb f.time e.time) refl)
  where
    go : (b : Bool) → eqb f.time e.time ≡ b
        → Moved low e.time (e ∷ cond b (f ∷ []) []) (cond (not b) (f ∷ []) []) (some e.time) (some f.time)
    go true b =
        record {
          ahead = le;
          o' = none;
          p' = none;
          one = 1;
          four = 1;
          coming = falls-due e.time refl;
          serving = falls-due f.time (eqb-true _ _ b);
          rest = neither;
          counts = λ j. omega (arith, ap (λ i. bit (eqb i j)) n, ap (λ i. bit (eqb i j)) k);
          ready = (subst Ready (sym n) generates, (subst Ready (sym k) releases, tt));
        }
    go false b =
        record {
          ahead = le;
          o' = none;
          p' = some f.time;
          one = 1;
          four = 0;
          coming = falls-due e.time refl;
          serving = stays f.time;
          rest = served f k ef;
          counts = λ j. omega (arith, ap (λ i. bit (eqb i j)) n);
          ready = (subst Ready (sym n) generates, tt);
        }
moved {low} (served-first e f n k le ef) = rw (eq-eqb e.time e.time refl) (go (eqb f.time e.time) refl)
  where
    go : (b : Bool) → eqb f.time e.time ≡ b
        → Moved low e.time (e ∷ cond b (f ∷ []) []) (cond (not b) (f ∷ []) []) (some f.time) (some e.time)
    go true b =
        record {
          ahead = le;
          o' = none;
          p' = none;
          one = 1;
          four = 1;
          coming = falls-due f.time (eqb-true _ _ b);
          serving = falls-due e.time refl;
          rest = neither;
          counts = λ j. omega (arith, ap (λ i. bit (eqb i j)) n, ap (λ i. bit (eqb i j)) k);
          ready = (subst Ready (sym n) releases, (subst Ready (sym k) generates, tt));
        }
    go false b =
        record {
          ahead = le;
          o' = some f.time;
          p' = none;
          one = 0;
          four = 1;
          coming = stays f.time;
          serving = falls-due e.time refl;
          rest = coming f k ef;
          counts = λ j. omega (arith, ap (λ i. bit (eqb i j)) n);
          ready = (subst Ready (sym n) releases, tt);
        }

-- ---- Onto REL

-- all who are due come onto REL, and nothing else changes
pub record Arrival (l : List Event) (s : State) : Type 0 where
  pub rel : List Transaction
  pub serial : ℕ
  pub is : arrive_all l s ≡ set_rel rel (set_serial serial s)
  -- those who arrive stand before the same blocks on REL
  pub sums : (n : ℕ) → sum_on (at n) rel ≡ sum_on (λ e. at n e.who) l + sum_on (at n) s.rel
  pub ready : Each (λ (e : Event). Ready e.who.next) l → AllReady s.rel → AllReady rel

pub arrive : (l : List Event) (s : State) → Arrival l s
unfolding arrive_all to_rel
arrive [] s = record { rel = s.rel; serial = s.serial; is = refl; sums = λ n. omega arith; ready = λ h k. k }
arrive (e ∷ l) s =
    let who : Transaction = with_serial (fresh s) (with_returning false e.who) in
    let h = arrive l (to_rel (with_returning false e.who) s) in
    record {
      rel = h.rel;
      serial = h.serial;
      is = h.is;
      sums = λ n. omega (arith, h.sums n, sum-insert (at n) precedes who s.rel);
      ready = λ a b. h.ready a.1 (each-insert (λ (t : Transaction). Ready t.next) precedes who s.rel a.0 b);
    }
