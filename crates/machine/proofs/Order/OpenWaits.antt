-- The open waits of the records are the waits of those who wait, and serials rise with the beginning of waits.
use Rattle.machine.specs.All.{ℕ, suc, ◌+◌, ◌≤◌, ◌<◌, ◌≡◌, refl, sym, ap, subst, ◌∙◌, Bool, true, false, cond, not, List, [], ◌∷◌, map, arith, eqb, eq-eqb, Transaction, those, others, flat, facts, BlockModel, block_at, State, Logged, moving_one, with_serial, record_of, log, enters, fresh, bit}
use Rattle.machine.proofs as our
use our.{Basic.Bools.cond_cases, Lists.SumFacts.sum_agree}
use our.Order.Records.{opens, without}
use our.Lists.Sums.{sum_on, sum-test}
use our.Order.Weights.{Wait, wait_of, weight, marked, waiting, Quiet}

-- ---- Definition

-- serials fall along the list, from below a number
abbrev pub Falling : ℕ → List Wait → Type 0
Falling n [] = Unit {0}
Falling n (w ∷ l) = (w.serial < n) × Falling w.serial l

-- weights that count waits to seize or to enter alone
abbrev pub ForUnits : BlockModel → (Wait → ℕ) → Type 0
ForUnits m f = (w : Wait) → (facts (block_at m w.key.block)).server ≡ 0 → f w ≡ 0

-- some waits, newest first, are those open after the records and, of waits for units, those of a total of weights: whoever goes back
-- in a group waits no longer, but no record says so
pub record Linked (m : BlockModel) (records : List Logged) (serial : ℕ) (total : (Wait → ℕ) → ℕ) : Type 0 where
  pub waits : List Wait
  pub keys : map (λ w. w.key) waits ≡ opens records
  pub falling : Falling (suc serial) waits
  pub same : (f : Wait → ℕ) → ForUnits m f → sum_on f waits ≡ total f

-- those who wait and the moving one, if it has the mark
abbrev pub LinkedIn : BlockModel → State → Type 0
LinkedIn m s = Linked m s.records s.serial (λ f. waiting f s + sum_on (marked f) (moving_one s.moving))

-- ---- One number left out

falling-up : (l : List Wait) {a b : ℕ} → a ≤ b → Falling a l → Falling b l
falling-up [] le h = tt
falling-up (w ∷ l) le h = (omega arith, h.1)

falling-those : (p : Wait → Bool) (n : ℕ) (l : List Wait) → Falling n l → Falling n (those p l)
unfolding those
falling-those p n [] h = tt
falling-those p n (w ∷ l) h =
    cond_cases (Falling n) (p w) _ _ (λ e. (h.0, falling-those p w.serial l h.1))
    (λ e. falling-those p n l (falling-up l (omega arith) h.1))

-- the waits of other numbers
abbrev others_than : ℕ → List Wait → List Wait
others_than n l = others (λ w. eqb n w.key.number) l

others-keys : (n : ℕ) (l : List Wait) → map (λ w. w.key) (others_than n l) ≡ without n (map (λ w. w.key) l)
unfolding those
others-keys n [] = refl
others-keys n (w ∷ l) = go (eqb n w.key.number) (others-keys n l)
  where
    go : (b : Bool) → map (λ w. w.key) (others_than n l) ≡ without n (map (λ w. w.key) l)
        → map (λ w. w.key) (cond (not b) (w ∷ others_than n l) (others_than n l))
        ≡ cond (not b) (w.key ∷ without n (map (λ w. w.key) l)) (without n (map (λ w. w.key) l))
    go true h = h
    go false h = ap (λ r. w.key ∷ r) h

-- a weight that counts no wait of a number
abbrev except : ℕ → (Wait → ℕ) → Wait → ℕ
except n f w = cond (not (eqb n w.key.number)) (f w) 0

-- ---- A number that nobody who waits has

abbrev pub numbered : ℕ → Wait → ℕ
numbered n w = bit (eqb n w.key.number)

abbrev pub Alone : ℕ → State → Type 0
Alone n s = waiting (numbered n) s ≡ 0

-- weights that agree on the waits of other numbers
pub waiting_agree : (n : ℕ) (s : State) → Alone n s → (f g : Wait → ℕ) → ((w : Wait) → numbered n w ≡ 0 → f w ≡ g w)
    → waiting f s ≡ waiting g s
unfolding waiting
waiting_agree n s h f g agree =
    omega (
      arith,
      sum_agree (weight (numbered n)) (weight f) (weight g) (λ t. agree (wait_of t)) (flat s.ql) (omega arith),
      sum_agree (weight (numbered n)) (weight f) (weight g) (λ t. agree (wait_of t)) (flat s.wel) (omega arith),
      sum_agree (weight (numbered n)) (weight f) (weight g) (λ t. agree (wait_of t)) s.wsl (omega arith),
      sum_agree (marked (numbered n)) (marked f) (marked g) (λ t. on-rel t t.returning) s.rel (omega arith),
    )
  where
    on-rel : (t : Transaction) (b : Bool) → cond b (numbered n (wait_of t)) 0 ≡ 0 → cond b (f (wait_of t)) 0 ≡ cond b (g (wait_of t)) 0
    on-rel t true e = agree (wait_of t) e
    on-rel t false e = refl

-- ---- The records of a turn

-- the total counts other weights alike
pub linked_as : {m : BlockModel} {rs : List Logged} {n n' : ℕ} {total total' : (Wait → ℕ) → ℕ} → n ≤ n'
    → ((f : Wait → ℕ) → ForUnits m f → total' f ≡ total f)
    → Linked m rs n total → Linked m rs n' total'
linked_as le same h =
    record {
      waits = h.waits;
      keys = h.keys;
      falling = falling-up h.waits (omega arith) h.falling;
      same = λ f k. h.same f k ∙ sym (same f k);
    }

-- where neither records nor waits changed, they are linked as before
pub linked-quiet : {m : BlockModel} {s s' : State} → Quiet s s' → s'.moving ≡ s.moving → LinkedIn m s → LinkedIn m s'
linked-quiet {m} {s} {s'} q e h =
    subst (λ rs. Linked m rs s'.serial (λ f. waiting f s' + sum_on (marked f) (moving_one s'.moving))) (sym q.records)
    (linked_as q.serials (λ f k. omega (arith, q.weights f, ap (λ o. sum_on (marked f) (moving_one o)) e)) h)

module _ {m : BlockModel} (t : Transaction) (s : State) (alone : Alone t.number s)
    (h : Linked m s.records s.serial (λ f. waiting f s + marked f t)) where
  -- without the taken one's own wait
  same-others : (f : Wait → ℕ) → ForUnits m f → sum_on f (others_than t.number h.waits) ≡ waiting f s
  same-others f k =
      sum-test f _ h.waits
      ∙ h.same (except t.number f)
      (λ w z. cond_cases (λ n. n ≡ 0) (not (eqb t.number w.key.number)) (f w) 0 (λ e. k w z) (λ e. refl))
      ∙ omega (
        arith,
        own,
        waiting_agree t.number s alone (except t.number f) f (λ w. left_out (eqb t.number w.key.number) (f w)),
      )
    where
      left_out : (b : Bool) (n : ℕ) → bit b ≡ 0 → cond (not b) n 0 ≡ n
      left_out true n e = absurd (omega arith)
      left_out false n e = refl

      own : marked (except t.number f) t ≡ 0
      own = rw (eq-eqb t.number t.number refl) (cond_cases (λ n. n ≡ 0) t.returning 0 0 (λ e. refl) (λ e. refl))

  -- a record of outcome 0
  pub linked-passes : Linked m (enters t s).records s.serial (λ f. waiting f s)
  unfolding enters log record_of opens
  linked-passes =
      record {
        waits = others_than t.number h.waits;
        keys = others-keys t.number h.waits ∙ ap (without t.number) h.keys;
        falling = falling-those _ _ h.waits h.falling;
        same = same-others;
      }

  -- a record of outcome 1, with a fresh serial
  pub linked-begins : Linked m (log 1 t s).records (fresh s) (λ f. weight f (with_serial (fresh s) t) + waiting f s)
  unfolding log record_of opens
  linked-begins =
      record {
        waits = wait_of (with_serial (fresh s) t) ∷ others_than t.number h.waits;
        keys = ap (λ l. (wait_of t).key ∷ l) (others-keys t.number h.waits ∙ ap (without t.number) h.keys);
        falling = (omega arith, falling-those _ _ h.waits h.falling);
        same = λ f k. ap (λ n. weight f (with_serial (fresh s) t) + n) (same-others f k);
      }
