-- No two rows that live have one number: each is the row of somebody on the machine's lists or of who moves, and there no number stands
-- twice.
use Rattle.machine.specs.All.{ℕ, zero, suc, ◌+◌, ◌-◌, ◌≤◌, ◌<◌, ◌≡◌, refl, ap, ◌≢◌, Bool, true, false, cond, List, [], ◌∷◌, map, some, arith, ℕ_discrete, ltb-true, ltb-false, eq-eqb, eqb-true, ltb, eqb, get_or, Transaction, Event, Gatherer, Interrupted, flat, BlockModel, State, of_facility, interrupted_at, bit, everyone, standing}
use Rattle.machine.proofs.Lists.Sums.{sum_on, sum-append, sum-those, sum-map, sum-count}
use Rattle.machine.proofs.{Conservation.Balance.listed, Conservation.Balance.held, Conservation.Conservation.sum-everyone}
use Rattle.rows_laws.specs.All.{place, fel, free, load, read, lives, transaction_at, event_at, occurs}
use Rattle.rows_laws.proofs.{Counting.Occurs.same_refl, Counting.Occurs.same-other, Steps.Holder}
use Rattle.state.specs.All.{gatherer_row, interrupted_row, lists_of, Listing}
use Rattle.state.proofs.ListsOf.{lists-ql, lists-wel, lists-wsl, lists-rel, lists-gatherers, lists-interrupted}
use mathlib.Core.Path.{sym, ◌∙◌}

-- ---- Sums over parts of lists

-- of one list among some
sum-get_or : {A : Type 0} (f : A → ℕ) (ls : List (List A)) (i : ℕ) → sum_on f (get_or ls i []) ≤ sum_on f (flat ls)
unfolding flat
sum-get_or f [] i = omega arith
sum-get_or f (l ∷ ls) zero = omega (arith, sum-append f l (flat ls))
sum-get_or f (l ∷ ls) (suc i) = omega (arith, sum-append f l (flat ls), sum-get_or f ls i)

-- of rows that occur
module _ (f : ℕ → ℕ) where
  sum_row : (k : ℕ) (l : List ℕ) → 1 ≤ occurs k l → f k ≤ sum_on f l
  unfolding occurs
  sum_row k [] m = absurd (omega arith)
  sum_row k (x ∷ l) m = go (ℕ_discrete k x) (sum_row k l)
    where
      go : Dec (k ≡ x) → (1 ≤ occurs k l → f k ≤ sum_on f l) → f k ≤ f x + sum_on f l
      go (yes e) rest = omega (arith, ap f e)
      go (no d) rest = omega (arith, rest (omega (arith, same-other k x d)))

  sum_rows : (j k : ℕ) (l : List ℕ) → j ≢ k → 1 ≤ occurs j l → 1 ≤ occurs k l → f j + f k ≤ sum_on f l
  unfolding occurs
  sum_rows j k [] d a b = absurd (omega arith)
  sum_rows j k (x ∷ l) d a b = go (ℕ_discrete j x) (ℕ_discrete k x) (sum_rows j k l d)
    where
      go : Dec (j ≡ x) → Dec (k ≡ x) → (1 ≤ occurs j l → 1 ≤ occurs k l → f j + f k ≤ sum_on f l) → f j + f k ≤ f x + sum_on f l
      go (yes e) (yes g) rest = absurd (d (e ∙ sym g))
      go (yes e) (no g) rest = omega (arith, ap f e, sum_row k l (omega (arith, same-other k x g)))
      go (no e) (yes g) rest = omega (arith, ap f g, sum_row j l (omega (arith, same-other j x e)))
      go (no e) (no g) rest = omega (arith, rest (omega (arith, same-other j x e)) (omega (arith, same-other k x g)))

module _ (m : BlockModel) (w : List ℕ) (moving : ℕ) (t : Transaction) (s : State) (h : Listing w moving (some t) s)
    (is : s.moving ≡ some t) (n : ℕ) (once : standing s n ≤ 1) where
  -- 1 for the number n, of a transaction and of a row
  abbrev weight : ℕ → ℕ
  weight k = bit (eqb k n)

  abbrev by : Transaction → ℕ
  by u = weight u.number

  abbrev row_by : ℕ → ℕ
  row_by k = weight (read w 0 k)

  own-weight : (k : ℕ) → k ≡ n → weight k ≡ 1
  own-weight k e = ap bit (eq-eqb k n e)

  abbrev later : ℕ
  later = sum_on (λ (e : Event). by e.who) s.fel

  all : by t + listed m [] weight s ≤ 1
  unfolding standing
  all = omega (
    arith,
    once,
    sum-count (λ (u : Transaction). eqb u.number n) (everyone s),
    sum-everyone m [] weight s,
    ap (held m [] weight) is,
  )

  -- ---- On the machine's lists

  by-gatherers : (l : List Gatherer) → sum_on by (map gatherer_row l) ≡ sum_on (λ (g : Gatherer). by g.who) l
  by-gatherers l = sum-map by gatherer_row l

  by-interrupted : (l : List Interrupted) → sum_on by (map interrupted_row l) ≡ sum_on (λ (i : Interrupted). by i.who) l
  by-interrupted l = sum-map by interrupted_row l

  listed_by : (p : ℕ) → p < 770 → sum_on by (lists_of s p) + later ≤ listed m [] weight s
  listed_by p hp = go (ltb p 64) refl (ltb p 448) refl (ltb p 450) refl (ltb p 706) refl
    where
      ql : p < 64 → sum_on by (lists_of s p) + later ≤ listed m [] weight s
      ql q = omega (arith, ap (sum_on by) (lists-ql s p q), sum-get_or by s.ql p)

      wel : (i : ℕ) → i < 384 → p ≡ 64 + i → sum_on by (lists_of s p) + later ≤ listed m [] weight s
      wel i q e = omega (arith, ap (λ (x : ℕ). sum_on by (lists_of s x)) e, ap (sum_on by) (lists-wel s i q), sum-get_or by s.wel i)

      lone : Dec (p ≡ 448) → p < 450 → 448 ≤ p → sum_on by (lists_of s p) + later ≤ listed m [] weight s
      lone (yes e) a b = omega (arith, ap (λ (x : ℕ). sum_on by (lists_of s x)) e, ap (sum_on by) (lists-wsl s))
      lone (no d) a b =
          let e : p ≡ 449 = omega arith in omega (arith, ap (λ (x : ℕ). sum_on by (lists_of s x)) e, ap (sum_on by) (lists-rel s))

      gathered : (i : ℕ) → i < 256 → p ≡ 450 + i → sum_on by (lists_of s p) + later ≤ listed m [] weight s
      gathered i q e =
          omega (
            arith,
            ap (λ (x : ℕ). sum_on by (lists_of s x)) e,
            ap (sum_on by) (lists-gatherers s i q),
            by-gatherers (get_or s.gatherers i []),
            sum-get_or (λ (g : Gatherer). by g.who) s.gatherers i,
          )

      stopped : (i : ℕ) → i < 64 → p ≡ 706 + i → sum_on by (lists_of s p) + later ≤ listed m [] weight s
      stopped i q e =
          omega (
            arith,
            ap (λ (x : ℕ). sum_on by (lists_of s x)) e,
            ap (sum_on by) (lists-interrupted s i q),
            by-interrupted (interrupted_at s (suc i)),
            sum-those (λ (y : Interrupted). by y.who) (of_facility (suc i)) s.interrupted,
          )

      go : (a : Bool) → ltb p 64 ≡ a → (b : Bool) → ltb p 448 ≡ b → (c : Bool) → ltb p 450 ≡ c → (d : Bool) → ltb p 706 ≡ d
          → sum_on by (lists_of s p) + later ≤ listed m [] weight s
      go true ea b eb c ec d ed = ql (ltb-true p 64 ea)
      go false ea true eb c ec d ed = wel (p - 64) (omega (arith, ltb-true p 448 eb, ltb-false p 64 ea)) (omega (arith, ltb-false p 64 ea))
      go false ea false eb true ec d ed = lone (ℕ_discrete p 448) (ltb-true p 450 ec) (ltb-false p 448 eb)
      go false ea false eb false ec true ed =
          gathered (p - 450) (omega (arith, ltb-true p 706 ed, ltb-false p 450 ec)) (omega (arith, ltb-false p 450 ec))
      go false ea false eb false ec false ed = stopped (p - 706) (omega (arith, ltb-false p 706 ed)) (omega (arith, ltb-false p 706 ed))

  -- ---- On the lists of rows

  abbrev L : ℕ → List ℕ
  L = h.shows.rows

  occurs-at : (k p : ℕ) → k < 1024 → load w (place k) ≡ p → p < 772 → 1 ≤ occurs k (L p)
  occurs-at k p row at hp = omega (arith, (h.shows.shown.holds.listed p hp).once k row, same_refl (load w (place k)) p at)

  rows-by : (p : ℕ) → p < 770 → sum_on row_by (L p) ≡ sum_on by (lists_of s p)
  unfolding transaction_at
  rows-by p hp = sym (sum-map by (transaction_at w) (L p)) ∙ ap (sum_on by) (h.shows.shown.lists p hp)

  later-by : sum_on row_by (L fel) ≡ later
  unfolding event_at transaction_at
  later-by =
      sym (sum-map (λ (e : Event). by e.who) (event_at w) (L fel)) ∙ ap (sum_on (λ (e : Event). by e.who)) h.shows.shown.future

  mover-by : (c : ℕ) → c ≡ moving → row_by c ≡ by t
  unfolding transaction_at
  mover-by c e = ap row_by e ∙ ap by h.mover.1

  -- a row on the FEL that has the holder's number is the holder's row
  pub alone : (c : ℕ) → Holder w n moving c → (k : ℕ) → k < 1024 → load w (place k) ≡ fel → read w 0 k ≡ n → k ≡ c
  unfolding lives
  alone c holder k row at own = go (ℕ_discrete k c)
    where
      here : 1 ≤ occurs k (L fel)
      here = occurs-at k fel row at (omega arith)

      listed_too : (p : ℕ) → load w (place c) ≡ p → p < 770 → ⊥
      listed_too p e hp =
          omega (
            arith,
            all,
            listed_by p hp,
            rows-by p hp,
            later-by,
            sum_row row_by k (L fel) here,
            sum_row row_by c (L p) (occurs-at c p holder.row e (omega arith)),
            own-weight _ own,
            own-weight _ holder.own,
          )

      both : k ≢ c → load w (place c) ≡ fel → ⊥
      both d e =
          omega (
            arith,
            all,
            later-by,
            sum_rows row_by k c (L fel) d here (occurs-at c fel holder.row e (omega arith)),
            own-weight _ own,
            own-weight _ holder.own,
          )

      moves : c ≡ moving → ⊥
      moves e = omega (arith, all, later-by, sum_row row_by k (L fel) here, own-weight _ own, own-weight _ holder.own, mover-by c e)

      apart : k ≢ c → (b : Bool) → eqb c moving ≡ b → cond b true (ltb (load w (place c)) free) ≡ true → Dec (load w (place c) ≡ fel) → ⊥
      apart d true e f q = moves (eqb-true c moving e)
      apart d false e f (yes q) = both d q
      apart d false e f (no q) =
          let low : load w (place c) < free = ltb-true _ _ f in listed_too (load w (place c)) refl (omega (arith, low))

      go : Dec (k ≡ c) → k ≡ c
      go (yes e) = e
      go (no d) = absurd (apart d (eqb c moving) refl holder.living (ℕ_discrete (load w (place c)) fel))
