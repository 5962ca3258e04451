-- What keeps the machine's lists in order, whatever the order of each.
use Rattle.machine.specs.All.{ℕ, ◌≤◌, ◌<◌, ◌≡◌, refl, sym, subst, Bool, true, false, cond, not, List, [], ◌∷◌, eqb-true, lt-ltb, le-ltb, ltb-true, ltb, eqb, Transaction, Event, precedes, earlier, wake, Each}
use Rattle.machine.proofs.Lists.Sorted as Machine
use Rattle.machine.proofs.Order.Serials.{Single, strictly}
use Rattle.rows_laws.specs.All.{wsl, rel, fel, arrivals, update, All, Sorted, Strict, Ordered, order_of, Shows, moved}
use Rattle.rows_laws.proofs.{Order.SortedInsertion.insert-sorted, Order.RowOrders.precedes-order, Chains.Showing.shown_ext}

-- ---- The machine's sorted lists are the rows'

module _ {A : Type 0} where
  all-of : (P : A → Type 0) (l : List A) → Each P l → All P l
  unfolding All
  all-of P [] h = tt
  all-of P (x ∷ l) h = (h.0, all-of P l h.1)

  -- what the machine's laws call sorted is sorted here
  pub sorted_of : (r : A → A → Bool) (l : List A) → Machine.Sorted r l → Sorted r l
  unfolding Sorted
  sorted_of r [] h = tt
  sorted_of r (x ∷ l) h = (all-of (λ y. r y x ≡ false) l h.0, sorted_of r l h.1)

-- no two with one serial
pub strict_of : (l : List Transaction) → Single l → Machine.Sorted precedes l → Strict precedes l
strict_of l one h = sorted_of (λ y x. not (precedes x y)) l (strictly l one h)

-- ---- The order of a list

-- a line of waiters is asked for none
all_none : (p : ℕ) → p < wsl → (t : Transaction) (l : List Transaction) → All (λ u. order_of p u t ≡ false) l
unfolding All
all_none p h t [] = tt
all_none p h t (u ∷ l) = (rw (lt-ltb p wsl h), all_none p h t l)

-- a line of waiters is asked for no order here: its spot may depend on the edition
pub sorted-line : (p : ℕ) → p < wsl → (l : List Transaction) → Sorted (order_of p) l
unfolding Sorted
sorted-line p h [] = tt
sorted-line p h (t ∷ l) = (all_none p h t l, sorted-line p h l)

-- a list by priority and serial has any order that is asked of it
pub sorted-weaker : (p : ℕ) (l : List Transaction) → Sorted precedes l → Sorted (order_of p) l
sorted-weaker p l h = go (ltb p wsl) refl
  where
    go : (b : Bool) → ltb p wsl ≡ b → Sorted (order_of p) l
    go true e = sorted-line p (ltb-true p wsl e) l
    go false e = subst (λ (b : Bool). Sorted (λ x y. cond b false (precedes x y)) l) (sym e) h

-- the other lists are in order
pub line-sorted : (p : ℕ) (l : List Transaction) → wsl ≤ p → Sorted (order_of p) l → Sorted precedes l
line-sorted p l h s = subst (λ (b : Bool). Sorted (λ x y. cond b false (precedes x y)) l) (le-ltb p wsl h) s

module _ (order : ℕ → Transaction → Transaction → Bool) where
  -- only the lists below the FEL and the FEL itself are read
  pub ordered_ext : (T U : ℕ → List Transaction) (E F : List Event) → ((q : ℕ) → q < fel → T q ≡ U q) → E ≡ F → Ordered order T E
      → Ordered order U F
  ordered_ext T U E F lists future h =
      record {
        lists = λ q hq. subst (Sorted (order q)) (lists q hq) (h.lists q hq);
        future = subst (Strict earlier) future h.future;
      }

  -- one list changes
  pub ordered-list : (T : ℕ → List Transaction) (E : List Event) (p : ℕ) (l : List Transaction) → Sorted (order p) l
      → Ordered order T E
      → Ordered order (update p l T) E
  ordered-list T E p l sorted h = record { lists = λ q hq. go q (eqb q p) refl (h.lists q hq); future = h.future }
    where
      go : (q : ℕ) (t : Bool) → eqb q p ≡ t → Sorted (order q) (T q) → Sorted (order q) (cond t l (T q))
      go q true e was = rw (eqb-true q p e) sorted
      go q false e was = was

  pub ordered-fel : (T : ℕ → List Transaction) (E F : List Event) → Strict earlier F → Ordered order T E → Ordered order T F
  ordered-fel T E F strict h = record { lists = h.lists; future = strict }

  -- list p and REL change
  pub ordered-moved : (T : ℕ → List Transaction) (E : List Event) (p : ℕ) (l r : List Transaction) → Sorted (order p) l
      → Sorted (order rel) r → Ordered order T E
      → Ordered order (moved p l r T) E
  ordered-moved T E p l r sorted ready h =
      ordered-list (update p l T) E rel r ready (ordered-list T E p l sorted h)

-- ---- REL

pub wake-sorted : (l r : List Transaction) → Sorted precedes r → Sorted precedes (wake l r)
unfolding wake
wake-sorted [] r h = h
wake-sorted (t ∷ l) r h = wake-sorted l _ (insert-sorted precedes precedes-order _ r h)

pub arrivals-sorted : (l : List Event) (s : ℕ) (r : List Transaction) → Sorted precedes r → Sorted precedes (arrivals l s r)
unfolding arrivals
arrivals-sorted [] s r h = h
arrivals-sorted (e ∷ l) s r h = arrivals-sorted l _ _ (insert-sorted precedes precedes-order _ r h)

-- ---- The same lists; the rows compute

abbrev pub shows_ext : (w : List ℕ) (T U : ℕ → List Transaction) (E F : List Event) → ((q : ℕ) → q < fel → T q ≡ U q) → E ≡ F
    → Shows w T E
    → Shows w U F
shows_ext w T U E F lists future s =
    record {
      rows = s.rows;
      shown =
          subst (λ (e : List Event). Rattle.rows_laws.specs.Shows.Shown w s.rows U e) future
          (shown_ext w s.rows T U E lists s.shown);
      ordered = ordered_ext order_of T U E F lists future s.ordered;
    }
