-- The first of a list, and taking it: the machine's head and tail.
use Rattle.machine.specs.All.{ℕ, ◌≤◌, ◌<◌, ◌≡◌, refl, sym, ap, ◌∙◌, ◌≢◌, List, [], ◌∷◌, map, arith, drop, Transaction, Event}
use Rattle.rows_laws.specs.All.{head, fel, free, list_count, first, take_first, transaction_at, Chain, ending, Listed, Holds, update, Shown, Loose}
use Rattle.rows_laws.proofs as our
use our.Chains.InsertRemove.{Kept, remove-holds, remove-keeps, remove-placed}
use our.Chains.Showing.{shown-list, shown-free}
use mathlib.Core.Path.{subst}

-- ---- Rows

-- a list has no first row, or this one
pub data First (w : List ℕ) (p : ℕ) (l : List ℕ) : Type 0 where
  none : l ≡ [] → 1024 ≤ first w p → First w p l
  some : (m : List ℕ) → l ≡ first w p ∷ m → first w p < 1024 → First w p l

-- on a list other than the FEL the head cell names the first row, or none
pub first_of : (w : List ℕ) (p : ℕ) (l : List ℕ) → p ≢ fel → Listed w p l → First w p l
unfolding Chain
first_of w p l d one = go l refl (one.chain d)
  where
    go : (m : List ℕ) → l ≡ m → Chain w (head p) m → First w p l
    go [] e c = none e c
    go (k ∷ m) e c = some m (e ∙ ap (λ (x : ℕ). x ∷ m) (sym c.0)) (omega (arith, c.0, c.1))

module _ (w : List ℕ) (L : ℕ → List ℕ) (h : Holds w L) (p : ℕ) (hp : p < list_count) (chained : p ≢ fel) (m : List ℕ)
    (e : L p ≡ first w p ∷ m) (hk : first w p < 1024) where
  pub take-holds : Holds (take_first w p) (update p m L)
  unfolding ending
  take-holds = remove-holds w L h p (first w p) [] m hp chained hk e

  pub take-keeps : Kept w (take_first w p) (first w p)
  unfolding ending
  take-keeps = remove-keeps w L h p (first w p) [] m hp chained hk e

  pub take-loose : Loose (take_first w p) (first w p)
  unfolding ending
  take-loose = record { row = hk; off = remove-placed w L h p (first w p) [] m hp chained hk e }

-- ---- The machine's lists

-- the first of a list is none, or a row that is its head
pub data Head {A : Type 0} (w : List ℕ) (p : ℕ) (f : ℕ → A) (l : List A) : Type 0 where
  nobody : l ≡ [] → 1024 ≤ first w p → Head w p f l
  somebody : (m : List A) → l ≡ f (first w p) ∷ m → first w p < 1024 → Head w p f l

-- the first row shows the head of the machine's list
pub head_of : {A : Type 0} (w : List ℕ) (p : ℕ) (f : ℕ → A) (l : List ℕ) (l' : List A) → First w p l → map f l ≡ l' → Head w p f l'
head_of w p f l l' one e = go one
  where
    go : First w p l → Head w p f l'
    go (none q n) = nobody (sym e ∙ ap (map f) q) n
    go (some m q n) = somebody (map f m) (sym e ∙ ap (map f) q) n

module _ (w : List ℕ) (L : ℕ → List ℕ) (T : ℕ → List Transaction) (E : List Event) (s : Shown w L T E) where
  pub head-shown : (p : ℕ) → p < 770 → Head w p (transaction_at w) (T p)
  head-shown p hp =
      head_of w p (transaction_at w) (L p) (T p) (first_of w p (L p) (λ e. omega arith) (s.holds.listed p (omega arith))) (s.lists p hp)

  -- a row in the head cell is the first of the list
  pub rows-first : (p : ℕ) → p < list_count → p ≢ fel → first w p < 1024 → (m : List ℕ) × (L p ≡ first w p ∷ m)
  rows-first p hp d n = go (first_of w p (L p) d (s.holds.listed p hp))
    where
      go : First w p (L p) → (m : List ℕ) × (L p ≡ first w p ∷ m)
      go (none q k) = absurd (omega arith)
      go (some m q k) = (m, q)

  module _ (p : ℕ) (hl : p < list_count) (chained : p ≢ fel) (m : List ℕ) (e : L p ≡ first w p ∷ m) (n : first w p < 1024) where
    -- the list loses its head
    pub take-shown : p < 770 → Shown (take_first w p) (update p m L) (update p (drop 1 (T p)) T) E
    take-shown hp =
        subst (λ (l : List Transaction). Shown (take_first w p) (update p m L) (update p l T) E)
        (ap (λ (l : List ℕ). drop 1 (map (transaction_at w) l)) (sym e) ∙ ap (drop 1) (s.lists p hp))
        (shown-list w (take_first w p) L T E s p m (take-holds w L s.holds p hl chained m e n)
        (take-keeps w L s.holds p hl chained m e n).rows hp)

    -- a free row: the machine's lists stay
    pub take-free-shown : p ≡ free → Shown (take_first w p) (update p m L) T E
    take-free-shown =
        shown-free w (take_first w p) L T E s p m (take-holds w L s.holds p hl chained m e n)
        (take-keeps w L s.holds p hl chained m e n).rows
