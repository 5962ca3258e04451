-- A sorted list whose last stands before the first of another: who wakes it into the other puts it before all of it, each one marked.
use Rattle.machine.specs.All.{◌≡◌, refl, sym, ap, ◌∙◌, Bool, true, false, List, [], ◌∷◌, ◌++◌, map, append_assoc, Transaction, precedes, with_returning, insert, wake}
use Rattle.rows_laws.specs.All.{All, Sorted}
use Rattle.rows_laws.proofs.{Order.SortedInsertion.append-all, Order.SortedInsertion.last_of, Order.SortedInsertion.not-both, Order.RowOrders.precedes-order}

-- the mark says nothing of who stands before whom
marked-before : (a b : Transaction) → precedes (with_returning true a) b ≡ precedes a b
unfolding precedes
marked-before a b = refl

before-marked : (a b : Transaction) → precedes a (with_returning true b) ≡ precedes a b
unfolding precedes
before-marked a b = refl

-- one stands before the first of a list
unfoldable pub Leads : Transaction → List Transaction → Type 0
Leads t [] = Unit {0}
Leads t (r ∷ l) = precedes t r ≡ true

-- one that stands before nobody of a, and before the first of r
insert-between : (t : Transaction) (a r : List Transaction) → All (λ u. precedes t u ≡ false) a → Leads t r
    → insert precedes t (a ++ r) ≡ a ++ t ∷ r
unfolding All Leads insert
insert-between t [] [] n h = refl
insert-between t [] (u ∷ r) n h = rw h
insert-between t (u ∷ a) r n h = rw n.0 (ap (λ (l : List Transaction). u ∷ l) (insert-between t a r n.1 h))

all-marked : (t : Transaction) (a : List Transaction) → All (λ u. precedes t u ≡ false) a
    → All (λ u. precedes (with_returning true t) u ≡ false) a
unfolding All
all-marked t [] h = tt
all-marked t (u ∷ a) h = (marked-before t u ∙ h.0, all-marked t a h.1)

leads-marked : (t : Transaction) (r : List Transaction) → Leads t r → Leads (with_returning true t) r
unfolding Leads
leads-marked t [] h = tt
leads-marked t (u ∷ r) h = marked-before t u ∙ h

-- those behind stand before nobody of a, nor before the one ahead of them
one_more : (t : Transaction) (a l : List Transaction) → All (λ x. All (λ u. precedes x u ≡ false) a) l
    → All (λ x. precedes x t ≡ false) l
    → All (λ x. All (λ u. precedes x u ≡ false) (a ++ with_returning true t ∷ [])) l
unfolding All
one_more t a [] h g = tt
one_more t a (x ∷ l) h g = (
  append-all (λ u. precedes x u ≡ false) a (with_returning true t ∷ []) h.0 (before-marked x t ∙ g.0, tt),
  one_more t a l h.1 g.1,
)

wake-behind : (l a r : List Transaction) → Sorted precedes l → All (λ x. All (λ u. precedes x u ≡ false) a) l → All (λ x. Leads x r) l
    → wake l (a ++ r) ≡ a ++ (map (with_returning true) l ++ r)
unfolding wake All Sorted
wake-behind [] a r sorted n h = refl
wake-behind (t ∷ l) a r sorted n h =
    ap (wake l)
    (insert-between (with_returning true t) a r (all-marked t a n.0) (leads-marked t r h.0)
    ∙ sym (append_assoc a (with_returning true t ∷ []) r))
    ∙ wake-behind l (a ++ with_returning true t ∷ []) r sorted.1 (one_more t a l n.1 sorted.0) h.1
    ∙ append_assoc a (with_returning true t ∷ []) _

all-empty : (l : List Transaction) → All (λ x. All (λ u. precedes x u ≡ false) []) l
unfolding All
all-empty [] = tt
all-empty (x ∷ l) = (tt, all-empty l)

all-leads : (l : List Transaction) → All (λ x. Leads x []) l
unfolding All Leads
all-leads [] = tt
all-leads (x ∷ l) = (tt, all-leads l)

last-not : (x y : Transaction) (l : List Transaction) → All (λ u. precedes u x ≡ false) (y ∷ l) → precedes (last_of y l) x ≡ false
unfolding All last_of
last-not x y [] h = h.0
last-not x y (z ∷ l) h = last-not x z l h.1

-- where the last of a sorted list stands before r, all do
last-leads : (r : Transaction) (t : Transaction) (l : List Transaction) → Sorted precedes (t ∷ l) → precedes (last_of t l) r ≡ true
    → All (λ x. precedes x r ≡ true) (t ∷ l)
unfolding All Sorted last_of
last-leads r t [] sorted h = (h, tt)
last-leads r t (u ∷ l) sorted h = (go (precedes t r) refl, last-leads r u l sorted.1 h)
  where
    go : (b : Bool) → precedes t r ≡ b → precedes t r ≡ true
    go true e = e
    go false e = not-both _ (precedes-order.through (last_of u l) t r h e) (last-not t u l sorted.0)

all_lead : (r : Transaction) (m l : List Transaction) → All (λ x. precedes x r ≡ true) l → All (λ x. Leads x (r ∷ m)) l
unfolding All Leads
all_lead r m [] h = tt
all_lead r m (x ∷ l) h = (h.0, all_lead r m l h.1)

-- a sorted list whose last stands before the first of r goes before r
pub wake-before : (t : Transaction) (l r : List Transaction) → Sorted precedes (t ∷ l) → Leads (last_of t l) r
    → wake (t ∷ l) r ≡ map (with_returning true) (t ∷ l) ++ r
unfolding Leads
wake-before t l [] sorted h = wake-behind (t ∷ l) [] [] sorted (all-empty _) (all-leads _)
wake-before t l (u ∷ r) sorted h = wake-behind (t ∷ l) [] (u ∷ r) sorted (all-empty _) (all_lead u r _ (last-leads u t l sorted h))
