-- Clock moves on the machine's lists: those of the first time are the front of the FEL, and `arrive_all` puts them on REL.
use Rattle.machine.specs.All.{ℕ, suc, ◌+◌, ◌≤◌, ◌≡◌, refl, sym, ap, ◌∙◌, Bool, true, false, cond, not, List, [], ◌∷◌, arith, ne_eqb, eqb-false, ltb-false, eqb, ltb, length, Event, earlier, those, others, State, set_rel, set_serial, to_rel, due, arrive_all}
use Rattle.rows_laws.specs.All.{arrivals, All, Sorted}
use Rattle.rows_laws.proofs.Order.SortedInsertion.{not-both}

-- ---- The machine's arrivals

-- all arrivals at once: only REL and the last serial differ afterwards
pub arrive_all-is : (l : List Event) (s : State)
    → arrive_all l s ≡ set_rel (arrivals l s.serial s.rel) (set_serial (s.serial + length l) s)
unfolding arrive_all arrivals to_rel
arrive_all-is [] s = ap (λ (n : ℕ). set_serial n s) (omega arith)
arrive_all-is (e ∷ l) s =
    arrive_all-is l (to_rel (Rattle.machine.specs.Setters.with_returning false e.who) s)
    ∙ ap (λ (n : ℕ). set_rel (arrivals (e ∷ l) s.serial s.rel) (set_serial n s)) (omega arith)

-- ---- Those of a time at the front of a list

unfoldable pub run : ℕ → List Event → List Event
run time [] = []
run time (e ∷ l) = cond (due time e) (e ∷ run time l) []

unfoldable pub left : ℕ → List Event → List Event
left time [] = []
left time (e ∷ l) = cond (due time e) (left time l) (e ∷ l)

-- no event of the list is before a time
abbrev From : ℕ → List Event → Type 0
From time l = All (λ e. time ≤ e.time) l

not_earlier : (a b : Event) → earlier a b ≡ false → b.time ≤ a.time
unfolding earlier
not_earlier a b h = go (ltb a.time b.time) refl
  where
    go : (t : Bool) → ltb a.time b.time ≡ t → b.time ≤ a.time
    go true e = not-both true refl (sym (rw e) ∙ h)
    go false e = ltb-false a.time b.time e

from_first : (time : ℕ) (e : Event) (l : List Event) → time ≤ e.time → All (λ y. earlier y e ≡ false) l → From time l
unfolding All
from_first time e [] h s = tt
from_first time e (y ∷ l) h s = (omega (arith, not_earlier y e s.0), from_first time e l h s.1)

-- all are later: none is due
none-due : (time : ℕ) (l : List Event) → From (suc time) l → those (due time) l ≡ []
unfolding All those due
none-due time [] h = refl
none-due time (e ∷ l) h =
    let k : suc time ≤ e.time = h.0 in
    rw (ne_eqb e.time time (λ q. omega (arith, k))) (none-due time l h.1)

all_left : (time : ℕ) (l : List Event) → From (suc time) l → others (due time) l ≡ l
unfolding All those due
all_left time [] h = refl
all_left time (e ∷ l) h =
    let k : suc time ≤ e.time = h.0 in
    rw (ne_eqb e.time time (λ q. omega (arith, k))) (ap (λ (m : List Event). e ∷ m) (all_left time l h.1))

-- in a sorted list they are all of that time
run-those : (time : ℕ) (l : List Event) → Sorted earlier l → From time l → run time l ≡ those (due time) l
unfolding run those due Sorted All
run-those time [] s h = refl
run-those time (e ∷ l) s h = go (eqb e.time time) refl (run-those time l s.1 h.1)
  where
    go : (t : Bool) → eqb e.time time ≡ t → run time l ≡ those (due time) l
        → cond t (e ∷ run time l) [] ≡ cond t (e ∷ those (due time) l) (those (due time) l)
    go true q rest = ap (λ (m : List Event). e ∷ m) rest
    go false q rest =
        let k : time ≤ e.time = h.0 in
        let d : suc time ≤ e.time = omega (arith, k, eqb-false e.time time q) in
        sym (none-due time l (from_first (suc time) e l d s.0))

left-others : (time : ℕ) (l : List Event) → Sorted earlier l → From time l → left time l ≡ others (due time) l
unfolding left those due Sorted All
left-others time [] s h = refl
left-others time (e ∷ l) s h = go (eqb e.time time) refl (left-others time l s.1 h.1)
  where
    go : (t : Bool) → eqb e.time time ≡ t → left time l ≡ others (due time) l
        → cond t (left time l) (e ∷ l) ≡ cond (not t) (e ∷ others (due time) l) (others (due time) l)
    go true q rest = rest
    go false q rest =
        let k : time ≤ e.time = h.0 in
        let d : suc time ≤ e.time = omega (arith, k, eqb-false e.time time q) in
        ap (λ (m : List Event). e ∷ m) (sym (all_left time l (from_first (suc time) e l d s.0)))

-- the first time of a sorted list
module _ (e : Event) (l : List Event) (sorted : Sorted earlier (e ∷ l)) where
  from : From e.time (e ∷ l)
  unfolding Sorted All
  from = (omega arith, from_first e.time e l (omega arith) sorted.0)

  pub run_is : run e.time (e ∷ l) ≡ those (due e.time) (e ∷ l)
  run_is = run-those e.time (e ∷ l) sorted from

  pub left_is : left e.time (e ∷ l) ≡ others (due e.time) (e ∷ l)
  left_is = left-others e.time (e ∷ l) sorted from
