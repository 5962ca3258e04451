-- The end before a turn over rows is the machine's.
use Rattle.machine.specs.All.{ℕ, ◌≡◌, refl, Bool, true, false, cond, not, ◌&&◌, List, Option, none, some, arith, lt-ltb, le-ltb, le-leb, lt-leb, ltb, leb, eqb, Transaction, State, is_none, is_empty, nobody_left, end_before_lem, sym, ap, ◌∙◌}
use Rattle.rows_laws.specs.All.{rel, first, fel}
use Rattle.rows_laws.proofs.Chains.TakeFirst.{Head, nobody, somebody, head-shown}
use Rattle.rows_laws.proofs.Heap.FutureEvents.{head-fel-shown}
use Rattle.state.specs.All.{Rows, lists_in, Moving, Listing, Stands}
use Rattle.engine_laws.specs.{nobody_rows, worn_rows, full_rows, limit_rows, end_rows}

-- ---- Nobody left

moving-none : (work : List ℕ) (k : ℕ) (o : Option Transaction) → Moving work k o → ltb k 1024 ≡ not (is_none o)
unfolding is_none
moving-none work k none e = le-ltb k 1024 (omega arith)
moving-none work k (some t) e = lt-ltb k 1024 e.0.row

list-empty : {A : Type 0} {w : List ℕ} {p : ℕ} {f : ℕ → A} {l : List A} → Head w p f l → ltb (first w p) 1024 ≡ not (is_empty l)
unfolding is_empty
list-empty {w = w} {p = p} (nobody e n) = le-ltb (first w p) 1024 n ∙ ap (λ l. not (is_empty l)) (sym e)
list-empty {w = w} {p = p} (somebody m e n) = lt-ltb (first w p) 1024 n ∙ ap (λ l. not (is_empty l)) (sym e)

fel-empty : {A : Type 0} {w : List ℕ} {p : ℕ} {f : ℕ → A} {l : List A} → Head w p f l → leb 1024 (first w p) ≡ is_empty l
unfolding is_empty
fel-empty {w = w} {p = p} (nobody e n) = le-leb 1024 (first w p) n ∙ ap is_empty (sym e)
fel-empty {w = w} {p = p} (somebody m e n) = lt-leb 1024 (first w p) n ∙ ap is_empty (sym e)

three : (a b c : Bool) → cond (not a) false (cond (not b) false c) ≡ (a && b && c)
three true true c = refl
three true false true = refl
three true false false = refl
three false true true = refl
three false true false = refl
three false false true = refl
three false false false = refl

-- dry over the rows is dry of the machine: nobody moves, REL and the FEL are empty
pub nobody-left : (work : List ℕ) (moving : ℕ) (s : State) → Listing work moving s.moving s → nobody_rows work moving ≡ nobody_left s
unfolding nobody_rows nobody_left lists_in
nobody-left work moving s h =
    let rel-is : ltb (first work rel) 1024 ≡ not (is_empty s.rel) =
    list-empty (head-shown work _ _ _ h.shows.shown rel (omega arith)) in
    rw (
      moving-none work moving s.moving h.mover,
      rel-is,
      fel-empty (head-fel-shown work _ _ _ h.shows.shown h.shows.ordered.future),
    )
    (three (is_none s.moving) (is_empty s.rel) (is_empty s.fel))

-- ---- The end

turned : {A : Type 0} (a : Bool) (x y : A) → cond a x y ≡ cond (not a) y x
turned true x y = refl
turned false x y = refl

module _ (tape_bytes : List ℕ) (r : Rows) (s : State) (stands : Stands tape_bytes r s.moving s) where
  -- the question before a turn has one answer over rows and state, in the same order of limits
  pub end_before : (budget room : ℕ) → end_rows r.work r.scalars budget room ≡ end_before_lem budget room s
  unfolding end_rows limit_rows worn_rows full_rows end_before_lem
  end_before budget room =
      rw (
        nobody-left r.work r.scalars.moving s stands.listing,
        stands.counting.end,
        stands.counting.serial,
        stands.counting.turns,
        stands.counting.used,
      )
      (turned (eqb s.end 0) _ _)
