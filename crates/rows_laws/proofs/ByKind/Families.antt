-- The gatherers' lists (document 02, item 8): the first of a family, its count, and the one that goes on to REL.
use Rattle.machine.specs.All.{ℕ, ◌+◌, ◌≤◌, ◌<◌, ◌≡◌, refl, ap, ◌∙◌, ◌≢◌, Bool, true, false, cond, List, [], ◌∷◌, ◌++◌, map, map-append, arith, eqb-true, eqb-false, eqb, Transaction, Event, precedes, with_next, insert}
use Rattle.rows_laws.specs.All.{list_count, place, head, rel, fel, field_at, load, read, write, remove_at, put, in_family, family_cell, transaction_at, event_at, occurs, ending, Listed, Holds, update, All, Sorted, order_of, Shows, moved}
use Rattle.rows_laws.proofs as our
use our.{Buffer.Store.load-other, Order.SortedInsertion.sorted-without, Placing.FirstThatPasses.Found, Placing.FirstThatPasses.found, Order.StayInOrder.ordered-list, Chains.StructuralLaw.row_of, Buffer.FieldWrites.write-next, Chains.InsertRemove.remove-holds, Chains.InsertRemove.remove-keeps, Chains.Showing.shown-list, Chains.Showing.update_other, Buffer.RowWrites.row_other, Buffer.RowWrites.write-holds, Placing.Put.put-placed, Life.Making.Written}
use our.Counting.Occurs.{same_refl, same-other, same-le, occurs-append, occurs-cons}
use our.Buffer.RowData.{transaction-kept, event-kept, map-kept}
use our.Life.LooseRowsStay.{around_trans, write-around, around-steady}
use our.Laws.{Wakes, Takes, Puts, takes, put-shows}
use mathlib.Core.Path.{sym, subst}

-- ---- The first of a family

abbrev pub Other : List ℕ → ℕ → ℕ → Type 0
Other w f k = eqb (read w 10 k) f ≡ false

-- a list has none of a family, or this row is the first
abbrev pub Kin : (w : List ℕ) (p f : ℕ) (l : List ℕ) → Type 0
Kin w p f l = Found w p (λ k. eqb (read w 10 k) f) (family_cell w p f) l

-- a walk from the head finds the first member of family f, or the end of the list
pub kin_of : (w : List ℕ) (p f : ℕ) → p ≢ fel → (l : List ℕ) → Listed w p l → Kin w p f l
unfolding family_cell in_family
kin_of w p f chained l one = found w p (in_family w f) chained l one

-- ---- Its count: the next block of a row that stands on a list is written

module _ {A : Type 0} (r : A → A → Bool) (y y' : A) (from : (z : A) → r z y' ≡ r z y) (to : (z : A) → r y' z ≡ r y z) where
  all_as : (u : A) (a b : List A) → All (λ z. r z u ≡ false) (a ++ y ∷ b) → All (λ z. r z u ≡ false) (a ++ y' ∷ b)
  unfolding All
  all_as u [] b h = (to u ∙ h.0, h.1)
  all_as u (x ∷ a) b h = (h.0, all_as u a b h.1)

  behind_as : (b : List A) → All (λ z. r z y ≡ false) b → All (λ z. r z y' ≡ false) b
  unfolding All
  behind_as [] h = tt
  behind_as (z ∷ b) h = (from z ∙ h.0, behind_as b h.1)

  sorted_as : (a b : List A) → Sorted r (a ++ y ∷ b) → Sorted r (a ++ y' ∷ b)
  unfolding Sorted
  sorted_as [] b h = (behind_as b h.0, h.1)
  sorted_as (u ∷ a) b h = (all_as u a b h.0, sorted_as a b h.1)

module _ (w : List ℕ) (T : ℕ → List Transaction) (E : List Event) (s : Shows w T E) (p k : ℕ) (a b : List ℕ) (hp : p < 770)
    (hk : k < 1024) (was : s.rows p ≡ a ++ k ∷ b) where
  abbrev L : ℕ → List ℕ
  L = s.rows

  h : Holds w L
  h = s.shown.holds

  hl : p < list_count
  hl = omega arith

  chained : p ≢ fel
  chained e = omega arith

  at : load w (place k) ≡ p
  at =
      (row_of w p a (k ∷ b) (rw was at (h.listed p hl)) k
      (omega (arith, occurs-append k a (k ∷ b), occurs-cons k k b, same_refl k k refl))).1

  module _ (x : ℕ) where
    abbrev w' : List ℕ
    w' = write w 6 k x

    -- the rows of a list that does not hold row k
    apart : (q : ℕ) → q < list_count → q ≢ p → (j : ℕ) → 1 ≤ occurs j (L q) → (j < 1024) × (j ≢ k)
    apart q hq d j m =
        let row : j < 1024 = (h.listed q hq).row j m in (
          row,
          λ e. omega (
            arith,
            (h.listed q hq).once j row,
            same-other (load w (place j)) q (λ z. d (sym z ∙ ap (λ (i : ℕ). load w (place i)) e ∙ at)),
          ),
        )

    -- the others of its own list
    beside : (j : ℕ) → 1 ≤ occurs j a + occurs j b → (j < 1024) × (j ≢ k)
    beside j m =
        let whole : occurs j (L p) ≡ occurs j a + occurs j (k ∷ b) = ap (occurs j) was ∙ occurs-append j a (k ∷ b) in
        let row : j < 1024 = (h.listed p hl).row j (omega (arith, whole, occurs-cons j k b)) in
        (row, λ e. omega (arith, (h.listed p hl).once j row, same-le (load w (place j)) p, occurs-cons j k b, same_refl j k e))

    part : (l : List ℕ) → ((j : ℕ) → 1 ≤ occurs j l → (j < 1024) × (j ≢ k)) → map (transaction_at w') l ≡ map (transaction_at w) l
    part l other =
        map-kept (transaction_at w') (transaction_at w) l
        (λ j m. transaction-kept w w' j (row_other w 6 k x j hk (other j m).0 (other j m).1))

    abbrev counted : List Transaction
    counted = map (transaction_at w) a ++ with_next x (transaction_at w k) ∷ map (transaction_at w) b

    own : map (transaction_at w') (a ++ k ∷ b) ≡ counted
    own =
        map-append (transaction_at w') a (k ∷ b)
        ∙ rw (part a (λ j m. beside j (omega arith)), part b (λ j m. beside j (omega arith)), write-next w k h.room hk x)

    count-shows : Shows w' (update p counted T) E
    count-shows =
        record {
          rows = L;
          shown =
              record {
                holds = write-holds w 6 k x (omega arith) hk (λ e. omega (arith, at)) L h;
                lists = λ q hq. go q hq (eqb q p) refl;
                future =
                    map-kept (event_at w') (event_at w) (L fel)
                    (λ j m.
                    let o = apart fel (omega arith) (λ e. omega arith) j m in event-kept w w' j (row_other w 6 k x j hk o.0 o.1))
                    ∙ s.shown.future;
              };
          ordered =
              ordered-list order_of T E p counted
              (sorted_as (order_of p) (transaction_at w k) (with_next x (transaction_at w k)) (λ z. unfold precedes in refl)
              (λ z. unfold precedes in refl) (map (transaction_at w) a) (map (transaction_at w) b)
              (subst (Sorted (order_of p))
              (sym (s.shown.lists p hp) ∙ ap (map (transaction_at w)) was ∙ map-append (transaction_at w) a (k ∷ b))
              (s.ordered.lists p hp)))
              s.ordered;
        }
      where
        go : (q : ℕ) → q < 770 → (t : Bool) → eqb q p ≡ t → map (transaction_at w') (L q) ≡ cond t counted (T q)
        go q hq true e = ap (λ (i : ℕ). map (transaction_at w') (L i)) (eqb-true q p e) ∙ ap (map (transaction_at w')) was ∙ own
        go q hq false e = part (L q) (apart q (omega arith) (eqb-false q p e)) ∙ s.shown.lists q hq

    pub counts-shows : Wakes w w' (update p counted T) E
    counts-shows =
        record {
          shows = count-shows;
          steady =
              around-steady w w' k hk (omega (arith, at)) (omega (arith, load-other w (field_at 6 k) x (place k) (λ e. omega arith), at))
              (write-around w 6 k x (omega arith) hk);
        }

  -- ---- The one that goes on: from its list, with data written, to REL

  module _ (v : List ℕ) (written : Written (remove_at w p (ending (head p) a)) v k) (elsewhere : rel ≢ p) where
    abbrev w₁ : List ℕ
    w₁ = remove_at w p (ending (head p) a)

    abbrev left : List Transaction
    left = map (transaction_at w) (a ++ b)

    abbrev U : ℕ → List Transaction
    U = update p left T

    without-shows : Shows w₁ U E
    without-shows =
        record {
          rows = update p (a ++ b) L;
          shown =
              shown-list w w₁ L T E s.shown p (a ++ b) (remove-holds w L h p k a b hl chained hk was)
              (remove-keeps w L h p k a b hl chained hk was).rows hp;
          ordered =
              ordered-list order_of T E p left
              (rw (map-append (transaction_at w) a b)
              (sorted-without (order_of p) (map (transaction_at w) a) (transaction_at w k) (map (transaction_at w) b)
              (subst (Sorted (order_of p))
              (sym (s.shown.lists p hp) ∙ ap (map (transaction_at w)) was ∙ map-append (transaction_at w) a (k ∷ b))
              (s.ordered.lists p hp))))
              s.ordered;
        }

    taken : Takes w w₁ k U E
    taken = takes w T E s p k a b hl chained hk was U E without-shows

    written-shows : Shows v U E
    written-shows =
        record {
          rows = without-shows.rows;
          shown = written.shown without-shows.rows U E taken.off without-shows.shown;
          ordered = without-shows.ordered;
        }

    puts : Puts v (put v rel k) k (update rel (insert precedes (transaction_at v k) (U rel)) U) E
    puts = put-shows v U E written-shows k (written.loose taken.off) rel (omega arith) (written-shows.ordered.lists rel (omega arith))

    -- the first of a family goes from the gatherers to REL
    pub release-shows : Wakes w (put v rel k) (moved p left (insert precedes (transaction_at v k) (T rel)) T) E
    release-shows =
        record {
          shows =
              subst (λ (l : List Transaction). Shows (put v rel k) (update rel (insert precedes (transaction_at v k) l) U) E)
              (update_other p left T rel elsewhere) puts.shows;
          steady =
              around-steady w (put v rel k) k hk (omega (arith, at))
              (omega (
                arith,
                put-placed v written-shows.rows written-shows.shown.holds rel k (omega arith) (λ e. omega arith)
                    (written.loose taken.off),
              ))
              (around_trans w w₁ (put v rel k) k taken.around (around_trans w₁ v (put v rel k) k written.around puts.around));
        }
