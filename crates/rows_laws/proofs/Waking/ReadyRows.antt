-- A whole list goes to REL: what finding its rows by their places leaves of the buffer.
use Rattle.machine.specs.All.{ℕ, zero, suc, ◌+◌, ◌*◌, ◌-◌, ◌≤◌, ◌<◌, ◌≡◌, refl, sym, ap, ap₂, ◌∙◌, ◌≢◌, Bool, true, false, cond, cases, decided, List, add-zero, add-suc, arith, ℕ_discrete, ltb-true, ltb-false, ne_eqb, eqb-true, ltb, eqb, length}
use Rattle.rows_laws.specs.All.{Room, place, list_count, standing_field, field_at, load, store, read, part_count, ready_place, ready_standing, one_if, ready_row, ready_rows, ready_count, ready_parts, same, sum_to, Holds}
use Rattle.rows_laws.proofs.{Counting.Occurs.same_refl, Counting.Population.on_list, Buffer.Store.length-store, Buffer.Store.load_same, Buffer.Store.load-other, Counting.Sums.sum-suc, Counting.Sums.sum_ext}

-- every row whose place was list p is on REL and returning, and nothing else has changed
pub record Readied (w w' : List ℕ) (p : ℕ) : Type 0 where
  pub size : length w' ≡ length w
  pub places : (k : ℕ) → k < 1024 → load w' (place k) ≡ ready_place p (load w (place k))
  pub standings : (k : ℕ) → k < 1024 → read w' standing_field k ≡ ready_standing p (load w (place k)) (read w standing_field k)
  pub kept : (i : ℕ) → ((k : ℕ) → k < 1024 → i ≢ place k) → ((k : ℕ) → k < 1024 → i ≢ field_at standing_field k) → load w' i ≡ load w i

-- ---- Rows of a range

-- the same of rows lo..hi - 1
record Between (w w' : List ℕ) (p lo hi : ℕ) : Type 0 where
  size : length w' ≡ length w
  places : (k : ℕ) → lo ≤ k → k < hi → load w' (place k) ≡ ready_place p (load w (place k))
  standings : (k : ℕ) → lo ≤ k → k < hi → read w' standing_field k ≡ ready_standing p (load w (place k)) (read w standing_field k)
  kept : (i : ℕ) → ((k : ℕ) → lo ≤ k → k < hi → i ≢ place k) → ((k : ℕ) → lo ≤ k → k < hi → i ≢ field_at standing_field k)
      → load w' i ≡ load w i

-- one row
row-between : (w : List ℕ) (p k : ℕ) → Room w → k < 1024 → Between w (ready_row w p k) p k (suc k)
unfolding ready_row
row-between w p k room hk =
    record {
      size = length-store v (field_at standing_field k) y ∙ length-store w (place k) x;
      places = λ j a b. go j (omega arith);
      standings = λ j a b. stand j (omega arith);
      kept =
          λ i f g. load-other v (field_at standing_field k) y i (g k (omega arith) (omega arith))
          ∙ load-other w (place k) x i (f k (omega arith) (omega arith));
    }
  where
    x : ℕ
    x = ready_place p (load w (place k))

    y : ℕ
    y = ready_standing p (load w (place k)) (read w standing_field k)

    v : List ℕ
    v = store w (place k) x

    go : (j : ℕ) → j ≡ k → load (store v (field_at standing_field k) y) (place j) ≡ ready_place p (load w (place j))
    go j e = rw e (load-other v (field_at standing_field k) y (place k) (λ f. omega arith) ∙ load_same w (place k) x room (omega arith))

    stand : (j : ℕ) → j ≡ k
        → read (store v (field_at standing_field k) y) standing_field j ≡ ready_standing p (load w (place j)) (read w standing_field j)
    stand j e = rw e (load_same v (field_at standing_field k) y (omega (arith, length-store w (place k) x)) (omega arith))

-- row k is in one of two ranges, not in both
data Side (k a b c d : ℕ) : Type 0 where
  before : a ≤ k → k < b → (c ≤ k → k < d → ⊥) → Side k a b c d
  after : c ≤ k → k < d → (a ≤ k → k < b → ⊥) → Side k a b c d

-- two ranges, one after the other, are one
join : (w v u : List ℕ) (p a b c d lo hi : ℕ) → Between w v p a b → Between v u p c d → lo ≤ a → b ≤ hi → lo ≤ c → d ≤ hi → hi ≤ 1024
    → ((k : ℕ) → lo ≤ k → k < hi → Side k a b c d)
    → Between w u p lo hi
join w v u p a b c d lo hi f g la bh lc dh end side =
    record {
      size = g.size ∙ f.size;
      places = λ k l h. at k h (side k l h);
      standings = λ k l h. stand k h (side k l h);
      kept =
          λ i m n. g.kept i (λ k l h. m k (omega arith) (omega arith)) (λ k l h. n k (omega arith) (omega arith))
          ∙ f.kept i (λ k l h. m k (omega arith) (omega arith)) (λ k l h. n k (omega arith) (omega arith));
    }
  where
    place-later : (k : ℕ) → k < hi → (c ≤ k → k < d → ⊥) → load u (place k) ≡ load v (place k)
    place-later k h n = g.kept (place k) (λ j l m e. n (omega arith) (omega arith)) (λ j l m e. omega arith)

    place-sooner : (k : ℕ) → k < hi → (a ≤ k → k < b → ⊥) → load v (place k) ≡ load w (place k)
    place-sooner k h n = f.kept (place k) (λ j l m e. n (omega arith) (omega arith)) (λ j l m e. omega arith)

    at : (k : ℕ) → k < hi → Side k a b c d → load u (place k) ≡ ready_place p (load w (place k))
    at k h (before l m n) = place-later k h n ∙ f.places k l m
    at k h (after l m n) = g.places k l m ∙ ap (ready_place p) (place-sooner k h n)

    stand : (k : ℕ) → k < hi → Side k a b c d → read u standing_field k ≡ ready_standing p (load w (place k)) (read w standing_field k)
    stand k h (before l m n) =
        g.kept (field_at standing_field k) (λ j q r e. omega arith) (λ j q r e. n (omega arith) (omega arith)) ∙ f.standings k l m
    stand k h (after l m n) =
        g.standings k l m
        ∙ ap₂ (ready_standing p) (place-sooner k h n)
        (f.kept (field_at standing_field k) (λ j q r e. omega arith) (λ j q r e. n (omega arith) (omega arith)))

-- an empty range
between_refl : (w : List ℕ) (p lo : ℕ) → Between w w p lo lo
between_refl w p lo =
    record {
      size = refl;
      places = λ k l h. absurd (omega arith);
      standings = λ k l h. absurd (omega arith);
      kept = λ i f g. refl;
    }

-- ---- A part

-- n rows
rows-between : (n : ℕ) (w : List ℕ) (p from : ℕ) → Room w → from + n ≤ 1024 → Between w (ready_rows n w p from) p from (from + n)
unfolding ready_rows
rows-between zero w p from room h = rw (add-zero from) (between_refl w p from)
rows-between (suc n) w p from room h =
    let rest = rows-between n w p from room (omega arith) in
    join w (ready_rows n w p from) _ p from (from + n) (from + n) (suc (from + n)) from (from + suc n) rest
    (row-between (ready_rows n w p from) p (from + n) (omega (arith, rest.size)) (omega arith)) (omega arith) (omega arith) (omega arith)
    (omega arith) h side
  where
    side : (k : ℕ) → from ≤ k → k < from + suc n → Side k from (from + n) (from + n) (suc (from + n))
    side k l m =
        cases (ltb k (from + n))
        (λ e. let q = ltb-true k (from + n) e in before l q (λ x y. omega arith))
        (λ e. let q = ltb-false k (from + n) e in after q (omega arith) (λ x y. omega arith))

-- 1 for a row on list p
abbrev on : List ℕ → (p k : ℕ) → ℕ
on w p k = same (load w (place k)) p

-- the rows on list p among n rows are as many as are counted
count-sum : (n : ℕ) (w : List ℕ) (p from : ℕ) → Room w → from + n ≤ 1024
    → sum_to (from + n) (on w p) ≡ sum_to from (on w p) + ready_count n w p from
unfolding ready_count one_if
count-sum zero w p from room h = rw (add-zero from) (omega arith)
count-sum (suc n) w p from room h =
    let was : load (ready_rows n w p from) (place (from + n)) ≡ load w (place (from + n)) =
    (rows-between n w p from room (omega arith)).kept (place (from + n)) (λ k l m e. omega arith) (λ k l m e. omega arith) in
    let one : one_if p (load (ready_rows n w p from) (place (from + n))) ≡ on w p (from + n) = ap (λ (q : ℕ). same q p) was in
    rw (add-suc from n) (omega (arith, sum-suc (from + n) (on w p), count-sum n w p from room (omega arith), one))

-- ---- All parts

-- a sum that is 0 has only zeros
zeros : (n : ℕ) (f : ℕ → ℕ) → sum_to n f ≡ 0 → (k : ℕ) → k < n → f k ≡ 0
zeros zero f e k h = absurd (omega arith)
zeros (suc n) f e k h =
    let s = sum-suc n f in
    decided (ℕ_discrete k n) (λ q. ap f q ∙ omega (arith, s)) (λ d. zeros n f (omega arith) k (omega arith))

-- where no row is on list p, nothing is to be done
none_between : (w : List ℕ) (p hi : ℕ) → sum_to hi (on w p) ≡ 0 → Between w w p 0 hi
unfolding ready_place ready_standing
none_between w p hi e =
    record {
      size = refl;
      places = λ k l h. rw (ne_eqb (load w (place k)) p (other k h));
      standings = λ k l h. rw (ne_eqb (load w (place k)) p (other k h));
      kept = λ i f g. refl;
    }
  where
    other : (k : ℕ) → k < hi → load w (place k) ≢ p
    other k h q = omega (arith, zeros hi (on w p) e k h, same_refl (load w (place k)) p q)

-- n parts, if so many rows of theirs are on list p
parts-between : (n : ℕ) (w : List ℕ) (p left : ℕ) → Room w → n ≤ 4 → left ≡ sum_to (256 * n) (on w p)
    → Between w (ready_parts n w p left) p 0 (256 * n)
unfolding ready_parts
parts-between zero w p left room h e = between_refl w p 0
parts-between (suc n) w p left room h e =
    let v = ready_rows 256 w p (256 * n) in
    let part = rows-between 256 w p (256 * n) room (omega arith) in
    let all : sum_to (256 * suc n) (on w p) ≡ sum_to (256 * n) (on w p) + ready_count 256 w p (256 * n) =
    ap (λ (m : ℕ). sum_to m (on w p)) (omega arith) ∙ count-sum 256 w p (256 * n) room (omega arith) in
    let rest : sum_to (256 * n) (on v p) ≡ sum_to (256 * n) (on w p) =
    sum_ext (256 * n) (on v p) (on w p)
    (λ k m. ap (λ (q : ℕ). same q p) (part.kept (place k) (λ j l o r. omega arith) (λ j l o r. omega arith))) in
    go (eqb left 0) refl v _ part
    (parts-between n v p (left - ready_count 256 w p (256 * n)) (omega (arith, part.size)) (omega arith) (omega (arith, all, rest)))
  where
    go : (t : Bool) → eqb left 0 ≡ t → (v u : List ℕ) → Between w v p (256 * n) (256 * n + 256) → Between v u p 0 (256 * n)
        → Between w (cond t w u) p 0 (256 * suc n)
    go true q v u part others = none_between w p (256 * suc n) (sym e ∙ eqb-true left 0 q)
    go false q v u part others =
        join w v u p (256 * n) (256 * n + 256) 0 (256 * n) 0 (256 * suc n) part others (omega arith) (omega arith) (omega arith)
        (omega arith) (omega arith) side
      where
        side : (k : ℕ) → 0 ≤ k → k < 256 * suc n → Side k (256 * n) (256 * n + 256) 0 (256 * n)
        side k l m =
            cases (ltb k (256 * n))
            (λ lt. let q = ltb-true k (256 * n) lt in after l q (λ x y. omega arith))
            (λ ge. let q = ltb-false k (256 * n) ge in before q (omega arith) (λ x y. omega arith))

-- finding the rows of list p, which has so many, is as said
pub parts-readied : (w : List ℕ) (L : ℕ → List ℕ) → Holds w L → (p : ℕ) → p < list_count
    → Readied w (ready_parts part_count w p (length (L p))) p
parts-readied w L h p hp =
    let r = parts-between 4 w p (length (L p)) h.room (omega arith) (sym (on_list w L h p hp)) in
    record {
      size = r.size;
      places = λ k m. r.places k (omega arith) m;
      standings = λ k m. r.standings k (omega arith) m;
      kept = λ i f g. r.kept i (λ k l. f k) (λ k l. g k);
    }
