-- A free row becomes a transaction beside whoever moves: taken from the free rows, written, and put on the FEL or on REL.
use Rattle.machine.specs.All.{ℕ, suc, ◌+◌, ◌-◌, ◌<◌, ◌≡◌, refl, ap, ◌∙◌, ◌≢◌, List, [], ◌∷◌, Option, none, some, arith, length, Transaction, precedes, earlier, insert, State}
use Rattle.rows_laws.specs.All.{place, rel, fel, free, load, schedule, put, first, take_first, transaction_at, event_at, update, Shows, Loose}
use Rattle.rows_laws.proofs.{Counting.Occurs.same_refl, Counting.Occurs.occurs-cons, Chains.StructuralLaw.row_of, Buffer.RowData.transaction-kept, Chains.Showing.update_same, Chains.Showing.update_other, Order.StayInOrder.shows_ext, Placing.Put.put_keeps, Laws.Fresh, Laws.shows-put, Laws.shows-schedule, Heap.Scheduling.schedule-keeps, Life.LooseRowsStay.Around, Life.LooseRowsStay.around-loose, Life.LooseRowsStay.kept-around, Life.Making.Written}
use Rattle.rows_laws.proofs.Chains.TakeFirst.{First, none, some, first_of, take-keeps, take-loose, take-free-shown}
use Rattle.state.specs.All.{lists_of, Moving, Listing}
use Rattle.rows_laws.specs.Order.{outranks, sooner}

-- who moves is another row
mover-kept : (w w' : List ℕ) (k moving : ℕ) (o : Option Transaction) → moving ≢ k → Around w w' k → Moving w moving o → Moving w' moving o
mover-kept w w' k moving none d a h = h
mover-kept w w' k moving (some t) d a h =
    (around-loose w w' k moving a d h.0, transaction-kept w w' moving (a.same moving h.0.row d) ∙ h.1)

-- row k, on no list, is being made; one free row less is left
pub record Making (w : List ℕ) (k moving : ℕ) (o : Option Transaction) (s : State) : Type 0 where
  pub shows : Shows w (lists_of s) s.fel
  pub row : Loose w k
  pub mover : Moving w moving o
  pub apart : moving ≢ k
  -- a made row comes from the free ones: free rows and living transactions are all rows
  pub spare : suc (length (shows.rows free)) + (s.made - s.ended) ≡ 1024

-- ---- The first free row

module _ (w : List ℕ) (moving : ℕ) (o : Option Transaction) (s : State) (h : Listing w moving o s) (room : s.made - s.ended < 1024) where
  abbrev L : ℕ → List ℕ
  L = h.shows.rows

  abbrev k : ℕ
  k = first w free

  firsts : First w free (L free)
  firsts = first_of w free (L free) (λ e. omega arith) (h.shows.shown.holds.listed free (omega arith))

  pub row-there : k < 1024
  row-there = go firsts
    where
      go : First w free (L free) → first w free < 1024
      go (none e n) = absurd (omega (arith, h.spare, ap length e))
      go (some m e n) = n

  apart_from : (m : List ℕ) → L free ≡ k ∷ m → (o' : Option Transaction) → Moving w moving o' → moving ≢ k
  apart_from m e none q = λ f. omega (arith, row-there)
  apart_from m e (some t) q = λ f.
      let at : load w (place k) ≡ free =
      (row_of w free [] (k ∷ m) (rw e at (h.shows.shown.holds.listed free (omega arith))) k
      (omega (arith, occurs-cons k k m, same_refl k k refl))).1 in
      omega (arith, q.0.off, ap (λ (x : ℕ). load w (place x)) f, at)

  pub made : Making (take_first w free) k moving o s
  made = go firsts
    where
      go : First w free (L free) → Making (take_first w free) (first w free) moving o s
      go (none e n) = absurd (omega (arith, row-there))
      go (some m e n) =
          let d : moving ≢ first w free = apart_from m e o h.mover in
          record {
            shows = record {
              rows = update free m L;
              shown = take-free-shown w L (lists_of s) s.fel h.shows.shown free (omega arith) (λ e. omega arith) m e n refl;
              ordered = h.shows.ordered;
            };
            row = take-loose w L h.shows.shown.holds free (omega arith) (λ e. omega arith) m e n;
            mover =
                mover-kept w (take_first w free) (first w free) moving o d
                (kept-around w (take_first w free) (first w free)
                (take-keeps w L h.shows.shown.holds free (omega arith) (λ e. omega arith) m e n)) h.mover;
            apart = d;
            spare = rw (update_same free m L free refl) (omega (arith, h.spare, ap length e));
          }

-- ---- Its data

pub making-written : (w w' : List ℕ) (k moving : ℕ) (o : Option Transaction) (s : State) → Written w w' k → Making w k moving o s
    → Making w' k moving o s
making-written w w' k moving o s a h =
    record {
      shows = record {
        rows = h.shows.rows;
        shown = a.shown h.shows.rows (lists_of s) s.fel h.row h.shows.shown;
        ordered = h.shows.ordered;
      };
      row = a.loose h.row;
      mover = mover-kept w w' k moving o h.apart a.around h.mover;
      apart = h.apart;
      spare = h.spare;
    }

-- ---- Its list

module _ (w : List ℕ) (k moving : ℕ) (o : Option Transaction) (s s' : State) (h : Making w k moving o s)
    (living : s'.made - s'.ended ≡ suc (s.made - s.ended)) where
  -- the made row goes to the FEL
  pub making-fel : Fresh (transaction_at w k) s.fel → ((q : ℕ) → q < 770 → lists_of s q ≡ lists_of s' q)
      → insert earlier (event_at w k) s.fel ≡ s'.fel
      → Listing (schedule w k) moving o s'
  making-fel fresh lists future =
      record {
        shows =
            shows_ext (schedule w k) (lists_of s) (lists_of s') (insert earlier (event_at w k) s.fel) s'.fel lists future
            (shows-schedule w (lists_of s) s.fel h.shows k h.row fresh);
        mover =
            mover-kept w (schedule w k) k moving o h.apart
            (kept-around w (schedule w k) k (schedule-keeps w h.shows.rows h.shows.shown.holds k h.row)) h.mover;
        spare =
            rw (update_other fel (insert (sooner w) k (h.shows.rows fel)) h.shows.rows free (λ e. omega arith), living)
            (omega (arith, h.spare));
      }

  -- the made row goes to REL
  pub making-rel : ((q : ℕ) → q < 770 → update rel (insert precedes (transaction_at w k) (lists_of s rel)) (lists_of s) q ≡ lists_of s' q)
      → s.fel ≡ s'.fel
      → Listing (put w rel k) moving o s'
  making-rel lists future =
      record {
        shows =
            shows_ext (put w rel k) (update rel (insert precedes (transaction_at w k) (lists_of s rel)) (lists_of s)) (lists_of s') s.fel
            s'.fel lists future
            (shows-put w (lists_of s) s.fel h.shows k h.row rel (omega arith) (h.shows.ordered.lists rel (omega arith)));
        mover =
            mover-kept w (put w rel k) k moving o h.apart
            (kept-around w (put w rel k) k
            (put_keeps w h.shows.rows h.shows.shown.holds rel k (omega arith) (λ e. omega arith) h.row)) h.mover;
        spare =
            rw (update_other rel (insert (outranks w) k (h.shows.rows rel)) h.shows.rows free (λ e. omega arith), living)
            (omega (arith, h.spare));
      }
