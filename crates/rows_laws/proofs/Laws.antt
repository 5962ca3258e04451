-- The laws that the crates above cite: what each function of this crate does to the machine's lists. `Shows w T E` says that
-- the buffer w has the lists T and the FEL E; `Loose w k` that row k is on no list, as the moving one.
use Rattle.machine.specs.All.{ℕ, suc, ◌+◌, ◌≤◌, ◌<◌, ◌≡◌, refl, sym, ap, ◌∙◌, ◌≢◌, Bool, false, true, not, List, [], ◌∷◌, ◌++◌, map, map-append, arith, eqb, length, take, drop, Transaction, Event, precedes, earlier, insert, those, others, wake, due, Each}
use Rattle.machine.specs.Moves as Moves
use Rattle.machine.proofs.NobodyAble.QueueRemove.{walk}
use Rattle.rows_laws.specs.All.{list_count, place, head, wsl, rel, fel, free, load, outranks, sooner, remove_at, put, first, take_first, remove, schedule, cancel, line_up, wake_first, wake_walk, wake_all, Arrived, arrive, arrivals, free_row, loose, on_lists, transaction_at, event_at, ending, Holds, update, All, Sorted, Ordered, order_of, Shows, Loose, moved}
use Rattle.rows_laws.proofs as our
use our.Counting.Occurs.{same_refl, occurs-append, occurs-cons}
use our.Order.SortedInsertion.{all_map, front, insert-sorted, insert_strict, sorted-without, sorted-drop, sorted-those}
use our.Order.RowOrders.{precedes-order, earlier-order, earlier-total}
use our.Order.StayInOrder.{sorted-weaker, sorted-line, ordered-list, ordered-fel, ordered-moved, wake-sorted, arrivals-sorted}
use our.{Chains.StructuralLaw.row_of, Placing.Spot.short, Buffer.RowData.SameRow, Buffer.RowData.same_row, Chains.Showing.shown-list, Counting.LooseRows.loose-more, Counting.LooseRows.loose-less, Chains.RemoveRow.rest_of, Chains.RemoveRow.remove-is}
use our.Chains.InsertRemove.{Kept, remove-holds, remove-keeps, remove-placed}
use our.Life.LooseRowsStay.{Steady, Around, kept-around}
use our.Placing.Put.{put_keeps, put-placed, put-shown}
use our.Placing.LineUp.{lined, line-shown, line-keeps, line-placed}
use our.Chains.TakeFirst.{Head, head-shown, rows-first, take-shown, take-free-shown}
use our.Heap.FutureEvents.{head-fel-shown, schedule-shown, cancel-shown}
use our.Heap.Scheduling.{schedule-keeps, schedule-placed, cancel-was, cancel-keeps, cancel-placed}
use our.Life.Making.{free-keeps, free-placed, free-shown}
use our.Waking.WakeMany
use our.Clock.RowArrivals
use our.Counting.Population
use mathlib.Core.Path.{subst}
use Rattle.rows_laws.specs.Layout.{nowhere}
use Rattle.rows_laws.specs.Ordered.{Strict}

-- a serial above all on the FEL, as every one that comes onto it gets
abbrev pub Fresh : Transaction → List Event → Type 0
Fresh t E = All (λ e. e.who.serial < t.serial) E

-- so is the one after the last that was given
pub fresh-given : (t : Transaction) (n : ℕ) (E : List Event) → t.serial ≡ suc n → Each (λ (e : Event). e.who.serial ≤ n) E → Fresh t E
unfolding All
fresh-given t n [] e h = tt
fresh-given t n (x ∷ E) e h = (omega (arith, h.0), fresh-given t n E e h.1)

-- so it stands before or behind each
pub fresh-apart : (w : List ℕ) (k : ℕ) (E : List Event) → Fresh (transaction_at w k) E
    → All (λ e. earlier (event_at w k) e ≡ false → earlier e (event_at w k) ≡ true) E
unfolding event_at
fresh-apart w k E fresh = all_map _ _ E (λ e lt. earlier-total (event_at w k) e lt) fresh

-- what putting row k leaves: the other rows, and one fewer on no list
pub record Puts (w w' : List ℕ) (k : ℕ) (T : ℕ → List Transaction) (E : List Event) : Type 0 where
  pub shows : Shows w' T E
  pub around : Around w w' k
  pub same : SameRow w w' k
  pub count : suc (loose w') ≡ loose w

-- what taking row k leaves: the other rows, its data, and one more on no list
pub record Takes (w w' : List ℕ) (k : ℕ) (T : ℕ → List Transaction) (E : List Event) : Type 0 where
  pub shows : Shows w' T E
  pub around : Around w w' k
  pub same : SameRow w w' k
  pub off : Loose w' k
  pub count : loose w' ≡ suc (loose w)

-- a list that had one between two parts, and what holds of the parts without it
pub record Without {A : Type 0} (one : A) (l : List A) (Left : List A → Type 0) : Type 0 where
  pub ahead : List A
  pub behind : List A
  pub parts : l ≡ ahead ++ one ∷ behind
  pub left : Left (ahead ++ behind)

-- what waking leaves
pub record Wakes (w w' : List ℕ) (T : ℕ → List Transaction) (E : List Event) : Type 0 where
  pub shows : Shows w' T E
  pub steady : Steady w w'

-- what a clock move leaves
pub record Arrives (w : List ℕ) (r : Arrived) (T : ℕ → List Transaction) (E : List Event) (serial : ℕ) : Type 0 where
  pub shows : Shows r.rows T E
  pub last : r.serial ≡ serial
  pub steady : Steady w r.rows

module _ (w : List ℕ) (T : ℕ → List Transaction) (E : List Event) (s : Shows w T E) where
  abbrev L : ℕ → List ℕ
  L = s.rows

  abbrev h : Holds w L
  h = s.shown.holds

  abbrev o : Ordered order_of T E
  o = s.ordered

  -- ---- The first of a list

  pub head-shows : (p : ℕ) → p < 770 → Head w p (transaction_at w) (T p)
  head-shows = head-shown w L T E s.shown

  pub head-fel-shows : Head w fel (event_at w) E
  head-fel-shows = head-fel-shown w L T E s.shown o.future

  -- ---- Putting

  module _ (k : ℕ) (off : Loose w k) where
    puts : (w' : List ℕ) (p : ℕ) (U : ℕ → List Transaction) (F : List Event) → p < list_count → Kept w w' k → load w' (place k) ≡ p
        → Shows w' U F
        → Puts w w' k U F
    puts w' p U F hp kept at shows =
        record {
          shows = shows;
          around = kept-around w w' k kept;
          same = same_row w w' k off.row kept.rows;
          count = loose-less w w' k off.row kept.places off.off (omega arith);
        }

    -- what is shown then; the rows compute
    abbrev pub shows-put : (p : ℕ) → p < 770 → Sorted precedes (T p)
        → Shows (put w p k) (update p (insert precedes (transaction_at w k) (T p)) T) E
    shows-put p hp sorted =
        record {
          rows = update p (insert (outranks w) k (L p)) L;
          shown = put-shown w L T E s.shown k off p hp sorted;
          ordered =
              ordered-list order_of T E p _ (sorted-weaker p _ (insert-sorted precedes precedes-order (transaction_at w k) (T p) sorted)) o;
        }

    -- onto a line of waiters, by an edition
    abbrev pub shows-line : (edition p : ℕ) → p < 770 → (edition ≡ 1 → Sorted precedes (T p))
        → Sorted (order_of p) (Moves.line_up edition (transaction_at w k) (T p))
        → Shows (line_up edition w p k) (update p (Moves.line_up edition (transaction_at w k) (T p)) T) E
    shows-line edition p hp sorted stays =
        record {
          rows = update p (lined edition w p k (L p)) L;
          shown = line-shown w L T E s.shown k off edition p hp sorted;
          ordered = ordered-list order_of T E p _ stays o;
        }

    -- lining up in a line of waiters, by either edition; under the first the line must be sorted
    pub line-shows : (edition p : ℕ) → p < 770 → (edition ≡ 1 → Sorted precedes (T p))
        → Sorted (order_of p) (Moves.line_up edition (transaction_at w k) (T p))
        → Puts w (line_up edition w p k) k (update p (Moves.line_up edition (transaction_at w k) (T p)) T) E
    line-shows edition p hp sorted stays =
        puts (line_up edition w p k) p (update p (Moves.line_up edition (transaction_at w k) (T p)) T) E (omega arith)
        (line-keeps w L T E s.shown k off edition p hp sorted) (line-placed w L T E s.shown k off edition p hp sorted)
        (shows-line edition p hp sorted stays)

    -- onto the FEL, with a serial above all there
    abbrev pub shows-schedule : Fresh (transaction_at w k) E → Shows (schedule w k) T (insert earlier (event_at w k) E)
    shows-schedule fresh =
        record {
          rows = update fel (insert (sooner w) k (L fel)) L;
          shown = schedule-shown w L T E s.shown k off;
          ordered = ordered-fel order_of T E _ (insert_strict earlier earlier-order (event_at w k) E (fresh-apart w k E fresh) o.future) o;
        }

    -- a loose row comes onto a list that is kept by priority and serial
    pub put-shows : (p : ℕ) → p < 770 → Sorted precedes (T p)
        → Puts w (put w p k) k (update p (insert precedes (transaction_at w k) (T p)) T) E
    put-shows p hp sorted =
        puts (put w p k) p (update p (insert precedes (transaction_at w k) (T p)) T) E (omega arith)
        (put_keeps w L h p k (omega arith) (λ e. omega arith) off) (put-placed w L h p k (omega arith) (λ e. omega arith) off)
        (shows-put p hp sorted)

    -- a loose row comes onto the FEL; no serial there may be its own
    pub schedule-shows : Fresh (transaction_at w k) E → Puts w (schedule w k) k T (insert earlier (event_at w k) E)
    schedule-shows fresh =
        puts (schedule w k) fel T (insert earlier (event_at w k) E) (omega arith) (schedule-keeps w L h k off) (schedule-placed w L h k off)
        (shows-schedule fresh)

    -- the row of one that ended
    pub free-shows : Puts w (free_row w k) k T E
    free-shows =
        puts (free_row w k) free T E (omega arith) (free-keeps w L T E s.shown k off) (free-placed w L T E s.shown k off)
        (record { rows = _; shown = free-shown w L T E s.shown k off; ordered = o })

  -- ---- Taking

  -- a row from where it stands
  module _ (p k : ℕ) (a b : List ℕ) (hp : p < list_count) (chained : p ≢ fel) (hk : k < 1024) (was : L p ≡ a ++ k ∷ b) where
    abbrev without : List ℕ
    without = remove_at w p (ending (head p) a)

    kept : Kept w without k
    kept = remove-keeps w L h p k a b hp chained hk was

    -- what is left to show of a taken row once the lists are shown: it is loose and unchanged
    pub takes : (U : ℕ → List Transaction) (F : List Event) → Shows without U F → Takes w without k U F
    takes U F shows =
        let off : load without (place k) ≡ nowhere = remove-placed w L h p k a b hp chained hk was in
        let at : load w (place k) ≡ p =
        (row_of w p a (k ∷ b) (rw was at (h.listed p hp)) k
        (omega (arith, occurs-append k a (k ∷ b), occurs-cons k k b, same_refl k k refl))).1 in
        record {
          shows = shows;
          around = kept-around w without k kept;
          same = same_row w without k hk kept.rows;
          off = record { row = hk; off = off };
          count = loose-more w without k hk kept.places (omega arith) off;
        }

  -- the first
  pub take-shows : (p : ℕ) → p < 770 → first w p < 1024 → Takes w (take_first w p) (first w p) (update p (drop 1 (T p)) T) E
  unfolding ending
  take-shows p hp n =
      let hl : p < list_count = omega arith in
      let d : p ≢ fel = λ e. omega arith in
      let r : (m : List ℕ) × (L p ≡ first w p ∷ m) = rows-first w L T E s.shown p hl d n in
      takes p (first w p) [] r.0 hl d n r.1 (update p (drop 1 (T p)) T) E
      (record {
        rows = _;
        shown = take-shown w L T E s.shown p hl d r.0 r.1 n hp;
        ordered = ordered-list order_of T E p (drop 1 (T p)) (sorted-drop (order_of p) (T p) (o.lists p hp)) o;
      })

  -- a row of the FEL
  module _ (k : ℕ) (a b : List ℕ) (hk : k < 1024) (was : L fel ≡ a ++ k ∷ b) where
    later : E ≡ map (event_at w) a ++ event_at w k ∷ map (event_at w) b
    later = sym s.shown.future ∙ ap (map (event_at w)) was ∙ map-append (event_at w) a (k ∷ b)

    pub cancels : Takes w (cancel w k) k T (map (event_at w) (a ++ b))
    cancels =
        record {
          shows =
              record {
                rows = update fel (a ++ b) L;
                shown = cancel-shown w L T E s.shown k hk a b was;
                ordered =
                    ordered-fel order_of T E _
                    (rw (map-append (event_at w) a b)
                    (sorted-without (λ y x. not (earlier x y)) (map (event_at w) a) (event_at w k) (map (event_at w) b)
                    (subst (Strict earlier) later o.future)))
                    o;
              };
          around = kept-around w (cancel w k) k (cancel-keeps w L h k hk a b was);
          same = same_row w (cancel w k) k hk (cancel-keeps w L h k hk a b was).rows;
          off = record { row = hk; off = cancel-placed w L h k hk a b was };
          count =
              loose-more w (cancel w k) k hk (cancel-keeps w L h k hk a b was).places (omega (arith, cancel-was w L h k hk a b was))
              (cancel-placed w L h k hk a b was);
        }

  -- a row for one that is made
  pub make-shows : first w free < 1024 → Takes w (take_first w free) (first w free) T E
  unfolding ending
  make-shows n =
      let hl : free < list_count = omega arith in
      let d : free ≢ fel = λ e. omega arith in
      let r : (m : List ℕ) × (L free ≡ first w free ∷ m) = rows-first w L T E s.shown free hl d n in
      takes free (first w free) [] r.0 hl d n r.1 T E
      (record { rows = _; shown = take-free-shown w L T E s.shown free hl d r.0 r.1 n refl; ordered = o })

  -- a row by its number, wherever it stands
  module _ (k : ℕ) (hk : k < 1024) where
    -- a row leaves its list from wherever it stands
    pub remove-shows : (p : ℕ) → p < 770 → load w (place k) ≡ p
        → Without (transaction_at w k) (T p) (λ l. Takes w (remove w p k) k (update p l T) E)
    remove-shows p hp at =
        let hl : p < list_count = omega arith in
        let d : p ≢ fel = λ e. omega arith in
        let r : (b : List ℕ) × (L p ≡ front eqb k (L p) ++ k ∷ b) = rest_of w L h p k hl hk at in
        let was : T p ≡ map (transaction_at w) (front eqb k (L p)) ++ transaction_at w k ∷ map (transaction_at w) r.0 =
        sym (s.shown.lists p hp) ∙ ap (map (transaction_at w)) r.1 ∙ map-append (transaction_at w) (front eqb k (L p)) (k ∷ r.0) in
        record {
          ahead = map (transaction_at w) (front eqb k (L p));
          behind = map (transaction_at w) r.0;
          parts = was;
          left =
              rw (remove-is w L h p k hl hk at d, ← map-append (transaction_at w) (front eqb k (L p)) r.0)
              (takes p k (front eqb k (L p)) r.0 hl d hk r.1 (update p (map (transaction_at w) (front eqb k (L p) ++ r.0)) T) E
              (record {
                rows = _;
                shown =
                    shown-list w _ L T E s.shown p (front eqb k (L p) ++ r.0)
                    (remove-holds w L h p k (front eqb k (L p)) r.0 hl d hk r.1)
                    (kept p k (front eqb k (L p)) r.0 hl d hk r.1).rows hp;
                ordered =
                    ordered-list order_of T E p _
                    (rw (map-append (transaction_at w) (front eqb k (L p)) r.0)
                    (sorted-without (order_of p) (map (transaction_at w) (front eqb k (L p))) (transaction_at w k)
                    (map (transaction_at w) r.0) (rw was at (o.lists p hp))))
                    o;
              }));
        }

    -- a row leaves the FEL from wherever it stands
    pub cancel-shows : load w (place k) ≡ fel → Without (event_at w k) E (λ l. Takes w (cancel w k) k T l)
    cancel-shows at =
        let r : (b : List ℕ) × (L fel ≡ front eqb k (L fel) ++ k ∷ b) = rest_of w L h fel k (omega arith) hk at in
        record {
          ahead = map (event_at w) (front eqb k (L fel));
          behind = map (event_at w) r.0;
          parts = later k (front eqb k (L fel)) r.0 hk r.1;
          left = rw (← map-append (event_at w) (front eqb k (L fel)) r.0) (cancels k (front eqb k (L fel)) r.0 hk r.1);
        }

  -- there is one exactly if fewer than 1,024 live
  pub free_if : on_lists T E + loose w < 1024 → first w free < 1024
  free_if = Population.free_if w L T E s.shown

  pub free-only_if : first w free < 1024 → on_lists T E + loose w < 1024
  free-only_if = Population.free-only_if w L T E s.shown

  -- ---- Waking

  ready : Sorted precedes (T rel)
  ready = o.lists rel (omega arith)

  wakes : (p : ℕ) (hp : p < 449) (l m : List Transaction) (w' : List ℕ) → Sorted (order_of p) l
      → WakeMany.Woken w w' (moved p l (wake m (T rel)) T) E
      → Wakes w w' (moved p l (wake m (T rel)) T) E
  wakes p hp l m w' sorted woken =
      record {
        shows =
            record {
              rows = woken.held.rows;
              shown = woken.held.shown;
              ordered = ordered-moved order_of T E p l (wake m (T rel)) sorted (wake-sorted m (T rel) ready) o;
            };
        steady = woken.steady;
      }

  -- the first of a line goes to REL, if there is one
  pub wake-first-shows : (p : ℕ) → p < 449 → Wakes w (wake_first w p) (moved p (drop 1 (T p)) (wake (take 1 (T p)) (T rel)) T) E
  wake-first-shows p hp =
      wakes p hp (drop 1 (T p)) (take 1 (T p)) (wake_first w p) (sorted-drop (order_of p) (T p) (o.lists p (omega arith)))
      (WakeMany.wake-first-held w L T E s.shown ready p hp)

  -- all of a line that pass a test of the transaction alone go to REL, in their order
  pub wake-all-shows : (test : List ℕ → ℕ → Bool) (P : Transaction → Bool) → ((v : List ℕ) (k : ℕ) → test v k ≡ P (transaction_at v k))
      → (p : ℕ) → p < 449
      → Wakes w (wake_all test 1024 w p (head p)) (moved p (others P (T p)) (wake (those P (T p)) (T rel)) T) E
  wake-all-shows test P agree p hp =
      wakes p hp (others P (T p)) (those P (T p)) (wake_all test 1024 w p (head p))
      (sorted-those (order_of p) (λ t. not (P t)) (T p) (o.lists p (omega arith)))
      (subst
      (λ (l : List Transaction). WakeMany.Woken w (wake_all test 1024 w p (head p)) (moved p (others P l) (wake (those P l) (T rel)) T) E)
      (s.shown.lists p (omega arith))
      (WakeMany.wake_all-held test P agree E p hp 1024 w L T s.shown ready (short w p (L p) (h.listed p (omega arith)))))

  -- from a line of waiters, with a number
  pub wake-walk-shows : (test : ℕ → List ℕ → ℕ → Bool) (next : ℕ → List ℕ → ℕ → ℕ) (P : ℕ → Transaction → Bool) (N : ℕ → Transaction → ℕ)
      → ((n : ℕ) (v : List ℕ) (k : ℕ) → test n v k ≡ P n (transaction_at v k))
      → ((n : ℕ) (v : List ℕ) (k : ℕ) → next n v k ≡ N n (transaction_at v k)) → (left p : ℕ)
      → p < wsl
      → Wakes w (wake_walk test next 1024 left w p (head p)) (moved p (walk P N left (T p)).stay (wake (walk P N left (T p)).go (T rel)) T)
      E
  unfolding ending
  wake-walk-shows test next P N agree follow left p hp =
      wakes p (omega arith) (walk P N left (T p)).stay (walk P N left (T p)).go (wake_walk test next 1024 left w p (head p))
      (sorted-line p hp _)
      (subst
      (λ (l : List Transaction). WakeMany.Woken w (wake_walk test next 1024 left w p (head p))
      (moved p (walk P N left l).stay (wake (walk P N left l).go (T rel)) T) E)
      (s.shown.lists p (omega arith))
      (WakeMany.wake_walk-held test next P N agree follow E p (omega arith) 1024 (L p) left w L T s.shown ready [] refl
      (short w p (L p) (h.listed p (omega arith)))))

  -- ---- A clock move

  -- a clock move: all of the first time go from the FEL to REL, with serials that rise
  pub arrive-shows : (e : Event) (l : List Event) → E ≡ e ∷ l → (serial : ℕ)
      → Arrives w (arrive 1024 e.time w serial) (update rel (arrivals (those (due e.time) E) serial (T rel)) T)
      (others (due e.time) E) (serial + length (those (due e.time) E))
  arrive-shows e l q serial = go (RowArrivals.arrive-held w L T E s.shown ready o.future e l q serial)
    where
      later : List Event
      later = others (due e.time) E

      go : RowArrivals.Came w (arrive 1024 e.time w serial) (update rel (arrivals (those (due e.time) E) serial (T rel)) T) later
          (serial + length (those (due e.time) E))
          → Arrives w (arrive 1024 e.time w serial) (update rel (arrivals (those (due e.time) E) serial (T rel)) T) later
          (serial + length (those (due e.time) E))
      go r =
          record {
            shows =
                record {
                  rows = r.held.rows;
                  shown = r.held.shown;
                  ordered =
                      ordered-fel order_of (update rel (arrivals (those (due e.time) E) serial (T rel)) T) E later
                      (sorted-those (λ y x. not (earlier x y)) (λ t. not (due e.time t)) E o.future)
                      (ordered-list order_of T E rel _ (arrivals-sorted (those (due e.time) E) serial (T rel) ready) o);
                };
            last = r.last;
            steady = r.steady;
          }
