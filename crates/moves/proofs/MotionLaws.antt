-- The moving transaction goes on, or comes to wait, as the machine's does.
use Rattle.machine.specs.All.{ℕ, suc, ◌+◌, ◌%◌, ◌-◌, ◌<◌, ◌≡◌, refl, sym, ap, ◌∙◌, subst, Bool, true, false, cond, List, [], Option, none, some, arith, eqb, length, get_or, Transaction, Event, precedes, Code, wel_index, State, with_next, with_serial, with_returning, set_serial, set_ql, set_wel, set_wsl}
use Rattle.machine.specs.Moves as Moves
use Rattle.machine.proofs.Lists.Sorted as Machine
use Rattle.rows_laws.specs.All.{wsl, read, write, set_returning, line_up, Sorted, order_of, transaction_at, update}
use Rattle.rows_laws.proofs.{Order.SortedInsertion.insert-sorted, Order.RowOrders.precedes-order, Order.StayInOrder.sorted_of, Order.StayInOrder.sorted-line, Buffer.FieldWrites.write-next, Buffer.FieldWrites.write-serial, Buffer.FieldWrites.set-returning}
use Rattle.state.specs.declared.scalars.Scalars.{Scalars}
use Rattle.state.specs.All.{rows_of, lists_in, lists_of, Listed, Listing, Tallying, Counting, Stands, note_of, Done, waits_note, no_note, entering, going_back, waiting}
use Rattle.state.proofs.ListsOf.{lists-ql, lists-wel, lists-set-ql, lists-set-wel, lists-set-wsl}
use Rattle.state.proofs.StandsLaws.{listing-write, listing-line, renumber, stands_of}
use Rattle.moves.specs.{Moved, moved, with_tally, next32, go_to, go_on_lem, go_back, put_back, begin_wait, wait_on}
use Prim.Native.Nat.{◌*◌, ◌/◌}
use Rattle.machine.specs.Lists.{insert}

pub next32-suc : (n : ℕ) → n < 4294967295 → next32 n ≡ suc n
next32-suc n h = omega arith

-- scalars and work buffer in one equation, the tally in another: together the rows
pub tallied : (x : Scalars) (w tally : List ℕ) (m : Moved) (tally' : List ℕ) → moved x w ≡ m → tally ≡ tally'
    → rows_of x w tally ≡ with_tally m tally'
unfolding moved
tallied x w tally m tally' e f = rw (← e, f)

-- ---- Going on

module _ {w : List ℕ} {k : ℕ} {t : Transaction} {lists : ℕ → List Transaction} {fel : List Event} {living : ℕ}
    (h : Listed w k (some t) lists fel living) where
  -- the row's next block is the transaction's
  pub next-read : read w 6 k ≡ t.next
  unfolding transaction_at
  next-read = ap (λ (u : Transaction). u.next) h.mover.1

  -- and so is its number
  pub number_read : read w 0 k ≡ t.number
  unfolding transaction_at
  number_read = ap (λ (u : Transaction). u.number) h.mover.1

  next-written : (block : ℕ) → Listed (write w 6 k block) k (some (with_next block t)) lists fel living
  next-written block =
      listing-write h 6 block (omega arith)
      (write-next w k h.shows.shown.holds.room h.mover.0.row block ∙ ap (with_next block) h.mover.1)

  -- at another block, without its mark
  sent : (block : ℕ) → Listed (set_returning (write w 6 k block) k 0) k (some (with_returning false (with_next block t))) lists fel living
  sent block =
      let g = next-written block in
      listing-write g 1 _ (omega arith)
      (cc (set-returning (write w 6 k block) k g.shows.shown.holds.room h.mover.0.row 0 (omega arith), g.mover.1))

module _ (x : Scalars) {w : List ℕ} {t : Transaction} {lists : ℕ → List Transaction} {fel : List Event} {living : ℕ}
    (h : Listed w x.moving (some t) lists fel living) where
  abbrev k : ℕ
  k = x.moving

  pub go-to-listing : (block : ℕ)
      → Listed (go_to w x block).work (go_to w x block).scalars.moving (some (with_returning false (with_next block t))) lists fel living
  unfolding go_to moved
  go-to-listing block =
      let g : Listed (write w 6 k block) k (some (with_next block t)) lists fel living = next-written h block in
      listing-write g 1 (read (write w 6 k block) 1 k / 2 * 2 + 0) (omega arith)
      (set-returning (write w 6 k block) k g.shows.shown.holds.room h.mover.0.row 0 (omega arith)
      ∙ ap (with_returning false) g.mover.1)

  pub go-on-is : t.next < 4294967295 → go_on_lem w x ≡ go_to w x (suc t.next)
  unfolding go_on_lem
  go-on-is lt = ap (go_to w x) (ap next32 (next-read h) ∙ next32-suc t.next lt)

-- serials and counts stay
pub go-to-counting : (w : List ℕ) (x : Scalars) (block : ℕ) (s : State) → Counting x s → Counting (go_to w x block).scalars s
unfolding go_to moved
go-to-counting w x block s h = h

module _ {tape_bytes w tally : List ℕ} (x : Scalars) {t : Transaction} (s : State) (listing : Listing w x.moving (some t) s)
    (tallying : Tallying tape_bytes tally s) (counting : Counting x s) where
  pub go-to-done : (block : ℕ) → Done tape_bytes (with_tally (go_to w x block) tally) (entering (Moves.move_to block t s))
  unfolding Moves.move_to go_to moved rows_of note_of
  go-to-done block =
      record { stands = record { listing = go-to-listing x listing block; tallying = tallying; counting = counting }; note = refl }

  pub go-on-done : t.next < 4294967295 → Done tape_bytes (with_tally (go_on_lem w x) tally) (entering (Moves.go_on_lem t s))
  go-on-done lt =
      subst (λ (m : Moved). Done tape_bytes (with_tally m tally) (entering (Moves.go_on_lem t s))) (sym (go-on-is x listing lt))
      (go-to-done (suc t.next))

  -- ---- Going back

  back-listing : (blocks : ℕ) → Listing (go_back w x blocks).work x.moving (some (with_returning false (with_next (t.next - blocks) t))) s
  unfolding go_back go_to moved
  back-listing blocks = rw (next-read listing) (go-to-listing x listing (t.next - blocks))

  pub go-back-done : (blocks : ℕ) → Done tape_bytes (with_tally (go_back w x blocks) tally) (going_back (Moves.move_to (t.next - blocks) t s))
  unfolding Moves.move_to go_back moved rows_of note_of
  go-back-done blocks = record { stands = record { listing = back-listing blocks; tallying = tallying; counting = counting }; note = refl }

-- ---- Waiting

-- Lining up a transaction on list p of a state changes that list alone. Under edition 1 the list is in order.
pub record Puts (edition p : ℕ) (into : Transaction → State → State) (s : State) : Type 0 where
  -- only list p changes, by one who lines up
  pub lists : (t : Transaction) (q : ℕ) → q < 770 → update p (Moves.line_up edition t (lists_of s p)) (lists_of s) q ≡ lists_of (into t s) q
  pub sorted : edition ≡ 1 → Sorted precedes (lists_of s p)
  pub stays : (t : Transaction) → Sorted (order_of p) (Moves.line_up edition t (lists_of s p))
  -- nothing but the three kinds of waiters' lists changes
  pub rest : (t : Transaction) → set_ql [] (set_wel [] (set_wsl [] s)) ≡ set_ql [] (set_wel [] (set_wsl [] (into t s)))

pub puts-ql : (edition v : ℕ) (s : State) → v - 1 < 64 → v - 1 < length s.ql
    → (edition ≡ 1 → Machine.Sorted precedes (get_or s.ql (v - 1) []))
    → Puts edition (v - 1) (Moves.to_ql edition v) s
unfolding Moves.to_ql
puts-ql edition v s h len sorted =
    record {
      lists = λ t q hq. rw (lists-ql s (v - 1) h) (lists-set-ql s (v - 1) (Moves.line_up edition t (get_or s.ql (v - 1) [])) h len q);
      sorted = λ first. rw (lists-ql s (v - 1) h) (sorted_of precedes (get_or s.ql (v - 1) []) (sorted first));
      stays = λ t. sorted-line (v - 1) (omega arith) _;
      rest = λ t. refl;
    }

pub puts-wel : (edition v : ℕ) (code : Code) (s : State) → wel_index v code < 384 → wel_index v code < length s.wel
    → (edition ≡ 1 → Machine.Sorted precedes (get_or s.wel (wel_index v code) []))
    → Puts edition (64 + wel_index v code) (Moves.to_wel edition v code) s
unfolding Moves.to_wel
puts-wel edition v code s h len sorted =
    record {
      lists =
          λ t q hq. rw (lists-wel s (wel_index v code) h)
          (lists-set-wel s (wel_index v code) (Moves.line_up edition t (get_or s.wel (wel_index v code) [])) h len q);
      sorted = λ first. rw (lists-wel s (wel_index v code) h) (sorted_of precedes (get_or s.wel (wel_index v code) []) (sorted first));
      stays = λ t. sorted-line (64 + wel_index v code) (omega arith) _;
      rest = λ t. refl;
    }

-- the WSL is in order under either edition
pub puts-wsl : (s : State) → Sorted precedes s.wsl → Puts 1 wsl Moves.to_wsl s
unfolding Moves.to_wsl Moves.line_up lists_in
puts-wsl s sorted =
    record {
      lists = λ t q hq. lists-set-wsl s (insert precedes t s.wsl) q;
      sorted = λ first. sorted;
      stays = λ t. insert-sorted precedes precedes-order t s.wsl sorted;
      rest = λ t. refl;
    }

module _ {w : List ℕ} (x : Scalars) {t : Transaction} (s : State) (listing : Listing w x.moving (some t) s) (counting : Counting x s)
    (edition p : ℕ) (hp : p < 770) (into : Transaction → State → State) (alone : s.moving ≡ none) where
  -- the moving one, as it is then, stands on the list
  put-stands : {tape_bytes tally w' : List ℕ} (y : Scalars) {u : Transaction} (s' : State) → Listing w' x.moving (some u) s'
      → Counting y s' → y.moving ≡ 1024 → s'.moving ≡ none
      → Puts edition p into s'
      → Tallying tape_bytes tally (into u s')
      → Stands tape_bytes (rows_of y (line_up edition w' p x.moving) tally) (into u s').moving (into u s')
  put-stands {tape_bytes} {tally} {w'} y {u} s' listing' counting' nobody alone' puts tallying =
      subst (λ (o : Option Transaction). Stands tape_bytes (rows_of y (line_up edition w' p x.moving) tally) o (into u s'))
      (sym alone' ∙ ap (λ (z : State). z.moving) (puts.rest u))
      (stands_of y (rw nobody (lined (puts.rest u))) tallying (subst (Counting y) (puts.rest u) counting'))
    where
      lined : set_ql [] (set_wel [] (set_wsl [] s')) ≡ set_ql [] (set_wel [] (set_wsl [] (into u s')))
          → Listing (line_up edition w' p x.moving) 1024 none (into u s')
      lined e =
          subst (λ (z : State). Listed (line_up edition w' p x.moving) 1024 none (lists_of (into u s')) z.fel (z.made - z.ended)) e
          (listing-line listing' edition p hp puts.sorted (puts.stays u) (puts.lists u))

  put-back-done : {tape_bytes tally : List ℕ} → Puts edition p into s → Tallying tape_bytes tally (into t s)
      → Done tape_bytes (with_tally (put_back w x p edition) tally) (record { note = no_note; state = into t s })
  unfolding put_back moved note_of rows_of
  put-back-done puts tallying = record { stands = put-stands _ s listing counting refl alone puts tallying; note = refl }

  abbrev later : State
  later = set_serial (suc s.serial) s

  abbrev t' : Transaction
  t' = with_serial (suc s.serial) t

  begin_wait-done : {tape_bytes tally : List ℕ} → s.serial < 4294967295 → Puts edition p into later
      → Tallying tape_bytes tally (into t' later)
      → Done tape_bytes (with_tally (begin_wait w x p edition) tally) (record { note = waits_note; state = into t' later })
  unfolding begin_wait moved note_of rows_of
  begin_wait-done lt puts tallying =
      let n : next32 x.serial ≡ suc s.serial = ap next32 counting.serial ∙ next32-suc s.serial lt in
      let g : Listing (write w 7 x.moving (next32 x.serial)) x.moving (some t') later =
      listing-write listing 7 (next32 x.serial) (omega arith)
      (write-serial w x.moving listing.shows.shown.holds.room listing.mover.0.row (next32 x.serial)
      ∙ ap (with_serial (next32 x.serial)) listing.mover.1
      ∙ ap (λ (y : ℕ). with_serial y t) n) in
      record {
        stands = put-stands _ later g (renumber counting n counting.made counting.ended) refl alone puts tallying;
        note = refl;
      }

  -- the row's mark is the transaction's
  mark-read : eqb (read w 1 x.moving % 2) 1 ≡ t.returning
  unfolding transaction_at
  mark-read = ap (λ (u : Transaction). u.returning) listing.mover.1

  -- whoever returns waits on without a record, anybody else begins a wait with the next serial
  pub wait-on-done : {tape_bytes tally : List ℕ} → s.serial < 4294967295 → Puts edition p into s → Puts edition p into later
      → Tallying tape_bytes tally (into t s)
      → Tallying tape_bytes tally (into t' later)
      → Done tape_bytes (with_tally (wait_on w x p edition) tally) (waiting into t s)
  unfolding wait_on waiting
  wait-on-done {tape_bytes} {tally} lt puts puts' tallying tallying' = rw mark-read (go t.returning)
    where
      go : (b : Bool)
          → Done tape_bytes (with_tally (cond b (put_back w x p edition) (begin_wait w x p edition)) tally)
          (cond b (record { note = no_note; state = into t s }) (record { note = waits_note; state = into t' later }))
      go true = put-back-done puts tallying
      go false = begin_wait-done lt puts' tallying'
