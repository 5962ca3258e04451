-- A row comes onto a line of waiters where the machine's `line_up` puts its transaction, by either edition.
use Rattle.machine.specs.All.{ℕ, zero, suc, ◌-◌, ◌%◌, ◌≤◌, ◌<◌, ◌≡◌, refl, sym, ap, ◌∙◌, ◌≢◌, Bool, true, false, cond, List, [], ◌∷◌, ◌++◌, map, reverse, reverse-cons, reverse-append, append-nil, append_assoc, map-append, arith, lt-ltb, le-ltb, eqb-true, eqb, leb, length, Transaction, Event, precedes, insert}
use Rattle.machine.specs.Moves as Moves
use Rattle.rows_laws.specs.All.{fel, place, link, links, head, heads, load, read, outranks, insert_at, put, at_least, found_at, last_cell, last_meets, back_before, back_spot, second_spot, line_up, transaction_at, Chain, ending, Listed, Holds, update, All, Sorted, Shown, Loose}
use Rattle.rows_laws.proofs as our
use our.Order.SortedInsertion.{map-insert, append-all, last_of}
use our.{Order.RowOrders.outranks-is, Placing.WalkSteps.last_cell-stop, Placing.WalkSteps.last_cell-next, Chains.Chain.ending-append, Chains.Showing.shown-list}
use our.Placing.Spot.{short, ending-last, occurs-last}
use our.Placing.Put.{put_keeps, put-placed, put-shown}
use our.Chains.InsertRemove.{Kept, insert-holds, insert-keeps, insert-placed}
use mathlib.Core.Path.{subst}
use Rattle.rows_laws.specs.Layout.{tail}

-- ---- From the back, over any test

module _ {A : Type 0} (meets : A → A → Bool) (x : A) where
  abbrev backed : List A → List A
  backed l = reverse (insert meets x (reverse l))

  -- none, or the first passes
  Stops : List A → Type 0
  Stops [] = Unit {0}
  Stops (y ∷ l) = meets x y ≡ true

  stops-here : (l : List A) → Stops l → insert meets x l ≡ x ∷ l
  unfolding insert Stops
  stops-here [] h = refl
  stops-here (y ∷ l) h = rw h

  skips : (m l : List A) → All (λ y. meets x y ≡ false) m → insert meets x (m ++ l) ≡ m ++ insert meets x l
  unfolding insert All
  skips [] l h = refl
  skips (y ∷ m) l h = rw h.0 (ap (λ (k : List A). y ∷ k) (skips m l h.1))

  all-reverse : (m : List A) → All (λ y. meets x y ≡ false) m → All (λ y. meets x y ≡ false) (reverse m)
  unfolding All
  all-reverse [] h = tt
  all-reverse (y ∷ m) h = rw (reverse-cons y m) (append-all (λ y. meets x y ≡ false) (reverse m) (y ∷ []) (all-reverse m h.1) (h.0, tt))

  twice : (l : List A) → reverse (reverse l) ≡ l
  twice [] = refl
  twice (y ∷ l) = ap reverse (reverse-cons y l) ∙ reverse-append (reverse l) (y ∷ []) ∙ ap (λ (k : List A). y ∷ k) (twice l)

  -- behind a part that ends with one that passes, before others of which none does
  backed-split : (a m : List A) → All (λ y. meets x y ≡ false) m → Stops (reverse a) → backed (a ++ m) ≡ a ++ x ∷ m
  backed-split a m low stops =
      ap (λ (l : List A). reverse (insert meets x l)) (reverse-append a m)
      ∙ ap reverse (skips (reverse m) (reverse a) (all-reverse m low) ∙ ap (λ (l : List A). reverse m ++ l) (stops-here (reverse a) stops))
      ∙ reverse-append (reverse m) (x ∷ reverse a)
      ∙ ap (λ (l : List A). l ++ reverse (reverse m)) (reverse-cons x (reverse a) ∙ ap (λ (l : List A). l ++ x ∷ []) (twice a))
      ∙ ap (λ (l : List A). (a ++ x ∷ []) ++ l) (twice m)
      ∙ append_assoc a (x ∷ []) m

map-reverse : {A B : Type 0} (f : A → B) (l : List A) → map f (reverse l) ≡ reverse (map f l)
map-reverse f [] = refl
map-reverse f (x ∷ l) =
    ap (map f) (reverse-cons x l)
    ∙ map-append f (reverse l) (x ∷ [])
    ∙ ap (λ k. k ++ f x ∷ []) (map-reverse f l)
    ∙ sym (reverse-cons (f x) (map f l))

map-backed : {A B : Type 0} (f : A → B) (r : A → A → Bool) (q : B → B → Bool) → ((x y : A) → r x y ≡ q (f x) (f y)) → (x : A) (l : List A)
    → map f (backed r x l) ≡ backed q (f x) (map f l)
map-backed f r q agree x l =
    map-reverse f (insert r x (reverse l))
    ∙ ap reverse (map-insert f r q agree x (reverse l) ∙ ap (insert q (f x)) (map-reverse f l))

-- ---- The cell behind the last that passes

-- a cell of list p behind a part of its rows, so that row k in that cell makes them the rows l
record Spotted (p k c : ℕ) (rows l : List ℕ) : Type 0 where
  before : List ℕ
  behind : List ℕ
  parts : rows ≡ before ++ behind
  cell : c ≡ ending (head p) before
  is : l ≡ before ++ k ∷ behind

module _ (w : List ℕ) (p k : ℕ) where
  -- row j has at least the priority of row x
  abbrev meets : ℕ → ℕ → Bool
  meets = at_least w

  stops_snoc : (a : List ℕ) (j : ℕ) → meets k j ≡ true → Stops meets k (reverse (a ++ j ∷ []))
  unfolding Stops
  stops_snoc a j h = rw (reverse-append a (j ∷ [])) h

  end_snoc : (a : List ℕ) (j : ℕ) → link j ≡ ending (head p) (a ++ j ∷ [])
  unfolding ending
  end_snoc a j = sym (ending-append (head p) a (j ∷ []))

  module _ (rows : List ℕ) where
    -- no row of m passes
    none_left : (a m : List ℕ) → rows ≡ a ++ m → All (λ j. meets k j ≡ false) m → Stops meets k (reverse a)
        → Spotted p k (ending (head p) a) rows (backed meets k rows)
    none_left a m whole low stops =
        record { before = a; behind = m; parts = whole; cell = refl; is = ap (backed meets k) whole ∙ backed-split meets k a m low stops }

    abbrev Found : ℕ → Type 0
    Found c = Spotted p k c rows (backed meets k rows)

    -- a is the rows up to the cell found, m those from there to cell c, l those from cell c on
    record Reached (c f : ℕ) (a m l : List ℕ) : Type 0 where
      whole : rows ≡ (a ++ m) ++ l
      at : c ≡ ending (head p) (a ++ m)
      found : f ≡ ending (head p) a
      chain : Chain w c l
      low : All (λ j. meets k j ≡ false) m
      stops : Stops meets k (reverse a)

    module _ (c f : ℕ) (a m : List ℕ) (j : ℕ) (l : List ℕ) (h : Reached c f a m (j ∷ l)) where
      row-passes : meets k j ≡ true → Reached (link j) (link j) ((a ++ m) ++ j ∷ []) [] l
      unfolding Chain All
      row-passes met =
          record {
            whole = h.whole ∙ sym (append_assoc (a ++ m) (j ∷ []) l) ∙ ap (λ (x : List ℕ). x ++ l) (sym (append-nil ((a ++ m) ++ j ∷ [])));
            at = end_snoc (a ++ m) j ∙ ap (ending (head p)) (sym (append-nil ((a ++ m) ++ j ∷ [])));
            found = end_snoc (a ++ m) j;
            chain = h.chain.2;
            low = tt;
            stops = stops_snoc (a ++ m) j met;
          }

      row_fails : meets k j ≡ false → Reached (link j) f a (m ++ j ∷ []) l
      unfolding Chain All
      row_fails off =
          record {
            whole = h.whole ∙ sym (append_assoc (a ++ m) (j ∷ []) l) ∙ ap (λ (x : List ℕ). x ++ l) (append_assoc a m (j ∷ []));
            at = end_snoc (a ++ m) j ∙ ap (ending (head p)) (append_assoc a m (j ∷ []));
            found = h.found;
            chain = h.chain.2;
            low = append-all (λ j. meets k j ≡ false) m (j ∷ []) h.low (off, tt);
            stops = h.stops;
          }

      row-found : (n : ℕ) → (Reached (link j) (link j) ((a ++ m) ++ j ∷ []) [] l → Found (last_cell n w k (link j) (link j)))
          → (Reached (link j) f a (m ++ j ∷ []) l → Found (last_cell n w k (link j) f)) → Found (last_cell (suc n) w k c f)
      unfolding Chain found_at
      row-found n met off = rw (last_cell-next w k (suc n) n c f j refl h.chain.0 h.chain.1) (go (meets k j) refl)
        where
          go : (t : Bool) → meets k j ≡ t → Found (last_cell n w k (link j) (cond t (link j) f))
          go true e = met (row-passes e)
          go false e = off (row_fails e)

    nobody-left : (n c f : ℕ) (a m : List ℕ) → Reached c f a m [] → Found (last_cell n w k c f)
    unfolding Chain
    nobody-left n c f a m h =
        rw (last_cell-stop w k n c f h.chain, h.found) (none_left a m (h.whole ∙ append-nil (a ++ m)) h.low h.stops)

    last-spotted : (l : List ℕ) (n c f : ℕ) (a m : List ℕ) → length l ≤ n → Reached c f a m l → Found (last_cell n w k c f)
    last-spotted [] n c f a m len h = nobody-left n c f a m h
    last-spotted (j ∷ l) zero c f a m len h = absurd (omega arith)
    last-spotted (j ∷ l) (suc n) c f a m len h =
        row-found c f a m j l h n (last-spotted l n (link j) (link j) ((a ++ m) ++ j ∷ []) [] (omega arith))
        (last-spotted l n (link j) f a (m ++ j ∷ []) (omega arith))

    from-head : p ≢ fel → Listed w p rows → Spotted p k (last_cell 1024 w k (head p) (head p)) rows (backed meets k rows)
    unfolding ending All Stops
    from-head chained one =
        last-spotted rows 1024 (head p) (head p) [] [] (short w p rows one)
        (record { whole = refl; at = refl; found = refl; chain = one.chain chained; low = tt; stops = tt })

  -- the last row passes
  last-first : (y : ℕ) (l : List ℕ) → meets k (last_of y l) ≡ true → (r : List ℕ) × (reverse (y ∷ l) ≡ last_of y l ∷ r)
  unfolding last_of
  last-first y [] h = ([], refl)
  last-first y (z ∷ l) h = let (r, e) = last-first z l h in (r ++ y ∷ [], reverse-cons y (z ∷ l) ∙ ap (λ (x : List ℕ). x ++ y ∷ []) e)

  at-end : (y : ℕ) (l : List ℕ) → meets k (last_of y l) ≡ true → Spotted p k (ending (head p) (y ∷ l)) (y ∷ l) (backed meets k (y ∷ l))
  unfolding All Stops
  at-end y l h =
      let (r, e) = last-first y l h in
      none_left (y ∷ l) (y ∷ l) [] (sym (append-nil (y ∷ l))) tt (rw e h)

  -- a cell of the heads is no row's link
  no_row : (t : ℕ) → heads ≤ t → last_meets w k t ≡ false
  unfolding last_meets
  no_row t h = rw (le-ltb t links (omega arith), le-ltb (t - links) 1024 (omega arith))

  a-row : (j : ℕ) → j < 1024 → last_meets w k (link j) ≡ meets k j
  unfolding last_meets
  a-row j h =
      let f : link j - links ≡ j = omega arith in
      rw (le-ltb (link j) links (omega arith), f, lt-ltb j 1024 h)

  back-spotted : p ≢ fel → (rows : List ℕ) → Listed w p rows → Spotted p k (back_spot w p k) rows (backed meets k rows)
  unfolding back_spot back_before ending
  back-spotted chained [] one =
      let t : load w (tail p) ≡ head p = one.last chained in
      rw (t, no_row (head p) (omega arith)) (from-head [] chained one)
  back-spotted chained (y ∷ l) one =
      let j : ℕ = last_of y l in
      let t : load w (tail p) ≡ link j = one.last chained ∙ ending-last meets w p k (head p) y l in
      let row : j < 1024 = one.row j (occurs-last meets w p k y l) in
      rw (t, a-row j row)
      (go (meets k j) refl (rw (ending-last meets w p k (head p) y l) at (at-end y l)) (from-head (y ∷ l) chained one))
    where
      go : (b : Bool) → meets k (last_of y l) ≡ b
          → (meets k (last_of y l) ≡ true → Spotted p k (link (last_of y l)) (y ∷ l) (backed meets k (y ∷ l)))
          → Spotted p k (last_cell 1024 w k (head p) (head p)) (y ∷ l) (backed meets k (y ∷ l))
          → Spotted p k (cond b (link (last_of y l)) (last_cell 1024 w k (head p) (head p))) (y ∷ l) (backed meets k (y ∷ l))
      go true e met walk = met e
      go false e met walk = walk

-- ---- The rows of a line

-- with row k
unfoldable pub lined : (edition : ℕ) → List ℕ → (p k : ℕ) → List ℕ → List ℕ
lined edition w p k l = cond (eqb edition 1) (insert (outranks w) k l) (cond (eqb (read w 1 k % 2) 1) (k ∷ l) (backed (at_least w) k l))

module _ (w : List ℕ) (L : ℕ → List ℕ) (T : ℕ → List Transaction) (E : List Event) (s : Shown w L T E) (k : ℕ) (off : Loose w k)
    (edition p : ℕ) (hp : p < 770)
    (sorted : edition ≡ 1 → Sorted precedes (T p)) where
  one : Listed w p (L p)
  one = s.holds.listed p (omega arith)

  -- under edition 2
  spotted : Spotted p k (second_spot w p k) (L p) (cond (eqb (read w 1 k % 2) 1) (k ∷ L p) (backed (at_least w) k (L p)))
  unfolding second_spot ending
  spotted = go (eqb (read w 1 k % 2) 1)
    where
      go : (mark : Bool) → Spotted p k (cond mark (head p) (back_spot w p k)) (L p) (cond mark (k ∷ L p) (backed (at_least w) k (L p)))
      go true = record { before = []; behind = L p; parts = refl; cell = refl; is = refl }
      go false = back-spotted w p k (λ e. omega arith) (L p) one

  -- they are the transactions of the machine's line
  lined-is : map (transaction_at w) (lined edition w p k (L p)) ≡ Moves.line_up edition (transaction_at w k) (T p)
  unfolding lined Moves.line_up Moves.from_back transaction_at
  lined-is = go (eqb edition 1) (eqb (read w 1 k % 2) 1)
    where
      tx : ℕ → Transaction
      tx = transaction_at w

      go : (b mark : Bool) → map tx (cond b (insert (outranks w) k (L p)) (cond mark (k ∷ L p) (backed (at_least w) k (L p))))
          ≡ cond b (insert precedes (tx k) (T p)) (cond mark (tx k ∷ T p) (backed (λ a b. leb a.priority b.priority) (tx k) (T p)))
      go true mark =
          map-insert tx (outranks w) precedes (outranks-is w) k (L p) ∙ ap (insert precedes (tx k)) (s.lists p hp)
      go false true = ap (λ (l : List Transaction). tx k ∷ l) (s.lists p hp)
      go false false =
          map-backed tx (at_least w) (λ a b. leb a.priority b.priority) (λ x y. refl) k (L p)
          ∙ ap (backed (λ a b. leb a.priority b.priority) (tx k)) (s.lists p hp)

  chained : p ≢ fel
  chained e = omega arith

  pub line-keeps : Kept w (line_up edition w p k) k
  unfolding line_up
  line-keeps = go (eqb edition 1)
    where
      go : (b : Bool) → Kept w (cond b (put w p k) (insert_at w p (second_spot w p k) k)) k
      go true = put_keeps w L s.holds p k (omega arith) chained off
      go false =
          rw spotted.cell
          (insert-keeps w L s.holds p k spotted.before spotted.behind (omega arith) chained off.row spotted.parts off.off)

  pub line-placed : load (line_up edition w p k) (place k) ≡ p
  unfolding line_up
  line-placed = go (eqb edition 1)
    where
      go : (b : Bool) → load (cond b (put w p k) (insert_at w p (second_spot w p k) k)) (place k) ≡ p
      go true = put-placed w L s.holds p k (omega arith) chained off
      go false =
          rw spotted.cell
          (insert-placed w L s.holds p k spotted.before spotted.behind (omega arith) chained off.row spotted.parts
          off.off)

  line-holds : Holds (line_up edition w p k) (update p (lined edition w p k (L p)) L)
  unfolding line_up lined
  line-holds = go (eqb edition 1) refl
    where
      go : (b : Bool) → eqb edition 1 ≡ b
          → Holds (cond b (put w p k) (insert_at w p (second_spot w p k) k))
          (update p (cond b (insert (outranks w) k (L p)) (cond (eqb (read w 1 k % 2) 1) (k ∷ L p) (backed (at_least w) k (L p)))) L)
      go true e = (put-shown w L T E s k off p hp (sorted (eqb-true edition 1 e))).holds
      go false e =
          rw (spotted.cell, spotted.is)
          (insert-holds w L s.holds p k spotted.before spotted.behind (omega arith) chained off.row spotted.parts off.off)

  -- the row comes to stand where the machine's `line_up` puts its transaction
  pub line-shown : Shown (line_up edition w p k) (update p (lined edition w p k (L p)) L)
      (update p (Moves.line_up edition (transaction_at w k) (T p)) T) E
  line-shown =
      subst (λ (l : List Transaction). Shown (line_up edition w p k) (update p (lined edition w p k (L p)) L) (update p l T) E) lined-is
      (shown-list w (line_up edition w p k) L T E s p (lined edition w p k (L p)) line-holds line-keeps.rows hp)
