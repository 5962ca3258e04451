-- The FEL's heap with one slot that is to be filled: what a row that comes to it from above or below leaves.
use Rattle.machine.specs.All.{ℕ, ◌≤◌, ◌<◌, ◌≡◌, refl, sym, ap, ◌∙◌, ◌≢◌, Bool, true, false, List, arith, ℕ_discrete, length}
use Rattle.rows_laws.specs.All.{slot, place, link, fel, load, up, settle}
use Rattle.rows_laws.proofs as our
use our.Order.SortedInsertion.{Order, before-none, not-before}
use our.Heap.Slots.{up-less, settle-length, settle_other, settle-slot, settle-link}
use mathlib.Core.Path.{subst}

-- ---- Definition

-- slot j holds a row of the FEL other than k, which keeps j
pub record Seat (w : List ℕ) (k j : ℕ) : Type 0 where
  pub row : load w (slot j) < 1024
  pub at : load w (place (load w (slot j))) ≡ fel
  pub back : load w (link (load w (slot j))) ≡ j
  pub other : load w (slot j) ≢ k

-- row r keeps a slot below n other than i, which holds it
pub record Seated (w : List ℕ) (n i r : ℕ) : Type 0 where
  pub low : load w (link r) < n
  pub other : load w (link r) ≢ i
  pub back : load w (slot (load w (link r))) ≡ r

-- of slots 0..n - 1 only slot i is to be filled, by row k; nobody below it stands before the row above it
pub record Open (before : ℕ → ℕ → Bool) (w : List ℕ) (n i k : ℕ) : Type 0 where
  pub room : 16384 ≤ length w
  pub many : n ≤ 1024
  pub hole : i < n
  pub row : k < 1024
  pub placed : load w (place k) ≡ fel
  pub seat : (j : ℕ) → j < n → j ≢ i → Seat w k j
  pub seated : (r : ℕ) → r < 1024 → load w (place r) ≡ fel → r ≢ k → Seated w n i r
  pub order : (j : ℕ) → 0 < j → j < n → j ≢ i → up j ≢ i → before (load w (slot j)) (load w (slot (up j))) ≡ false
  pub around : (j : ℕ) → 0 < j → j < n → up j ≡ i → 0 < i → before (load w (slot j)) (load w (slot (up i))) ≡ false

-- nobody below it stands before row k
abbrev pub Under : (before : ℕ → ℕ → Bool) (w : List ℕ) (n i k : ℕ) → Type 0
Under before w n i k = (j : ℕ) → 0 < j → j < n → up j ≡ i → before (load w (slot j)) k ≡ false

-- all slots are filled
pub record Full (before : ℕ → ℕ → Bool) (w : List ℕ) (n : ℕ) : Type 0 where
  pub seat : (j : ℕ) → j < n → (load w (slot j) < 1024) × (load w (place (load w (slot j))) ≡ fel) × (load w (link (load w (slot j))) ≡ j)
  pub seated : (r : ℕ) → r < 1024 → load w (place r) ≡ fel → (load w (link r) < n) × (load w (slot (load w (link r))) ≡ r)
  pub order : (j : ℕ) → 0 < j → j < n → before (load w (slot j)) (load w (slot (up j))) ≡ false

module _ (before : ℕ → ℕ → Bool) (o : Order before) (w : List ℕ) (n i k : ℕ) (h : Open before w n i k) where
  -- equal rows compare alike
  alike : (a b x y : ℕ) → a ≡ x → b ≡ y → before x y ≡ false → before a b ≡ false
  alike a b x y e f g = rw (e, f) g

  -- ---- The row of slot c comes to slot i

  module _ (c : ℕ) (hc : c < n) (d : c ≢ i) where
    abbrev r : ℕ
    r = load w (slot c)

    abbrev w' : List ℕ
    w' = settle w i r

    sc : Seat w k c
    sc = h.seat c hc d

    hi : i < 1024
    hi = omega (arith, h.hole, h.many)

    here : load w' (slot i) ≡ r
    here = settle-slot w i r h.room hi sc.row

    there : (j : ℕ) → j < 1024 → j ≢ i → load w' (slot j) ≡ load w (slot j)
    there j hj e = settle_other w i r (slot j) (λ q. e (omega arith)) (λ q. omega (arith, sc.row))

    places : (x : ℕ) → x < 1024 → load w' (place x) ≡ load w (place x)
    places x hx = settle_other w i r (place x) (λ q. omega arith) (λ q. omega (arith, sc.row))

    its-link : load w' (link r) ≡ i
    its-link = settle-link w i r h.room hi sc.row

    other-link : (x : ℕ) → x < 1024 → x ≢ r → load w' (link x) ≡ load w (link x)
    other-link x hx e = settle_other w i r (link x) (λ q. omega arith) (λ q. e (omega arith))

    seat_of : (j s : ℕ) → load w' (slot j) ≡ s → s < 1024 → load w (place s) ≡ fel → load w' (link s) ≡ j → s ≢ k → Seat w' k j
    seat_of j s q a p b e = record { row = rw q a; at = rw q (places s a ∙ p); back = rw q b; other = rw q e }

    moved-seat : (j : ℕ) → j < n → j ≢ c → Seat w' k j
    moved-seat j hj e = go (ℕ_discrete j i)
      where
        go : Dec (j ≡ i) → Seat w' k j
        go (yes q) =
            seat_of j r (ap (λ (x : ℕ). load w' (slot x)) q ∙ here) sc.row sc.at (its-link ∙ sym q) sc.other
        go (no f) =
            let s : Seat w k j = h.seat j hj f in
            seat_of j (load w (slot j)) (there j (omega (arith, h.many)) f) s.row s.at
            (other-link (load w (slot j)) s.row (λ q. e (sym s.back ∙ ap (λ (x : ℕ). load w (link x)) q ∙ sc.back)) ∙ s.back)
            s.other

    seated_of : (x s : ℕ) → load w' (link x) ≡ s → s < n → s ≢ c → load w' (slot s) ≡ x → Seated w' n c x
    seated_of x s q a e b = record { low = rw q a; other = rw q e; back = rw q b }

    moved-seated : (x : ℕ) → x < 1024 → load w' (place x) ≡ fel → x ≢ k → Seated w' n c x
    moved-seated x hx p e = go (ℕ_discrete x r)
      where
        go : Dec (x ≡ r) → Seated w' n c x
        go (yes q) = seated_of x i (ap (λ (y : ℕ). load w' (link y)) q ∙ its-link) h.hole (λ f. d (sym f)) (here ∙ sym q)
        go (no f) =
            let s : Seated w n i x = h.seated x hx (sym (places x hx) ∙ p) e in
            seated_of x (load w (link x)) (other-link x hx f) s.low
            (λ q. f (sym s.back ∙ ap (λ (y : ℕ). load w (slot y)) q))
            (there (load w (link x)) (omega (arith, s.low, h.many)) s.other ∙ s.back)

    -- what is left to be shown is the order
    opened : ((j : ℕ) → 0 < j → j < n → j ≢ c → up j ≢ c → before (load w' (slot j)) (load w' (slot (up j))) ≡ false)
        → ((j : ℕ) → 0 < j → j < n → up j ≡ c → 0 < c → before (load w' (slot j)) (load w' (slot (up c))) ≡ false) → Open before w' n c k
    opened order around =
        record {
          room = rw (settle-length w i r) h.room;
          many = h.many;
          hole = hc;
          row = h.row;
          placed = places k h.row ∙ h.placed;
          seat = moved-seat;
          seated = moved-seated;
          order = order;
          around = around;
        }

  -- ---- Upwards: row k stands before the row above

  module _ (pos : 0 < i) (t : before k (load w (slot (up i))) ≡ true) where
    abbrev c : ℕ
    c = up i

    hc : c < n
    hc = omega (arith, h.hole, up-less i pos)

    d : c ≢ i
    d e = omega (arith, up-less i pos)

    abbrev v : List ℕ
    v = settle w i (load w (slot c))

    -- the rows of c's other side stand as they did
    beside : (j : ℕ) → 0 < j → j < n → up j ≡ c → j ≢ i → before (load w (slot j)) (load w (slot c)) ≡ false
    beside j hj hn e f =
        subst (λ (x : ℕ). before (load w (slot j)) (load w (slot x)) ≡ false) e (h.order j hj hn f (λ q. d (sym e ∙ q)))

    pub risen : Open before v n c k
    risen = opened c hc d ordered arounds
      where
        ordered : (j : ℕ) → 0 < j → j < n → j ≢ c → up j ≢ c → before (load v (slot j)) (load v (slot (up j))) ≡ false
        ordered j hj hn e f =
            let apart : j ≢ i = λ q. f (ap up q) in
            let same : load v (slot j) ≡ load w (slot j) = there c hc d j (omega (arith, h.many)) apart in
            go apart same (ℕ_discrete (up j) i)
          where
            go : j ≢ i → load v (slot j) ≡ load w (slot j) → Dec (up j ≡ i) → before (load v (slot j)) (load v (slot (up j))) ≡ false
            go apart same (yes q) = alike _ _ _ _ same (ap (λ (x : ℕ). load v (slot x)) q ∙ here c hc d) (h.around j hj hn q pos)
            go apart same (no g) =
                alike _ _ _ _ same (there c hc d (up j) (omega (arith, h.many, up-less j hj)) g) (h.order j hj hn apart g)

        arounds : (j : ℕ) → 0 < j → j < n → up j ≡ c → 0 < c → before (load v (slot j)) (load v (slot (up c))) ≡ false
        arounds j hj hn e p = go (ℕ_discrete j i)
          where
            higher : up c < c
            higher = up-less c p

            far : up c ≢ i
            far q = omega (arith, higher, up-less i pos)

            base : before (load w (slot c)) (load w (slot (up c))) ≡ false
            base = h.order c p hc d far

            two : load v (slot (up c)) ≡ load w (slot (up c))
            two = there c hc d (up c) (omega (arith, h.many, higher, hc)) far

            go : Dec (j ≡ i) → before (load v (slot j)) (load v (slot (up c))) ≡ false
            go (yes q) = alike _ _ _ _ (ap (λ (x : ℕ). load v (slot x)) q ∙ here c hc d) two base
            go (no f) =
                alike _ _ _ _ (there c hc d j (omega (arith, h.many)) f) two
                (not-before before o (load w (slot j)) (load w (slot c)) (load w (slot (up c))) (beside j hj hn e f) base)

    pub risen-under : Under before v n c k
    risen-under j hj hn e = go (ℕ_discrete j i)
      where
        go : Dec (j ≡ i) → before (load v (slot j)) k ≡ false
        go (yes q) = alike _ _ _ _ (ap (λ (x : ℕ). load v (slot x)) q ∙ here c hc d) refl (o.asym k (load w (slot c)) t)
        go (no f) =
            alike _ _ _ _ (there c hc d j (omega (arith, h.many)) f) refl
            (before-none before o (load w (slot j)) (load w (slot c)) k t (beside j hj hn e f))

  -- ---- Downwards: of the rows below, that of slot c stands first

  module _ (c : ℕ) (pos : 0 < c) (hc : c < n) (e : up c ≡ i)
      (least : (j : ℕ) → 0 < j → j < n → up j ≡ i → before (load w (slot j)) (load w (slot c)) ≡ false) where
    apart : c ≢ i
    apart q = omega (arith, up-less c pos, e)

    abbrev u : List ℕ
    u = settle w i (load w (slot c))

    pub sunk : Open before u n c k
    sunk = opened c hc apart ordered arounds
      where
        ordered : (j : ℕ) → 0 < j → j < n → j ≢ c → up j ≢ c → before (load u (slot j)) (load u (slot (up j))) ≡ false
        ordered j hj hn f g = go (ℕ_discrete j i) (ℕ_discrete (up j) i)
          where
            same : j ≢ i → load u (slot j) ≡ load w (slot j)
            same q = there c hc apart j (omega (arith, h.many)) q

            go : Dec (j ≡ i) → Dec (up j ≡ i) → before (load u (slot j)) (load u (slot (up j))) ≡ false
            go (yes q) x =
                alike _ _ _ _ (ap (λ (x : ℕ). load u (slot x)) q ∙ here c hc apart)
                (there c hc apart (up j) (omega (arith, h.many, up-less j hj)) (λ z. omega (arith, up-less j hj))
                ∙ ap (λ (x : ℕ). load w (slot (up x))) q)
                (h.around c pos hc e (omega arith))
            go (no q) (yes x) =
                alike _ _ _ _ (same q) (ap (λ (x : ℕ). load u (slot x)) x ∙ here c hc apart) (least j hj hn x)
            go (no q) (no x) =
                alike _ _ _ _ (same q) (there c hc apart (up j) (omega (arith, h.many, up-less j hj)) x) (h.order j hj hn q x)

        arounds : (j : ℕ) → 0 < j → j < n → up j ≡ c → 0 < c → before (load u (slot j)) (load u (slot (up c))) ≡ false
        arounds j hj hn f p =
            let lower : j ≢ i = λ q. omega (arith, up-less j hj, up-less c pos, f, e) in
            alike _ _ _ _ (there c hc apart j (omega (arith, h.many)) lower) (ap (λ (x : ℕ). load u (slot x)) e ∙ here c hc apart)
            (subst (λ (x : ℕ). before (load w (slot j)) (load w (slot x)) ≡ false) f (h.order j hj hn lower (λ q. apart (sym f ∙ q))))

  -- ---- Row k fills slot i

  module _ (under : Under before w n i k) (stop : 0 < i → before k (load w (slot (up i))) ≡ false) where
    abbrev z : List ℕ
    z = settle w i k

    low : i < 1024
    low = omega (arith, h.hole, h.many)

    its-slot : load z (slot i) ≡ k
    its-slot = settle-slot w i k h.room low h.row

    own-link : load z (link k) ≡ i
    own-link = settle-link w i k h.room low h.row

    slot_else : (j : ℕ) → j < 1024 → j ≢ i → load z (slot j) ≡ load w (slot j)
    slot_else j hj e = settle_other w i k (slot j) (λ q. e (omega arith)) (λ q. omega (arith, h.row))

    place_kept : (x : ℕ) → x < 1024 → load z (place x) ≡ load w (place x)
    place_kept x hx = settle_other w i k (place x) (λ q. omega arith) (λ q. omega (arith, h.row))

    link_else : (x : ℕ) → x < 1024 → x ≢ k → load z (link x) ≡ load w (link x)
    link_else x hx e = settle_other w i k (link x) (λ q. omega arith) (λ q. e (omega arith))

    filled-seat : (j : ℕ) → j < n
        → (load z (slot j) < 1024) × (load z (place (load z (slot j))) ≡ fel) × (load z (link (load z (slot j))) ≡ j)
    filled-seat j hj = go (ℕ_discrete j i)
      where
        made : (s : ℕ) → load z (slot j) ≡ s → s < 1024 → load w (place s) ≡ fel → load z (link s) ≡ j
            → (load z (slot j) < 1024) × (load z (place (load z (slot j))) ≡ fel) × (load z (link (load z (slot j))) ≡ j)
        made s q a p b = (rw q a, rw q (place_kept s a ∙ p), rw q b)

        go : Dec (j ≡ i) → (load z (slot j) < 1024) × (load z (place (load z (slot j))) ≡ fel) × (load z (link (load z (slot j))) ≡ j)
        go (yes q) = made k (ap (λ (x : ℕ). load z (slot x)) q ∙ its-slot) h.row h.placed (own-link ∙ sym q)
        go (no f) =
            let s : Seat w k j = h.seat j hj f in
            made (load w (slot j)) (slot_else j (omega (arith, h.many)) f) s.row s.at
            (link_else (load w (slot j)) s.row s.other ∙ s.back)

    filled-seated : (x : ℕ) → x < 1024 → load z (place x) ≡ fel → (load z (link x) < n) × (load z (slot (load z (link x))) ≡ x)
    filled-seated x hx p = go (ℕ_discrete x k)
      where
        made : (s : ℕ) → load z (link x) ≡ s → s < n → load z (slot s) ≡ x → (load z (link x) < n) × (load z (slot (load z (link x))) ≡ x)
        made s q a b = (rw q a, rw q b)

        go : Dec (x ≡ k) → (load z (link x) < n) × (load z (slot (load z (link x))) ≡ x)
        go (yes q) = made i (ap (λ (y : ℕ). load z (link y)) q ∙ own-link) h.hole (its-slot ∙ sym q)
        go (no f) =
            let s : Seated w n i x = h.seated x hx (sym (place_kept x hx) ∙ p) f in
            made (load w (link x)) (link_else x hx f) s.low
            (slot_else (load w (link x)) (omega (arith, s.low, h.many)) s.other ∙ s.back)

    filled-order : (j : ℕ) → 0 < j → j < n → before (load z (slot j)) (load z (slot (up j))) ≡ false
    filled-order j hj hn = go (ℕ_discrete j i) (ℕ_discrete (up j) i)
      where
        same : j ≢ i → load z (slot j) ≡ load w (slot j)
        same q = slot_else j (omega (arith, h.many)) q

        upper : up j < 1024
        upper = omega (arith, h.many, up-less j hj)

        go : Dec (j ≡ i) → Dec (up j ≡ i) → before (load z (slot j)) (load z (slot (up j))) ≡ false
        go (yes q) x =
            alike _ _ _ _ (ap (λ (x : ℕ). load z (slot x)) q ∙ its-slot)
            (slot_else (up j) upper (λ y. omega (arith, up-less j hj)) ∙ ap (λ (x : ℕ). load w (slot (up x))) q)
            (stop (omega arith))
        go (no q) (yes x) = alike _ _ _ _ (same q) (ap (λ (x : ℕ). load z (slot x)) x ∙ its-slot) (under j hj hn x)
        go (no q) (no x) = alike _ _ _ _ (same q) (slot_else (up j) upper x) (h.order j hj hn q x)

    pub filled : Full before z n
    filled = record { seat = filled-seat; seated = filled-seated; order = filled-order }
