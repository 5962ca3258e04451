-- Those who go back to a QL one after the other: their chain is that of REL, of which it is cut off behind the last of them.
use Rattle.machine.specs.All.{cases, ℕ, zero, suc, ◌+◌, ◌-◌, ◌%◌, ◌/◌, ◌≤◌, ◌<◌, ◌≡◌, ◌≢◌, refl, sym, ap, ◌∙◌, Bool, true, false, cond, ◌&&◌, List, arith, lt-ltb, le-ltb, eq-eqb, ltb-true, ltb-false, eqb-true, eqb-false, not-true, ltb, eqb, length, get_or}
use Rattle.machine.proofs.Basic.Bools.{cond_true, cond_false}
use Rattle.layout.specs.Layout as Layout
use Rattle.rows_laws.specs.All.{rel, links, place, head, tail, link, field_at, nowhere, load, store, read, outranks, first, end_at, insert_at, remove_row, remove_at, take_first, spot_before, spot, note, put, line_up}
use Rattle.rows_laws.proofs.Buffer.Store.{length-store, load_same, load-other, store_kept, store_swap, store-again}
use Rattle.turn_laws.specs.{server_of, back_to, lined, lined_times, Lines, ends_at, comes_with, WhereLine, tied}

-- ---- Stores and the end of a list

end-swap : (y : List ℕ) (p n h c x : ℕ) → c ≢ tail p → store (end_at y p n h) c x ≡ end_at (store y c x) p n h
unfolding end_at
end-swap y p n h c x d = go (ltb n 1024)
  where
    go : (b : Bool) → store (cond b y (store y (tail p) h)) c x ≡ cond b (store y c x) (store (store y c x) (tail p) h)
    go true = refl
    go false = store_swap y (tail p) h c x (λ e. d (sym e))

end-load : (y : List ℕ) (p n h i : ℕ) → i ≢ tail p → load (end_at y p n h) i ≡ load y i
unfolding end_at
end-load y p n h i d = go (ltb n 1024)
  where
    go : (b : Bool) → load (cond b y (store y (tail p) h)) i ≡ load y i
    go true = refl
    go false = load-other y (tail p) h i d

-- ---- One goes back

-- the last cell of list v: its head, or the link of a row before which k does not stand
pub data LastCell (w : List ℕ) (v k c : ℕ) : Type 0 where
  at_head : c ≡ head v → LastCell w v k c
  behind-row : (j : ℕ) → j < 1024 → c ≡ link j → j ≢ k → outranks w k j ≡ false → LastCell w v k c

-- row k, the first of REL, comes behind cell c, where m, which is no row, stands
abbrev appended : List ℕ → (v k c m : ℕ) → List ℕ
appended w v k c m =
    store (store (store (store (end_at (store w (head rel) (load w (link k))) rel (load w (link k)) (head rel)) (place k) v) (link k) m) c k)
    (tail v) (link k)

module _ (w : List ℕ) (v k c m : ℕ) (hv : v < 64) (hk : k < 1024) (is : first w rel ≡ k) (last : load w (tail v) ≡ c)
    (cell : LastCell w v k c) (ends : load w c ≡ m) (none : 1024 ≤ m) where
  abbrev n : ℕ
  n = load w (link k)

  -- without its first
  abbrev cut : List ℕ
  cut = end_at (store w (head rel) n) rel n (head rel)

  abbrev w₁ : List ℕ
  w₁ = store cut (place k) nowhere

  -- what stays of a number
  other : (i : ℕ) → i ≢ place k → i ≢ tail rel → i ≢ head rel → load w₁ i ≡ load w i
  other i a b d =
      load-other cut (place k) nowhere i a ∙ end-load (store w (head rel) n) rel n (head rel) i b ∙ load-other w (head rel) n i d

  record Cell : Type 0 where
    not-place : c ≢ place k
    not-tail : c ≢ tail rel
    not-head : c ≢ head rel
    not-link : c ≢ link k
    not_own : c ≢ tail v

  where-cell : Cell
  where-cell = go cell
    where
      go : LastCell w v k c → Cell
      go (at_head e) =
          record {
            not-place = λ q. omega arith;
            not-tail = λ q. omega arith;
            not-head = λ q. omega arith;
            not-link = λ q.
                omega arith;
            not_own = λ q. omega arith;
          }
      go (behind-row j hj e d o) =
          record {
            not-place = λ q. omega arith;
            not-tail = λ q. omega arith;
            not-head = λ q. omega arith;
            not-link = λ q.
                d (omega arith);
            not_own = λ q. omega arith;
          }

  row_kept : (f j : ℕ) → f < 11 → j < 1024 → read w₁ f j ≡ read w f j
  row_kept f j hf hj = other (field_at f j) (λ q. omega arith) (λ q. omega arith) (λ q. omega arith)

  rank-kept : (j : ℕ) → j < 1024 → outranks w₁ k j ≡ outranks w k j
  unfolding outranks
  rank-kept j hj =
      rw (row_kept 1 k (omega arith) hk, row_kept 1 j (omega arith) hj, row_kept 7 k (omega arith) hk, row_kept 7 j (omega arith) hj)

  spotted : spot_before (outranks w₁) w₁ v k c ≡ c
  unfolding spot_before
  spotted = go cell
    where
      go : LastCell w v k c → spot_before (outranks w₁) w₁ v k c ≡ c
      go (at_head e) = unfold spot_before in rw (le-ltb c links (omega arith), le-ltb (c - links) 1024 (omega arith))
      go (behind-row j hj e d o) =
          let row : c - links ≡ j = omega arith in
          unfold spot_before in rw (le-ltb c links (omega arith), row, lt-ltb j 1024 hj, rank-kept j hj, o)

  taken : take_first w rel ≡ w₁
  unfolding remove_at remove_row
  taken = rw (is, lt-ltb k 1024 hk)

  put_is : put w₁ v k ≡ store (store (store (store w₁ (link k) m) c k) (tail v) (link k)) (place k) v
  unfolding put spot insert_at note end_at
  put_is =
      let t : load w₁ (tail v) ≡ c = other (tail v) (λ q. omega arith) (λ q. omega arith) (λ q. omega arith) ∙ last in
      let e : load w₁ c ≡ m = other c where-cell.not-place where-cell.not-tail where-cell.not-head ∙ ends in
      rw (t, spotted, e, le-ltb m 1024 none, eq-eqb c c refl)

  placed : store (store (store (store w₁ (link k) m) c k) (tail v) (link k)) (place k) v ≡ appended w v k c m
  placed =
      store_swap (store (store w₁ (link k) m) c k) (tail v) (link k) (place k) v (λ q. omega arith)
      ∙ ap (λ z. store z (tail v) (link k))
      (store_swap (store w₁ (link k) m) c k (place k) v where-cell.not-place
      ∙ ap (λ z. store z c k)
      (store_swap w₁ (link k) m (place k) v (λ q. omega arith)
      ∙ ap (λ z. store z (link k) m) (store-again cut (place k) nowhere v)))

  -- who comes back first, to the end of its QL, is taken off REL and appended there
  pub lined-is : (tables : List ℕ) (block : ℕ) → server_of tables block ≡ v → get_or tables Layout.edition 0 ≡ 1
      → lined tables w block ≡ appended w v k c m
  unfolding lined line_up
  lined-is tables block server edition =
      rw (is, lt-ltb k 1024 hk, server, edition, taken) (put_is ∙ placed)

  -- ---- The first of them: list v is tied behind it
  pub tied-first : appended w v k c m ≡ tied (store (store w c k) (place k) v) v k m
  unfolding tied
  tied-first =
      let u : List ℕ = store w (head rel) n in
      let same : load (store (store w c k) (place k) v) (link k) ≡ n = load-other (store w c k) (place k) v (link k) (λ q. omega arith)
      ∙ load-other w c k (link k) (λ q. where-cell.not-link (sym q)) in
      rw same
      (ap (λ z. store (store (store z (link k) m) c k) (tail v) (link k)) (end-swap u rel n (head rel) (place k) v (λ q. omega arith))
      ∙ ap (λ z. store (store z c k) (tail v) (link k)) (end-swap (store u (place k) v) rel n (head rel) (link k) m (λ q. omega arith))
      ∙ ap (λ z. store z (tail v) (link k)) (end-swap (store (store u (place k) v) (link k) m) rel n (head rel) c k where-cell.not-tail)
      ∙ end-swap (store (store (store u (place k) v) (link k) m) c k) rel n (head rel) (tail v) (link k) (λ q. omega arith)
      ∙ ap (λ z. end_at (store z (tail v) (link k)) rel n (head rel))
      (store_swap (store u (place k) v) (link k) m c k (λ q. where-cell.not-link (sym q))
      ∙ ap (λ z. store z (link k) m)
      (store_swap u (place k) v c k (λ q. where-cell.not-place (sym q))
      ∙ ap (λ z. store z (place k) v) (store_swap w (head rel) n c k (λ q. where-cell.not-head (sym q)))
      ∙ store_swap (store w c k) (head rel) n (place k) v (λ q. omega arith))))

-- ---- One more: row k, which stood behind row l

pub record Next (w : List ℕ) (block l k : ℕ) : Type 0 where
  pub row : k < 1024
  pub next : read w 6 k ≡ block
  pub standing : read w 1 k ≡ read w 1 l
  pub later : read w 7 l < read w 7 k

module _ (w : List ℕ) (v l m : ℕ) (room : 16384 ≤ length w) (hv : v < 64) (hl : l < 1024) (none : 1024 ≤ m) (block k : ℕ)
    (is : load w (link l) ≡ k) (h : Next w block l k) where
  abbrev opened : List ℕ
  opened = store (store (store w (head rel) k) (link l) m) (tail v) (link l)

  tied_is : tied w v l m ≡ opened
  unfolding tied end_at
  tied_is = rw (is, lt-ltb k 1024 h.row)

  kept : (i : ℕ) → i ≢ head rel → i ≢ link l → i ≢ tail v → load opened i ≡ load w i
  kept i a b c = load-other _ (tail v) (link l) i c ∙ load-other _ (link l) m i b ∙ load-other w (head rel) k i a

  field : (f j : ℕ) → f < 11 → j < 1024 → read opened f j ≡ read w f j
  field f j hf hj = kept (field_at f j) (λ q. omega arith) (λ q. omega arith) (λ q. omega arith)

  not_own : l ≢ k
  not_own e = omega (arith, h.later, ap (λ j. read w 7 j) e)

  room₁ : 16384 ≤ length (store w (head rel) k)
  room₁ = omega (arith, length-store w (head rel) k)

  room₂ : 16384 ≤ length (store (store w (head rel) k) (link l) m)
  room₂ = omega (arith, room₁, length-store (store w (head rel) k) (link l) m)

  first-is : first opened rel ≡ k
  first-is =
      load-other _ (tail v) (link l) (head rel) (λ q. omega arith) ∙ load-other _ (link l) m (head rel) (λ q. omega arith)
      ∙ load_same w (head rel) k room (omega arith)

  last-is : load opened (tail v) ≡ link l
  last-is = load_same _ (tail v) (link l) room₂ (omega arith)

  ends_is : load opened (link l) ≡ m
  ends_is = load-other _ (tail v) (link l) (link l) (λ q. omega arith) ∙ load_same _ (link l) m room₁ (omega arith)

  behind : outranks opened k l ≡ false
  unfolding outranks
  behind =
      rw (
        field 1 k (omega arith) h.row,
        field 1 l (omega arith) hl,
        field 7 k (omega arith) h.row,
        field 7 l (omega arith) hl,
        h.standing,
        le-ltb (read w 1 l / 2) (read w 1 l / 2) (omega arith),
        le-ltb (read w 7 k) (read w 7 l) (omega (arith, h.later)),
        and_false (eqb (read w 1 l / 2) (read w 1 l / 2)),
      )
    where
      and_false : (b : Bool) → (b && false) ≡ false
      and_false true = refl
      and_false false = refl

  next-link : load opened (link k) ≡ load w (link k)
  next-link = kept (link k) (λ q. omega arith) (λ q. not_own (omega arith)) (λ q. omega arith)

  -- it comes back
  pub comes_back : read w 1 l % 2 ≡ 1 → back_to (tied w v l m) ≡ block
  unfolding back_to
  comes_back odd =
      rw (tied_is, first-is, lt-ltb k 1024 h.row, field 1 k (omega arith) h.row, h.standing, odd, field 6 k (omega arith) h.row)
      h.next

  abbrev rest : ℕ
  rest = load w (link k)

  abbrev to : List ℕ → List ℕ
  to y = end_at y rel rest (head rel)

  -- what stands behind it follows REL's head, and it is tied in its turn
  appended-tied : appended opened v k (link l) m ≡ tied (store w (place k) v) v k m
  unfolding tied
  appended-tied =
      let u : List ℕ = store opened (head rel) rest in
      let same : load (store w (place k) v) (link k) ≡ rest = load-other w (place k) v (link k) (λ q. omega arith) in
      let a : u ≡ store (store (store w (head rel) rest) (link l) m) (tail v) (link l) =
      store_swap (store (store w (head rel) k) (link l) m) (tail v) (link l) (head rel) rest (λ q. omega arith)
      ∙ ap (λ z. store z (tail v) (link l))
      (store_swap (store w (head rel) k) (link l) m (head rel) rest (λ q. omega arith)
      ∙ ap (λ z. store z (link l) m) (store-again w (head rel) k rest)) in
      let y : List ℕ = store w (head rel) rest in
      let own : store y (link l) k ≡ y =
      store_swap w (head rel) rest (link l) k (λ q. omega arith)
      ∙ ap (λ z. store z (head rel) rest) (ap (store w (link l)) (sym is) ∙ store_kept w (link l)) in
      let b : store (store (store (store (store y (link l) m) (tail v) (link l)) (place k) v) (link k) m) (link l) k
      ≡ store (store (store y (tail v) (link l)) (place k) v) (link k) m =
      store_swap (store (store (store y (link l) m) (tail v) (link l)) (place k) v) (link k) m (link l) k (λ q. not_own (omega arith))
      ∙ ap (λ z. store z (link k) m)
      (store_swap (store (store y (link l) m) (tail v) (link l)) (place k) v (link l) k (λ q. omega arith)
      ∙ ap (λ z. store z (place k) v)
      (store_swap (store y (link l) m) (tail v) (link l) (link l) k (λ q. omega arith)
      ∙ ap (λ z. store z (tail v) (link l)) (store-again y (link l) m k ∙ own))) in
      let c : store (store (store (store y (tail v) (link l)) (place k) v) (link k) m) (tail v) (link k)
      ≡ store (store (store y (place k) v) (link k) m) (tail v) (link k) =
      ap (λ z. store (store z (link k) m) (tail v) (link k)) (store_swap y (tail v) (link l) (place k) v (λ q. omega arith))
      ∙ ap (λ z. store z (tail v) (link k)) (store_swap (store y (place k) v) (tail v) (link l) (link k) m (λ q. omega arith))
      ∙ store-again (store (store y (place k) v) (link k) m) (tail v) (link l) (link k) in
      let d : store y (place k) v ≡ store (store w (place k) v) (head rel) rest =
      store_swap w (head rel) rest (place k) v (λ q. omega arith) in
      rw (next-link, same)
      (ap (λ z. store (store (store z (link k) m) (link l) k) (tail v) (link k))
      (end-swap u rel rest (head rel) (place k) v (λ q. omega arith))
      ∙ ap (λ z. store (store z (link l) k) (tail v) (link k))
      (end-swap (store u (place k) v) rel rest (head rel) (link k) m (λ q. omega arith))
      ∙ ap (λ z. store z (tail v) (link k))
      (end-swap (store (store u (place k) v) (link k) m) rel rest (head rel) (link l) k (λ q. omega arith))
      ∙ end-swap (store (store (store u (place k) v) (link k) m) (link l) k) rel rest (head rel) (tail v) (link k) (λ q. omega arith)
      ∙ ap (λ z. to (store (store (store (store z (place k) v) (link k) m) (link l) k) (tail v) (link k))) a
      ∙ ap (λ z. to (store z (tail v) (link k))) b
      ∙ ap to c
      ∙ ap (λ z. to (store (store z (link k) m) (tail v) (link k))) d)

  -- the next of the chain, appended behind the last, leaves the chain one longer
  pub tied-next : (tables : List ℕ) → server_of tables block ≡ v → get_or tables Layout.edition 0 ≡ 1
      → lined tables (tied w v l m) block ≡ tied (store w (place k) v) v k m
  tied-next tables server edition =
      ap (λ z. lined tables z block) tied_is
      ∙ lined-is opened v k (link l) m hv h.row first-is last-is
      (behind-row l hl refl not_own behind) ends_is none tables block server edition
      ∙ appended-tied

-- ---- In the midst of them

times-shift : (tables : List ℕ) (block n : ℕ) (w : List ℕ)
    → lined_times tables block n (lined tables w block) ≡ lined_times tables block (suc n) w
unfolding lined_times
times-shift tables block zero w = refl
times-shift tables block (suc n) w = ap (λ z. lined tables z block) (times-shift tables block n w)

-- rows w and their last l, where i of them have come since rows w₀ and row l₀, all of one standing
pub record Lining (block v m : ℕ) (w₀ : List ℕ) (l₀ standing most : ℕ) (w : List ℕ) (l serial i : ℕ) : Type 0 where
  -- the rows with the chain so far are those after so many who line up one by one
  pub same : 1024 ≤ m → standing % 2 ≡ 1 → WhereLine block v (λ tables. Lines tables block (tied w₀ v l₀ m) (i - 1) (tied w v l m))
  pub room : 16384 ≤ length w₀
  pub stands : read w 1 l ≡ standing
  pub serial-is : read w 7 l ≡ serial
  pub some : 1 ≤ i
  pub few : i ≤ most
  pub kept : length w ≡ length w₀

-- the walk begins with the first alone
pub lining-none : {block v m : ℕ} {w : List ℕ} {l most : ℕ} → 16384 ≤ length w → 1 ≤ most
    → Lining block v m w l (read w 1 l) most w l (read w 7 l) 1
unfolding lined_times
lining-none room some =
    record {
      same = λ none odd tables server edition. record { rows = refl; back = λ i h. absurd (omega arith) };
      room = room;
      stands = refl;
      serial-is = refl;
      some = omega arith;
      few = some;
      kept = refl;
    }

-- who comes with the first: a row, before the same block, of the same standing, with a later serial
pub comes-is : (w : List ℕ) (n block standing serial : ℕ) → comes_with w n block standing serial ≡ true
    → (n < 1024) × (read w 6 n ≡ block) × (read w 1 n ≡ standing) × (serial < read w 7 n)
unfolding comes_with
comes-is w n block standing serial h =
    let a = cond_true (ltb n 1024) _ h in
    let b = cond_true (eqb (read w 6 n) block) _ a.1 in
    let c = cond_true (eqb (read w 1 n) standing) _ b.1 in
    (ltb-true n 1024 a.0, eqb-true _ block b.0, eqb-true _ standing c.0, ltb-true serial _ c.1)

-- one step of the walk
pub lining-next : {block v m : ℕ} {w₀ : List ℕ} {l₀ standing most : ℕ} {w : List ℕ} {l serial i : ℕ}
    → Lining block v m w₀ l₀ standing most w l serial i → v < 64 → l < 1024
    → (k : ℕ) → k ≡ load w (link l) → comes_with w k block standing serial ≡ true → i < most → (w' : List ℕ) → w' ≡ store w (place k) v
    → (serial' : ℕ) → serial' ≡ read w 7 k
    → Lining block v m w₀ l₀ standing most w' k serial' (i + 1)
unfolding lined_times
lining-next {block} {v} {m} {w₀} {l₀} {standing} {most} {w} {l} {serial} {i} h hv hl k at comes more w' is serial' is' =
    let c = comes-is w k block standing serial comes in
    let next : Next w block l k =
    record { row = c.0; next = c.1; standing = c.2 ∙ sym h.stands; later = omega (arith, h.serial-is, c.3) } in
    let room' : 16384 ≤ length w = omega (arith, h.kept, h.room) in
    let own : (f : ℕ) → f < 11 → read w' f k ≡ read w f k = λ f hf. ap (λ z. read z f k) is
    ∙ load-other w (place k) v (field_at f k) (λ q. omega arith) in
    let before : i + 1 - 1 ≡ suc (i - 1) = omega (arith, h.some) in
    record {
      same =
          λ none odd tables server edition.
          let done = h.same none odd tables server edition in
          rw (before, is)
          (record {
            rows =
                sym (ap (λ z. lined tables z block) (sym done.rows)
                ∙ tied-next w v l m room' hv hl none block k (sym at) next tables server edition);
            back = λ j hj. cases (ltb j (i - 1))
                (λ e. done.back j (ltb-true j _ e))
                (λ e. let last : j ≡ i - 1 = omega (arith, ltb-false j _ e) in
                rw last (rw (← done.rows)
                (comes_back w v l m room' hv hl none block k (sym at) next (ap (λ z. z % 2) h.stands ∙ odd))));
          });
      room = h.room;
      stands = own 1 (omega arith) ∙ c.2;
      serial-is = own 7 (omega arith) ∙ sym is';
      some = omega (arith, h.some);
      few = omega arith;
      kept = ap length is ∙ length-store w (place k) v ∙ h.kept;
    }

-- what came of them, from row l₀ on
pub lining-done : {block v m : ℕ} {w₀ : List ℕ} {l₀ standing most : ℕ} {w : List ℕ} {l serial i : ℕ}
    → Lining block v m w₀ l₀ standing most w l serial i
    → (w' : List ℕ) → w' ≡ tied w v l m → 1024 ≤ m → standing % 2 ≡ 1
    → WhereLine block v (λ tables. Lines tables block (tied w₀ v l₀ m) (i - 1) w')
lining-done h w' is none odd tables server edition = rw is (h.same none odd tables server edition)

-- ---- All of them

ends-is-last : {w : List ℕ} {v c k : ℕ} → ends_at w v c k ≡ true → LastCell w v k c
unfolding ends_at
ends-is-last {w} {v} {c} {k} h =
    cases (eqb c (head v))
    (λ e. at_head (eqb-true c (head v) e))
    (λ e. let a = cond_false (ltb c links) _ (rw e at h) in
    let b = cond_true (ltb (c - links) 1024) _ a.1 in
    let d = cond_false (eqb (c - links) k) _ b.1 in
    behind-row (c - links) (ltb-true _ 1024 b.0) (omega (arith, ltb-false c links a.0)) (eqb-false (c - links) k d.0)
    (not-true _ d.1))

-- who comes back is returning
back_odd : (w : List ℕ) (block : ℕ) → back_to w ≡ block → block ≢ 0 → (first w rel < 1024) × (read w 1 (first w rel) % 2 ≡ 1)
unfolding back_to
back_odd w block h some =
    cases (ltb (first w rel) 1024)
    (λ a. cases (eqb (read w 1 (first w rel) % 2) 1)
    (λ b. (ltb-true _ 1024 a, eqb-true _ 1 b))
    (λ b. absurd (some (sym (rw (a, b) at h)))))
    (λ a. absurd (some (sym (rw a at h))))

-- nobody lines up
pub lines_none : {tables : List ℕ} {block : ℕ} {w : List ℕ} → Lines tables block w 0 w
unfolding lined_times
lines_none = record { rows = refl; back = λ i h. absurd (omega arith) }

-- the walk whole: cut off REL, the chain stands behind its QL, as if each had come alone
pub lines-all : {tables : List ℕ} {block v : ℕ} {w : List ℕ} {k c m r : ℕ} {w₁ w' : List ℕ} → 16384 ≤ length w → server_of tables block ≡ v
    → v < 64 → get_or tables Layout.edition 0 ≡ 1
    → back_to w ≡ block → first w rel ≡ k → load w (tail v) ≡ c → ends_at w v c k ≡ true → load w c ≡ m → 1024 ≤ m
    → w₁ ≡ store (store w c k) (place k) v
    → (1024 ≤ m → read w₁ 1 k % 2 ≡ 1 → WhereLine block v (λ tables. Lines tables block (tied w₁ v k m) (r - 1) w')) → 1 ≤ r → block ≢ 0
    → Lines tables block w r w'
unfolding lined_times
lines-all {tables} {block} {v} {w} {k} {c} {m} {r} {w₁} {w'} room server hv edition back is last ends at none was rest some there =
    let b = back_odd w block back there in
    let hk : k < 1024 = omega (arith, b.0) in
    let cell = ends-is-last ends in
    let one : lined tables w block ≡ tied w₁ v k m =
    lined-is w v k c m hv hk is last cell at none tables block server edition ∙ tied-first w v k c m hv hk is last cell at none
    ∙ ap (λ z. tied z v k m) (sym was) in
    let kept : read w₁ 1 k ≡ read w 1 k = ap (λ z. read z 1 k) was ∙ load-other (store w c k) (place k) v (field_at 1 k) (λ q. omega arith)
    ∙ load-other w c k (field_at 1 k) (apart cell) in
    let done = rest none (ap (λ z. z % 2) kept ∙ rw is at b.1) tables server edition in
    let n : r ≡ suc (r - 1) = omega arith in
    record {
      rows =
          done.rows ∙ ap (lined_times tables block (r - 1)) (sym one) ∙ times-shift tables block (r - 1) w
          ∙ ap (λ z. lined_times tables block z w) (sym n);
      back = λ i hi. go one done i hi;
    }
  where
    apart : LastCell w v k c → field_at 1 k ≢ c
    apart (at_head e) q = omega (arith, (back_odd w block back there).0)
    apart (behind-row j hj e d o) q = omega (arith, (back_odd w block back there).0)

    go : lined tables w block ≡ tied w₁ v k m → Lines tables block (tied w₁ v k m) (r - 1) w' → (i : ℕ) → i < r
        → back_to (lined_times tables block i w) ≡ block
    go one done zero hi = unfold lined_times in back
    go one done (suc i) hi =
        ap back_to (sym (times-shift tables block i w) ∙ ap (lined_times tables block i) one) ∙ done.back i (omega arith)
