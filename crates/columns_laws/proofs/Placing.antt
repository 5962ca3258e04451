-- The second walk over a trace, pure: numbers stored by turns at four positions are, in the end, the four columns.
use Rattle.machine.specs.All.{ℕ, suc, ◌+◌, ◌-◌, ◌≤◌, ◌<◌, zero-add, arith, List, [], ◌∷◌, ◌++◌, ◌≡◌, refl, sym, ap, ◌∙◌, length, set, length-append, sets, set_comm, length-sets, number_bytes, Record}
use Rattle.machine.specs.Trace as machine
use Rattle.codec.specs.Writing.{put, written}
use Rattle.codec.proofs.{Stores.sets-append, Writing.put-room}
use Rattle.std.specs.{Prelude.Some, Prelude.None, Prelude.Option as Maybe, Prelude.Result, Prelude.Ok, Prelude.Err, Option.option_flatten, Option.unwrap_or, Result.result_ok}
use Rattle.constants.specs.declared.refusals.Refusal.{Refusal}
use Rattle.trace.specs.{declared.Record.Record as Numbers, Answers.reading_of}
use Rattle.trace.specs.Whole.{Reads, ends, takes}
use Rattle.columns_laws.specs.declared.walk.Walk.{Walk}
use Rattle.columns_laws.specs.{clocks, transactions, blocks, outcomes, differences, column, column_bytes, Moved, moved, numbers, found_at, record_at, place, place_all}

-- ---- The record at a position, by the reader's answer

-- a record that is not read counts as zeros, at the same place
pub entry-found : (at : ℕ) (x : Result (Maybe (Numbers × ℕ)) Refusal) {y : machine.Reading} → reading_of x ≡ y →
    unwrap_or (option_flatten (result_ok x)) (numbers 0 0 0 0, at) ≡ found_at at y
unfolding found_at
entry-found at (Ok (Some z)) e = rw (← e) refl
entry-found at (Ok None) e = rw (← e) refl
entry-found at (Err r) e = rw (← e) refl

-- ---- One step of the code

-- four numbers written one after the other
pub placed : (x y : Numbers × ℕ) → x ≡ y → (t : Walk) (d p1 p2 p3 p4 : ℕ) (out o1 o2 o3 o4 : List ℕ) → d ≡ x.0.clock - t.clock →
    written p1 o1 ≡ put d (written t.differences out) →
    written p2 o2 ≡ put x.0.transaction (written t.transactions o1) →
    written p3 o3 ≡ put x.0.block (written t.blocks o2) →
    written p4 o4 ≡ put x.0.outcome (written t.outcomes o3) →
    moved (record { at = x.1; clock = x.0.clock; differences = p1; transactions = p2; blocks = p3; outcomes = p4 }) o4 ≡ place y t out
unfolding place moved written
placed x y same t d p1 p2 p3 p4 out o1 o2 o3 o4 e w1 w2 w3 w4 = rw (← same, ← e, ← w1, ← w2, ← w3, ← w4)

pub place-more : (left less : ℕ) (s : List ℕ) (t t' : Walk) (out out' : List ℕ) → left ≡ suc less → moved t' out' ≡ place (record_at s t.at) t out →
    place_all less s t' out' ≡ place_all left s t out
place-more left less s t t' out out' one e =
    first ∙ ap (λ (p : Moved). place_all less s p.walk p.bytes) e ∙ last ∙ ap (λ (n : ℕ). place_all n s t out) (sym one)
  where
    first : place_all less s t' out' ≡ place_all less s (moved t' out').walk (moved t' out').bytes
    first = unfold moved in refl

    last : place_all less s (place (record_at s t.at) t out).walk (place (record_at s t.at) t out).bytes ≡ place_all (suc less) s t out
    last = unfold place_all in refl

pub place_none : (left : ℕ) (s : List ℕ) (t : Walk) (out : List ℕ) → left ≤ 0 → out ≡ place_all left s t out
unfolding place_all
place_none left s t out h = let e : left ≡ 0 = omega arith in rw e

-- ---- Stores that do not meet

set_past : (u l : List ℕ) (i j x : ℕ) → j < i → set (sets l i u) j x ≡ sets (set l j x) i u
set_past [] l i j x h = refl
set_past (y ∷ u) l i j x h =
    set_past u (set l i y) (suc i) j x (omega arith) ∙ ap (λ (m : List ℕ). sets m (suc i) u) (set_comm l i j y x (λ e. omega arith))

sets-past : (w u l : List ℕ) (i j : ℕ) → j + length w ≤ i → sets (sets l i u) j w ≡ sets (sets l j w) i u
sets-past [] u l i j h = refl
sets-past (x ∷ w) u l i j h =
    ap (λ (m : List ℕ). sets m (suc j) w) (set_past u l i j x (omega arith)) ∙ sets-past w u (set l j x) i (suc j) (omega arith)

-- four stores, then one behind each
module _ (a b c d a' b' c' d' l : List ℕ) (i j k m : ℕ) (ij : i + length a + length a' ≤ j) (jk : j + length b + length b' ≤ k)
    (km : k + length c + length c' ≤ m) where
  abbrev four : List ℕ
  four = sets (sets (sets (sets l i a) j b) k c) m d

  pub stores-turned :
      sets (sets (sets (sets four (i + length a) a') (j + length b) b') (k + length c) c') (m + length d) d'
      ≡ sets (sets (sets (sets l i (a ++ a')) j (b ++ b')) k (c ++ c')) m (d ++ d')
  stores-turned =
      let x = sets l i a in
      let one : sets four (i + length a) a' ≡ sets (sets (sets (sets l i (a ++ a')) j b) k c) m d =
      sets-past a' d (sets (sets x j b) k c) m (i + length a) (omega arith)
      ∙ ap (λ (y : List ℕ). sets y m d) (sets-past a' c (sets x j b) k (i + length a) (omega arith))
      ∙ ap (λ (y : List ℕ). sets (sets y k c) m d) (sets-past a' b x j (i + length a) (omega arith))
      ∙ ap (λ (y : List ℕ). sets (sets (sets y j b) k c) m d) (sets-append a a' l i) in
      let z = sets l i (a ++ a') in
      let two : sets (sets (sets (sets z j b) k c) m d) (j + length b) b' ≡ sets (sets (sets z j (b ++ b')) k c) m d =
      sets-past b' d (sets (sets z j b) k c) m (j + length b) (omega arith)
      ∙ ap (λ (y : List ℕ). sets y m d) (sets-past b' c (sets z j b) k (j + length b) (omega arith))
      ∙ ap (λ (y : List ℕ). sets (sets y k c) m d) (sets-append b b' z j) in
      let w = sets z j (b ++ b') in
      let three : sets (sets (sets w k c) m d) (k + length c) c' ≡ sets (sets w k (c ++ c')) m d =
      sets-past c' d (sets w k c) m (k + length c) (omega arith) ∙ ap (λ (y : List ℕ). sets y m d) (sets-append c c' w k) in
      ap (λ (y : List ℕ). sets (sets (sets y (j + length b) b') (k + length c) c') (m + length d) d') one
      ∙ ap (λ (y : List ℕ). sets (sets y (k + length c) c') (m + length d) d') two
      ∙ ap (λ (y : List ℕ). sets y (m + length d) d') three
      ∙ sets-append d d' (sets w k (c ++ c')) m

-- ---- Records placed

-- each column has room up to the next
pub record Room (t : Walk) (l : List Record) (n : ℕ) : Type 0 where
  -- each column ends before the next begins: differences,
  pub differences : t.differences + length (column (differences t.clock (clocks l))) ≤ t.transactions
  -- transactions
  pub transactions : t.transactions + length (column (transactions l)) ≤ t.blocks
  pub blocks : t.blocks + length (column (blocks l)) ≤ t.outcomes
  pub outcomes : t.outcomes + length (column (outcomes l)) ≤ n

-- the columns of these records at the walk's positions
abbrev pub laid : Walk → List Record → List ℕ → List ℕ
laid t l out =
    sets
    (sets
    (sets (sets out t.differences (column (differences t.clock (clocks l)))) t.transactions (column (transactions l)))
    t.blocks (column (blocks l)))
    t.outcomes (column (outcomes l))

-- the walk behind a record
abbrev behind_one : Walk → Record → ℕ → Walk
behind_one t r next = record {
  at = next;
  clock = r.clock;
  differences = t.differences + length (number_bytes (r.clock - t.clock));
  transactions = t.transactions + length (number_bytes r.transaction);
  blocks = t.blocks + length (number_bytes r.block);
  outcomes = t.outcomes + length (number_bytes r.outcome);
}

abbrev stored_one : Walk → Record → List ℕ → List ℕ
stored_one t r out =
    sets
    (sets
    (sets (sets out t.differences (number_bytes (r.clock - t.clock))) t.transactions (number_bytes r.transaction))
    t.blocks (number_bytes r.block))
    t.outcomes (number_bytes r.outcome)

column-cons : (v : ℕ) (l : List ℕ) → length (column (v ∷ l)) ≡ length (number_bytes v) + length (column l)
unfolding column
column-cons v l = length-append (number_bytes v) (column l)

module _ (t : Walk) (r : Record) (l : List Record) (next : ℕ) (out : List ℕ) (room : Room t (r ∷ l) (length out)) where
  first_difference : length (column (differences t.clock (clocks (r ∷ l))))
      ≡ length (number_bytes (r.clock - t.clock)) + length (column (differences r.clock (clocks l)))
  unfolding differences
  first_difference = column-cons (r.clock - t.clock) (differences r.clock (clocks l))

  placed_one : place (numbers r.clock r.transaction r.block r.outcome, next) t out
      ≡ moved (behind_one t r next) (stored_one t r out)
  unfolding place moved written
  placed_one =
      let n2 = column-cons r.transaction (transactions l) in
      let n3 = column-cons r.block (blocks l) in
      let n4 = column-cons r.outcome (outcomes l) in
      let o1 = sets out t.differences (number_bytes (r.clock - t.clock)) in
      let o2 = sets o1 t.transactions (number_bytes r.transaction) in
      let o3 = sets o2 t.blocks (number_bytes r.block) in
      let l1 : length o1 ≡ length out = length-sets out t.differences (number_bytes (r.clock - t.clock)) in
      let l2 : length o2 ≡ length out = length-sets o1 t.transactions (number_bytes r.transaction) ∙ l1 in
      let l3 : length o3 ≡ length out = length-sets o2 t.blocks (number_bytes r.block) ∙ l2 in
      let p1 = put-room t.differences (r.clock - t.clock) out (omega (arith, first_difference, n2, n3, n4, room)) in
      let p2 = put-room t.transactions r.transaction o1 (omega (arith, n2, n3, n4, room, l1)) in
      let p3 = put-room t.blocks r.block o2 (omega (arith, n3, n4, room, l2)) in
      let p4 = put-room t.outcomes r.outcome o3 (omega (arith, n4, room, l3)) in
      rw (p1, p2, p3, p4)

  room-behind : Room (behind_one t r next) l (length (stored_one t r out))
  room-behind =
      let n2 = column-cons r.transaction (transactions l) in
      let n3 = column-cons r.block (blocks l) in
      let n4 = column-cons r.outcome (outcomes l) in
      let o1 = sets out t.differences (number_bytes (r.clock - t.clock)) in
      let o2 = sets o1 t.transactions (number_bytes r.transaction) in
      let o3 = sets o2 t.blocks (number_bytes r.block) in
      let l4 : length (stored_one t r out) ≡ length out =
      length-sets o3 t.outcomes (number_bytes r.outcome) ∙ length-sets o2 t.blocks (number_bytes r.block)
      ∙ length-sets o1 t.transactions (number_bytes r.transaction)
      ∙ length-sets out t.differences (number_bytes (r.clock - t.clock)) in
      record {
        differences = omega (arith, first_difference, room);
        transactions = omega (arith, n2, room);
        blocks = omega (arith, n3, room);
        outcomes = omega (arith, n4, room, l4);
      }

  laid-behind : laid (behind_one t r next) l (stored_one t r out) ≡ laid t (r ∷ l) out
  unfolding column differences
  laid-behind =
      stores-turned (number_bytes (r.clock - t.clock)) (number_bytes r.transaction) (number_bytes r.block) (number_bytes r.outcome)
      (column (differences r.clock (clocks l))) (column (transactions l)) (column (blocks l)) (column (outcomes l)) out
      t.differences t.transactions t.blocks t.outcomes
      (omega (arith, first_difference, room))
      (omega (arith, column-cons r.transaction (transactions l), room))
      (omega (arith, column-cons r.block (blocks l), room))

place-first : (n : ℕ) (s : List ℕ) (t : Walk) (out : List ℕ) →
    place_all (suc n) s t out ≡ place_all n s (place (record_at s t.at) t out).walk (place (record_at s t.at) t out).bytes
unfolding place_all
place-first n s t out = refl

place-moved : (n : ℕ) (s : List ℕ) (t : Walk) (out : List ℕ) → place_all n s (moved t out).walk (moved t out).bytes ≡ place_all n s t out
unfolding moved
place-moved n s t out = refl

-- all records placed: each column's bytes stand from its place on
pub placed-all : {s : List ℕ} {at : ℕ} {l : List Record} → Reads s at l → (t : Walk) → t.at ≡ at → (out : List ℕ) → Room t l (length out) →
    place_all (length l) s t out ≡ laid t l out
placed-all (ends e) t h out room = unfold place_all column differences in refl
placed-all {s = s} (takes {at = at} {next = next} {r = r} {l = l} e more) t h out room =
    let read : record_at s t.at
    ≡ (numbers r.clock r.transaction r.block r.outcome, next) =
    rw (h, e) (unfold found_at in refl) in
    let one : place (record_at s t.at) t out ≡ moved (behind_one t r next) (stored_one t r out) =
    ap (λ (x : Numbers × ℕ). place x t out) read ∙ placed_one t r l next out room in
    let rest = placed-all more (behind_one t r next) refl (stored_one t r out) (room-behind t r l next out room) in
    step one ∙ rest ∙ laid-behind t r l next out room
  where
    step : place (record_at s t.at) t out ≡ moved (behind_one t r next) (stored_one t r out) →
        place_all (suc (length l)) s t out ≡ place_all (length l) s (behind_one t r next) (stored_one t r out)
    step one = place-first (length l) s t out ∙ ap (λ (p : Moved). place_all (length l) s p.walk p.bytes) one
        ∙ place-moved (length l) s (behind_one t r next) (stored_one t r out)

-- ---- From the beginning

sets-front : (u w l : List ℕ) (j : ℕ) → j ≡ length u → sets (sets l 0 u) j w ≡ sets l 0 (u ++ w)
sets-front u w l j e = ap (λ (i : ℕ). sets (sets l 0 u) i w) (e ∙ sym (zero-add (length u))) ∙ sets-append u w l 0

pub columns-length : (l : List Record) → length (column_bytes l)
    ≡ length (number_bytes (length l)) + length (column (differences 0 (clocks l))) + length (column (transactions l)) + length
    (column (blocks l))
    + length (column (outcomes l))
unfolding column_bytes
columns-length l = simp length-append

module _ (l : List Record) (out : List ℕ) (fits : length (column_bytes l) ≤ length out) where
  abbrev pub head : ℕ
  head = length (number_bytes (length l))

  abbrev pub first_columns : Walk
  first_columns = record {
    at = 0;
    clock = 0;
    differences = head;
    transactions = head + length (column (differences 0 (clocks l)));
    blocks = head + length (column (differences 0 (clocks l))) + length (column (transactions l));
    outcomes = head + length (column (differences 0 (clocks l))) + length (column (transactions l)) + length (column (blocks l));
  }

  pub columns-placed : {s : List ℕ} → Reads s 0 l
      → place_all (length l) s first_columns (sets out 0 (number_bytes (length l))) ≡ sets out 0 (column_bytes l)
  columns-placed {s} reads =
      let a = number_bytes (length l) in
      let b = column (differences 0 (clocks l)) in
      let c = column (transactions l) in
      let d = column (blocks l) in
      let e = column (outcomes l) in
      let ab = length-append a b in
      let abc = length-append (a ++ b) c in
      let abcd = length-append (a ++ b ++ c) d in
      let len = length-sets out 0 a in
      let room : Room first_columns l (length (sets out 0 a)) =
      record { differences = omega arith; transactions = omega arith; blocks = omega arith; outcomes = omega (arith, columns-length l) } in
      placed-all reads first_columns refl (sets out 0 a) room
      ∙ ap (λ (x : List ℕ). sets (sets (sets x (length a + length b) c) (length a + length b + length c) d)
      (length a + length b + length c + length d) e)
      (sets-front a b out (length a) refl)
      ∙ ap (λ (x : List ℕ). sets (sets x (length a + length b + length c) d) (length a + length b + length c + length d) e)
      (sets-front (a ++ b) c out (length a + length b) (sym ab))
      ∙ ap (λ (x : List ℕ). sets x (length a + length b + length c + length d) e)
      (sets-front (a ++ b ++ c) d out (length a + length b + length c) (omega arith))
      ∙ sets-front (a ++ b ++ c ++ d) e out (length a + length b + length c + length d) (omega arith)
      ∙ unfold column_bytes in refl
