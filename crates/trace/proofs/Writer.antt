-- The writer, pure: the length of a record, the ranges as facts, its four numbers stored one after the other, and the rest
-- that `write_record` leaves.
use Rattle.machine.specs.All.{ℕ, ◌+◌, ◌≤◌, ◌<◌, zero-add, arith, true, false, List, [], ◌∷◌, ◌++◌, append_assoc, ◌≡◌, refl, ap, ◌∙◌, lit≤, length, take, length-append, sets, length-sets, sets-eq, take-append_seam, le-leb, lt-leb, leb-true, in_force, five_groups, max_clock, max_transaction, max_blocks, record_room, number_bytes, Record, record_bytes, trace_bytes_lem, in_ranges, written, rejected, write_record, ◌&&◌, sym, ap₂, leb, drop}
use Rattle.machine.proofs.Runs.RecordRoom.{record-room as room}
use Rattle.codec.proofs.{Fields.both_true, Fields.between, Numbers.number_bytes-positive, Stores.sets-append, Writing.put-room}
use Rattle.codec.specs.Writing.{Written as Placed, written as written-to, put}
use Rattle.std.specs.Prelude.{Result, Ok}
use Rattle.constants.specs.declared.refusals.Refusal.{Refusal}
use Rattle.trace.specs.{after}

-- ---- Length

pub record_bytes-length : (r : Record) →
    length (record_bytes r) ≡
    length (number_bytes r.clock) + length (number_bytes r.transaction) + length (number_bytes r.block)
    + length (number_bytes r.outcome)
unfolding record_bytes
record_bytes-length r = simp length-append

-- traces written one after the other
pub trace_bytes-append : (l m : List Record) → trace_bytes_lem (l ++ m) ≡ trace_bytes_lem l ++ trace_bytes_lem m
unfolding trace_bytes_lem
trace_bytes-append [] m = refl
trace_bytes-append (r ∷ l) m =
    ap (λ (u : List ℕ). record_bytes r ++ u) (trace_bytes-append l m) ∙ sym (append_assoc (record_bytes r) (trace_bytes_lem l) (trace_bytes_lem m))

-- ---- Ranges

pub record Ranges (r : Record) : Type 0 where
  pub clock : r.clock ≤ max_clock
  pub first : 1 ≤ r.transaction
  pub transaction : r.transaction ≤ max_transaction
  pub one : 1 ≤ r.block
  pub block : r.block ≤ max_blocks
  pub outcome : r.outcome ≤ 1

pub ranges : (r : Record) → in_ranges in_force r ≡ true → Ranges r
unfolding in_ranges
ranges r e =
    let x = both_true _ (leb r.outcome 1) e in
    let y = both_true _ (leb 1 r.block && leb r.block max_blocks) x.0 in
    let z = both_true (leb r.clock max_clock) _ y.0 in
    let transaction = between 1 r.transaction max_transaction z.1 in
    let block = between 1 r.block max_blocks y.1 in
    record {
      clock = leb-true _ _ z.0;
      first = transaction.0;
      transaction = transaction.1;
      one = block.0;
      block = block.1;
      outcome = leb-true _ _ x.1;
    }

pub in-ranges : (r : Record) → Ranges r → in_ranges in_force r ≡ true
unfolding in_ranges
in-ranges r h =
    rw (
      le-leb _ _ h.clock,
      le-leb _ _ h.first,
      le-leb _ _ h.transaction,
      le-leb _ _ h.one,
      le-leb _ _ h.block,
      le-leb _ _ h.outcome,
    )

-- "Fewer than 12 bytes left in the trace": 12 are room for any record, since a clock still fits five groups
pub record-room : (r : Record) → in_ranges in_force r ≡ true → length (record_bytes r) ≤ record_room
record-room r e = room in_force (lit≤ tt) r e

pub record-positive : (r : Record) → 4 ≤ length (record_bytes r)
record-positive r =
    rw (record_bytes-length r)
    (omega (
      arith,
      number_bytes-positive r.clock,
      number_bytes-positive r.transaction,
      number_bytes-positive r.block,
      number_bytes-positive r.outcome,
    ))

-- so each of its numbers is one of at most five groups
pub record Small (r : Record) : Type 0 where
  pub clock : r.clock ≤ five_groups
  pub transaction : r.transaction ≤ five_groups
  pub block : r.block ≤ five_groups
  pub outcome : r.outcome ≤ five_groups

pub small : (r : Record) → in_ranges in_force r ≡ true → Small r
small r e =
    let h = ranges r e in
    record {
      clock = omega (arith, h.clock);
      transaction = omega (arith, h.transaction);
      block = omega (arith, h.block);
      outcome = omega (arith, h.outcome);
    }

-- ---- Stored

-- bytes stored behind those at the front
pub stored-behind : (u w l m n : List ℕ) (p : ℕ) → p ≡ length u → m ≡ sets l 0 u → n ≡ sets m p w → n ≡ sets l 0 (u ++ w)
stored-behind u w l m n p at first then =
    then ∙ ap₂ (λ (k : List ℕ) (i : ℕ). sets k i w) first (at ∙ sym (zero-add (length u))) ∙ sets-append u w l 0

-- a number written where there is room
put-there : (at v r : ℕ) (l m : List ℕ) → at + length (number_bytes v) ≤ length l → written-to r m ≡ put v (written-to at l)
    → (r ≡ at + length (number_bytes v)) × (m ≡ sets l at (number_bytes v))
unfolding written-to
put-there at v r l m h e =
    let q = e ∙ put-room at v l h in (ap (λ (w : Placed). w.at) q, ap (λ (w : Placed). w.bytes) q)

-- four numbers written one after the other are the record stored at once
pub written_behind : (r : Record) (l m₁ m₂ m₃ m₄ : List ℕ) (p₁ p₂ p₃ p₄ : ℕ) → length (record_bytes r) ≤ length l
    → written-to p₁ m₁ ≡ put r.clock (written-to 0 l) → written-to p₂ m₂ ≡ put r.transaction (written-to p₁ m₁)
    → written-to p₃ m₃ ≡ put r.block (written-to p₂ m₂) → written-to p₄ m₄ ≡ put r.outcome (written-to p₃ m₃)
    → m₄ ≡ sets l 0 (record_bytes r)
unfolding record_bytes
written_behind r l m₁ m₂ m₃ m₄ p₁ p₂ p₃ p₄ room e₁ e₂ e₃ e₄ =
    let a : List ℕ = number_bytes r.clock in
    let b : List ℕ = number_bytes r.transaction in
    let d : List ℕ = number_bytes r.block in
    let all = record_bytes-length r in
    let (at₁, one) = put-there 0 _ p₁ l m₁ (omega arith) e₁ in
    let long₁ = ap length one ∙ length-sets l 0 a in
    let (at₂, two) = put-there p₁ _ p₂ m₁ m₂ (omega arith) e₂ in
    let long₂ = ap length two ∙ length-sets m₁ p₁ b in
    let (at₃, three) = put-there p₂ _ p₃ m₂ m₃ (omega arith) e₃ in
    let long₃ = ap length three ∙ length-sets m₂ p₂ d in
    let (at₄, four) = put-there p₃ _ p₄ m₃ m₄ (omega arith) e₄ in
    let ab = length-append a b in
    stored-behind (a ++ b ++ d) _ l m₃ m₄ p₃ (omega (arith, ab, (length-append (a ++ b) d)))
    (stored-behind (a ++ b) d l m₂ m₃ p₂ (omega arith) (stored-behind a b l m₁ m₂ p₁ (omega arith) one two) three) four

-- ---- The answer and the rest afterwards

module _ (r : Record) (l : List ℕ) where
  -- a field out of range comes before room
  pub refused-range : in_ranges in_force r ≡ false → rejected 32 ≡ write_record in_force (length l) r
  unfolding write_record
  refused-range e = rw e

  pub refused-room : in_ranges in_force r ≡ true → length l < length (record_bytes r) → rejected 33 ≡ write_record in_force (length l) r
  unfolding write_record
  refused-room e h = rw (e, lt-leb (length (record_bytes r)) (length l) h)

  pub written_record : in_ranges in_force r ≡ true → length (record_bytes r) ≤ length l
      → written (record_bytes r) ≡ write_record in_force (length l) r
  unfolding write_record
  written_record e h = rw (e, le-leb (length (record_bytes r)) (length l) h)

  -- a refused record leaves the bytes
  pub after-refused : (n : ℕ) → rejected n ≡ write_record in_force (length l) r → l ≡ after (write_record in_force (length l) r) l
  unfolding after
  after-refused n e = rw (← e)

  pub after-written : written (record_bytes r) ≡ write_record in_force (length l) r → length (record_bytes r) ≤ length l →
      sets l 0 (record_bytes r) ≡ after (write_record in_force (length l) r) l
  unfolding after
  after-written e h =
      rw (← e) (sets-eq (record_bytes r) l 0 (omega arith) ∙ ap (λ (n : ℕ). record_bytes r ++ drop n l) (zero-add (length (record_bytes r))))

  pub front-written : length (record_bytes r) ≤ length l → take (length (record_bytes r)) (sets l 0 (record_bytes r)) ≡ record_bytes r
  front-written h = rw (sets-eq (record_bytes r) l 0 (omega arith)) (take-append_seam (record_bytes r) _)

-- the length that is answered, by any name
pub bytes_count : {k n m most : ℕ} → ◌≡◌ {A = Result ℕ Refusal} (Ok k) (Ok n) → k ≡ m → m ≤ most → (n ≡ m) × (n ≤ most)
bytes_count {k} {n} {m} {most} e len fits =
    let same : n ≡ k = cc in
    omega arith
