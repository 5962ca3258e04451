-- Whole traces, there and back: records within the ranges, written one after another, read back to exactly these records and
-- then "no more"; bytes that the reader takes whole are, written again record by record, the same bytes.
use Rattle.machine.specs.All.{clash, ℕ, ◌+◌, ◌≤◌, zero-le, ◌<◌, arith, true, List, [], ◌∷◌, ◌++◌, append_assoc, ◌≡◌, refl, sym, ap, subst₂, ◌∙◌, ltb, lit≤, length, drop, drop_of_length-le, length-append, length-drop, drop-append_seam, ltb-true, ltb-false, in_force, max_clock, max_transaction, max_blocks, five_groups, number_bytes, Cursor, Parsed, Parser, parsed, refused, continue, Record, record_bytes, trace_bytes_lem, taken, no_more, read_record, trace_field, record_fields, reading, in_ranges, Bool, false, cond}
use Rattle.codec.specs.Answers.{cursor_at}
use Rattle.codec.proofs.{Fields.drop_past, Fields.field-reads, Fields.field-taken, Groups.Bytes}
use Rattle.trace.specs.{entry, Reads, ends, takes, AllInRanges}
use Rattle.trace.proofs as our
use our.Reader.{past_end, record-taken}
use our.Writer.{record_bytes-length, record-positive, Ranges, ranges, in-ranges}

-- ---- Written, then read

four : (r : Record) (rest : List ℕ) →
    record_bytes r ++ rest
    ≡ number_bytes r.clock ++ (number_bytes r.transaction ++ (number_bytes r.block ++ (number_bytes r.outcome ++ rest)))
unfolding record_bytes
four r rest = simp append_assoc

-- a record at a position reads back, whatever stands before and after it
pub record-reads-back : (s rest : List ℕ) (at : ℕ) (r : Record) → drop at s ≡ record_bytes r ++ rest → in_ranges in_force r ≡ true →
    read_record in_force s at ≡ taken r (at + length (record_bytes r))
record-reads-back s rest at r e good =
    let h = ranges r good in
    let inside : at < length s =
    omega (arith, record-positive r, simp (length-drop, length-append) at (ap length e)) in
    let d0 = e ∙ four r rest in
    let d1 = drop_past s (number_bytes r.clock) _ at d0 in
    let d2 = drop_past s (number_bytes r.transaction) _ _ d1 in
    let d3 = drop_past s (number_bytes r.block) _ _ d2 in
    let f1 = field-reads s _ five_groups at r.clock 31 0 max_clock 0 0 d0 zero-le h.clock (lit≤ tt) (lit≤ tt) in
    let f2 = field-reads s _ five_groups _ r.transaction 31 1 max_transaction 0 0 d1 h.first h.transaction (lit≤ tt) (lit≤ tt) in
    let f3 = field-reads s _ five_groups _ r.block 31 1 max_blocks 0 0 d2 h.one h.block (lit≤ tt) (lit≤ tt) in
    let f4 = field-reads s _ five_groups _ r.outcome 31 0 1 0 0 d3 zero-le h.outcome (lit≤ tt) (lit≤ tt) in
    sym (record-taken s at inside _ _ f1 _ _ f2 _ _ f3 _ _ f4) ∙ ap (taken r) (rw (record_bytes-length r) (omega arith))

reads-from : (l : List Record) (s : List ℕ) (at : ℕ) → drop at s ≡ trace_bytes_lem l → AllInRanges l → Reads s at l
unfolding trace_bytes_lem
reads-from [] s at e good = ends (sym (past_end s at (omega (arith, simp length-drop at (ap length e)))))
reads-from (r ∷ l) s at e good =
    takes (record-reads-back s (trace_bytes_lem l) at r e good.0)
    (reads-from l s (at + length (record_bytes r)) (drop_past s (record_bytes r) (trace_bytes_lem l) at e) good.1)

-- records in their ranges, written behind anything, are read back from there
pub trace-reads-back : (before : List ℕ) (l : List Record) → AllInRanges l → Reads (before ++ trace_bytes_lem l) (length before) l
trace-reads-back before l good = reads-from l _ _ (drop-append_seam before (trace_bytes_lem l)) good

pub trace-reads-whole : (l : List Record) → AllInRanges l → Reads (trace_bytes_lem l) 0 l
trace-reads-whole l good = trace-reads-back [] l good

-- ---- Read, then written

-- what was parsed before the rest of a parser answered
continued : {A B : Type 0} (p : Parsed A) (f : A → Parser B) (b : B) (c : Cursor) → continue p f ≡ parsed b c →
    (a : A) × (d : Cursor) × (p ≡ parsed a d) × (f a d ≡ parsed b c)
unfolding continue
continued (parsed a d) f b c e = (a, d, refl, e)
continued (refused n) f b c e = clash (cc)

parsed-value : {a b : Record} {c d : Cursor} → parsed a c ≡ parsed b d → a ≡ b
parsed-value {a} {b} {c} {d} e = cc

parsed-cursor : {a b : Record} {c d : Cursor} → parsed a c ≡ parsed b d → c ≡ d
parsed-cursor {a} {b} {c} {d} e = cc

read_taken : (p : Parsed Record) (r : Record) (next : ℕ) → reading p ≡ taken r next → (c : Cursor) × (p ≡ parsed r c) × (c.position ≡ next)
unfolding reading
read_taken (parsed q c) r next e =
    let f : q ≡ r = cc in
    let g : c.position ≡ next = cc in
    (c, ap (λ (x : Record). parsed x c) f, g)
read_taken (refused n) r next e = clash (cc)

-- what a record that was taken says of the bytes
pub record RecordTaken (s : List ℕ) (at : ℕ) (r : Record) (next : ℕ) : Type 0 where
  pub good : in_ranges in_force r ≡ true
  pub bytes : drop at s ≡ record_bytes r ++ drop next s
  pub position : next ≡ at + length (record_bytes r)
  pub inside : at < length s

-- one field and the parser behind it
record Step (s : List ℕ) (at lo hi : ℕ) (f : ℕ → Parser Record) (r : Record) (c : Cursor) : Type 0 where
  value : ℕ
  low : lo ≤ value
  high : value ≤ hi
  bytes : drop at s ≡ number_bytes value ++ drop (at + length (number_bytes value)) s
  rest : f value (cursor_at (at + length (number_bytes value)) 0 0) ≡ parsed r c

step : (s : List ℕ) (at lo hi : ℕ) (f : ℕ → Parser Record) (r : Record) (c : Cursor) → Bytes s →
    continue (trace_field in_force s lo hi (cursor_at at 0 0)) f ≡ parsed r c → Step s at lo hi f r c
step s at lo hi f r c bytes e =
    let x = continued (trace_field in_force s lo hi (cursor_at at 0 0)) f r c e in
    let t = field-taken s five_groups at x.0 31 lo hi 0 0 x.1 bytes x.2 in
    record { value = x.0; low = t.low; high = t.high; bytes = t.bytes; rest = rw t.cursor at x.3 }

-- four fields, one after the other, are the bytes of the record
gathered : (s : List ℕ) (at p1 p2 p3 p4 : ℕ) (r : Record) → Ranges r → at < length s →
    p1 ≡ at + length (number_bytes r.clock) → p2 ≡ p1 + length (number_bytes r.transaction) →
    p3 ≡ p2 + length (number_bytes r.block) → p4 ≡ p3 + length (number_bytes r.outcome) →
    drop at s ≡ number_bytes r.clock ++ drop p1 s → drop p1 s ≡ number_bytes r.transaction ++ drop p2 s →
    drop p2 s ≡ number_bytes r.block ++ drop p3 s → drop p3 s ≡ number_bytes r.outcome ++ drop p4 s →
    RecordTaken s at r p4
gathered s at p1 p2 p3 p4 r h inside e1 e2 e3 e4 b1 b2 b3 b4 =
    record {
      good = in-ranges r h;
      bytes = b1 ∙ rw (b2, b3, b4) (sym (four r (drop p4 s)));
      position = rw (record_bytes-length r) (omega arith);
      inside = inside;
    }

-- a record that was read stood there as its own bytes
pub record-taken-bytes : (s : List ℕ) (at : ℕ) (r : Record) (next : ℕ) → Bytes s → read_record in_force s at ≡ taken r next
    → RecordTaken s at r next
unfolding read_record record_fields
record-taken-bytes s at r next bytes e = go (ltb at (length s)) refl e
  where
    all : (c : Cursor) → c.position ≡ next → record_fields in_force s (cursor_at at 0 0) ≡ parsed r c → at < length s
        → RecordTaken s at r next
    all c n g inside =
        let c1 = step s at 0 max_clock _ r c bytes g in
        let c2 = step s _ 1 max_transaction _ r c bytes c1.rest in
        let c3 = step s _ 1 max_blocks _ r c bytes c2.rest in
        let c4 = step s _ 0 1 _ r c bytes c3.rest in
        let q = entry c1.value c2.value c3.value c4.value in
        let same : q ≡ r = parsed-value c4.rest in
        let end : _ ≡ next = ap (λ (d : Cursor). d.position) (parsed-cursor c4.rest) ∙ n in
        let h : Ranges q =
        record {
          clock = c1.high;
          first = c2.low;
          transaction = c2.high;
          one = c3.low;
          block = c3.high;
          outcome = c4.high;
        } in
        let t = gathered s at _ _ _ _ q h inside refl refl refl refl c1.bytes c2.bytes c3.bytes c4.bytes in
        subst₂ (λ (x : Record) (m : ℕ). RecordTaken s at x m) same end t

    go : (t : Bool) → ltb at (length s) ≡ t → cond t (reading (record_fields in_force s (cursor_at at 0 0))) no_more ≡ taken r next
        → RecordTaken s at r next
    go false t g = clash (cc)
    go true t g = let x = read_taken _ r next g in all x.0 x.2 x.1 (ltb-true _ _ t)

reading-more : (p : Parsed Record) → reading p ≡ no_more → ⊥
unfolding reading
reading-more (parsed r c) e = clash (cc)
reading-more (refused n) e = clash (cc)

-- "no more" is answered only at or past the end
pub no-more-end : (s : List ℕ) (at : ℕ) → read_record in_force s at ≡ no_more → length s ≤ at
unfolding read_record
no-more-end s at e = go (ltb at (length s)) refl e
  where
    go : (t : Bool) → ltb at (length s) ≡ t → cond t (reading (record_fields in_force s (cursor_at at 0 0))) no_more ≡ no_more → length s ≤ at
    go true t g = absurd (reading-more _ g)
    go false t g = ltb-false at (length s) t

-- the bytes from a position on are those of the records that the reader takes there
written_from : {s : List ℕ} {at : ℕ} {l : List Record} → Bytes s → Reads s at l → trace_bytes_lem l ≡ drop at s
unfolding trace_bytes_lem
written_from {s = s} bytes (ends {at = at} e) = sym (drop_of_length-le s (no-more-end s at e))
written_from {s = s} bytes (takes {at = at} {next = next} {r = r} e t) =
    ap (λ (u : List ℕ). record_bytes r ++ u) (written_from bytes t) ∙ sym (record-taken-bytes s at r next bytes e).bytes

-- any bytes that the reader takes whole are the bytes of its records, each within the ranges
pub trace-written-again : (s : List ℕ) (l : List Record) → Bytes s → Reads s 0 l → trace_bytes_lem l ≡ s
trace-written-again s l bytes t = written_from bytes t

-- records that were read lie in their ranges
pub trace_in-ranges : {s : List ℕ} {at : ℕ} {l : List Record} → Bytes s → Reads s at l → AllInRanges l
trace_in-ranges bytes (ends e) = tt
trace_in-ranges {s = s} bytes (takes {at = at} {next = next} {r = r} e t) =
    ((record-taken-bytes s at r next bytes e).good, trace_in-ranges bytes t)

-- ---- One reading

only_end : {s : List ℕ} {at : ℕ} {m : List Record} → read_record in_force s at ≡ no_more → Reads s at m → [] ≡ m
only_end e (ends f) = refl
only_end e (takes f u) = clash (cc)

only-taken : {s : List ℕ} {at next : ℕ} {r : Record} {l m : List Record} → read_record in_force s at ≡ taken r next →
    ((m : List Record) → Reads s next m → l ≡ m) → Reads s at m → r ∷ l ≡ m
only-taken e one (ends f) = clash (cc)
only-taken {s = s} {next = next} {r = r} e one (takes {next = after} {r = q} {l = m} f u) =
    let same : r ≡ q = cc in
    let at : after ≡ next = cc in
    let rest = one m (rw at at u) in
    rw (same, rest)

-- the reader takes no other records from a position
pub reads-once : {s : List ℕ} {at : ℕ} {l m : List Record} → Reads s at l → Reads s at m → l ≡ m
reads-once (ends e) u = only_end e u
reads-once {s = s} (takes {at = at} {next = next} {r = r} {l = l} e t) u = only-taken e (λ m v. reads-once {m = m} t v) u
