-- What item 10 asks for, of the definitions: which traces are taken; columns are taken exactly if some such trace produces them; the
-- inverse gives back the trace; and which answer comes when.
use Rattle.machine.specs.All.{clash, ℕ, ◌+◌, ◌≤◌, ◌<◌, zero-le, arith, Bool, true, false, cond, List, [], ◌∷◌, ◌++◌, append_assoc, append-nil, Option, none, some, ◌≡◌, refl, sym, ap, subst, ◌∙◌, leb, length, drop, length-append, length-map, le-leb, lt-leb, in_force, max_transaction, max_blocks, five_groups, number_bytes, Record, trace_bytes_lem, written, rejected, read_record, times, trace_field}
use Rattle.codec.proofs.Fields.{drop_past, field-reads}
use Rattle.trace.specs.Whole.{AllInRanges}
use Rattle.trace.proofs.{RoundTrip.trace-reads-whole, RoundTrip.trace-written-again, RoundTrip.trace_in-ranges, Writer.ranges}
use Rattle.columns_laws.specs.{max_records, clocks, transactions, blocks, outcomes, differences, column, column_bytes, never_fall, whole_from, rising, taken_trace, column_fields, taken_columns, answer, to_columns, from_columns, Bytes, Such, Produces, rows, clocks_from}
use Rattle.columns_laws.proofs as our
use our.{ByteLists.bytes-trace, Whole.whole-reads, Whole.reads_whole}
use our.Parsing.{Stands, Between, column-reads, Below, clocks-read}
use our.Pieces.{rows_of, pieces-count, pieces-ranges, pieces-rise, pieces-bytes, columns-parsed, columns_parse}
use Rattle.codec.specs.Answers.{cursor_at}

-- ---- "A trace is taken if the reader takes it whole up to 100,000,000 records and its clocks never fall."

some-list : {l m : List Record} → some l ≡ some m → l ≡ m
some-list {l} {m} e = cc

none-some : {l : List Record} → none ≡ some l → ⊥
none-some {l} e = clash (cc)

module _ (s : List ℕ) (l : List Record) where
  pub taken-such : taken_trace s ≡ some l → Such s l
  unfolding taken_trace rising
  taken-such e = go (whole_from max_records s (read_record in_force s 0)) refl e
    where
      choose : (m : List Record) (b : Bool) → never_fall 0 (clocks m) ≡ b → whole_from max_records s (read_record in_force s 0) ≡ some m →
          cond b (some m) none ≡ some l → Such s l
      choose m true rise f g =
          let same : m ≡ l = some-list g in
          let w = whole-reads s max_records 0 m f in
          subst (Such s) same (record { whole = w.0; count = w.1; clocks = rise })
      choose m false rise f g = absurd (none-some g)

      go : (o : Option (List Record)) → whole_from max_records s (read_record in_force s 0) ≡ o → rising o ≡ some l → Such s l
      go none f g = absurd (none-some g)
      go (some m) f g = choose m (never_fall 0 (clocks m)) refl f g

  pub such-taken : Such s l → taken_trace s ≡ some l
  unfolding taken_trace rising
  such-taken h = rw (reads_whole max_records h.whole h.count, h.clocks)

-- ---- Columns that are written are read

transactions-between : (l : List Record) → AllInRanges l → Between 1 max_transaction (transactions l)
transactions-between [] h = tt
transactions-between (r ∷ l) h = let x = ranges r h.0 in ((x.first, x.transaction), transactions-between l h.1)

blocks-between : (l : List Record) → AllInRanges l → Between 1 max_blocks (blocks l)
blocks-between [] h = tt
blocks-between (r ∷ l) h = let x = ranges r h.0 in ((x.one, x.block), blocks-between l h.1)

outcomes-between : (l : List Record) → AllInRanges l → Between 0 1 (outcomes l)
outcomes-between [] h = tt
outcomes-between (r ∷ l) h = let x = ranges r h.0 in ((zero-le, x.outcome), outcomes-between l h.1)

clocks-below : (l : List Record) → AllInRanges l → Below (clocks l)
clocks-below [] h = tt
clocks-below (r ∷ l) h = let x = ranges r h.0 in (x.clock, clocks-below l h.1)

module _ (l : List Record) (few : length l ≤ max_records) (good : AllInRanges l) (rises : never_fall 0 (clocks l) ≡ true) where
  pub columns-read : taken_columns (column_bytes l) ≡ some l
  unfolding taken_columns column_fields
  columns-read =
      let s = column_bytes l in
      let a = number_bytes (length l) in
      let b = column (differences 0 (clocks l)) in
      let c = column (transactions l) in
      let d = column (blocks l) in
      let e = column (outcomes l) in
      let d0 : drop 0 s ≡ a ++ (b ++ (c ++ (d ++ (e ++ [])))) = unfold column_bytes in simp (append_assoc, append-nil) in
      let d1 = drop_past s a _ 0 d0 in
      let d2 = drop_past s b _ _ d1 in
      let d3 = drop_past s c _ _ d2 in
      let d4 = drop_past s d _ _ d3 in
      let d5 = drop_past s e _ _ d4 in
      let p0 = 0 + length a in
      let p1 = p0 + length b in
      let p2 = p1 + length c in
      let p3 = p2 + length d in
      let p4 = p3 + length e in
      let s1 : Stands s p0 (differences 0 (clocks l)) p1 = record { bytes = d1 ∙ ap (λ (u : List ℕ). b ++ u) (sym d2); place = refl } in
      let s2 : Stands s p1 (transactions l) p2 = record { bytes = d2 ∙ ap (λ (u : List ℕ). c ++ u) (sym d3); place = refl } in
      let s3 : Stands s p2 (blocks l) p3 = record { bytes = d3 ∙ ap (λ (u : List ℕ). d ++ u) (sym d4); place = refl } in
      let s4 : Stands s p3 (outcomes l) p4 = record { bytes = d4 ∙ ap (λ (u : List ℕ). e ++ u) (sym d5); place = refl } in
      let end : p4 ≡ length s = sym (unfold column_bytes in (simp length-append (omega arith))) in
      let f0 = field-reads s _ five_groups 0 (length l) 31 0 max_records 0 0 d0 zero-le few (omega arith) (omega arith) in
      let f1 = clocks-read s (clocks l) 0 p0 p1 zero-le s1 rises (clocks-below l good) in
      let f2 = column-reads s 1 max_transaction (omega arith) (transactions l) p1 p2 s2 (transactions-between l good) in
      let f3 = column-reads s 1 max_blocks (omega arith) (blocks l) p2 p3 s3 (blocks-between l good) in
      let f4 = column-reads s 0 1 (omega arith) (outcomes l) p3 p4 s4 (outcomes-between l good) in
      columns-parsed s (length l) p0 p1 p2 p3 p4 (clocks l) (transactions l) (blocks l) (outcomes l) f0
      (ap (λ (n : ℕ). clocks_from s n 0 (cursor_at p0 0 0)) (sym (length-map l (λ r. r.clock))) ∙ f1)
      (ap (λ (n : ℕ). times n (trace_field in_force s 1 max_transaction) (cursor_at p1 0 0)) (sym (length-map l (λ r. r.transaction))) ∙ f2)
      (ap (λ (n : ℕ). times n (trace_field in_force s 1 max_blocks) (cursor_at p2 0 0)) (sym (length-map l (λ r. r.block))) ∙ f3)
      (ap (λ (n : ℕ). times n (trace_field in_force s 0 1) (cursor_at p3 0 0)) (sym (length-map l (λ r. r.outcome))) ∙ f4)
      end
      ∙ ap some (rows_of l)

-- ---- "Column bytes are taken exactly if some such trace produces them."

module _ (columns : List ℕ) (l : List Record) where
  -- columns that are taken are those of a trace
  pub taken-produced : Bytes columns → taken_columns columns ≡ some l → Produces columns l
  taken-produced bytes e =
      let x = columns_parse columns bytes l e in
      let h = x.pieces in
      subst (Produces columns) x.all
      (record {
        trace = trace_bytes_lem (rows x.cs x.ts x.bs x.os);
        bytes = bytes-trace (rows x.cs x.ts x.bs x.os);
        such = record {
          whole = trace-reads-whole _ (pieces-ranges h);
          count = omega (arith, pieces-count h, h.few);
          clocks = pieces-rise h;
        };
        produced = pieces-bytes h;
      })

  pub produced-taken : Produces columns l → taken_columns columns ≡ some l
  produced-taken p =
      let h = p.such in
      ap taken_columns (sym p.produced) ∙ columns-read l h.count (trace_in-ranges p.bytes h.whole) h.clocks

-- ---- Answers

module _ (bytes : List Record → List ℕ) (room : ℕ) where
  answer-some : (o : Option (List Record)) (b : List ℕ) → answer bytes room o ≡ written b → (l : List Record) × (o ≡ some l) × (bytes l ≡ b)
  unfolding answer
  answer-some none b e = clash (cc)
  answer-some (some l) b e = go (leb (length (bytes l)) room) e
    where
      go : (t : Bool) → cond t (written (bytes l)) (rejected 52) ≡ written b → (m : List Record) × (some l ≡ some m) × (bytes m ≡ b)
      go true f = (l, refl, (cc))
      go false f = clash (cc)

  pub answer-refused : (o : Option (List Record)) → o ≡ none → answer bytes room o ≡ rejected 51
  unfolding answer
  answer-refused o e = rw e

  pub answer-full : (o : Option (List Record)) (l : List Record) → o ≡ some l → room < length (bytes l) → answer bytes room o ≡ rejected 52
  unfolding answer
  answer-full o l e h = rw (e, lt-leb (length (bytes l)) room h)

  pub answer-written : (o : Option (List Record)) (l : List Record) → o ≡ some l → length (bytes l) ≤ room
      → answer bytes room o ≡ written (bytes l)
  unfolding answer
  answer-written o l e h = rw (e, le-leb (length (bytes l)) room h)

-- 51 whatever was lent, where there is no such trace; 52 only where there is one
pub trace-51 : (s : List ℕ) (room : ℕ) → ((l : List Record) → Such s l → ⊥) → to_columns s room ≡ rejected 51
unfolding to_columns
trace-51 s room h = go (taken_trace s) refl
  where
    go : (o : Option (List Record)) → taken_trace s ≡ o → answer column_bytes room (taken_trace s) ≡ rejected 51
    go none e = answer-refused column_bytes room (taken_trace s) e
    go (some l) e = absurd (h l (taken-such s l e))

-- a trace that is taken, and too little room for its columns
pub trace-52 : (s : List ℕ) (l : List Record) (room : ℕ) → Such s l → room < length (column_bytes l) → to_columns s room ≡ rejected 52
unfolding to_columns
trace-52 s l room h full = answer-full column_bytes room (taken_trace s) l (such-taken s l h) full

pub columns-51 : (s : List ℕ) (room : ℕ) → Bytes s → ((l : List Record) → Produces s l → ⊥) → from_columns s room ≡ rejected 51
unfolding from_columns
columns-51 s room bytes h = go (taken_columns s) refl
  where
    go : (o : Option (List Record)) → taken_columns s ≡ o → answer trace_bytes_lem room (taken_columns s) ≡ rejected 51
    go none e = answer-refused trace_bytes_lem room (taken_columns s) e
    go (some l) e = absurd (h l (taken-produced s l bytes e))

pub columns-52 : (s : List ℕ) (l : List Record) (room : ℕ) → Produces s l → room < length (trace_bytes_lem l) → from_columns s room ≡ rejected 52
unfolding from_columns
columns-52 s l room h full = answer-full trace_bytes_lem room (taken_columns s) l (produced-taken s l h) full

-- ---- "An inverse gives back the trace."

-- there and back: the trace's own bytes
pub inverse : (trace columns : List ℕ) (room back : ℕ) → Bytes trace → to_columns trace room ≡ written columns → length trace ≤ back →
    from_columns columns back ≡ written trace
unfolding to_columns from_columns
inverse trace columns room back bytes e fits =
    let x = answer-some column_bytes room (taken_trace trace) columns e in
    let l = x.0 in
    let such = taken-such trace l x.1 in
    let same : trace_bytes_lem l ≡ trace = trace-written-again trace l bytes such.whole in
    let produced : Produces columns l = record { trace = trace; bytes = bytes; such = such; produced = x.2 } in
    answer-written trace_bytes_lem back (taken_columns columns) l (produced-taken columns l produced) (omega (arith, ap length same))
    ∙ ap written same

-- and the columns of what comes back are the columns
pub inverse-back : (columns trace : List ℕ) (room back : ℕ) → Bytes columns → from_columns columns back ≡ written trace
    → length columns ≤ room →
    to_columns trace room ≡ written columns
unfolding to_columns from_columns
inverse-back columns trace room back bytes e fits =
    let x = answer-some trace_bytes_lem back _ trace e in
    let l = x.0 in
    let p = taken-produced columns l bytes x.1 in
    let same = trace-written-again _ l p.bytes p.such.whole in
    let such = rw (← same, x.2) at p.such in
    answer-written column_bytes room _ l (such-taken trace l such) (omega (arith, ap length p.produced)) ∙ ap written p.produced
