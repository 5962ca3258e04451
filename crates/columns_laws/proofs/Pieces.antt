-- The pieces of columns, pure: where the count and each column stand, the records that they give, and their bytes.
use Rattle.machine.specs.All.{clash, ℕ, zero, suc, ◌+◌, ◌≤◌, zero-le, arith, true, List, [], ◌∷◌, ◌++◌, append_assoc, append-nil, some, ◌≡◌, refl, sym, ap, subst, ◌∙◌, eqb, length, drop, length-append, length-map, drop-length, eq-eqb, eqb-true, in_force, max_transaction, max_blocks, five_groups, number_bytes, Cursor, Parsed, parsed, refused, continue, ask, times, at_end, beginning, Record, record_bytes, trace_bytes_lem, trace_field, Bool, false}
use Rattle.codec.specs.Answers.{cursor_at}
use Rattle.codec.proofs.{Fields.field-taken, Groups.Bytes}
use Rattle.trace.specs.Whole.{AllInRanges}
use Rattle.trace.proofs.Writer.{record_bytes-length, in-ranges}
use Rattle.columns_laws.specs.{max_records, clocks, transactions, blocks, outcomes, differences, column, column_bytes, never_fall, rows, clocks_from, column_fields, records_of, taken_columns}
use Rattle.columns_laws.proofs.Parsing.{continued, Between, ColumnTaken, column-taken, Below, ClocksTaken, clocks-taken}

-- ---- Rows and columns

-- records split into columns and joined again
pub rows_of : (l : List Record) → rows (clocks l) (transactions l) (blocks l) (outcomes l) ≡ l
unfolding rows
rows_of [] = refl
rows_of (r ∷ l) = ap (λ (m : List Record). r ∷ m) (rows_of l)

-- columns of one length, and their rows
pub record Split (cs ts bs os : List ℕ) : Type 0 where
  pub clocks_of : clocks (rows cs ts bs os) ≡ cs
  pub transactions_of : transactions (rows cs ts bs os) ≡ ts
  pub blocks_of : blocks (rows cs ts bs os) ≡ bs
  pub outcomes_of : outcomes (rows cs ts bs os) ≡ os
  -- a trace is as long as its four columns of plain numbers
  pub bytes_of : length (trace_bytes_lem (rows cs ts bs os)) ≡ length (column cs) + length (column ts) + length (column bs) + length (column os)
  pub ranges_of : Below cs → Between 1 max_transaction ts → Between 1 max_blocks bs → Between 0 1 os → AllInRanges (rows cs ts bs os)

split-cons : (c t b o : ℕ) (cs ts bs os : List ℕ) → Split cs ts bs os → Split (c ∷ cs) (t ∷ ts) (b ∷ bs) (o ∷ os)
unfolding rows trace_bytes_lem column
split-cons c t b o cs ts bs os h =
    let r : Record = record { clock = c; transaction = t; block = b; outcome = o } in
    record {
      clocks_of = ap (λ (m : List ℕ). c ∷ m) h.clocks_of;
      transactions_of = ap (λ (m : List ℕ). t ∷ m) h.transactions_of;
      blocks_of = ap (λ (m : List ℕ). b ∷ m) h.blocks_of;
      outcomes_of = ap (λ (m : List ℕ). o ∷ m) h.outcomes_of;
      bytes_of =
          omega (
            arith,
            h.bytes_of,
            record_bytes-length r,
            length-append (record_bytes r) (trace_bytes_lem (rows cs ts bs os)),
            length-append (number_bytes c) (column cs),
            length-append (number_bytes t) (column ts),
            length-append (number_bytes b) (column bs),
            length-append (number_bytes o) (column os),
          );
      ranges_of = λ x y z w. (
        in-ranges r
            (record { clock = x.0; first = y.0.0; transaction = y.0.1; one = z.0.0; block = z.0.1; outcome = w.0.1 }),
        h.ranges_of x.1 y.1 z.1 w.1,
      );
    }

-- and columns of equal length joined and split again
pub split : (n : ℕ) (cs ts bs os : List ℕ) → length cs ≡ n → length ts ≡ n → length bs ≡ n → length os ≡ n → Split cs ts bs os
split zero [] [] [] [] e f g h = unfold rows trace_bytes_lem column in record {
  clocks_of = refl;
  transactions_of = refl;
  blocks_of = refl;
  outcomes_of = refl;
  bytes_of = refl;
  ranges_of = λ x y z w. tt;
}
split zero [] [] [] (o ∷ os) e f g h = absurd (omega arith)
split zero [] [] (b ∷ bs) os e f g h = absurd (omega arith)
split zero [] (t ∷ ts) bs os e f g h = absurd (omega arith)
split zero (c ∷ cs) ts bs os e f g h = absurd (omega arith)
split (suc n) [] ts bs os e f g h = absurd (omega arith)
split (suc n) (c ∷ cs) [] bs os e f g h = absurd (omega arith)
split (suc n) (c ∷ cs) (t ∷ ts) [] os e f g h = absurd (omega arith)
split (suc n) (c ∷ cs) (t ∷ ts) (b ∷ bs) [] e f g h = absurd (omega arith)
split (suc n) (c ∷ cs) (t ∷ ts) (b ∷ bs) (o ∷ os) e f g h =
    split-cons c t b o cs ts bs os (split n cs ts bs os (omega arith) (omega arith) (omega arith) (omega arith))

-- ---- The pieces

pub record Pieces (s : List ℕ) (n p0 p1 p2 p3 : ℕ) (cs ts bs os : List ℕ) : Type 0 where
  pub few : n ≤ max_records
  pub head : drop 0 s ≡ number_bytes n ++ drop p0 s
  pub cs-taken : ClocksTaken s n 0 p0 cs (cursor_at p1 0 0)
  pub ts-taken : ColumnTaken s 1 max_transaction n p1 ts (cursor_at p2 0 0)
  pub bs-taken : ColumnTaken s 1 max_blocks n p2 bs (cursor_at p3 0 0)
  pub os-taken : ColumnTaken s 0 1 n p3 os (cursor_at (length s) 0 0)

module _ {s : List ℕ} {n p0 p1 p2 p3 : ℕ} {cs ts bs os : List ℕ} (h : Pieces s n p0 p1 p2 p3 cs ts bs os) where
  pub pieces-split : Split cs ts bs os
  pieces-split = split n cs ts bs os h.cs-taken.count h.ts-taken.count h.bs-taken.count h.os-taken.count

  pub pieces-count : length (rows cs ts bs os) ≡ n
  pieces-count = sym (length-map (rows cs ts bs os) (λ r. r.clock)) ∙ ap length pieces-split.clocks_of ∙ h.cs-taken.count

  pub pieces-ranges : AllInRanges (rows cs ts bs os)
  pieces-ranges = pieces-split.ranges_of h.cs-taken.below h.ts-taken.between h.bs-taken.between h.os-taken.between

  pub pieces-rise : never_fall 0 (clocks (rows cs ts bs os)) ≡ true
  pieces-rise = rw pieces-split.clocks_of h.cs-taken.rises

  -- the bytes are those of the records
  pub pieces-bytes : column_bytes (rows cs ts bs os) ≡ s
  unfolding column_bytes
  pieces-bytes =
      let x = pieces-split in
      let a = number_bytes n in
      let b = column (differences 0 cs) in
      let c = column ts in
      let d = column bs in
      let e = column os in
      let end : drop (length s) s ≡ [] = drop-length s in
      rw (pieces-count, x.clocks_of, x.transactions_of, x.blocks_of, x.outcomes_of)
      (sym
      (h.head
      ∙ ap (λ (u : List ℕ). a ++ u) h.cs-taken.stands.bytes
      ∙ ap (λ (u : List ℕ). a ++ (b ++ u)) h.ts-taken.stands.bytes
      ∙ ap (λ (u : List ℕ). a ++ (b ++ (c ++ u))) h.bs-taken.stands.bytes
      ∙ ap (λ (u : List ℕ). a ++ (b ++ (c ++ (d ++ u)))) (h.os-taken.stands.bytes ∙ ap (λ (u : List ℕ). e ++ u) end ∙ append-nil e)
      ∙ gather a b c d e))
    where
      gather : (a b c d e : List ℕ) → a ++ (b ++ (c ++ (d ++ e))) ≡ a ++ b ++ c ++ d ++ e
      gather a b c d e = sym (simp append_assoc)

-- ---- From what was parsed

module _ (s : List ℕ) (n p0 p1 p2 p3 p4 : ℕ) (cs ts bs os : List ℕ)
    (f0 : trace_field in_force s 0 max_records (cursor_at 0 0 0) ≡ parsed n (cursor_at p0 0 0))
    (f1 : clocks_from s n 0 (cursor_at p0 0 0) ≡ parsed cs (cursor_at p1 0 0))
    (f2 : times n (trace_field in_force s 1 max_transaction) (cursor_at p1 0 0) ≡ parsed ts (cursor_at p2 0 0))
    (f3 : times n (trace_field in_force s 1 max_blocks) (cursor_at p2 0 0) ≡ parsed bs (cursor_at p3 0 0))
    (f4 : times n (trace_field in_force s 0 1) (cursor_at p3 0 0) ≡ parsed os (cursor_at p4 0 0)) where
  pub columns-parsed : p4 ≡ length s → taken_columns s ≡ some (rows cs ts bs os)
  unfolding taken_columns column_fields continue at_end ask records_of
  columns-parsed end = rw (f0, f1, f2, f3, f4, eq-eqb p4 (length s) end)

-- what every parse that gives records has
pub record Parses (s : List ℕ) (l : List Record) : Type 0 where
  pub n : ℕ
  pub p0 : ℕ
  pub p1 : ℕ
  pub p2 : ℕ
  pub p3 : ℕ
  pub cs : List ℕ
  pub ts : List ℕ
  pub bs : List ℕ
  pub os : List ℕ
  pub pieces : Pieces s n p0 p1 p2 p3 cs ts bs os
  pub all : rows cs ts bs os ≡ l

records-some : (p : Parsed (List Record)) (l : List Record) → records_of p ≡ some l → (c : Cursor) × (p ≡ parsed l c)
unfolding records_of
records-some (parsed m c) l e = let f : m ≡ l = cc in (c, ap (λ (x : List Record). parsed x c) f)
records-some (refused n) l e = clash (cc)

at-end : (s : List ℕ) (l m : List Record) (c d : Cursor) → continue (at_end s 31 c) (λ u x. parsed m x) ≡ parsed l d
    → (c.position ≡ length s) × (m ≡ l)
unfolding at_end
at-end s l m c d e = go (eqb c.position (length s)) refl e
  where
    go : (b : Bool) → eqb c.position (length s) ≡ b → continue (ask b 31 c) (λ u x. parsed m x) ≡ parsed l d
        → (c.position ≡ length s) × (m ≡ l)
    go true f g = unfold continue ask in (eqb-true _ _ f, (cc))
    go false f g = unfold continue ask in (clash (cc))

-- what is taken as columns are count, clocks, transactions, blocks and outcomes, and nothing behind
pub columns_parse : (s : List ℕ) → Bytes s → (l : List Record) → taken_columns s ≡ some l → Parses s l
unfolding taken_columns column_fields
columns_parse s bytes l e =
    let r = records-some (column_fields s beginning) l e in
    let a = continued (trace_field in_force s 0 max_records (cursor_at 0 0 0)) _ l r.0 r.1 in
    let t = field-taken s five_groups 0 a.0 31 0 max_records 0 0 a.1 bytes a.2 in
    let n = a.0 in
    let p0 = 0 + length (number_bytes n) in
    let b = continued (clocks_from s n 0 a.1) _ l r.0 a.3 in
    let cs = clocks-taken s bytes n 0 p0 b.0 b.1 zero-le (ap (clocks_from s n 0) (sym t.cursor) ∙ b.2) in
    let c = continued (times n (trace_field in_force s 1 max_transaction) b.1) _ l r.0 b.3 in
    let ts = column-taken s bytes 1 max_transaction n b.1.position c.0 c.1
    (ap (times n (trace_field in_force s 1 max_transaction)) (sym cs.cursor) ∙ c.2) in
    let d = continued (times n (trace_field in_force s 1 max_blocks) c.1) _ l r.0 c.3 in
    let bs = column-taken s bytes 1 max_blocks n c.1.position d.0 d.1
    (ap (times n (trace_field in_force s 1 max_blocks)) (sym ts.cursor) ∙ d.2) in
    let f = continued (times n (trace_field in_force s 0 1) d.1) _ l r.0 d.3 in
    let os = column-taken s bytes 0 1 n d.1.position f.0 f.1
    (ap (times n (trace_field in_force s 0 1)) (sym bs.cursor) ∙ f.2) in
    let z = at-end s l (rows b.0 c.0 d.0 f.0) f.1 r.0 f.3 in
    record {
      n = n;
      p0 = p0;
      p1 = b.1.position;
      p2 = c.1.position;
      p3 = d.1.position;
      cs = b.0;
      ts = c.0;
      bs = d.0;
      os = f.0;
      pieces = record {
        few = t.high;
        head = t.bytes;
        cs-taken = subst (ClocksTaken s n 0 p0 b.0) cs.cursor cs;
        ts-taken = subst (ColumnTaken s 1 max_transaction n b.1.position c.0) ts.cursor ts;
        bs-taken = subst (ColumnTaken s 1 max_blocks n c.1.position d.0) bs.cursor bs;
        os-taken = subst (ColumnTaken s 0 1 n d.1.position f.0) (os.cursor ∙ ap (λ (p : ℕ). cursor_at p 0 0) z.0) os;
      };
      all = z.1;
    }
