-- The answers of both directions, pure: what the walks found decides the answer and what the buffer then holds.
use Rattle.machine.specs.All.{clash, ℕ, ◌+◌, ◌*◌, ◌≤◌, ◌<◌, zero-add, arith, Bool, true, false, cond, List, [], ◌∷◌, ◌++◌, Option, none, some, ◌≡◌, refl, ap, ◌∙◌, length, take, drop, length-map, sets, sets-eq, take-append_seam, le-leb, lt-leb, in_force, number_bytes, Record, trace_bytes_lem, Writing, written, rejected, read_record, suc}
use Rattle.codec.specs.Writing as buffer
use Rattle.codec.specs.Writing.{put}
use Rattle.codec.proofs.Writing.{put-room, written-bytes}
use Rattle.trace.specs.Answers.{after}
use Rattle.std.specs.Prelude.{Some, None, Option as Maybe}
use Rattle.columns_laws.specs.declared.walk.Walk.{Walk}
use Rattle.columns_laws.specs.{max_records, clocks, transactions, blocks, outcomes, differences, column, column_bytes, never_fall, whole_from, rising, taken_trace, taken_columns, answer, to_columns, from_columns, at_start, totals_of, Totals, totalled, totals, place_all, restore_all, found_all, Holds, Surveyed}
use Rattle.columns_laws.proofs.{Claims.taken-such, Placing.columns-length, Placing.columns-placed, Surveying.column-longest, Restoring.restored-all}

-- ---- One answer

-- the answer, and the buffer after it
abbrev pub Answers : Writing → Writing → (out out' : List ℕ) → Type 0
Answers given wanted out out' = (given ≡ wanted) × (out' ≡ after wanted out)

module _ (bytes : List Record → List ℕ) (o : Option (List Record)) (out : List ℕ) where
  answers-51 : o ≡ none → Answers (rejected 51) (answer bytes (length out) o) out out
  unfolding answer after
  answers-51 e = rw e (refl, refl)

  module _ (l : List Record) (e : o ≡ some l) (n : ℕ) (size : n ≡ length (bytes l)) where
    answers-52 : length out < n → Answers (rejected 52) (answer bytes (length out) o) out out
    unfolding answer after
    answers-52 full = rw (e, lt-leb (length (bytes l)) (length out) (omega arith)) (refl, refl)

    answers-bytes : (out' : List ℕ) → n ≤ length out → out' ≡ sets out 0 (bytes l)
        → Answers (written (take n out')) (answer bytes (length out) o) out out'
    unfolding answer after
    answers-bytes out' room h =
        let all : out' ≡ bytes l ++ drop (length (bytes l)) out =
        h ∙ sets-eq (bytes l) out 0 (omega arith) ∙ ap (λ (k : ℕ). bytes l ++ drop k out) (zero-add (length (bytes l))) in
        let front : take n out' ≡ bytes l =
        ap (λ (k : ℕ). take k out') size ∙ ap (take (length (bytes l))) all ∙ take-append_seam (bytes l) (drop (length (bytes l)) out) in
        rw (e, le-leb (length (bytes l)) (length out) (omega arith)) (ap written front, all)

-- ---- To columns

-- what was measured of a trace that is taken
pub record Sized (s : List ℕ) (count : ℕ) (t : Walk) : Type 0 where
  pub list : List Record
  pub taken : taken_trace s ≡ some list
  pub count-is : count ≡ length list
  pub differences-is : t.differences ≡ length (column (differences 0 (clocks list)))
  pub transactions-is : t.transactions ≡ length (column (transactions list))
  pub blocks_is : t.blocks ≡ length (column (blocks list))
  pub outcomes-is : t.outcomes ≡ length (column (outcomes list))

module _ (s : List ℕ) where
  -- a trace with a refused record, a falling clock or too many records is not taken
  pub measured-none : totals_of None ≡ totals 0 at_start (whole_from max_records s (read_record in_force s 0)) → taken_trace s ≡ none
  unfolding taken_trace totals_of
  measured-none e = go (whole_from max_records s (read_record in_force s 0)) e
    where
      choose : (l : List Record) (b : Bool) → none ≡ cond b (some (totalled 0 at_start l)) none → cond b (some l) none ≡ none
      choose l true f = clash (cc)
      choose l false f = refl

      go : (o : Option (List Record)) → none ≡ totals 0 at_start o → rising o ≡ none
      go none f = unfold rising in refl
      go (some l) f = unfold rising totals in (choose l (never_fall 0 (clocks l)) f)

  -- else the walk has the sizes of its four columns
  pub measured-some : (count : ℕ) (t : Walk) → totals_of (Some (count, t)) ≡ totals 0 at_start (whole_from max_records s (read_record in_force s 0))
      → Sized s count t
  unfolding totals_of
  measured-some count t e = go (whole_from max_records s (read_record in_force s 0)) refl e
    where
      here : Totals
      here =
          record { count = count; differences = t.differences; transactions = t.transactions; blocks = t.blocks; outcomes = t.outcomes }

      same : (x y : Totals) → some x ≡ some y → x ≡ y
      same x y f = cc

      choose : (l : List Record) (b : Bool) → whole_from max_records s (read_record in_force s 0) ≡ some l → never_fall 0 (clocks l) ≡ b →
          some here ≡ cond b (some (totalled 0 at_start l)) none → Sized s count t
      choose l true o rise f =
          let x = same here (totalled 0 at_start l) f in
          record {
            list = l;
            taken = unfold taken_trace rising in (rw (o, rise));
            count-is = ap (λ (y : Totals). y.count) x ∙ zero-add _;
            differences-is = ap (λ (y : Totals). y.differences) x ∙ zero-add _;
            transactions-is = ap (λ (y : Totals). y.transactions) x ∙ zero-add _;
            blocks_is = ap (λ (y : Totals). y.blocks) x ∙ zero-add _;
            outcomes-is = ap (λ (y : Totals). y.outcomes) x ∙ zero-add _;
          }
      choose l false o rise f = clash (cc)

      go : (o : Option (List Record)) → whole_from max_records s (read_record in_force s 0) ≡ o → some here ≡ totals 0 at_start o
          → Sized s count t
      go none o f = unfold totals in (clash (cc))
      go (some l) o f = choose l (never_fall 0 (clocks l)) o refl (unfold totals in f)

module _ (s : List ℕ) (count : ℕ) (t : Walk) (h : Sized s count t) where
  few : count ≤ max_records
  few = omega (arith, h.count-is, trace-few h.list h.taken)
    where
      trace-few : (l : List Record) → taken_trace s ≡ some l → length l ≤ max_records
      trace-few l e = (taken-such s l e).count

  differences-length : (before : ℕ) (l : List ℕ) → length (differences before l) ≡ length l
  unfolding differences
  differences-length before [] = refl
  differences-length before (c ∷ l) = ap suc (differences-length c l)

  -- the sums of the code fit
  pub measured-fits : (t.differences ≤ 9 * max_records) × (t.transactions ≤ 9 * max_records) × (t.blocks ≤ 9 * max_records)
      × (t.outcomes ≤ 9 * max_records)
  measured-fits =
      let l = h.list in
      let n : length l ≤ max_records = omega (arith, few, h.count-is) in (
        omega (
          arith,
          h.differences-is,
          column-longest (differences 0 (clocks l)),
          differences-length 0 (clocks l),
          length-map l (λ r. r.clock),
        ),
        omega (arith, h.transactions-is, column-longest (transactions l), length-map l (λ r. r.transaction)),
        omega (arith, h.blocks_is, column-longest (blocks l), length-map l (λ r. r.block)),
        omega (arith, h.outcomes-is, column-longest (outcomes l), length-map l (λ r. r.outcome)),
      )

  module _ (head : ℕ) (head-is : head ≡ length (number_bytes count)) (out : List ℕ) where
    abbrev pub all : ℕ
    all = head + t.differences + t.transactions + t.blocks + t.outcomes

    size : all ≡ length (column_bytes h.list)
    size =
        omega (
          arith,
          columns-length h.list,
          ap (λ (n : ℕ). length (number_bytes n)) h.count-is,
          h.differences-is,
          h.transactions-is,
          h.blocks_is,
          h.outcomes-is,
        )

    -- the columns do not fit the buffer, which stays
    pub to-52 : length out < all → Answers (rejected 52) (to_columns s (length out)) out out
    unfolding to_columns
    to-52 full = answers-52 column_bytes (taken_trace s) out h.list h.taken all size full

    -- the count, then record by record into the four columns: these are the columns' bytes
    pub to-bytes : all ≤ length out → (p : ℕ) (o1 out' : List ℕ) → buffer.written p o1 ≡ put count (buffer.written 0 out) →
        out' ≡ place_all count s
        (record {
          at = 0;
          clock = 0;
          differences = head;
          transactions = head + t.differences;
          blocks = head + t.differences + t.transactions;
          outcomes = head + t.differences + t.transactions + t.blocks;
        }) o1 →
        Answers (written (take all out')) (to_columns s (length out)) out out'
    unfolding to_columns
    to-bytes room p o1 out' e1 e2 =
        let l = h.list in
        let first : o1 ≡ sets out 0 (number_bytes (length l)) =
        written-bytes p (0 + length (number_bytes count)) o1 (sets out 0 (number_bytes count))
        (e1 ∙ put-room 0 count out (omega (arith, head-is)))
        ∙ ap (λ (n : ℕ). sets out 0 (number_bytes n)) h.count-is in
        let hd : head ≡ length (number_bytes (length l)) = head-is ∙ ap (λ (n : ℕ). length (number_bytes n)) h.count-is in
        let placed : out' ≡ sets out 0 (column_bytes l) =
        e2
        ∙ start h.count-is hd h.differences-is h.transactions-is h.blocks_is first
        ∙ columns-placed l out (omega (arith, size)) (taken-such s l h.taken).whole in
        answers-bytes column_bytes (taken_trace s) out l h.taken all size out' room placed
      where
        start : {n hd d x b : ℕ} {u : List ℕ} → count ≡ n → head ≡ hd → t.differences ≡ d → t.transactions ≡ x → t.blocks ≡ b → o1 ≡ u →
            place_all count s
            (record {
              at = 0;
              clock = 0;
              differences = head;
              transactions = head + t.differences;
              blocks = head + t.differences + t.transactions;
              outcomes = head + t.differences + t.transactions + t.blocks;
            }) o1
            ≡ place_all n s
            (record { at = 0; clock = 0; differences = hd; transactions = hd + d; blocks = hd + d + x; outcomes = hd + d + x + b }) u
        start a b c d e f = rw (a, b, c, d, e, f)

pub to-51 : (s out : List ℕ) → taken_trace s ≡ none → Answers (rejected 51) (to_columns s (length out)) out out
unfolding to_columns
to-51 s out e = answers-51 column_bytes (taken_trace s) out e

-- ---- From columns

module _ (s : List ℕ) (r : Maybe (ℕ × Walk × ℕ)) (h : Surveyed s r) where
  pub surveyed-none : r ≡ None → taken_columns s ≡ none
  surveyed-none e = rw e at h

  -- columns that are surveyed hold records, each column begins where the walk says, and the trace has that length
  pub surveyed-taken : {count : ℕ} {t : Walk} {len : ℕ} → r ≡ Some (count, t, len) → Holds s count t len
  surveyed-taken e = rw e at h

pub from-51 : (s out : List ℕ) → taken_columns s ≡ none → Answers (rejected 51) (from_columns s (length out)) out out
unfolding from_columns
from-51 s out e = answers-51 trace_bytes_lem (taken_columns s) out e

module _ (s : List ℕ) (count : ℕ) (t : Walk) (len : ℕ) (h : Holds s count t len) (out : List ℕ) where
  pub from-52 : length out < len → Answers (rejected 52) (from_columns s (length out)) out out
  unfolding from_columns
  from-52 full = answers-52 trace_bytes_lem (taken_columns s) out (found_all count s t) h.records len h.size full

  -- record by record out of the four columns: these are the trace's bytes
  pub from_bytes : len ≤ length out → (out' : List ℕ) → out' ≡ restore_all count s t out
      → Answers (written (take len out')) (from_columns s (length out)) out out'
  unfolding from_columns
  from_bytes room out' e =
      let placed : out' ≡ sets out 0 (trace_bytes_lem (found_all count s t)) =
      e ∙ restored-all count s t out (omega (arith, h.size, h.at))
      ∙ ap (λ (i : ℕ). sets out i (trace_bytes_lem (found_all count s t))) h.at in
      answers-bytes trace_bytes_lem (taken_columns s) out (found_all count s t) h.records len h.size out' room placed
