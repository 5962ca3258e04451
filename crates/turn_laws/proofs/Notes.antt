-- What the trace buffer holds after the writer had its rest from `used` on, and the note as a whole.
use Rattle.machine.specs.All.{ℕ, ◌+◌, ◌-◌, ◌≤◌, ◌<◌, ◌≡◌, sym, ap, ◌∙◌, subst, Bool, true, false, cond, List, ◌++◌, append-nil, arith, le-leb, lt-ltb, leb, length, take, drop, length-drop, drop_of_length-le, take-append-drop, take_all, in_force, Record, record_bytes, in_ranges, Writing, written, rejected, write_record}
use borrow.Rule.Slice.PartMut.{put_mid, mid_of}
use Rattle.trace.specs.Answers.{entry, after}
use Rattle.state.specs.{declared.scalars.Scalars.Scalars, All.put_used}
use Rattle.turn_laws.specs.{bytes, appended, append_record, count_record, noted, note_record, Bytes}

-- the whole rest is lent
pub rest-is : (trace : List ℕ) (used : ℕ) → mid_of used (length trace - used) trace ≡ drop used trace
rest-is trace used = take_all (length trace - used) (drop used trace) (omega (arith, length-drop used trace))

put_rest : (trace last : List ℕ) (used : ℕ) → used ≤ length trace → put_mid used (length trace - used) trace last ≡ take used trace ++ last
put_rest trace last used le =
    ap (λ (l : List ℕ). take used trace ++ (last ++ l))
    (drop_of_length-le (drop used trace) {i = length trace - used} (omega (arith, length-drop used trace)))
    ∙ ap (λ (l : List ℕ). take used trace ++ l) (append-nil last)

-- what was written are the record's bytes
only-bytes : (L : ℕ) (r : Record) (b : List ℕ) → write_record in_force L r ≡ written b → b ≡ record_bytes r
unfolding write_record
only-bytes L r b e = go (in_ranges in_force r) (leb (length (record_bytes r)) L) e
  where
    go : (x y : Bool) → cond x (cond y (written (record_bytes r)) (rejected 33)) (rejected 32) ≡ written b → b ≡ record_bytes r
    go true true e = cc
    go true false e = cc
    go false y e = cc

module _ (trace last : List ℕ) (used clock number block outcome : ℕ) (le : used ≤ length trace) where
  abbrev r : Record
  r = entry clock number block outcome

  -- by what the writer answers
  answered : (w : Writing) → write_record in_force (length (drop used trace)) r ≡ w
      → append_record trace used clock number block outcome ≡ appended trace used w
  unfolding append_record
  answered w e = rw (le-leb used (length trace) le, e)

  -- a record that is taken stands behind those before it, in a part of the trace that was lent
  pub appends : (rest b : List ℕ) (n : ℕ) → rest ≡ drop used trace → written b ≡ write_record in_force (length rest) r
      → last ≡ after (write_record in_force (length rest) r) rest → n ≡ length (record_bytes r)
      → bytes (used + n) (put_mid used (length trace - used) trace last) ≡ append_record trace used clock number block outcome
  unfolding bytes appended after
  appends rest b n is-rest wrote left size =
      let is : b ≡ record_bytes r = only-bytes (length rest) r b (sym wrote) in
      let w : write_record in_force (length rest) r ≡ written (record_bytes r) = sym wrote ∙ ap written is in
      let l : last ≡ record_bytes r ++ drop (length (record_bytes r)) rest = left ∙ ap (λ (x : Writing). after x rest) w in
      let w' : write_record in_force (length (drop used trace)) r ≡ written (record_bytes r) =
      subst (λ (x : List ℕ). write_record in_force (length x) r ≡ written (record_bytes r)) is-rest w in
      let l' : last ≡ record_bytes r ++ drop (length (record_bytes r)) (drop used trace) =
      subst (λ (x : List ℕ). last ≡ record_bytes r ++ drop (length (record_bytes r)) x) is-rest l in
      ap (bytes (used + n)) (put_rest trace last used le ∙ ap (λ (x : List ℕ). take used trace ++ x) l')
      ∙ ap (λ (k : ℕ). bytes (used + k) (take used trace ++ (record_bytes r ++ drop (length (record_bytes r)) (drop used trace)))) size
      ∙ sym (answered (written (record_bytes r)) w')

  -- one that is refused leaves the trace and its length
  pub refuses : (rest : List ℕ) (n : ℕ) → rest ≡ drop used trace → rejected n ≡ write_record in_force (length rest) r
      → last ≡ after (write_record in_force (length rest) r) rest
      → bytes used (put_mid used (length trace - used) trace last) ≡ append_record trace used clock number block outcome
  unfolding bytes appended after
  refuses rest n is-rest wrote left =
      let l : last ≡ drop used trace = left ∙ ap (λ (x : Writing). after x rest) (sym wrote) ∙ is-rest in
      let w' : write_record in_force (length (drop used trace)) r ≡ rejected n =
      subst (λ (x : List ℕ). write_record in_force (length x) r ≡ rejected n) is-rest (sym wrote) in
      ap (bytes used) (put_rest trace last used le ∙ ap (λ (x : List ℕ). take used trace ++ x) l ∙ take-append-drop used trace)
      ∙ sym (answered (rejected n) w')

-- counted and appended: both parts of a note
pub notes : (tally tally' trace trace' : List ℕ) (x : Scalars) (n number block : ℕ) → x.note < 2
    → tally' ≡ count_record tally block x.note
    → bytes n trace' ≡ append_record trace x.used x.clock number block x.note
    → noted (put_used n x) tally' trace' ≡ note_record tally trace x number block
unfolding note_record bytes
notes tally tally' trace trace' x n number block low counted wrote =
    rw (lt-ltb x.note 2 low, counted)
    (ap (λ (b : Bytes). noted (put_used b.used x) (count_record tally block x.note) b.trace) wrote)
