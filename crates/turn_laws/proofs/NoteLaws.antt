-- The record of a block, noted in the tally and the trace buffer, is the machine's.
use Rattle.machine.specs.All.{ℕ, zero, suc, ◌+◌, ◌-◌, ◌≤◌, ◌<◌, min, ◌≡◌, refl, sym, ap, ◌∙◌, subst, ◌≢◌, Bool, true, false, cond, ◌&&◌, List, [], ◌∷◌, ◌++◌, append_assoc, arith, ℕ_discrete, le-leb, le-ltb, eq-eqb, ne_eqb, ltb, eqb, length, get_or, set, take, drop, length-set, length-append, length-drop, take_at, drop_at, drop-drop, get_or-set_same, get_or-set_other, in_force, Transaction, record_bytes, trace_bytes_lem, in_ranges, written, write_record, Block, BlockModel, State, Logged, record_of, records_of, those, count, bit, set_entries, set_written}
use Rattle.machine.proofs.Runs.Shape.{each-get_or}
use Rattle.layout.specs.Layout as Layout
use Rattle.trace.specs.Answers.{entry}
use Rattle.trace.proofs.Writer.{in-ranges, record-room, written_record}
use Rattle.state.specs.declared.scalars.Scalars.{Scalars}
use Rattle.state.specs.All.{put_used, Rows, rows_of, at_block, Tallied, Tallying, Counting, Stands, note_of, Note, logged, count_entry, note_as}
use Rattle.state.proofs.StandsLaws.{entries-set, seen-set, serving-set, queueing-set}
use Rattle.state.proofs.Written.{in_order_lem, bytes-cons, at-block-cons}
use Rattle.moves.proofs.{Before.Before, BeforeLaws.placed, BeforeLaws.numbered}
use Rattle.turn_laws.specs.{Bytes, bytes, appended, append_record, cell_of, count_record, Noted, noted, note_record}
use Rattle.turn_laws.specs.Writes.{Writes}
use Rattle.turn_laws.proofs.Unwritten.{Unwritten}

-- ---- Bytes

append-is : (trace : List ℕ) (used clock number block outcome : ℕ) (b : List ℕ) → used ≤ length trace
    → write_record in_force (length (drop used trace)) (entry clock number block outcome) ≡ written b
    → append_record trace used clock number block outcome
    ≡ bytes (used + length b) (take used trace ++ (b ++ drop (length b) (drop used trace)))
unfolding append_record appended
append-is trace used clock number block outcome b le e = rw (le-leb used (length trace) le, e)

-- behind the bytes so far stand the new ones, and then what stood there
behind : (t b before : List ℕ) (used w : ℕ) → length t ≡ w → used ≡ w
    → take used (t ++ drop w before) ++ (b ++ drop (length b) (drop used (t ++ drop w before))) ≡ (t ++ b) ++ drop (w + length b) before
behind t b before used w len e =
    rw (e, take_at t (drop w before) w len, drop_at t (drop w before) w len, drop-drop (length b) w before)
    (sym (append_assoc t b (drop (w + length b) before)))

-- ---- Counts

module _ (tape_bytes tally : List ℕ) (i n : ℕ) (low : i < 512) where
  -- no cell from 512 on changes
  above : (j : ℕ) → 512 ≤ j → j ≢ i
  above j h e = omega arith

  counts-tallying : (s : State) (entries : List ℕ) (records : List Logged) → Tallying tape_bytes tally s
      → ((b : ℕ) → b < 256 → get_or (set tally i n) (Layout.entries + b) 0 ≡ get_or entries b 0)
      → ((b : ℕ) → b < 256 → get_or (set tally i n) (Layout.waits + b) 0 ≡ at_block 1 (suc b) records)
      → Tallied tape_bytes (set tally i n) (set_entries entries s.view) s.ql s.samples s.turns records
  counts-tallying s entries records h entered waiting =
      record {
        size = length-set tally i n ∙ h.size;
        entries = entered;
        waits = waiting;
        seen = seen-set tally i n s.view.clock s.turns (omega arith) h.seen;
        servers =
            serving-set tally i n s.view.clock s.view.servers s.ql (omega arith) (λ j a b. above j (omega arith)) h.servers;
        queues = queueing-set tally i n s.view.clock s.view.queues (omega arith) (λ j a b. above j (omega arith)) h.queues;
        samples =
            record {
              begins = λ k hk. rw (get_or-set_other tally i (928 + k) n 0 (above (928 + k) (omega arith))) (h.samples.begins k hk);
              left = λ k hk. get_or-set_other tally i (944 + k) n 0 (above (944 + k) (omega arith)) ∙ h.samples.left k hk;
            };
      }

-- no more records than there are
at-block-few : (o b : ℕ) (l : List Logged) → at_block o b l ≤ length l
at-block-few o b [] = unfold at_block count those in omega arith
at-block-few o b (x ∷ l) =
    omega (arith, at-block-cons o b x l, at-block-few o b l, bit-low (eqb x.entry.outcome o && eqb x.entry.block b))
  where
    bit-low : (c : Bool) → bit c ≤ 1
    bit-low true = omega arith
    bit-low false = omega arith

-- ---- The note

-- scalars, tally and trace buffer beside a work buffer stand for a state and its records
pub record Follows (tape_bytes before work : List ℕ) (n : Noted) (s : State) : Type 0 where
  -- the rows with the note taken stand for the state as before
  pub stands : Stands tape_bytes (rows_of n.scalars work n.tally) s.moving s
  pub writes : Writes before n.trace s

module _ {m : BlockModel} {tape : List (List ℕ)} {tape_bytes tables lists w tally : List ℕ} {y : Scalars} {t : Transaction} {s : State}
    {block : Block} {before : List ℕ}
    -- t stood before its block in s, with room for a record
    (h : Before m tape tape_bytes tables lists w tally y t s block) (room : s.written + 12 ≤ length before)
    (few : length s.records ≤ s.turns)
    -- what the block left, which wrote nothing yet
    (later : State) (same : Unwritten s later) (r : Rows) {trace : List ℕ} (stands : Stands tape_bytes r later.moving later)
    (writes : Writes before trace later)
  where
    abbrev x : Scalars
    x = r.scalars

    below : t.next - 1 < 256
    below = omega (arith, (placed h).0.0, (placed h).0.1, h.proper.blocks.1)

    -- ---- Its record

    module _ (o : ℕ) (le : o ≤ 1) where
      abbrev entered : Logged
      entered = record { entry = record_of o t s; priority = t.priority }

      fits : in_ranges in_force (record_of o t s) ≡ true
      unfolding record_of
      fits =
          in-ranges (record_of o t s)
          (record {
            clock = h.sane.timely.clock;
            first = (numbered h).0;
            transaction = omega (arith, (numbered h).1, h.sane.made, h.sane.serials);
            one = (placed h).0.0;
            block = omega (arith, (placed h).0.1, h.proper.blocks.1);
            outcome = le;
          })

      same_record : entry x.clock t.number t.next o ≡ record_of o t s
      unfolding record_of
      same_record = ap (λ (n : ℕ). entry n t.number t.next o) (stands.counting.clock ∙ same.clock)

      abbrev T : List ℕ
      T = trace_bytes_lem (records_of later)

      abbrev B : List ℕ
      B = record_bytes (record_of o t s)

      long : length trace ≡ length T + (length before - later.written)
      long =
          ap length writes.bytes ∙ length-append T (drop later.written before)
          ∙ ap (λ (n : ℕ). length T + n) (length-drop later.written before)

      inside : x.used ≤ length trace
      inside = omega (arith, long, stands.counting.used, writes.written)

      written_is : write_record in_force (length (drop x.used trace)) (entry x.clock t.number t.next o) ≡ written B
      written_is =
          ap (write_record in_force (length (drop x.used trace))) same_record
          ∙ sym (written_record (record_of o t s) (drop x.used trace) fits
          (omega (
            arith,
            record-room (record_of o t s) fits,
            length-drop x.used trace,
            long,
            stands.counting.used,
            writes.written,
            same.written,
          )))

      appends : append_record trace x.used x.clock t.number t.next o
          ≡ bytes (later.written + length B) ((T ++ B) ++ drop (later.written + length B) before)
      appends =
          append-is trace x.used x.clock t.number t.next o B inside written_is
          ∙ ap (λ (l : List ℕ). bytes (x.used + length B) (take x.used l ++ (B ++ drop (length B) (drop x.used l)))) writes.bytes
          ∙ ap (bytes (x.used + length B)) (behind T B before x.used later.written (sym writes.written) stands.counting.used)
          ∙ ap (λ (n : ℕ). bytes (n + length B) ((T ++ B) ++ drop (later.written + length B) before)) stands.counting.used

      grown : trace_bytes_lem (in_order_lem (entered ∷ later.records)) ≡ T ++ B
      unfolding records_of
      grown = bytes-cons entered later.records

    -- ---- Outcome 0

    abbrev cell : ℕ
    cell = t.next - 1

    abbrev plus : ℕ → ℕ
    plus n = min (n + 1) 18446744073709551615

    entry-low : get_or later.view.entries cell 0 ≤ 100000001
    entry-low =
        omega (
          arith,
          each-get_or (λ (n : ℕ). n ≤ s.turns) s.view.entries cell 0 h.sane.entries (omega arith),
          ap (λ (l : List ℕ). get_or l cell 0) same.entries,
          h.sane.turns,
        )

    entry-there : cell < length later.view.entries
    entry-there = omega (arith, ap length same.entries, h.sane.shape.entry_length, (placed h).0.0, (placed h).0.1)

    abbrev counted : ℕ
    counted = plus (get_or r.tally cell 0)

    counted_is : counted ≡ suc (get_or later.view.entries cell 0)
    counted_is =
        let zero-plus : Layout.entries + cell ≡ cell = omega arith in
        omega (arith, ap (λ (j : ℕ). get_or r.tally j 0) zero-plus, stands.tallying.entries cell below, entry-low)

    entries-counted : (b : ℕ) → b < 256 → get_or (set r.tally cell counted) (Layout.entries + b) 0
        ≡ get_or (set later.view.entries cell (suc (get_or later.view.entries cell 0))) b 0
    entries-counted b hb = go (ℕ_discrete b cell)
      where
        go : Dec (b ≡ cell) → get_or (set r.tally cell counted) (Layout.entries + b) 0
            ≡ get_or (set later.view.entries cell (suc (get_or later.view.entries cell 0))) b 0
        go (yes e) =
            let is : Layout.entries + b ≡ cell = omega arith in
            ap (λ (j : ℕ). get_or (set r.tally cell counted) j 0) is
            ∙ get_or-set_same r.tally cell counted 0 (omega (arith, stands.tallying.size, below))
            ∙ counted_is
            ∙ sym (get_or-set_same later.view.entries cell (suc (get_or later.view.entries cell 0)) 0 entry-there)
            ∙ ap (λ (j : ℕ). get_or (set later.view.entries cell (suc (get_or later.view.entries cell 0))) j 0) (sym e)
        go (no d) =
            get_or-set_other r.tally cell (Layout.entries + b) counted 0 (λ e. d (omega arith))
            ∙ stands.tallying.entries b hb
            ∙ sym (get_or-set_other later.view.entries cell b (suc (get_or later.view.entries cell 0)) 0 d)

    abbrev recorded : (o : ℕ) (le : o ≤ 1) (tally : List ℕ) → Noted
    recorded o le tally =
        noted (put_used (later.written + length (B o le)) x) tally ((T o le ++ B o le) ++ drop (later.written + length (B o le)) before)

    zero-low : 0 ≤ 1
    zero-low = omega arith

    one-low : 1 ≤ 1
    one-low = omega arith

    -- so many bytes are written then
    counting : (n : ℕ) → Counting (put_used n x) (set_written n later)
    counting n =
        let c = stands.counting in
        record {
          clock = c.clock;
          counter = c.counter;
          serial = c.serial;
          made = c.made;
          ended = c.ended;
          turns = c.turns;
          used = refl;
          end = c.end;
        }

    now-writes : (o : ℕ) (le : o ≤ 1) → Writes before (recorded o le []).trace (logged o t s later)
    unfolding logged noted records_of
    now-writes o le =
        record {
          bytes = ap (λ (l : List ℕ). l ++ drop (later.written + length (B o le)) before) (sym (grown o le));
          written = omega (arith, ap length (grown o le), length-append (T o le) (B o le), writes.written);
        }

    enters : Follows tape_bytes before r.work (recorded 0 zero-low (set r.tally cell counted))
        (logged 0 t s (count_entry t.next later))
    unfolding logged count_entry noted rows_of records_of
    enters =
        record {
          stands =
              record {
                listing = stands.listing;
                tallying =
                    counts-tallying tape_bytes r.tally cell counted (omega (arith, below)) later _ _ stands.tallying entries-counted
                    (λ b hb. get_or-set_other r.tally cell (Layout.waits + b) counted 0 (λ e. omega (arith, below))
                    ∙ stands.tallying.waits b hb ∙ sym (not-waits b));
                counting = counting (later.written + length (B 0 zero-low));
              };
          writes = record { bytes = (now-writes 0 zero-low).bytes; written = (now-writes 0 zero-low).written };
        }
      where
        not-waits : (b : ℕ) → at_block 1 (suc b) (entered 0 zero-low ∷ later.records) ≡ at_block 1 (suc b) later.records
        not-waits b = unfold record_of in at-block-cons 1 (suc b) (entered 0 zero-low) later.records ∙ omega arith

    -- ---- Outcome 1

    abbrev waiting : ℕ
    waiting = Layout.waits + cell

    abbrev begun : ℕ
    begun = plus (get_or r.tally waiting 0)

    begun-is : begun ≡ suc (at_block 1 (suc cell) later.records)
    begun-is =
        omega (
          arith,
          stands.tallying.waits cell below,
          at-block-few 1 (suc cell) later.records,
          ap length same.records,
          few,
          h.sane.turns,
        )

    at_own : suc cell ≡ t.next
    at_own = omega (arith, (placed h).0)

    one_more : (b : ℕ) → b < 256 → Dec (b ≡ cell)
        → get_or (set r.tally waiting begun) (Layout.waits + b) 0 ≡ at_block 1 (suc b) (entered 1 one-low ∷ later.records)
    one_more b hb (yes e) =
        ap (λ (j : ℕ). get_or (set r.tally waiting begun) (Layout.waits + j) 0) e
        ∙ get_or-set_same r.tally waiting begun 0 (omega (arith, stands.tallying.size, below))
        ∙ begun-is
        ∙ ap (λ (j : ℕ). suc (at_block 1 (suc j) later.records)) (sym e)
        ∙ sym (at-block-cons 1 (suc b) (entered 1 one-low) later.records ∙ own)
      where
        own : bit (eqb (record_of 1 t s).outcome 1 && eqb (record_of 1 t s).block (suc b)) + at_block 1 (suc b) later.records
            ≡ suc (at_block 1 (suc b) later.records)
        own = unfold record_of in rw (eq-eqb t.next (suc b) (omega (arith, at_own))) (omega arith)
    one_more b hb (no d) =
        get_or-set_other r.tally waiting (Layout.waits + b) begun 0 (λ e. d (omega arith))
        ∙ stands.tallying.waits b hb
        ∙ sym (at-block-cons 1 (suc b) (entered 1 one-low) later.records ∙ other)
      where
        other : bit (eqb (record_of 1 t s).outcome 1 && eqb (record_of 1 t s).block (suc b)) + at_block 1 (suc b) later.records
            ≡ at_block 1 (suc b) later.records
        other = unfold record_of in rw (ne_eqb t.next (suc b) (λ e. d (omega (arith, at_own)))) (omega arith)

    waits : Follows tape_bytes before r.work (recorded 1 one-low (set r.tally waiting begun)) (logged 1 t s later)
    unfolding logged noted rows_of records_of
    waits =
        record {
          stands =
              record {
                listing = stands.listing;
                tallying =
                    counts-tallying tape_bytes r.tally waiting begun (omega (arith, below)) later _ _ stands.tallying
                    (entries-set r.tally waiting begun later.view.entries (omega arith) stands.tallying.entries)
                    (λ b hb. one_more b hb (ℕ_discrete b cell));
                counting = counting (later.written + length (B 1 one-low));
              };
          writes = now-writes 1 one-low;
        }

    -- ---- By the note

    -- what the scalars' note does
    abbrev by-note : ℕ → Noted
    by-note n =
        let b : Bytes = append_record trace x.used x.clock t.number t.next n in
        cond (ltb n 2) (noted (put_used b.used x) (count_record r.tally t.next n) b.trace) (noted x r.tally trace)

    note-0 : by-note 0 ≡ recorded 0 zero-low (set r.tally cell counted)
    unfolding bytes count_record cell_of
    note-0 = ap (λ (b : Bytes). noted (put_used b.used x) (count_record r.tally t.next 0) b.trace) (appends 0 zero-low)

    note-1 : by-note 1 ≡ recorded 1 one-low (set r.tally waiting begun)
    unfolding bytes count_record cell_of
    note-1 = ap (λ (b : Bytes). noted (put_used b.used x) (count_record r.tally t.next 1) b.trace) (appends 1 one-low)

    nothing : Follows tape_bytes before r.work (noted x r.tally trace) later
    unfolding noted rows_of
    nothing =
        record {
          stands = record { listing = stands.listing; tallying = stands.tallying; counting = stands.counting };
          writes = writes;
        }

    noted-by : (n : ℕ) → Follows tape_bytes before r.work (by-note n) (note_as (note_of n) t s later)
    unfolding note_as note_of
    noted-by zero =
        subst (λ (a : Noted). Follows tape_bytes before r.work a (logged 0 t s (count_entry t.next later))) (sym note-0) enters
    noted-by (suc zero) = subst (λ (a : Noted). Follows tape_bytes before r.work a (logged 1 t s later)) (sym note-1) waits
    noted-by (suc (suc n)) =
        rw (ne_eqb (suc (suc n)) 0 (λ e. omega arith), ne_eqb (suc (suc n)) 1 (λ e. omega arith))
        (subst (λ (a : Noted). Follows tape_bytes before r.work a later) (sym more) nothing)
      where
        more : by-note (suc (suc n)) ≡ noted x r.tally trace
        more = rw (le-ltb (suc (suc n)) 2 (omega arith))

    -- the note of a block, in tally and trace
    pub note-follows : (n : Note) → note_of x.note ≡ n
        → Follows tape_bytes before r.work (note_record r.tally trace x t.number t.next) (note_as n t s later)
    unfolding note_record
    note-follows n e =
        subst (λ (k : Note). Follows tape_bytes before r.work (by-note x.note) (note_as k t s later)) e (noted-by x.note)
