-- The trace of every state of a run: each record lies in the reader's ranges and takes at most 12 bytes, the bytes written are
-- those of the records and fit the room, and the entries of a block are its records of outcome 0.
use Rattle.machine.specs.All.{ℕ, suc, ◌+◌, ◌-◌, ◌≤◌, ◌<◌, ◌≡◌, refl, ap, ◌∙◌, Bool, true, false, ◌&&◌, List, [], ◌∷◌, map, ◌++◌, reverse, reverse-cons, append_assoc, some, arith, eqb-true, eqb-false, eqb, length, set, length-append, get_or-replicate, get_or-set_same, get_or-set_other, in_force, max_serial, max_turns, record_room, Transaction, nth, those, Record, record_bytes, trace_bytes_lem, BlockModel, State, Logged, set_end, record_of, turn, idle, start, records_of, Each, count, bit, InModel}
use Rattle.machine.proofs.{Decoding.Proper.Proper, Decoding.Proper.Names, Runs.RunLaws.Taken, Lists.Sums.count-cons}
use Rattle.trace.proofs.Writer.{in-ranges, record-room}
use Rattle.state.specs.All.{Note, entered_note, waits_note, no_note, logged, count_entry, note_as, at_block}
use Rattle.state.proofs as our
use our.{Sane.Sane, Measured.Took, Numbered.numbered-taken}
use our.TurnGains.{Turned, unnoted, noted, turned}
use our.Sanity.{taken_of, Sure, sure-turn, sure-start, sure-end, sane-taken, taken-took, start_is}
use mathlib.Core.Path.{sym, subst}
use Rattle.machine.specs.Rules.{Rules}
use Rattle.machine.specs.Trace.{in_ranges}
use Rattle.machine.proofs.Runs.Everybody.{Maybe}
use Rattle.machine.proofs.Runs.Placed.{Placed}
use Rattle.trace.proofs.Writer.{Ranges}
use Rattle.state.proofs.Gains.{Gains}

-- ---- Definition

pub record Traced (m : BlockModel) (room : ℕ) (s : State) : Type 0 where
  pub rules : m.rules ≡ in_force
  pub records : Each (λ (r : Logged). InModel m r.entry) s.records
  pub written : s.written ≡ length (trace_bytes_lem (records_of s))
  pub fits : s.written ≤ room
  pub entries : (b : ℕ) → Names (length m.blocks) b → nth s.view.entries b 0 ≡ at_block 0 b s.records
  -- at most one record a turn
  pub number : length s.records ≤ s.turns

-- ---- Bytes of records in the order of writing

trace_bytes-append : (k l : List Record) → trace_bytes_lem (k ++ l) ≡ trace_bytes_lem k ++ trace_bytes_lem l
unfolding trace_bytes_lem
trace_bytes-append [] l = refl
trace_bytes-append (r ∷ k) l =
    ap (λ (x : List ℕ). record_bytes r ++ x) (trace_bytes-append k l) ∙ sym (append_assoc (record_bytes r) (trace_bytes_lem k) (trace_bytes_lem l))

map-append : {A B : Type 0} (f : A → B) (k l : List A) → map f (k ++ l) ≡ map f k ++ map f l
map-append f [] l = refl
map-append f (x ∷ k) l = ap (λ r. f x ∷ r) (map-append f k l)

-- of records, newest first
abbrev pub in_order_lem : List Logged → List Record
in_order_lem l = map (λ r. r.entry) (reverse l)

-- the newest record comes last in the trace
pub in-order-cons : (r : Logged) (l : List Logged) → in_order_lem (r ∷ l) ≡ in_order_lem l ++ (r.entry ∷ [])
in-order-cons r l = ap (map (λ r. r.entry)) (reverse-cons r l) ∙ map-append (λ r. r.entry) (reverse l) (r ∷ [])

pub bytes-cons : (r : Logged) (l : List Logged) → trace_bytes_lem (in_order_lem (r ∷ l)) ≡ trace_bytes_lem (in_order_lem l) ++ record_bytes r.entry
bytes-cons r l =
    ap trace_bytes_lem (in-order-cons r l)
    ∙ trace_bytes-append (in_order_lem l) (r.entry ∷ [])
    ∙ ap (λ (x : List ℕ). trace_bytes_lem (in_order_lem l) ++ x) (one r.entry)
  where
    one : (r : Record) → trace_bytes_lem (r ∷ []) ≡ record_bytes r
    one r = unfold trace_bytes_lem in mathlib.Core.List.append-nil (record_bytes r)

-- ---- One record more

traced_like : {m : BlockModel} {room : ℕ} (s s' : State) → s'.records ≡ s.records → s'.written ≡ s.written
    → s'.view.entries ≡ s.view.entries
    → s.turns ≤ s'.turns → Traced m room s → Traced m room s'
unfolding records_of
traced_like {m} s s' r w e turns h =
    record {
      rules = h.rules;
      records = subst (Each (λ (x : Logged). InModel m x.entry)) (sym r) h.records;
      written = w ∙ h.written ∙ ap (λ (l : List Logged). length (trace_bytes_lem (in_order_lem l))) (sym r);
      fits = omega arith;
      entries = λ b names. ap (λ (l : List ℕ). nth l b 0) e ∙ h.entries b names ∙ ap (at_block 0 b) (sym r);
      number = omega (arith, ap length r, h.number);
    }

-- the count of a record at its own block and elsewhere
pub at-block-cons : (outcome block : ℕ) (r : Logged) (l : List Logged)
    → at_block outcome block (r ∷ l) ≡ bit (eqb r.entry.outcome outcome && eqb r.entry.block block) + at_block outcome block l
unfolding at_block
at-block-cons outcome block r l = count-cons (λ r. eqb r.entry.outcome outcome && eqb r.entry.block block) r l

module _ {m : BlockModel} {room : ℕ} (t : Transaction) (s x : State) (ok : (o : ℕ) → o ≤ 1 → InModel m (record_of o t s))
    (h : Traced m room x) (left : x.written + record_room ≤ room) (few : length x.records < x.turns)
    (len : length x.view.entries ≡ length m.blocks) where
  longer : (o : ℕ) → o ≤ 1
      → x.written + length (record_bytes (record_of o t s))
      ≡ length (trace_bytes_lem (in_order_lem (record { entry = record_of o t s; priority = t.priority } ∷ x.records)))
  unfolding records_of
  longer o le =
      let r : Logged = record { entry = record_of o t s; priority = t.priority } in
      omega (
        arith,
        h.written,
        ap length (bytes-cons r x.records),
        length-append (trace_bytes_lem (in_order_lem x.records)) (record_bytes (record_of o t s)),
      )

  short : (o : ℕ) → o ≤ 1 → x.written + length (record_bytes (record_of o t s)) ≤ room
  short o le =
      let kept : in_ranges in_force (record_of o t s) ≡ true =
      subst (λ (q : Rules). in_ranges q (record_of o t s) ≡ true) h.rules (ok o le).ranges in
      omega (arith, record-room (record_of o t s) kept)

  counted : (b : ℕ) → Names (length m.blocks) b
      → nth (set x.view.entries (t.next - 1) (suc (nth x.view.entries t.next 0))) b 0
      ≡ at_block 0 b (record { entry = record_of 0 t s; priority = t.priority } ∷ x.records)
  unfolding record_of
  counted b names = go (eqb t.next b) refl
    where
      here : Names (length m.blocks) t.next
      here = (ok 0 (omega arith)).block

      more : at_block 0 b (record { entry = record_of 0 t s; priority = t.priority } ∷ x.records)
          ≡ bit (eqb t.next b) + at_block 0 b x.records
      more = at-block-cons 0 b (record { entry = record_of 0 t s; priority = t.priority }) x.records

      go : (c : Bool) → eqb t.next b ≡ c
          → nth (set x.view.entries (t.next - 1) (suc (nth x.view.entries t.next 0))) b 0
          ≡ at_block 0 b (record { entry = record_of 0 t s; priority = t.priority } ∷ x.records)
      go true e =
          let is : t.next ≡ b = eqb-true _ _ e in
          omega (
            arith,
            more,
            ap bit e,
            ap (λ (i : ℕ). nth (set x.view.entries (t.next - 1) (suc (nth x.view.entries t.next 0))) i 0) is,
            get_or-set_same x.view.entries (t.next - 1) (suc (nth x.view.entries t.next 0)) 0 (omega (arith, here.0, here.1)),
            ap (λ (i : ℕ). nth x.view.entries i 0) is,
            h.entries b names,
          )
      go false e =
          omega (
            arith,
            more,
            ap bit e,
            get_or-set_other x.view.entries (t.next - 1) (b - 1) (suc (nth x.view.entries t.next 0)) 0 (apart (eqb-false _ _ e)),
            h.entries b names,
          )
        where
          apart : (t.next ≡ b → ⊥) → b - 1 ≡ t.next - 1 → ⊥
          apart ne q = ne (omega (arith, here.0, names.0))

  waited : (b : ℕ) → at_block 0 b (record { entry = record_of 1 t s; priority = t.priority } ∷ x.records) ≡ at_block 0 b x.records
  unfolding record_of
  waited b = omega (arith, at-block-cons 0 b (record { entry = record_of 1 t s; priority = t.priority }) x.records)

  traced-note : (n : Note) → Traced m room (note_as n t s x)
  unfolding note_as logged count_entry records_of
  traced-note entered_note =
      record {
        rules = h.rules;
        records = (ok 0 (omega arith), h.records);
        written = longer 0 (omega arith);
        fits = short 0 (omega arith);
        entries = counted;
        number = omega arith;
      }
  traced-note waits_note =
      record {
        rules = h.rules;
        records = (ok 1 (omega arith), h.records);
        written = longer 1 (omega arith);
        fits = short 1 (omega arith);
        entries = λ b names. h.entries b names ∙ sym (waited b);
        number = omega arith;
      }
  traced-note no_note = h

-- ---- The turn

module _ {m : BlockModel} {tape : List (List ℕ)} (proper : Proper m tape) {room : ℕ} (s : State) (sure : Sure m tape s)
    (going : s.end ≡ 0) (serials : s.serial ≤ max_serial) (turns : s.turns < max_turns) (left : s.written + record_room ≤ room) where
  abbrev x : State
  x = taken_of s

  k : Took s.turns s (Rattle.machine.specs.Turn.taking s.moving s)
  k = taken-took proper s sure going serials turns

  sane : Sane m x
  sane = sane-taken proper s sure going serials turns

  -- a record of the moving one
  in-model : (t : Transaction) → x.moving ≡ some t → (o : ℕ) → o ≤ 1 → InModel m (record_of o t x)
  unfolding record_of
  in-model t e o le =
      let number : Names s.made t.number = numbered-taken m tape s sure.sound t e in
      let place : Placed m t = subst (Maybe (Placed m)) e sane.placed.moving in
      let few : s.made ≤ 100000000 = omega (arith, sure.sane.made, sure.sane.serials) in
      let r : Ranges (record_of o t x) =
      record {
        clock = sane.timely.clock;
        first = number.0;
        transaction = omega (arith, few, number.1);
        one = place.0.0;
        block = omega (arith, place.0.1, proper.blocks.1);
        outcome = le;
      } in
      record {
        ranges =
            subst (λ (q : Rules). in_ranges q (record_of o t x) ≡ true) (sym sane.rules) (in-ranges (record_of o t x) r);
        block = place.0;
      }

  after : {s' : State} → Turned x s' → Traced m room s → Traced m room s'
  after {s'} (unnoted g) h =
      traced_like s s' (g.records ∙ k.records) (g.written ∙ k.written) (g.entries ∙ k.entries) (omega (arith, g.turns)) h
  after {s'} (noted t e n later w g) h =
      let b : Gains w.new 255 1 x later = w.gains in
      let h' : Traced m room later =
      traced_like s later (b.records ∙ k.records) (b.written ∙ k.written) (b.entries ∙ k.entries) (omega (arith, b.turns)) h in
      traced_like (note_as n t x later) s' g.records g.written g.entries (omega (arith, g.turns))
      (traced-note t x later (in-model t e) h' (omega (arith, b.written, k.written))
      (omega (arith, ap length b.records, ap length k.records, h.number, b.turns))
      (ap length b.entries ∙ sane.shape.entry_length) n)

  pub traced-turn : Traced m room s → Traced m room (turn m s)
  unfolding turn
  traced-turn h = after (turned proper x) h

-- ---- The run

-- what every state of a run has
pub record Kept (m : BlockModel) (tape : List (List ℕ)) (room : ℕ) (s : State) : Type 0 where
  pub sure : Sure m tape s
  pub traced : Traced m room s

module _ {m : BlockModel} {tape : List (List ℕ)} (proper : Proper m tape) (rules : m.rules ≡ in_force) (room : ℕ) where
  traced-idle : Traced m room (idle m tape)
  unfolding idle records_of trace_bytes_lem at_block count those
  traced-idle =
      record {
        rules = rules;
        records = tt;
        written = refl;
        fits = omega arith;
        entries = λ b names. get_or-replicate (length m.blocks) (b - 1) 0 0 (omega arith);
        number = omega arith;
      }

  pub kept-start : Kept m tape room (start m tape)
  kept-start =
      let g = start_is proper rules in
      record {
        sure = sure-start proper rules;
        traced = traced_like (idle m tape) (start m tape) g.records g.written g.entries (omega (arith, g.turns)) traced-idle;
      }

  module _ (budget : ℕ) where
    pub kept-turn : (s : State) → Taken budget room s → Kept m tape room s → Kept m tape room (turn m s)
    kept-turn s t h =
        record {
          sure = sure-turn proper s h.sure t.no_end t.serials t.turns-left;
          traced = traced-turn proper s h.sure t.no_end t.serials t.turns-left t.room-left h.traced;
        }

    -- the number of the end stands in no record
    pub kept-end : (s : State) (e : ℕ) → (e ≡ 0 → ⊥) → Kept m tape room s → Kept m tape room (set_end e s)
    kept-end s e ends h =
        record { sure = sure-end m tape s e ends h.sure; traced = traced_like s (set_end e s) refl refl refl (omega arith) h.traced }
