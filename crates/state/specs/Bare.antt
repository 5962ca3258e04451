-- What a block does apart from its record: the machine's `answer` split into the effect on lists, servers, queues and counts,
-- and the note of the record, which the engine makes in one place. The law that the two together are `answer` is
-- proofs/Noted.antt.
use Rattle.std.specs.Prelude.{◌+◌, ◌∷◌}
use Rattle.machine.specs.All.{ℕ, zero, suc, cond, none, length, Transaction, nth, set_nth, record_bytes, Block, BlockModel, State, with_serial, set_entries, set_view, set_serial, set_moving, set_end, set_records, set_written, record_of, fresh, doing}

-- Which record a block writes: outcome 0, outcome 1, or none, for a returner that is put back, for one that goes back and for a turn that
-- a question stops.
pub data Note : Type 0 where
  entered_note waits_note no_note : Note

pub record Bare : Type 0 where
  pub note : Note
  pub state : State

abbrev pub entering : State → Bare
entering s = record { note = entered_note; state = s }

-- document 02, item 7: one that goes back writes no record
abbrev pub going_back : State → Bare
going_back s = record { note = no_note; state = s }

-- a wait begins: a fresh serial and a record
abbrev pub beginning : (Transaction → State → State) → Transaction → State → Bare
beginning put t s = record { note = waits_note; state = put (with_serial (fresh s) t) (set_serial (fresh s) s) }

-- unless it is returning
unfoldable pub waiting : (Transaction → State → State) → Transaction → State → Bare
waiting put t s = cond t.returning (record { note = no_note; state = put t s }) (beginning put t s)

-- the other use of `doing` than `effect`: the entry is not noted yet
unfoldable pub bare : BlockModel → Block → Transaction → State → Bare
bare m b t s = doing (λ f. entering (f s)) (λ put. waiting put t s) (λ f. going_back (f s)) (λ put. beginning put t s) m b t s

-- with the question asked first
unfoldable pub bare_answer : ℕ → BlockModel → Block → Transaction → State → Bare
bare_answer zero m b t s = bare m b t (set_moving none s)
bare_answer (suc n) m b t s = record { note = no_note; state = set_end (suc n) s }

-- ---- The note: the record of t, which stood before its block in state s, made in a later state

unfoldable pub logged : ℕ → Transaction → State → State → State
logged outcome t s later =
    set_written (later.written + length (record_bytes (record_of outcome t s)))
    (set_records (record { entry = record_of outcome t s; priority = t.priority } ∷ later.records) later)

unfoldable pub count_entry : ℕ → State → State
count_entry block s =
    set_view (set_entries (set_nth s.view.entries block (suc (nth s.view.entries block 0))) s.view) s

unfoldable pub note_as : Note → Transaction → State → State → State
note_as entered_note t s later = logged 0 t s (count_entry t.next later)
note_as waits_note t s later = logged 1 t s later
note_as no_note t s later = later

abbrev pub noted : Transaction → State → Bare → State
noted t s b = note_as b.note t s b.state
