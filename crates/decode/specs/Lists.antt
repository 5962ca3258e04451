-- The sample lists of a tape: for list k (from 0) cell k is the byte where its times begin, and cell 16 + k their count.
use Rattle.std.specs.Prelude.{◌+◌, ◌≡◌, ◌∷◌, Result, Ok}
use Rattle.machine.specs.All.{ℕ, suc, List, [], length, set, replicate, in_force, Cursor, Parsed, parsed, refused, Parser, field_up_to}
use Rattle.layout.specs.Layout as Layout
use Rattle.layout.specs.All.{TimesAt}
use Rattle.constants.specs.declared.refusals.Refusal.{Refusal}
use Rattle.parse_values.specs.Keeps.{Refuses}

-- what reading of the tape gives: the position after what was read
abbrev pub Tape : Type 0
Tape = Result ℕ Refusal

abbrev pub cursor_at : ℕ → ℕ → ℕ → Cursor
cursor_at at i j = record { position = at; numbers = i; mentions = j }

-- a number of the tape: questions 8 and 9
abbrev pub tape_field : List ℕ → (hi : ℕ) → Parser ℕ
tape_field s hi = field_up_to in_force.max_number s 8 0 hi

unfoldable pub empty_lists : List ℕ
empty_lists = replicate Layout.list_cells 0

-- times are read and not kept
abbrev pub HeldSkips : ℕ → Tape → Parsed (List ℕ) → Type 0
HeldSkips count r (parsed l c) = (r ≡ Ok c.position) × (length l ≡ count)
HeldSkips count r (refused n) = Refuses r n

pub record Skips (count : ℕ) (r : Tape) (P : Parsed (List ℕ)) : Type 0 where
  pub held : HeldSkips count r P

-- the two cells of a list
abbrev pub list_cells : ℕ → ℕ → List ℕ → List ℕ → List ℕ
list_cells k p l cells = set (set cells k p) (Layout.list_counts + k) (length l)

-- one list
pub record OneList (bytes : List ℕ) (k : ℕ) (cells after l : List ℕ) : Type 0 where
  pub begins : ℕ
  pub stored : after ≡ list_cells k begins l cells
  pub times : TimesAt bytes begins l

abbrev pub HeldList : List ℕ → ℕ → (cells after : List ℕ) → Tape → Parsed (List ℕ) → Type 0
HeldList bytes k cells after r (parsed l c) = (r ≡ Ok c.position) × OneList bytes k cells after l
HeldList bytes k cells after r (refused n) = Refuses r n

pub record Listed (bytes : List ℕ) (k : ℕ) (cells after : List ℕ) (r : Tape) (P : Parsed (List ℕ)) : Type 0 where
  pub held : HeldList bytes k cells after r P

-- the lists from k on, one after the other
abbrev pub Filled : List ℕ → ℕ → (cells after : List ℕ) → List (List ℕ) → Type 0
Filled bytes k cells after [] = after ≡ cells
Filled bytes k cells after (l ∷ ls) = (middle : List ℕ) × (OneList bytes k cells middle l × Filled bytes (suc k) middle after ls)

abbrev pub HeldLists : List ℕ → ℕ → (cells after : List ℕ) → Tape → Parsed (List (List ℕ)) → Type 0
HeldLists bytes k cells after r (parsed ls c) = (r ≡ Ok c.position) × Filled bytes k cells after ls
HeldLists bytes k cells after r (refused n) = Refuses r n

pub record Lists (bytes : List ℕ) (k : ℕ) (cells after : List ℕ) (r : Tape) (P : Parsed (List (List ℕ))) : Type 0 where
  pub held : HeldLists bytes k cells after r P
