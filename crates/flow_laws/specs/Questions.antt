-- The questions of GENERATE, ADVANCE, SPLIT and TERMINATE, asked of the scalars and the tally: 0 where the answer is yes, else the number
-- of the end.
use Rattle.std.specs.Prelude.{◌+◌, ◌-◌, ◌%◌}
use Rattle.machine.specs.All.{ℕ, zero, suc, cond, List, eqb, ltb, leb, length, get_or, max_living, max_clock, bit}
use Rattle.layout.specs.All.{holder, residues, held, tally_size}
use Rattle.state.specs.declared.scalars.Scalars.{Scalars}
use Rattle.flow_laws.specs.Sending.{plus32, plus64}

-- "is a living place free for each new one?"
unfoldable pub ask_room : Scalars → ℕ → ℕ
ask_room x n = cond (leb (plus32 (x.made - x.ended) n) max_living) 0 21

-- "Is the move time at most ..?"
unfoldable pub ask_time : Scalars → ℕ → ℕ
ask_time x time = cond (leb (plus64 x.clock time) max_clock) 0 22

-- the first of two that is not answered by yes
unfoldable pub first_no : ℕ → ℕ → ℕ
first_no a b = cond (eqb a 0) b a

unfoldable pub ask_arrival : Scalars → ℕ → ℕ
ask_arrival x time = first_no (ask_room x 1) (ask_time x time)

-- how many of the first n servers the transaction of that number holds
unfoldable pub held_by : List ℕ → (n number : ℕ) → ℕ
held_by tally zero number = 0
held_by tally (suc n) number = held_by tally n number + bit (eqb (get_or tally (holder + n) 0) number)

-- document 02, item 6: "28 TERMINATE while holding a facility". Where none is held by a number of that residue, no holder is looked at
unfoldable pub ask_holding : List ℕ → (facilities number : ℕ) → ℕ
ask_holding tally facilities number =
    cond (ltb (length tally) tally_size) 0
    (cond (eqb (get_or tally (held + number % residues) 0) 0) 0
    (cond (eqb (held_by tally facilities number) 0) 0 28))
