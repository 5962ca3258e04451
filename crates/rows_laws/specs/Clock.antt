-- A clock move: the row machine takes all of one time from the FEL to REL; and the REL that the machine then has.
use Rattle.std.specs.Prelude.{◌&&◌, ◌∷◌}
use Rattle.machine.specs.All.{ℕ, zero, suc, Bool, false, cond, List, [], ltb, eqb, Transaction, Event, precedes, with_serial, with_returning, insert}
use Rattle.rows_laws.specs.Layout.{serial_field, rel, fel, row_count}
use Rattle.rows_laws.specs.{Cells.write, Cells.set_returning, Cells.time_of, Lists.put, Lists.first, Future.cancel}

-- the first of the FEL has this time
unfoldable pub is_due : List ℕ → ℕ → Bool
is_due w time = ltb (first w fel) row_count && eqb (time_of w (first w fel)) time

-- it goes to REL with this serial, not returning
unfoldable pub arrive_row : List ℕ → ℕ → ℕ → List ℕ
arrive_row w serial k = put (write (set_returning (cancel w k) k 0) serial_field k serial) rel k

unfoldable pub arrive_first : List ℕ → ℕ → List ℕ
arrive_first w serial = cond (ltb (first w fel) row_count) (arrive_row w serial (first w fel)) w

-- the buffer, and the last serial given
pub record Arrived : Type 0 where
  pub rows : List ℕ
  pub serial : ℕ

unfoldable pub arrived : List ℕ → ℕ → Arrived
arrived w s = record { rows = w; serial = s }

unfoldable pub arrive : ℕ → ℕ → List ℕ → ℕ → Arrived
arrive zero time w s = arrived w s
arrive (suc n) time w s = cond (is_due w time) (arrive n time (arrive_first w (suc s)) (suc s)) (arrived w s)

-- REL after the arrival of events, in their order, with fresh serials behind s and not returning: that of the machine's
-- `arrive_all` (proofs/Arrivals.antt)
unfoldable pub arrivals : List Event → ℕ → List Transaction → List Transaction
arrivals [] s rel = rel
arrivals (e ∷ l) s rel = arrivals l (suc s) (insert precedes (with_serial (suc s) (with_returning false e.who)) rel)
