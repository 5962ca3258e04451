-- What the buffer shows of the machine's lists.
use Rattle.std.specs.Prelude.{◌<◌, ◌≡◌}
use Rattle.machine.specs.All.{ℕ, Bool, false, cond, List, map, ltb, Transaction, Event, precedes}
use Rattle.rows_laws.specs.Layout.{place, wsl, rel, fel, nowhere, row_count}
use Rattle.rows_laws.specs.{Cells.load, Ordered.Ordered}
use Rattle.rows_laws.specs.Holds.{transaction_at, event_at, Holds, update}

-- with L p the rows of list p: T p is list p as transactions, for every QL and WEL, the WSL and REL; E is the FEL
pub record Shown (w : List ℕ) (L : ℕ → List ℕ) (T : ℕ → List Transaction) (E : List Event) : Type 0 where
  pub holds : Holds w L
  pub lists : (p : ℕ) → p < fel → map (transaction_at w) (L p) ≡ T p
  pub future : map (event_at w) (L fel) ≡ E

-- with some rows, the lists in whatever order
pub record Held (w : List ℕ) (T : ℕ → List Transaction) (E : List Event) : Type 0 where
  pub rows : ℕ → List ℕ
  pub shown : Shown w rows T E

-- by priority and serial; a QL or WEL in whatever order, which the model's edition decides
abbrev pub order_of : ℕ → Transaction → Transaction → Bool
order_of p a b = cond (ltb p wsl) false (precedes a b)

-- with some rows, each list in its order, the FEL by time first: all that the crates above this one speak of
pub record Shows (w : List ℕ) (T : ℕ → List Transaction) (E : List Event) : Type 0 where
  pub rows : ℕ → List ℕ
  pub shown : Shown w rows T E
  pub ordered : Ordered order_of T E

-- row k is on no list
pub record Loose (w : List ℕ) (k : ℕ) : Type 0 where
  pub row : k < row_count
  pub off : load w (place k) ≡ nowhere

-- the lists with list p and REL replaced
abbrev pub moved : ℕ → List Transaction → List Transaction → (ℕ → List Transaction) → ℕ → List Transaction
moved p l r T = update rel r (update p l T)
