-- What the buffer represents: the rows of each list, and each row as a transaction. Owned by this file; the laws over it are in
-- proofs/.
use Rattle.std.specs.Prelude.{◌+◌, ◌%◌, ◌≤◌, ◌<◌, ◌≡◌, ◌≢◌, ◌∷◌}
use Rattle.machine.specs.All.{ℕ, false, cond, List, [], eqb, length, Transaction, Event}
use Rattle.std.specs.Int.{w32}
use Rattle.std.proofs.Common.{to_z}
use Rattle.rows_laws.specs.Layout.{row_count, list_count, Room, slot, place, link, head, tail, fel, number_field, standing_field, parameter_field, next_field, serial_field, family_field}
use Rattle.rows_laws.specs.Cells.{load, read, priority_of, time_of}
use Rattle.rows_laws.specs.{Order.sooner, Future.up, Future.size, Future.top}

-- ---- Rows as transactions

abbrev pub parameter_at : List ℕ → ℕ → ℕ → lib.IntN.ℤ
parameter_at w k i = to_z w32 (read w (parameter_field + i) k)

unfoldable pub transaction_at : List ℕ → ℕ → Transaction
transaction_at w k =
    record {
      number = read w number_field k;
      priority = priority_of w k;
      parameters = parameter_at w k 0 ∷ parameter_at w k 1 ∷ parameter_at w k 2 ∷ parameter_at w k 3 ∷ [];
      next = read w next_field k;
      serial = read w serial_field k;
      returning = eqb (read w standing_field k % 2) 1;
      stamp = time_of w k;
      family = read w family_field k;
    }

unfoldable pub event_at : List ℕ → ℕ → Event
event_at w k = record { time = time_of w k; who = transaction_at w k }

-- ---- Lists of rows

-- 1 if two numbers are equal, else 0
abbrev pub same : ℕ → ℕ → ℕ
same a b = cond (eqb a b) 1 0

unfoldable pub occurs : ℕ → List ℕ → ℕ
occurs k [] = 0
occurs k (x ∷ l) = same k x + occurs k l

-- the links lead from cell c along the rows of a list, and then to no row
unfoldable pub Chain : List ℕ → ℕ → List ℕ → Type 0
Chain w c [] = row_count ≤ load w c
Chain w c (k ∷ l) = (load w c ≡ k) × (k < row_count) × Chain w (link k) l

-- the cell behind the rows of a list that starts at cell c
unfoldable pub ending : ℕ → List ℕ → ℕ
ending c [] = c
ending c (k ∷ l) = ending (link k) l

-- the FEL has n rows: slots 0..n - 1 and the links of the rows whose place it is lead to each other, no row stands before the one above it,
-- and the head has the row of slot 0
pub record Heaped (w : List ℕ) (n : ℕ) : Type 0 where
  pub many : size w ≡ n
  pub first : load w (head fel) ≡ top w n
  pub seat : (i : ℕ) → i < n
      → (load w (slot i) < row_count) × (load w (place (load w (slot i))) ≡ fel) × (load w (link (load w (slot i))) ≡ i)
  pub seated : (k : ℕ) → k < row_count → load w (place k) ≡ fel → (load w (link k) < n) × (load w (slot (load w (link k))) ≡ k)
  pub order : (i : ℕ) → 0 < i → i < n → sooner w (load w (slot i)) (load w (slot (up i))) ≡ false

-- l is the rows of list p, each row whose place is p once: in a chain of cells, the FEL in a heap
pub record Listed (w : List ℕ) (p : ℕ) (l : List ℕ) : Type 0 where
  pub chain : p ≢ fel → Chain w (head p) l
  pub last : p ≢ fel → load w (tail p) ≡ ending (head p) l
  pub heap : p ≡ fel → Heaped w (length l)
  pub row : (k : ℕ) → 1 ≤ occurs k l → k < row_count
  pub once : (k : ℕ) → k < row_count → occurs k l ≡ same (load w (place k)) p

-- L p is the rows of list p, for every list, in whatever order
pub record Holds (w : List ℕ) (L : ℕ → List ℕ) : Type 0 where
  pub room : Room w
  pub listed : (p : ℕ) → p < list_count → Listed w p (L p)

-- the lists with list p replaced
abbrev pub update : {A : Type 0} → ℕ → A → (ℕ → A) → ℕ → A
update p l L q = cond (eqb q p) l (L q)
