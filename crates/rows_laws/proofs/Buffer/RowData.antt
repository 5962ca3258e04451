-- The data of rows: what keeps it keeps every row's transaction and event, and the order of the lists.
use Rattle.machine.specs.All.{ℕ, ◌≤◌, ◌<◌, ◌≡◌, refl, List, [], ◌∷◌, map, arith}
use Rattle.rows_laws.specs.All.{data_fields, slots, field_at, load, read, time_of, transaction_at, event_at, occurs}
use Rattle.rows_laws.proofs.Counting.Occurs.{same_refl}

-- the data of all rows is the same
abbrev pub SameData : List ℕ → List ℕ → Type 0
SameData w w' = (i : ℕ) → i < slots → load w' i ≡ load w i

-- the data of row k is the same
abbrev pub SameRow : List ℕ → List ℕ → ℕ → Type 0
SameRow w w' k = (f : ℕ) → f < data_fields → read w' f k ≡ read w f k

pub same_row : (w w' : List ℕ) (k : ℕ) → k < 1024 → SameData w w' → SameRow w w' k
same_row w w' k h kept f g = kept (field_at f k) (omega arith)

pub transaction-kept : (w w' : List ℕ) (k : ℕ) → SameRow w w' k → transaction_at w' k ≡ transaction_at w k
unfolding transaction_at time_of
transaction-kept w w' k kept =
    rw (
      kept 0 (omega arith),
      kept 1 (omega arith),
      kept 2 (omega arith),
      kept 3 (omega arith),
      kept 4 (omega arith),
      kept 5 (omega arith),
      kept 6 (omega arith),
      kept 7 (omega arith),
      kept 8 (omega arith),
      kept 9 (omega arith),
      kept 10 (omega arith),
    )

pub event-kept : (w w' : List ℕ) (k : ℕ) → SameRow w w' k → event_at w' k ≡ event_at w k
unfolding event_at time_of
event-kept w w' k kept = rw (transaction-kept w w' k kept, kept 8 (omega arith), kept 9 (omega arith))

module _ {A : Type 0} (f g : ℕ → A) where
  -- only the rows that the list has count
  pub map-kept : (l : List ℕ) → ((j : ℕ) → 1 ≤ occurs j l → f j ≡ g j) → map f l ≡ map g l
  unfolding occurs
  map-kept [] h = refl
  map-kept (k ∷ l) h =
      rw (h k (omega (arith, same_refl k k refl)), map-kept l (λ j m. h j (omega arith)))
