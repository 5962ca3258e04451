-- Insertion behind any part of a list and removal from it, as laws of `Holds`: one list changes, every other stays, and so does
-- the data of all rows. No order is asked for.
use Rattle.machine.specs.All.{ℕ, ◌<◌, ◌≡◌, ◌≢◌, List, ◌∷◌, ◌++◌, arith, lt-ltb}
use Rattle.rows_laws.specs.All.{place, head, fel, nowhere, list_count, tails, load, insert_at, remove_row, remove_at, ending, Listed, Holds, update}
use Rattle.rows_laws.proofs as our
use our.Chains.StructuralLaw.{Changed, end_low, end-high}
use our.Chains.CellChanges.{insert-room, insert-place, remove-room, remove-place}
use our.Chains.ListChanges.{insert-changed, insert-listed, remove-changed, remove-listed, removed-row, apart}
use our.Buffer.RowData.{SameData}

-- what an operation that moves row k leaves: the data of all rows, and the places of the others
pub record Kept (w w' : List ℕ) (k : ℕ) : Type 0 where
  pub rows : SameData w w'
  pub places : (j : ℕ) → j < 1024 → j ≢ k → load w' (place j) ≡ load w (place j)

changed-kept : (w w' : List ℕ) (p k : ℕ) (a b b' : List ℕ) → p < list_count → Listed w p (a ++ b) → Changed w w' p k a b b' → Kept w w' k
changed-kept w w' p k a b b' hp one ch =
    record {
      rows = λ i h. ch.kept i (λ e. omega (arith, end_low w p a b one)) (λ e. omega arith) (λ e. omega arith) (λ e. omega arith);
      places =
          λ j h d.
          ch.kept (place j) (λ e. omega (arith, end_low w p a b one)) (λ e. omega arith) (λ e. d (omega arith)) (λ e. omega arith);
    }

module _ (w : List ℕ) (L : ℕ → List ℕ) (h : Holds w L) (p k : ℕ) (a b : List ℕ) (hp : p < list_count) (chained : p ≢ fel)
    (hk : k < 1024) where
  -- row k, on no list, comes behind a
  module _ (was : L p ≡ a ++ b) (off : load w (place k) ≡ nowhere) where
    abbrev after-insert : List ℕ
    after-insert = insert_at w p (ending (head p) a) k

    one : Listed w p (a ++ b)
    one = rw was at (h.listed p hp)

    high : ending (head p) a < tails
    high = omega (arith, end-high w p a b one)

    pub insert-keeps : Kept w after-insert k
    insert-keeps =
        changed-kept w after-insert p k a b (k ∷ b) hp one (insert-changed w p k a b h.room hp chained hk one off)

    pub insert-holds : Holds after-insert (update p (a ++ k ∷ b) L)
    insert-holds =
        record {
          room =
              insert-room w p (ending (head p) a) k h.room hp hk (end_low w p a b one) high
              (apart w p k a b h.room hp chained hk one off);
          listed = insert-listed w p k a b h.room hp chained hk one off L h.listed;
        }

    pub insert-placed : load after-insert (place k) ≡ p
    insert-placed =
        insert-place w p (ending (head p) a) k h.room hp hk (end_low w p a b one) high (apart w p k a b h.room hp chained hk one off)

  -- row k, behind a, leaves
  module _ (was : L p ≡ a ++ k ∷ b) where
    abbrev after-remove : List ℕ
    after-remove = remove_at w p (ending (head p) a)

    r-one : Listed w p (a ++ k ∷ b)
    r-one = rw was at (h.listed p hp)

    r-high : ending (head p) a < tails
    r-high = omega (arith, end-high w p a (k ∷ b) r-one)

    -- the cell holds the row
    pub remove_first : load w (ending (head p) a) ≡ k
    remove_first = (removed-row w p k a b h.room hp chained hk r-one).0

    removes : after-remove ≡ remove_row w p (ending (head p) a) k
    unfolding remove_at
    removes = rw (remove_first, lt-ltb k 1024 hk)

    pub remove-keeps : Kept w after-remove k
    remove-keeps =
        rw removes
        (changed-kept w (remove_row w p (ending (head p) a) k) p k a (k ∷ b) b hp r-one
        (remove-changed w p k a b h.room hp chained hk r-one))

    pub remove-holds : Holds after-remove (update p (a ++ b) L)
    remove-holds =
        record {
          room = rw removes (remove-room w p (ending (head p) a) k h.room hp hk (end_low w p a (k ∷ b) r-one) r-high);
          listed = rw removes (remove-listed w p k a b h.room hp chained hk r-one L h.listed);
        }

    pub remove-placed : load after-remove (place k) ≡ nowhere
    remove-placed =
        rw removes (remove-place w p (ending (head p) a) k h.room hp hk (end_low w p a (k ∷ b) r-one) r-high)
