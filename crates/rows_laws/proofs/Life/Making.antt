-- Rows that come to life and end: a new row as the machine's `newborn`, a copy, and a row that is free again.
use Rattle.machine.specs.All.{ℕ, ◌≤◌, ◌<◌, ◌≡◌, refl, ◌∙◌, List, [], ◌∷◌, arith, length, Transaction, Event}
use Rattle.rows_laws.specs.All.{data_fields, place, free, load, write, set_time, clear_parameters, copy_parameters, describe, newborn_at, copy_at, free_row, loose, ending, update, Shown, Loose}
use Rattle.rows_laws.proofs as our
use our.{Buffer.Store.length-store, Buffer.Store.load-other, Chains.Showing.shown-free, Buffer.RowWrites.write-shown, Buffer.RowWrites.write-loose, Counting.LooseRows.loose-kept}
use our.Chains.InsertRemove.{Kept, insert-holds, insert-keeps, insert-placed}
use our.Life.LooseRowsStay.{Around, around_trans, write-around}
use Prim.Native.Nat.{◌*◌, ◌/◌, ◌%◌}
use Rattle.rows_laws.specs.Layout.{field_at}
use Rattle.rows_laws.specs.Cells.{read}

-- ---- Data of one row written, any number of times

pub record Written (w w' : List ℕ) (k : ℕ) : Type 0 where
  pub room : 16384 ≤ length w → 16384 ≤ length w'
  pub loose : Loose w k → Loose w' k
  pub count : Rattle.rows_laws.specs.Living.loose w' ≡ Rattle.rows_laws.specs.Living.loose w
  pub around : Around w w' k
  pub shown : (L : ℕ → List ℕ) (T : ℕ → List Transaction) (E : List Event) → Loose w k → Shown w L T E → Shown w' L T E

pub written : (w : List ℕ) (f k x : ℕ) → f < data_fields → k < 1024 → Written w (write w f k x) k
written w f k x hf hk =
    record {
      room = λ r. rw (length-store w (field_at f k) x) r;
      loose = write-loose w f k x hf k hk;
      count = loose-kept w (write w f k x) (λ j hj. load-other w (field_at f k) x (place j) (λ e. omega arith));
      around = write-around w f k x hf hk;
      shown = λ L T E l s. write-shown w f k x hf l L T E s;
    }

-- two writes to the same row are a write to it
pub written_trans : (w v u : List ℕ) (k : ℕ) → Written w v k → Written v u k → Written w u k
written_trans w v u k a b =
    record {
      room = λ r. b.room (a.room r);
      loose = λ l. b.loose (a.loose l);
      count = b.count ∙ a.count;
      around = around_trans w v u k a.around b.around;
      shown = λ L T E l s. b.shown L T E (a.loose l) (a.shown L T E l s);
    }

pub time-written : (w : List ℕ) (k : ℕ) → k < 1024 → (time : ℕ) → Written w (set_time w k time) k
unfolding set_time
time-written w k hk time =
    written_trans w (write w 8 k (time % 4294967296)) (set_time w k time) k (written w 8 k _ (omega arith) hk)
    (written (write w 8 k (time % 4294967296)) 9 k _ (omega arith) hk)

-- ---- A new row

module _ (w : List ℕ) (k : ℕ) (hk : k < 1024) where
  written₄ : (f g h i x y z u : ℕ) → f < data_fields → g < data_fields → h < data_fields → i < data_fields
      → Written w (write (write (write (write w f k x) g k y) h k z) i k u) k
  written₄ f g h i x y z u hf hg hh hi =
      written_trans w (write w f k x) _ k (written w f k x hf hk)
      (written_trans (write w f k x) (write (write w f k x) g k y) _ k (written (write w f k x) g k y hg hk)
      (written_trans (write (write w f k x) g k y) (write (write (write w f k x) g k y) h k z) _ k
      (written (write (write w f k x) g k y) h k z hh hk)
      (written (write (write (write w f k x) g k y) h k z) i k u hi hk)))

  pub clear-written : Written w (clear_parameters w k) k
  unfolding clear_parameters
  clear-written = written₄ 2 3 4 5 0 0 0 0 (omega arith) (omega arith) (omega arith) (omega arith)

  pub copy_written : (j : ℕ) → Written w (copy_parameters w j k) k
  unfolding copy_parameters
  copy_written j =
      written₄ 2 3 4 5 (read w 2 j) (read w 3 j) (read w 4 j) (read w 5 j) (omega arith) (omega arith) (omega arith) (omega arith)

  -- everything that is described stands in row k
  pub describe-written : (number priority block family : ℕ) → Written w (describe w k number priority block family) k
  unfolding describe
  describe-written number priority block family =
      let v : List ℕ = write (write (write (write w 0 k number) 1 k (priority * 2)) 6 k block) 7 k 0 in
      written_trans w v (describe w k number priority block family) k
      (written₄ 0 1 6 7 number (priority * 2) block 0 (omega arith) (omega arith) (omega arith) (omega arith))
      (written_trans v (set_time v k 0) (describe w k number priority block family) k (time-written v k hk 0)
      (written (set_time v k 0) 10 k family (omega arith) hk))

pub newborn-written : (w : List ℕ) (k : ℕ) → k < 1024 → (number priority block : ℕ) → Written w (newborn_at w k number priority block) k
unfolding newborn_at
newborn-written w k hk number priority block =
    written_trans w (describe w k number priority block number) (newborn_at w k number priority block) k
    (describe-written w k hk number priority block number) (clear-written (describe w k number priority block number) k hk)

pub copied-written : (w : List ℕ) (k : ℕ) → k < 1024 → (j number block : ℕ) → Written w (copy_at w j k number block) k
unfolding copy_at
copied-written w k hk j number block =
    let v : List ℕ = describe w k number (read w 1 j / 2) block (read w 10 j) in
    written_trans w v (copy_at w j k number block) k (describe-written w k hk number (read w 1 j / 2) block (read w 10 j))
    (copy_written v k hk j)

-- ---- A row that is free again

module _ (w : List ℕ) (L : ℕ → List ℕ) (T : ℕ → List Transaction) (E : List Event) (s : Shown w L T E) (k : ℕ) (off : Loose w k) where
  pub free-keeps : Kept w (free_row w k) k
  unfolding free_row ending
  free-keeps = insert-keeps w L s.holds free k [] (L free) (omega arith) (λ e. omega arith) off.row refl off.off

  pub free-placed : load (free_row w k) (place k) ≡ free
  unfolding free_row ending
  free-placed = insert-placed w L s.holds free k [] (L free) (omega arith) (λ e. omega arith) off.row refl off.off

  pub free-shown : Shown (free_row w k) (update free (k ∷ L free) L) T E
  unfolding free_row ending
  free-shown =
      shown-free w (free_row w k) L T E s free (k ∷ L free)
      (insert-holds w L s.holds free k [] (L free) (omega arith) (λ e. omega arith) off.row refl off.off)
      free-keeps.rows
      refl
