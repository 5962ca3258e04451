-- Operations on lists leave the rows that are on none as they are: the moving transaction among them.
use Rattle.machine.specs.All.{ℕ, ◌<◌, ◌≡◌, refl, sym, ap, ◌∙◌, ◌≢◌, List, arith, ℕ_discrete, ne_eqb, eqb}
use Rattle.rows_laws.specs.All.{data_fields, place, free, load, write, transaction_at, Loose}
use Rattle.rows_laws.specs.Living
use Rattle.rows_laws.proofs.{Buffer.Store.load-other, Buffer.RowData.SameRow, Buffer.RowData.same_row, Buffer.RowData.transaction-kept, Buffer.RowWrites.row_other, Chains.InsertRemove.Kept, Counting.LooseRows.loose_same}
use mathlib.Core.Path.{subst}
use Rattle.rows_laws.specs.Layout.{nowhere, field_at}

-- the rows on no list and how many they are, and which rows are free
pub record Steady (w w' : List ℕ) : Type 0 where
  pub loose : (m : ℕ) → Loose w m → Loose w' m
  pub same : (m : ℕ) → Loose w m → SameRow w w' m
  pub count : Living.loose w' ≡ Living.loose w
  pub frees : (m : ℕ) → m < 1024 → eqb (load w' (place m)) free ≡ eqb (load w (place m)) free

-- all rows but row k
pub record Around (w w' : List ℕ) (k : ℕ) : Type 0 where
  pub places : (m : ℕ) → m < 1024 → m ≢ k → load w' (place m) ≡ load w (place m)
  pub same : (m : ℕ) → m < 1024 → m ≢ k → SameRow w w' m

pub steady_refl : (w : List ℕ) → Steady w w
steady_refl w = record { loose = λ m l. l; same = λ m l f h. refl; count = refl; frees = λ m h. refl }

pub steady_trans : (w v u : List ℕ) → Steady w v → Steady v u → Steady w u
steady_trans w v u a b =
    record {
      loose = λ m l. b.loose m (a.loose m l);
      same = λ m l f h. b.same m (a.loose m l) f h ∙ a.same m l f h;
      count = b.count ∙ a.count;
      frees = λ m h. b.frees m h ∙ a.frees m h;
    }

-- whoever is on no list is the same transaction afterwards
pub steady-transaction : (w w' : List ℕ) (m : ℕ) → Steady w w' → Loose w m → transaction_at w' m ≡ transaction_at w m
steady-transaction w w' m s l = transaction-kept w w' m (s.same m l)

pub around_trans : (w v u : List ℕ) (k : ℕ) → Around w v k → Around v u k → Around w u k
around_trans w v u k a b =
    record {
      places = λ m h d. b.places m h d ∙ a.places m h d;
      same = λ m h d f g. b.same m h d f g ∙ a.same m h d f g;
    }

pub around-loose : (w w' : List ℕ) (k m : ℕ) → Around w w' k → m ≢ k → Loose w m → Loose w' m
around-loose w w' k m a d l = record { row = l.row; off = a.places m l.row d ∙ l.off }

pub kept-around : (w w' : List ℕ) (k : ℕ) → Kept w w' k → Around w w' k
kept-around w w' k kept = record { places = kept.places; same = λ m h d. same_row w w' m h kept.rows }

pub write-around : (w : List ℕ) (f k x : ℕ) → f < data_fields → k < 1024 → Around w (write w f k x) k
write-around w f k x hf hk =
    record {
      places = λ m h d. load-other w (field_at f k) x (place m) (λ e. omega arith);
      same = λ m h d. row_other w f k x m hk h d;
    }

-- where row k was on a list of transactions and is on one, every loose or free row is another
pub around-steady : (w w' : List ℕ) (k : ℕ) → k < 1024 → load w (place k) < free → load w' (place k) < free → Around w w' k → Steady w w'
around-steady w w' k hk was is a =
    record {
      loose = λ m l. around-loose w w' k m a (other m l) l;
      same = λ m l. a.same m l.row (other m l);
      count = loose_same w w' k hk a.places (omega arith) (omega arith);
      frees = λ m h. spare m h (ℕ_discrete m k);
    }
  where
    other : (m : ℕ) → Loose w m → m ≢ k
    other m l e =
        let f : load w (place k) ≡ nowhere = subst (λ (x : ℕ). load w (place x) ≡ nowhere) e l.off in
        omega (arith, f)

    spare : (m : ℕ) → m < 1024 → Dec (m ≡ k) → eqb (load w' (place m)) free ≡ eqb (load w (place m)) free
    spare m h (yes e) =
        rw e (ne_eqb (load w' (place k)) free (λ f. omega arith) ∙ sym (ne_eqb (load w (place k)) free (λ f. omega arith)))
    spare m h (no d) = ap (λ (x : ℕ). eqb x free) (a.places m h d)
