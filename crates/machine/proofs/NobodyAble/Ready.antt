-- Who is ready stays ready: REL loses nobody within a turn, after the taking, and stays sorted; and the one that has moved is
-- no longer needed where it stood.
use Rattle.machine.specs.All.{ℕ, inl, inr, List, [], ◌∷◌, Transaction, precedes, insert, Server, Code, BlockModel, wake, true, with_returning}
use Rattle.machine.proofs as our
use our.Lists.Sorted.{Some, Sorted, some-insert, sorted_in}
use our.NobodyAble.Waiting.{AtServer, AtWel, QlWaits, nobody_fits, next_ready, WelWaits, code_true, nobody_waits, one_ready, Queued, WaitsOver}
use our.NobodyAble.Waiting.{Gated}

-- ---- REL grows

pub record Grows (rel rel' : List Transaction) : Type 1 where
  pub sorted : Sorted precedes rel → Sorted precedes rel'
  pub keeps : (P : Transaction → Type 0) → Some P rel → Some P rel'

pub grows-not : (rel : List Transaction) → Grows rel rel
grows-not rel = record { sorted = λ h. h; keeps = λ P h. h }

pub grows-insert : (t : Transaction) (rel : List Transaction) → Grows rel (insert precedes t rel)
grows-insert t rel = record { sorted = sorted_in t rel; keeps = λ P. some-insert P precedes t rel }

pub grows-wake : (l rel : List Transaction) → Grows rel (wake l rel)
unfolding wake
grows-wake [] rel = grows-not rel
grows-wake (t ∷ l) rel =
    let first = grows-insert (with_returning true t) rel in
    let later = grows-wake l (insert precedes (with_returning true t) rel) in
    record { sorted = λ h. later.sorted (first.sorted h); keeps = λ P h. later.keeps P (first.keeps P h) }

-- ---- More are ready

module _ {m : BlockModel} {ready ready' : List Transaction} (keeps : (P : Transaction → Type 0) → Some P ready → Some P ready') where
  -- what is known of a QL stays known where more are ready
  pub ql-more : {x : Server} {v : ℕ} {q : List Transaction} → QlWaits m ready x v q → QlWaits m ready' x v q
  ql-more (nobody_fits h) = nobody_fits h
  ql-more (next_ready f h) = next_ready f (keeps _ h)

  -- and so for a WEL
  pub wel-more : {x : Server} {code : Code} {i : ℕ} {q : List Transaction} → WelWaits m ready x code i q → WelWaits m ready' x code i q
  wel-more (code_true e) = code_true e
  wel-more (nobody_waits e) = nobody_waits e
  wel-more (one_ready h) = one_ready (keeps _ h)

  pub queued-more : {rel rel' : List Transaction} {l : List Server} {ql : List (List Transaction)}
      → (Sorted precedes rel → Sorted precedes rel')
      → Queued m ready rel l ql → Queued m ready' rel' l ql
  queued-more sorted w =
      record {
        rel-sorted = sorted w.rel-sorted;
        ql-sorted = w.ql-sorted;
        ql-stands = w.ql-stands;
        ql-waits = λ e v a b. ql-more (w.ql-waits e v a b);
      }

  gated-more : {l : List Server} {wel : List (List Transaction)} → Gated m ready l wel → Gated m ready' l wel
  gated-more w =
      record { wel-sorted = w.wel-sorted; wel-stands = w.wel-stands; wel-waits = λ v code a b. wel-more (w.wel-waits v code a b) }

  pub waits-more : {rel rel' : List Transaction} {l : List Server} {ql wel : List (List Transaction)}
      → (Sorted precedes rel → Sorted precedes rel')
      → WaitsOver m ready rel l ql wel → WaitsOver m ready' rel' l ql wel
  waits-more sorted w = record { queued = queued-more sorted w.queued; gated = gated-more w.gated }

-- ---- The one that moves

module _ {m : BlockModel} {t : Transaction} {ready : List Transaction} where
  -- one that is not at this server was no reason for anybody to wait there
  pub ql_else : {x : Server} {v : ℕ} {q : List Transaction} → (AtServer m v t → ⊥) → QlWaits m (t ∷ ready) x v q → QlWaits m ready x v q
  ql_else n (nobody_fits h) = nobody_fits h
  ql_else n (next_ready f (inl p)) = absurd (n p.0)
  ql_else n (next_ready f (inr h)) = next_ready f h

  -- and so for a WEL
  pub wel_else : {x : Server} {code : Code} {i : ℕ} {q : List Transaction} → (AtWel m i t → ⊥)
      → WelWaits m (t ∷ ready) x code i q → WelWaits m ready x code i q
  wel_else n (code_true e) = code_true e
  wel_else n (nobody_waits e) = nobody_waits e
  wel_else n (one_ready (inl p)) = absurd (n p)
  wel_else n (one_ready (inr h)) = one_ready h
