-- Insertion and removal at a cell: which numbers change, and to what.
use Rattle.machine.specs.All.{ℕ, ◌≤◌, ◌<◌, ◌≡◌, refl, sym, ap, ◌∙◌, ◌≢◌, Bool, true, false, cond, List, arith, lt-ltb, le-ltb, ltb, length}
use Rattle.rows_laws.specs.All.{place, link, tail, nowhere, links, list_count, tails, load, store, end_at, insert_at, remove_row}
use Rattle.rows_laws.proofs.Buffer.Store.{length-store, load_same, load-other}

-- ---- The tail

module _ (w : List ℕ) (p n c : ℕ) where
  pub length-end_at : length (end_at w p n c) ≡ length w
  unfolding end_at
  length-end_at = go (ltb n 1024)
    where
      go : (b : Bool) → length (cond b w (store w (tail p) c)) ≡ length w
      go true = refl
      go false = length-store w (tail p) c

  pub load-end_at : (j : ℕ) → j ≢ tail p → load (end_at w p n c) j ≡ load w j
  unfolding end_at
  load-end_at j d = go (ltb n 1024)
    where
      go : (b : Bool) → load (cond b w (store w (tail p) c)) j ≡ load w j
      go true = refl
      go false = load-other w (tail p) c j d

  pub end_at-row : n < 1024 → end_at w p n c ≡ w
  unfolding end_at
  end_at-row h = rw (lt-ltb n 1024 h)

  pub end_at-none : 1024 ≤ n → end_at w p n c ≡ store w (tail p) c
  unfolding end_at
  end_at-none h = rw (le-ltb n 1024 h)

-- ---- The numbers after an insertion

module _ (w : List ℕ) (p c k : ℕ) (room : 16384 ≤ length w) (hp : p < list_count) (hk : k < 1024) (low : links ≤ c)
    (high : c < tails) (apart : c ≢ link k) where
  abbrev w₁ : List ℕ
  w₁ = store w (link k) (load w c)

  abbrev w₂ : List ℕ
  w₂ = store w₁ c k

  abbrev w₃ : List ℕ
  w₃ = end_at w₂ p (load w c) (link k)

  room₁ : 16384 ≤ length w₁
  room₁ = rw (length-store w (link k) (load w c)) room

  room₂ : 16384 ≤ length w₂
  room₂ = rw (length-store w₁ c k) room₁

  room₃ : 16384 ≤ length w₃
  room₃ = rw (length-end_at w₂ p (load w c) (link k)) room₂

  pub insert-room : 16384 ≤ length (insert_at w p c k)
  unfolding insert_at
  insert-room = rw (length-store w₃ (place k) p) room₃

  -- all but the place
  below₃ : (i : ℕ) → i ≢ place k → load (insert_at w p c k) i ≡ load w₃ i
  unfolding insert_at
  below₃ i d = load-other w₃ (place k) p i d

  below₂ : (i : ℕ) → i ≢ place k → i ≢ tail p → load (insert_at w p c k) i ≡ load w₂ i
  below₂ i d e = below₃ i d ∙ load-end_at w₂ p (load w c) (link k) i e

  below₁ : (i : ℕ) → i ≢ place k → i ≢ tail p → i ≢ c → load (insert_at w p c k) i ≡ load w₁ i
  below₁ i d e f = below₂ i d e ∙ load-other w₁ c k i f

  -- insertion stores into four cells; every other number stays
  pub insert-kept : (i : ℕ) → i ≢ c → i ≢ link k → i ≢ place k → i ≢ tail p → load (insert_at w p c k) i ≡ load w i
  insert-kept i f g d e = below₁ i d e f ∙ load-other w (link k) (load w c) i g

  pub insert-place : load (insert_at w p c k) (place k) ≡ p
  unfolding insert_at
  insert-place = load_same w₃ (place k) p room₃ (omega arith)

  pub insert-cell : load (insert_at w p c k) c ≡ k
  insert-cell = below₂ c (λ e. omega arith) (λ e. omega arith) ∙ load_same w₁ c k room₁ (omega arith)

  pub insert-link : load (insert_at w p c k) (link k) ≡ load w c
  insert-link =
      below₁ (link k) (λ e. omega arith) (λ e. omega arith) (λ e. apart (sym e)) ∙ load_same w (link k) (load w c) room (omega arith)

  -- in front of a row the tail stays
  pub insert-tail-row : load w c < 1024 → load (insert_at w p c k) (tail p) ≡ load w (tail p)
  insert-tail-row h =
      below₃ (tail p) (λ e. omega arith)
      ∙ ap (λ (v : List ℕ). load v (tail p)) (end_at-row w₂ p (load w c) (link k) h)
      ∙ load-other w₁ c k (tail p) (λ e. omega arith)
      ∙ load-other w (link k) (load w c) (tail p) (λ e. omega arith)

  pub insert-tail-none : 1024 ≤ load w c → load (insert_at w p c k) (tail p) ≡ link k
  insert-tail-none h =
      below₃ (tail p) (λ e. omega arith)
      ∙ ap (λ (v : List ℕ). load v (tail p)) (end_at-none w₂ p (load w c) (link k) h)
      ∙ load_same w₂ (tail p) (link k) room₂ (omega arith)

-- ---- The numbers after a removal

module _ (w : List ℕ) (p c k : ℕ) (room : 16384 ≤ length w) (hp : p < list_count) (hk : k < 1024) (low : links ≤ c) (high : c < tails) where
  abbrev v₁ : List ℕ
  v₁ = store w c (load w (link k))

  abbrev v₂ : List ℕ
  v₂ = end_at v₁ p (load w (link k)) c

  room-v₁ : 16384 ≤ length v₁
  room-v₁ = rw (length-store w c (load w (link k))) room

  room-v₂ : 16384 ≤ length v₂
  room-v₂ = rw (length-end_at v₁ p (load w (link k)) c) room-v₁

  pub remove-room : 16384 ≤ length (remove_row w p c k)
  unfolding remove_row
  remove-room = rw (length-store v₂ (place k) nowhere) room-v₂

  below-v₂ : (i : ℕ) → i ≢ place k → load (remove_row w p c k) i ≡ load v₂ i
  unfolding remove_row
  below-v₂ i d = load-other v₂ (place k) nowhere i d

  below-v₁ : (i : ℕ) → i ≢ place k → i ≢ tail p → load (remove_row w p c k) i ≡ load v₁ i
  below-v₁ i d e = below-v₂ i d ∙ load-end_at v₁ p (load w (link k)) c i e

  -- removal stores into three cells; every other number stays
  pub remove-kept : (i : ℕ) → i ≢ c → i ≢ place k → i ≢ tail p → load (remove_row w p c k) i ≡ load w i
  remove-kept i f d e = below-v₁ i d e ∙ load-other w c (load w (link k)) i f

  pub remove-place : load (remove_row w p c k) (place k) ≡ nowhere
  unfolding remove_row
  remove-place = load_same v₂ (place k) nowhere room-v₂ (omega arith)

  pub remove-cell : load (remove_row w p c k) c ≡ load w (link k)
  remove-cell =
      below-v₁ c (λ e. omega arith) (λ e. omega arith) ∙ load_same w c (load w (link k)) room (omega arith)

  -- in front of a row the tail stays
  pub remove-tail-row : load w (link k) < 1024 → load (remove_row w p c k) (tail p) ≡ load w (tail p)
  remove-tail-row h =
      below-v₂ (tail p) (λ e. omega arith)
      ∙ ap (λ (v : List ℕ). load v (tail p)) (end_at-row v₁ p (load w (link k)) c h)
      ∙ load-other w c (load w (link k)) (tail p) (λ e. omega arith)

  -- behind the last row the cell itself becomes the tail
  pub remove-tail-none : 1024 ≤ load w (link k) → load (remove_row w p c k) (tail p) ≡ c
  remove-tail-none h =
      below-v₂ (tail p) (λ e. omega arith)
      ∙ ap (λ (v : List ℕ). load v (tail p)) (end_at-none v₁ p (load w (link k)) c h)
      ∙ load_same v₁ (tail p) c room-v₁ (omega arith)
