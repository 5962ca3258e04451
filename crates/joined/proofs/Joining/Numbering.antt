-- How the rows of two parts lie in those of the joined model: the numbers of a part rise with its own, and no number is of both.
use Rattle.machine.specs.All.{ℕ, ◌+◌, ◌-◌, ◌≤◌, ◌<◌, ◌≡◌, refl, ap, Bool, true, false, ◌&&◌, arith, ltb, ltb-true, leb-true, leb-false, lt-ltb, le-leb, lt-leb, Code, U, NU, E, NE, F, NF, code_index, BlockModel, wel_index, leb}
use Rattle.machine.proofs.{Decoding.Proper.servers, Basic.Bools.and_true}
use Rattle.joined.specs.{Part, server_in, in_part}
use Rattle.joined.proofs as our
use our.Relation.Seen.{Tables}
use our.Relation.Seen.{Gate, gate_there, gate_here}

-- ---- Servers

module _ (p : Part) where
  -- a server number of a part, in the joined model: facilities of both first, then storages of both
  pub in-facility : (v : ℕ) → v ≤ p.facilities → server_in p v ≡ v + p.to_facility
  unfolding server_in
  in-facility v h = rw (le-leb v p.facilities h) refl

  pub in-storage : (v : ℕ) → p.facilities < v → server_in p v ≡ v + p.to_storage
  unfolding server_in
  in-storage v h = rw (lt-leb v p.facilities h) refl

  -- either
  pub data Place (v : ℕ) : Type 0 where
    facility : v ≤ p.facilities → server_in p v ≡ v + p.to_facility → Place v
    storage : p.facilities < v → server_in p v ≡ v + p.to_storage → Place v

  pub place : (v : ℕ) → Place v
  place v = go (leb v p.facilities) refl
    where
      go : (b : Bool) → leb v p.facilities ≡ b → Place v
      go true e = facility (leb-true _ _ e) (in-facility v (leb-true _ _ e))
      go false e = storage (leb-false _ _ e) (in-storage v (leb-false _ _ e))

  -- storages lie behind facilities
  module _ (order : p.to_facility ≤ p.to_storage) where
    server-once : (u v : ℕ) → 1 ≤ u → 1 ≤ v → server_in p u - 1 ≡ server_in p v - 1 → u ≡ v
    server-once u v a b e = go (place u) (place v)
      where
        go : Place u → Place v → u ≡ v
        go (facility h d) (facility k c) = omega arith
        go (facility h d) (storage k c) = absurd (omega arith)
        go (storage h d) (facility k c) = absurd (omega arith)
        go (storage h d) (storage k c) = omega arith

    module _ (m : BlockModel) where
      code_below : (code : Code) → code_index code < 6
      unfolding code_index
      code_below U = omega arith
      code_below NU = omega arith
      code_below E = omega arith
      code_below NE = omega arith
      code_below F = omega arith
      code_below NF = omega arith

      gates-forth : (g k : Gate p m) → 1 ≤ g.server → 1 ≤ k.server → gate_there p m g ≡ gate_there p m k → gate_here p m g ≡ gate_here p m k
      unfolding wel_index
      gates-forth g k a b e =
          let x = code_below g.code in
          let y = code_below k.code in
          let same : g.server ≡ k.server = server-once g.server k.server a b (omega arith) in
          let codes : code_index g.code ≡ code_index k.code = omega (arith, ap (server_in p) same) in
          omega arith

      gates-back : (g k : Gate p m) → 1 ≤ g.server → 1 ≤ k.server → gate_here p m g ≡ gate_here p m k → gate_there p m g ≡ gate_there p m k
      unfolding wel_index
      gates-back g k a b e =
          let x = code_below g.code in
          let y = code_below k.code in
          let same : g.server ≡ k.server = omega arith in
          omega (arith, ap (server_in p) same)

      pub tables : Tables p m
      tables =
          record {
            blocks = record { forth = λ i k a b e. omega (arith, a.0, b.0); back = λ i k a b e. omega (arith, a.0, b.0) };
            queues = record { forth = λ i k a b e. omega (arith, a.0, b.0); back = λ i k a b e. omega (arith, a.0, b.0) };
            lists = record { forth = λ i k a b e. omega (arith, a.0, b.0); back = λ i k a b e. omega (arith, a.0, b.0) };
            servers =
                record {
                  forth = λ i k a b e. ap (λ (n : ℕ). n - 1) (server-once i k a.0 b.0 e);
                  back = λ i k a b e. ap (λ (n : ℕ). server_in p n - 1) (same i k a.0 b.0 e);
                };
            gates = record { forth = λ g k a b e. gates-forth g k a.0 b.0 e; back = λ g k a b e. gates-back g k a.0 b.0 e };
          }
        where
          same : (i k : ℕ) → 1 ≤ i → 1 ≤ k → i - 1 ≡ k - 1 → i ≡ k
          same i k a b e = omega arith

-- ---- Blocks

-- a block number outside the range of the part
pub not_in : (p : Part) (n b : ℕ) → (p.to_block < b → p.to_block + n < b) → in_part p n b ≡ false
not_in p n b h = go (ltb p.to_block b) refl
  where
    go : (c : Bool) → ltb p.to_block b ≡ c → (c && leb b (p.to_block + n)) ≡ false
    go true e = lt-leb b (p.to_block + n) (h (ltb-true _ _ e))
    go false e = refl

pub is_in : (p : Part) (n b : ℕ) → p.to_block < b → b ≤ p.to_block + n → in_part p n b ≡ true
is_in p n b h k = rw (lt-ltb p.to_block b h, le-leb b (p.to_block + n) k) refl

pub in_bounds : (p : Part) (n b : ℕ) → in_part p n b ≡ true → (p.to_block < b) × (b ≤ p.to_block + n)
in_bounds p n b e =
    let h = and_true (ltb p.to_block b) (leb b (p.to_block + n)) e in
    (ltb-true _ _ h.0, leb-true _ _ h.1)
