-- What a block on a server names, and what the tables and the tally hold of that server.
use Rattle.machine.specs.All.{ℕ, ◌*◌, ◌-◌, ◌%◌, ◌≤◌, ◌≡◌, refl, sym, ap, ◌∙◌, false, List, [], ◌∷◌, arith, eqb, length, get_or, Server, Code, U, NU, E, NE, F, NF, status, code_index, Block, facility, storage, facts, BlockModel, block_at}
use Rattle.machine.proofs.Decoding.Proper.{Proper, Names}
use Rattle.layout.specs.All.{block_forms, block_numbers, At, Represents}
use Rattle.layout.proofs.BlockKinds.{Kinds, generating, taking, waiting, arriving, preempting, other, kinds, unasked}
use Rattle.layout.proofs.Operands.{at-number}
use Rattle.servers_laws.specs.{server_at, status_of, units_at}
use mathlib.Core.Path.{subst}

-- ---- Units that a block takes

module _ (tables : List ℕ) (at : ℕ) where
  -- the first number of a block is its kind
  pub kind_at : (kind : ℕ) (rest : List ℕ) → At tables at (kind ∷ rest) → get_or tables at 0 ≡ kind
  kind_at kind rest found =
      ap (λ (i : ℕ). get_or tables i 0) (sym (omega arith)) ∙ at-number tables at (kind ∷ rest) 0 (omega arith) found

  -- a kind that takes none
  takes_none : (kind : ℕ) (rest : List ℕ) → eqb kind 4 ≡ false → eqb kind 6 ≡ false → eqb kind 19 ≡ false → At tables at (kind ∷ rest)
      → units_at tables at ≡ 0
  unfolding units_at
  takes_none kind rest e f g found = rw (kind_at kind rest found, e, f, g)

  takes_one : (v : ℕ) → At tables at (4 ∷ v ∷ []) → units_at tables at ≡ 1
  unfolding units_at
  takes_one v found = rw (kind_at 4 (v ∷ []) found)

  takes-some : (v b : ℕ) → At tables at (6 ∷ v ∷ b ∷ []) → units_at tables at ≡ b
  unfolding units_at
  takes-some v b found = rw (kind_at 6 (v ∷ b ∷ []) found) (at-number tables at (6 ∷ v ∷ b ∷ []) 2 (omega arith) found)

  takes-it : (v : ℕ) → At tables at (19 ∷ v ∷ []) → units_at tables at ≡ 1
  unfolding units_at
  takes-it v found = rw (kind_at 19 (v ∷ []) found)

  pub units-at : (b : Block) → At tables at (block_numbers b) → units_at tables at ≡ (facts b).units
  units-at b found = go (kinds b)
    where
      numbers : {c : Block} → b ≡ c → At tables at (block_numbers c)
      numbers e = subst (λ (x : Block). At tables at (block_numbers x)) e found

      here : {c : Block} → b ≡ c → units_at tables at ≡ (facts c).units → units_at tables at ≡ (facts b).units
      here e h = h ∙ sym (ap (λ (x : Block). (facts x).units) e)

      go : Kinds b → units_at tables at ≡ (facts b).units
      go (generating list p e) = here e (unfold block_forms in takes_none 1 _ refl refl refl (unfold block_forms in numbers e))
      go (taking (facility v) e) = here e (unfold block_forms in takes_one (v - 1) (numbers e))
      go (taking (storage v n) e) = here e (unfold block_forms in takes-some (v - 1) n (numbers e))
      go (waiting a r c e) = here e (unfold block_forms in takes_none 9 _ refl refl refl (numbers e))
      go (arriving q e) = here e (unfold block_forms in takes_none 15 _ refl refl refl (numbers e))
      go (preempting f e) = here e (unfold block_forms in takes-it (f - 1) (numbers e))
      go (other kind rest e f g) =
          let u = unasked kind f in
          takes_none kind rest u.no-seize u.no-enter u.no-preempt (subst (At tables at) e found) ∙ sym (ap (λ x. x.units) g)

-- of block n, found as the engine finds it
pub units_of : {m : BlockModel} {tape : List (List ℕ)} {tape_bytes tables lists : List ℕ} → Proper m tape
    → Represents m tape tape_bytes tables lists → (n : ℕ)
    → Names (length m.blocks) n
    → units_at tables (8 * ((n - 1) % 256)) ≡ (facts (block_at m n)).units
units_of {m} {tables = tables} proper rep n placed =
    let small : (n - 1) % 256 ≡ n - 1 = omega (arith, proper.blocks.1) in
    ap (λ (i : ℕ). units_at tables (8 * i)) small ∙ units-at tables (8 * (n - 1)) (block_at m n) (rep.blocks (n - 1) (omega arith))

-- ---- The server that it names

pub named : (tables : List ℕ) (at v : ℕ) → v ≤ 64 → 1 ≤ v → get_or tables at 0 ≡ v - 1 → server_at tables at ≡ v - 1
unfolding server_at
named tables at v high low e =
    let small : (v - 1) % 64 ≡ v - 1 = omega arith in
    rw (e, small)

-- ---- Status codes

pub status-is : (code : Code) (v : Server) → status_of (code_index code) v.in_use v.capacity ≡ status code v
unfolding status_of code_index status
status-is U v = refl
status-is NU v = refl
status-is E v = refl
status-is NE v = refl
status-is F v = refl
status-is NF v = refl
