-- Looking ahead in the tables tells whether a group begins with a block, as the machine does.
use Rattle.machine.specs.All.{ℕ, zero, suc, ◌+◌, ◌*◌, ◌-◌, ◌≤◌, ◌<◌, ◌≡◌, refl, sym, ap, ◌∙◌, Bool, true, false, cond, List, ◌∷◌, arith, eqb-true, eqb-false, ne_eqb, le-ltb, lt-ltb, ltb-true, ltb-false, eqb, ltb, length, get_or, bit, up_to, Block, facts, BlockModel, block_at, back_at, begins_group}
use Rattle.machine.proofs.{Lists.Sums.up_to-zero, Decoding.Proper.Proper, Runs.Placed.goes_on}
use Rattle.machine.proofs.Decoding.Groups.{begins, blocks-placed, group-waits}
use Rattle.layout.specs.All.{block_forms, block_numbers, Represents}
use Rattle.layout.proofs.Operands.{operand}
use Rattle.layout.proofs.BlockKinds.{Waits, closing, plain, elsewhere, waits}
use Rattle.servers_laws.specs.{begins_from}
use mathlib.Core.Path.{subst}

-- ---- One block behind the other, c blocks behind the first

module _ (l : List ℕ) (at c : ℕ) where
  step : c ≤ 7 → 8 - c ≡ suc (8 - (c + 1))
  step h = omega arith

  -- the 17 that is found closes the group if its count leads back to here
  pub look-found : c ≤ 7 → get_or l (at + 8 * c) 0 ≡ 17 → eqb (get_or l (at + 8 * c + 3) 0) c ≡ begins_from l (at + 8 * c) c (8 - c)
  unfolding begins_from
  look-found h kind = rw (step h, kind)

  -- any other kind ends the search
  pub look-other : (k : ℕ) → c ≤ 7 → k ≡ get_or l (at + 8 * c) 0 → (k ≡ 17 → ⊥) → (k ≡ 8 → ⊥) → false ≡ begins_from l (at + 8 * c) c (8 - c)
  unfolding begins_from
  look-other k h e a b = rw (step h, ← e, ne_eqb k 17 a, ne_eqb k 8 b)

  pub look-next : c ≤ 7 → get_or l (at + 8 * c) 0 ≡ 8
      → begins_from l (at + 8 * (c + 1)) (c + 1) (8 - (c + 1)) ≡ begins_from l (at + 8 * c) c (8 - c)
  unfolding begins_from
  look-next h kind =
      let e : at + 8 * (c + 1) ≡ at + 8 * c + 8 = omega arith in
      let f : c + 1 ≡ suc c = omega arith in
      sym
      (ap (begins_from l (at + 8 * c) c) (step h)
      ∙ rw kind
      (ap (λ (i : ℕ). begins_from l (at + 8 * c + 8) i (8 - (c + 1))) (sym f)
      ∙ ap (λ (i : ℕ). begins_from l i (c + 1) (8 - (c + 1))) (sym e)))

  pub look-end : 7 < c → false ≡ begins_from l (at + 8 * c) c (8 - c)
  unfolding begins_from
  look-end h = let e : 8 - c ≡ 0 = omega arith in rw e

-- a back count
pub some-count : (c : ℕ) → (c ≡ 0 → ⊥) → ltb 0 c ≡ true
some-count zero h = absurd (h refl)
some-count (suc c) h = lt-ltb 0 (suc c) (omega arith)

module _ {m : BlockModel} {tape : List (List ℕ)} {tape_bytes tables lists : List ℕ} (proper : Proper m tape)
    (rep : Represents m tape tape_bytes tables lists) (n : ℕ) (low : 1 ≤ n) where
  -- no block counts back to block n
  begins-not : ((c : ℕ) → 1 ≤ c → c ≤ 7 → back_at m (n + c) ≡ c → ⊥) → false ≡ begins_group m n
  unfolding begins_group
  begins-not h =
      let none : up_to 7 (λ c. bit (eqb (back_at m (n + c)) c)) ≡ 0 =
      up_to-zero 7 (λ c. bit (eqb (back_at m (n + c)) c)) (λ c a b. ap bit (ne_eqb (back_at m (n + c)) c (h c a b))) in
      sym (le-ltb 0 (up_to 7 (λ c. bit (eqb (back_at m (n + c)) c))) (omega (arith, none)))

  begins_so : (i : ℕ) → 1 ≤ i → back_at m (n + i) ≡ i → true ≡ begins_group m n
  begins_so i some e =
      let first : n + i - back_at m (n + i) ≡ n = omega (arith, e) in
      sym (ap (begins_group m) (sym first) ∙ begins proper (n + i) (omega (arith, e)))

  -- row of block n + i, where i - 1 blocks behind n are of kind 8
  module _ (i : ℕ) (some : 1 ≤ i) (before : (c : ℕ) → 1 ≤ c → c < i → back_at m (n + c) ≡ 0) (there : n + i ≤ length m.blocks) where
    -- a block that is no wait of kind 8 stands in no group that begins with block n
    stops : (back_at m (n + i) ≡ i → ⊥) → (((facts (block_at m (n + i))).wel ≡ 0 → ⊥) → (facts (block_at m (n + i))).back ≡ 0 → ⊥)
        → false ≡ begins_group m n
    stops not-here no_wait = begins-not (λ c low high e. go c low e (ltb c i) (ltb i c) refl refl)
      where
        go : (c : ℕ) → 1 ≤ c → back_at m (n + c) ≡ c → (a b : Bool) → ltb c i ≡ a → ltb i c ≡ b → ⊥
        go c low e true b p q = omega (arith, before c low (ltb-true _ _ p))
        go c low e false true p q =
            let w = group-waits proper (n + c) (n + i) (omega (arith, e)) (omega (arith, ltb-true i c q)) in no_wait w.0 w.1
        go c low e false false p q =
            let same : c ≡ i = omega (arith, ltb-false c i p, ltb-false i c q) in not-here (subst (λ (k : ℕ). back_at m (n + k) ≡ k) same e)

    number_at : (b : Block) → block_at m (n + i) ≡ b → (j : ℕ) → j < length (block_numbers b)
        → get_or tables (8 * (n - 1) + 8 * i + j) 0 ≡ get_or (block_numbers b) j 0
    number_at b is j h =
        let e : 8 * (n - 1) + 8 * i + j ≡ 8 * (n + i - 1) + j = omega arith in
        ap (λ (k : ℕ). get_or tables k 0) e ∙ operand m tape tape_bytes tables lists rep (n + i) (omega arith, there) b is j h

    kind_at : (b : Block) → block_at m (n + i) ≡ b → 0 < length (block_numbers b)
        → get_or tables (8 * (n - 1) + 8 * i) 0 ≡ get_or (block_numbers b) 0 0
    kind_at b is h =
        let e : 8 * (n - 1) + 8 * i ≡ 8 * (n - 1) + 8 * i + 0 = omega arith in
        ap (λ (k : ℕ). get_or tables k 0) e ∙ number_at b is 0 h

  -- with f more blocks to look at
  ahead : (f i : ℕ) → i + f ≡ 8 → 1 ≤ i → ((c : ℕ) → 1 ≤ c → c < i → back_at m (n + c) ≡ 0) → n + i ≤ length m.blocks
      → begins_from tables (8 * (n - 1) + 8 * i) i f ≡ begins_group m n
  unfolding begins_from block_forms
  ahead zero i sum some before there = begins-not (λ c low high e. omega (arith, before c low (omega arith)))
  ahead (suc f) i sum some before there =
      go (waits (block_at m (n + i))) (ahead f (suc i) (omega arith) (omega arith))
    where
      go : Waits (block_at m (n + i))
          →
          (((c : ℕ) → 1 ≤ c → c < suc i → back_at m (n + c) ≡ 0) → n + suc i ≤ length m.blocks → begins_from tables
          (8 * (n - 1) + 8 * suc i) (suc i) f ≡ begins_group m n)
          → cond (eqb (get_or tables (8 * (n - 1) + 8 * i) 0) 17) (eqb (get_or tables (8 * (n - 1) + 8 * i + 3) 0) i)
          (cond (eqb (get_or tables (8 * (n - 1) + 8 * i) 0) 8) (begins_from tables (8 * (n - 1) + 8 * i + 8) (suc i) f) false)
          ≡ begins_group m n
      go (closing code v c is) rest =
          rw (kind_at i some before there _ is (omega arith), number_at i some before there _ is 3 (omega arith))
          (found (eqb (suc c) i) refl)
        where
          found : (x : Bool) → eqb (suc c) i ≡ x → eqb (suc c) i ≡ begins_group m n
          found true e = e ∙ begins_so i some (ap (λ (b : Block). (facts b).back) is ∙ eqb-true (suc c) i e)
          found false e =
              e
              ∙ stops i some before there (λ h. eqb-false (suc c) i e (sym (ap (λ (b : Block). (facts b).back) is) ∙ h))
              (λ w z. omega (arith, sym (ap (λ (b : Block). (facts b).back) is) ∙ z))
      go (plain code v is) rest =
          let e : 8 * (n - 1) + 8 * i + 8 ≡ 8 * (n - 1) + 8 * suc i = omega arith in
          rw (kind_at i some before there _ is (omega arith), e)
          (rest (λ c low high. last c low high (ltb c i) refl)
          (omega (arith, goes_on true m.blocks (n + i - 1) (blocks-placed proper) (omega arith) (ap (λ (b : Block). (facts b).leaves) is))))
        where
          last : (c : ℕ) → 1 ≤ c → c < suc i → (x : Bool) → ltb c i ≡ x → back_at m (n + c) ≡ 0
          last c low high true e = before c low (ltb-true _ _ e)
          last c low high false e =
              let same : c ≡ i = omega (arith, ltb-false c i e) in
              ap (λ (k : ℕ). back_at m (n + k)) same ∙ ap (λ (b : Block). (facts b).back) is
      go (elsewhere kind row e k17 k8 wel back) rest =
          let found : get_or tables (8 * (n - 1) + 8 * i) 0 ≡ kind =
          kind_at i some before there _ refl (some-row e) ∙ ap (λ (xs : List ℕ). get_or xs 0 0) e in
          rw (found, k17, k8)
          (stops i some before there (λ h. omega (arith, back, h)) (λ w z. w wel))
        where
          some-row : block_numbers (block_at m (n + i)) ≡ kind ∷ row → 0 < length (block_numbers (block_at m (n + i)))
          some-row e = rw e (omega arith)

  -- the search over the tables is the machine's test of the block list
  pub begins-is : (facts (block_at m n)).leaves ≡ false → n ≤ length m.blocks → begins_from tables (8 * (n - 1) + 8) 1 7 ≡ begins_group m n
  begins-is e there =
      ahead 7 1 refl (omega arith) (λ c low high. absurd (omega arith))
      (omega (arith, goes_on true m.blocks (n - 1) (blocks-placed proper) (omega arith) e))
