-- Question 7, pure: over rows one by one, and what the rows say is what the machine asks.
use Rattle.machine.specs.All.{ℕ, zero, suc, ◌+◌, ◌*◌, ◌-◌, ◌≤◌, ◌<◌, add-one, arith, ◌≡◌, refl, sym, ap, ap₂, ◌∙◌, Bool, true, false, cond, not, ◌&&◌, ◌||◌, List, [], ◌∷◌, eqb, ltb, leb, T, ltb→lt, length, get_or, eqb-true, eqb-false, le-leb, lt-leb, ltb-true, ltb-false, lt-ltb, bit, up_to, Block, facts, terminate, BlockModel, block_at, back_at, inside_group, is_generate, well_placed, all_of, joined}
use Rattle.layout.specs.All.{block_numbers}
use Rattle.parse_values.specs.Filled.{Each}
use Rattle.parse_values.proofs.Filled.{each_at}
use Rattle.program.specs.{leaves_kind, target_from, back_from, target_inside, names_generate, reaches_from, inside_from, names_inside, misnames, placed_from, targets_from, waits_after, joined_from}
use Rattle.program.specs.Formed.{Formed}

or_true : (x : Bool) → (x || true) ≡ true
or_true true = refl
or_true false = refl

-- ---- Row by row, where b of `blocks` rows are behind

module _ (l : List ℕ) (blocks b : ℕ) where
  -- the loop over the blocks begins with all of them
  pub placed-all : placed_from l (blocks - 0) 0 true ≡ placed_from l blocks 0 true
  placed-all = let e : blocks - 0 ≡ blocks = omega arith in rw e

  -- behind the last block: whether it leaves
  pub placed_end : (left : Bool) → blocks ≤ b → left ≡ placed_from l (blocks - b) (8 * b) left
  unfolding placed_from
  placed_end left h = let e : blocks - b ≡ 0 = omega arith in rw e

  -- a GENERATE behind a block that goes on
  pub placed-bad : (left : Bool) → b < blocks → (eqb (get_or l (8 * b) 0) 1 && not left) ≡ true
      → false ≡ placed_from l (blocks - b) (8 * b) left
  unfolding placed_from
  placed-bad left h bad = let e : blocks - b ≡ suc (blocks - (b + 1)) = omega arith in rw (e, bad)

  -- one block, and whether it leaves
  pub placed-next : (left : Bool) → b < blocks → (eqb (get_or l (8 * b) 0) 1 && not left) ≡ false →
      placed_from l (blocks - (b + 1)) (8 * (b + 1)) (leaves_kind (get_or l (8 * b) 0)) ≡ placed_from l (blocks - b) (8 * b) left
  unfolding placed_from
  placed-next left h good =
      let e : blocks - b ≡ suc (blocks - (b + 1)) = omega arith in
      let f : 8 * (b + 1) ≡ 8 * b + 8 = omega arith in
      rw f (sym (ap (λ (i : ℕ). placed_from l i (8 * b) left) e ∙ rw good))

  -- the loop over the blocks begins with all of them
  pub targets-all : targets_from l blocks (blocks - 0) 0 ≡ targets_from l blocks blocks 0
  targets-all = let e : blocks - 0 ≡ blocks = omega arith in ap (λ (i : ℕ). targets_from l blocks i 0) e

  -- behind the last block every target is good
  pub targets-end : blocks ≤ b → true ≡ targets_from l blocks (blocks - b) (8 * b)
  unfolding targets_from
  targets-end h = let e : blocks - b ≡ 0 = omega arith in rw e

  -- a target that fails
  pub targets-bad : b < blocks → misnames l blocks (8 * b) ≡ true → false ≡ targets_from l blocks (blocks - b) (8 * b)
  unfolding targets_from
  targets-bad h bad = let e : blocks - b ≡ suc (blocks - (b + 1)) = omega arith in rw (e, bad)

  pub targets_next : b < blocks → misnames l blocks (8 * b) ≡ false →
      targets_from l blocks (blocks - (b + 1)) (8 * (b + 1)) ≡ targets_from l blocks (blocks - b) (8 * b)
  unfolding targets_from
  targets_next h good =
      let e : blocks - b ≡ suc (blocks - (b + 1)) = omega arith in
      let f : 8 * (b + 1) ≡ 8 * b + 8 = omega arith in
      rw f (sym (ap (λ (i : ℕ). targets_from l blocks i (8 * b)) e ∙ rw good))

  pub joined-all : joined_from l (blocks - 0) 0 0 ≡ joined_from l blocks 0 0
  joined-all = let e : blocks - 0 ≡ blocks = omega arith in rw e

  -- behind the last block every back count is good
  pub joined_end : (waits : ℕ) → blocks ≤ b → true ≡ joined_from l (blocks - b) (8 * b) waits
  unfolding joined_from
  joined_end waits h = let e : blocks - b ≡ 0 = omega arith in rw e

  -- a back count larger than the WAITIFs before it
  pub joined-bad : (waits : ℕ) → b < blocks → waits < back_from l (8 * b) → false ≡ joined_from l (blocks - b) (8 * b) waits
  unfolding joined_from
  joined-bad waits h bad = let e : blocks - b ≡ suc (blocks - (b + 1)) = omega arith in rw (e, lt-leb (back_from l (8 * b)) waits bad)

  pub joined-next : (waits : ℕ) → b < blocks → back_from l (8 * b) ≤ waits →
      joined_from l (blocks - (b + 1)) (8 * (b + 1)) (waits_after (get_or l (8 * b) 0) waits) ≡ joined_from l (blocks - b) (8 * b) waits
  unfolding joined_from
  joined-next waits h good =
      let e : blocks - b ≡ suc (blocks - (b + 1)) = omega arith in
      let f : 8 * (b + 1) ≡ 8 * b + 8 = omega arith in
      rw f (sym (ap (λ (i : ℕ). joined_from l i (8 * b) waits) e ∙ rw (le-leb (back_from l (8 * b)) waits good)))

-- one place of a group after the other
module _ (l : List ℕ) (blocks t : ℕ) where
  -- no WAITIF reaches over it
  pub inside-none : inside_from l blocks t 0 ≡ false
  unfolding inside_from
  inside-none = refl

  -- one WAITIF more
  pub inside-next : (c : ℕ) → reaches_from l blocks t (c + 1) ≡ false → inside_from l blocks t c ≡ false → inside_from l blocks t (c + 1) ≡ false
  unfolding inside_from
  inside-next c none before = let e = rw add-one at none in rw (add-one, e) before

  -- the group of so many WAITIFs behind t reaches over it
  pub inside_found : (c most : ℕ) → c < most → reaches_from l blocks t (c + 1) ≡ true → true ≡ inside_from l blocks t most
  unfolding inside_from
  inside_found c zero h found = absurd (omega arith)
  inside_found c (suc most) h found = go (λ g. inside_found c most g found) (eqb c most) refl
    where
      go : (c < most → true ≡ inside_from l blocks t most) → (same : Bool) → eqb c most ≡ same
          → true ≡ (reaches_from l blocks t (suc most) || inside_from l blocks t most)
      go lower true e = let f : c + 1 ≡ suc most = omega (arith, eqb-true c most e) in rw (← f, found)
      go lower false e = rw (← lower (omega (arith, eqb-false c most e))) (sym (or_true (reaches_from l blocks t (suc most))))

-- ---- What the rows say is what the machine asks

-- from a place on stand the rows of these blocks
abbrev pub Standing : List ℕ → ℕ → List Block → Type 0
Standing l at bs =
    (j i : ℕ) → j < length bs → i < length (block_numbers (get_or bs j (terminate 0))) →
    get_or l (at + 8 * j + i) 0 ≡ get_or (block_numbers (get_or bs j (terminate 0))) i 0

standing-rest : (l : List ℕ) (at : ℕ) (b : Block) (bs : List Block) → Standing l at (b ∷ bs) → Standing l (at + 8) bs
standing-rest l at b bs st j i h g =
    let e : at + 8 + 8 * j + i ≡ at + 8 * suc j + i = omega arith in rw e (st (suc j) i (omega arith) g)

standing-first : (l : List ℕ) (at : ℕ) (b : Block) (bs : List Block) → Standing l at (b ∷ bs) → (i : ℕ) → i < length (block_numbers b) →
    get_or l (at + i) 0 ≡ get_or (block_numbers b) i 0
standing-first l at b bs st i g = let e : at + i ≡ at + 8 * 0 + i = omega arith in rw e (st 0 i (omega arith) g)

-- a row is not empty, and reaches as far as its target
row-some : (row : List ℕ) → T (target_inside row) → 0 < length row
unfolding target_inside
row-some [] h = absurd h
row-some (x ∷ row) h = omega arith

abbrev reaches : List ℕ → Bool
reaches row =
    cond (eqb (get_or row 0 0) 10) (ltb 6 (length row))
    (cond (eqb (get_or row 0 0) 11) (ltb 1 (length row))
    (cond (eqb (get_or row 0 0) 14) (ltb 2 (length row)) (cond (eqb (get_or row 0 0) 17) (ltb 3 (length row)) true)))

row-reaches : (row : List ℕ) → T (target_inside row) → T (reaches row)
unfolding target_inside
row-reaches row h = second (ltb 0 (length row)) (reaches row) h
  where
    second : (x y : Bool) → T (x && y) → T y
    second true y h = h
    second false y h = absurd h

-- the target of a block stands in its row
row_target : (l row : List ℕ) (at : ℕ) → T (target_inside row) → ((i : ℕ) → i < length row → get_or l (at + i) 0 ≡ get_or row i 0) →
    target_from l at ≡ target_from row 0
unfolding target_from
row_target l row at inside st =
    go (eqb (get_or row 0 0) 10) (eqb (get_or row 0 0) 11) (eqb (get_or row 0 0) 14) refl refl refl (row-reaches row inside)
  where
    kind : get_or l at 0 ≡ get_or row 0 0
    kind = let e : at ≡ at + 0 = omega arith in ap (λ (i : ℕ). get_or l i 0) e ∙ st 0 (row-some row inside)

    go : (x y z : Bool) → eqb (get_or row 0 0) 10 ≡ x → eqb (get_or row 0 0) 11 ≡ y → eqb (get_or row 0 0) 14 ≡ z →
        T (cond x (ltb 6 (length row))
        (cond y (ltb 1 (length row)) (cond z (ltb 2 (length row)) (cond (eqb (get_or row 0 0) 17) (ltb 3 (length row)) true))))
        → target_from l at ≡ target_from row 0
    go true y z e f g r = rw (kind, e) (st 6 (ltb→lt 6 (length row) r))
    go false true z e f g r = rw (kind, e, f) (st 1 (ltb→lt 1 (length row) r))
    go false false true e f g r = rw (kind, e, f, g) (st 2 (ltb→lt 2 (length row) r))
    go false false false e f g r = rw (kind, e, f, g)

-- so does its back count
row_back : (l row : List ℕ) (at : ℕ) → T (target_inside row) → ((i : ℕ) → i < length row → get_or l (at + i) 0 ≡ get_or row i 0) →
    back_from l at ≡ back_from row 0
unfolding back_from
row_back l row at inside st = go (eqb (get_or row 0 0) 17) refl
  where
    kind : get_or l at 0 ≡ get_or row 0 0
    kind = let e : at ≡ at + 0 = omega arith in ap (λ (i : ℕ). get_or l i 0) e ∙ st 0 (row-some row inside)

    far : (k : ℕ) → k ≡ 17 →
        T (cond (eqb k 10) (ltb 6 (length row))
        (cond (eqb k 11) (ltb 1 (length row)) (cond (eqb k 14) (ltb 2 (length row)) (cond (eqb k 17) (ltb 3 (length row)) true)))) →
        3 < length row
    far k e r = ltb→lt 3 (length row) (rw e at r)

    go : (x : Bool) → eqb (get_or row 0 0) 17 ≡ x → back_from l at ≡ back_from row 0
    go true e = rw (kind, e) (st 3 (far (get_or row 0 0) (eqb-true _ 17 e) (row-reaches row inside)))
    go false e = rw (kind, e)

not-and : (x left : Bool) → not (x && not left) ≡ (not x || left)
not-and true true = refl
not-and true false = refl
not-and false left = refl

-- the loop over rows asks what `well_placed` asks of the blocks
pub placed_machine : (most : ℕ) (l : List ℕ) (bs : List Block) (at : ℕ) (left : Bool) → Each (Formed most) bs → Standing l at bs →
    placed_from l (length bs) at left ≡ well_placed left bs
unfolding placed_from well_placed
placed_machine most l [] at left f st = refl
placed_machine most l (b ∷ bs) at left f st =
    let e : at ≡ at + 0 = omega arith in
    let kind : get_or l at 0 ≡ get_or (block_numbers b) 0 0 = ap (λ (i : ℕ). get_or l i 0) e
    ∙ standing-first l at b bs st 0 (row-some (block_numbers b) f.0.inside) in
    rw (kind, ← f.0.generates, ← f.0.leaves, not-and (is_generate (facts b)) left)
    (ap (λ (x : Bool). (not (is_generate (facts b)) || left) && x)
    (placed_machine most l bs (at + 8) (facts b).leaves f.1 (standing-rest l at b bs st)))

-- and what `joined` asks
pub joined_machine : (most : ℕ) (l : List ℕ) (bs : List Block) (at waits : ℕ) → Each (Formed most) bs → Standing l at bs →
    joined_from l (length bs) at waits ≡ joined waits bs
unfolding joined_from joined
joined_machine most l [] at waits f st = refl
joined_machine most l (b ∷ bs) at waits f st =
    let e : at ≡ at + 0 = omega arith in
    let here = standing-first l at b bs st in
    let kind : get_or l at 0 ≡ get_or (block_numbers b) 0 0 = ap (λ (i : ℕ). get_or l i 0) e ∙ here 0 (row-some (block_numbers b) f.0.inside) in
    let back : back_from l at ≡ (facts b).back = row_back l (block_numbers b) at f.0.inside here ∙ sym f.0.back in
    rw (back, kind, ← f.0.waits)
    (ap (λ (x : Bool). leb (facts b).back waits && x)
    (joined_machine most l bs (at + 8) (cond (not (eqb (facts b).wel 0) && eqb (facts b).back 0) (suc waits) 0) f.1
    (standing-rest l at b bs st)))

-- past the last block there is no back count
back-past : (bs : List Block) (i : ℕ) → length bs ≤ i → (facts (get_or bs i (terminate 0))).back ≡ 0
unfolding facts
back-past [] i h = refl
back-past (b ∷ bs) zero h = absurd (omega arith)
back-past (b ∷ bs) (suc i) h = back-past bs i (omega arith)

module _ (l : List ℕ) (m : BlockModel) (all : Each (Formed (length m.blocks)) m.blocks) (stands : Standing l 0 m.blocks) where
  abbrev bs : List Block
  bs = m.blocks

  -- does a block's target move?
  abbrev moves : Block → Bool
  moves b = eqb (facts b).target 0 || (not (is_generate (facts (block_at m (facts b).target))) && not (inside_group m (facts b).target))

  or-not : (x y z : Bool) → not ((not x && y) || (not x && z)) ≡ (x || (not y && not z))
  or-not true y z = refl
  or-not false true z = refl
  or-not false false z = refl

  -- row j is that of its block
  row_at : (j : ℕ) → j < length bs → (i : ℕ) → i < length (block_numbers (get_or bs j (terminate 0))) →
      get_or l (8 * j + i) 0 ≡ get_or (block_numbers (get_or bs j (terminate 0))) i 0
  row_at j h i g = let e : 8 * j + i ≡ 0 + 8 * j + i = omega arith in rw e (stands j i h g)

  formed-at : (j : ℕ) → j < length bs → Formed (length bs) (get_or bs j (terminate 0))
  formed-at j h = each_at (Formed (length bs)) bs (terminate 0) all j h

  named_kind : (t : ℕ) → (t ≡ 0 → ⊥) → t ≤ length bs → eqb (get_or l (8 * (t - 1)) 0) 1 ≡ is_generate (facts (block_at m t))
  named_kind t some most =
      let h : t - 1 < length bs = omega arith in
      let f = formed-at (t - 1) h in
      let e : 8 * (t - 1) ≡ 8 * (t - 1) + 0 = omega arith in
      ap (λ (i : ℕ). eqb (get_or l i 0) 1) e ∙ ap (λ (x : ℕ). eqb x 1)
      (row_at (t - 1) h 0 (row-some (block_numbers (get_or bs (t - 1) (terminate 0))) f.inside)) ∙ sym f.generates

  -- a place of a group
  reaches-is : (t c : ℕ) → 1 ≤ t → 1 ≤ c → reaches_from l (length bs) t c ≡ leb c (back_at m (t + c - 1))
  unfolding reaches_from
  reaches-is t c low some = go (ltb (t + c - 2) (length bs)) refl
    where
      same : t + c - 2 ≡ t + c - 1 - 1
      same = omega arith

      back_is : back_at m (t + c - 1) ≡ (facts (get_or bs (t + c - 2) (terminate 0))).back
      back_is = ap (λ (i : ℕ). (facts (get_or bs i (terminate 0))).back) (sym same)

      go : (x : Bool) → ltb (t + c - 2) (length bs) ≡ x
          → (ltb (t + c - 2) (length bs) && leb c (back_from l (8 * (t + c - 2)))) ≡ leb c (back_at m (t + c - 1))
      go true e =
          let h : t + c - 2 < length bs = ltb-true _ _ e in
          let f = formed-at (t + c - 2) h in
          rw (e, back_is)
          (ap (leb c) (row_back l (block_numbers (get_or bs (t + c - 2) (terminate 0))) (8 * (t + c - 2)) f.inside
          (row_at (t + c - 2) h) ∙ sym f.back))
      go false e = rw (e, back_is, back-past bs (t + c - 2) (ltb-false _ _ e), lt-leb c 0 some)

  bit-some : (x : Bool) (n : ℕ) → ltb 0 (n + bit x) ≡ (x || ltb 0 n)
  bit-some true n = lt-ltb 0 (n + 1) (omega arith)
  bit-some false n = let e : n + 0 ≡ n = omega arith in ap (ltb 0) e

  inside_is : (t c : ℕ) → 1 ≤ t → inside_from l (length bs) t c ≡ ltb 0 (up_to c (λ i. bit (leb i (back_at m (t + i - 1)))))
  unfolding inside_from up_to
  inside_is t zero low = refl
  inside_is t (suc c) low =
      ap₂ ◌||◌ (reaches-is t (suc c) low (omega arith)) (inside_is t c low)
      ∙ sym (bit-some (leb (suc c) (back_at m (t + suc c - 1))) (up_to c (λ i. bit (leb i (back_at m (t + i - 1))))))

  one-moves : (b : Block) (at : ℕ) → Formed (length bs) b
      → ((i : ℕ) → i < length (block_numbers b) → get_or l (at + i) 0 ≡ get_or (block_numbers b) i 0) →
      not (misnames l (length bs) at) ≡ moves b
  unfolding misnames names_generate names_inside inside_group
  one-moves b at f st = go (eqb (facts b).target 0) refl
    where
      target : target_from l at ≡ (facts b).target
      target = row_target l (block_numbers b) at f.inside st ∙ sym f.target

      go : (x : Bool) → eqb (facts b).target 0 ≡ x → not (misnames l (length bs) at) ≡ moves b
      go true e = rw (target, e)
      go false e =
          let some = eqb-false (facts b).target 0 e in
          rw (
            target,
            or-not (eqb (facts b).target 0) (eqb (get_or l (8 * ((facts b).target - 1)) 0) 1)
                (inside_from l (length bs) (facts b).target 7),
            named_kind (facts b).target some f.names,
            inside_is (facts b).target 7 (omega arith),
          )

  targets-rest : (cs : List Block) (at : ℕ) → Each (Formed (length bs)) cs → Standing l at cs
      → targets_from l (length bs) (length cs) at ≡ all_of moves cs
  unfolding targets_from all_of
  targets-rest [] at f st = refl
  targets-rest (b ∷ cs) at f st =
      rw (one-moves b at f.0 (standing-first l at b cs st))
      (ap (λ (x : Bool). moves b && x) (targets-rest cs (at + 8) f.1 (standing-rest l at b cs st)))

  pub targets_machine : targets_from l (length bs) (length bs) 0 ≡ all_of moves bs
  targets_machine = targets-rest bs 0 all stands
