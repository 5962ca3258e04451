-- Question 7 over rows of numbers, and what is known of a block that was read.
use Rattle.std.specs.Prelude.{◌+◌, ◌*◌, ◌-◌, ◌≤◌, ◌≡◌, ◌&&◌, ◌||◌}
use Rattle.machine.specs.All.{ℕ, zero, suc, Bool, true, false, cond, not, List, eqb, ltb, leb, T, length, get_or, max_back, Block, facts, is_generate}
use Rattle.layout.specs.All.{block_numbers, small_block}

-- ---- By the numbers of a row

abbrev pub leaves_kind : ℕ → Bool
leaves_kind kind = eqb kind 3 || eqb kind 11

-- the target of the block whose row begins at a place, 0 if it has none
unfoldable pub target_from : List ℕ → ℕ → ℕ
target_from l at =
    cond (eqb (get_or l at 0) 10) (get_or l (at + 6) 0)
    (cond (eqb (get_or l at 0) 11) (get_or l (at + 1) 0) (cond (eqb (get_or l at 0) 14) (get_or l (at + 2) 0) 0))

-- the back count, 0 if it has none
unfoldable pub back_from : List ℕ → ℕ → ℕ
back_from l at = cond (eqb (get_or l at 0) 17) (get_or l (at + 3) 0) 0

-- the same for where target or back count stand, so that the row must be that long
unfoldable pub target_inside : List ℕ → Bool
target_inside row =
    ltb 0 (length row)
    && cond (eqb (get_or row 0 0) 10) (ltb 6 (length row))
    (cond (eqb (get_or row 0 0) 11) (ltb 1 (length row))
    (cond (eqb (get_or row 0 0) 14) (ltb 2 (length row)) (cond (eqb (get_or row 0 0) 17) (ltb 3 (length row)) true)))

unfoldable pub names_generate : List ℕ → ℕ → Bool
names_generate l at = not (eqb (target_from l at) 0) && eqb (get_or l (8 * (target_from l at - 1)) 0) 1

-- so many rows from a place on, behind a block that leaves or not
unfoldable pub placed_from : List ℕ → (count at : ℕ) → Bool → Bool
placed_from l zero at left = left
placed_from l (suc n) at left = not (eqb (get_or l at 0) 1 && not left) && placed_from l n (at + 8) (leaves_kind (get_or l at 0))

-- of so many rows, is that of block t the c-th last of a group, and not its first?
unfoldable pub reaches_from : List ℕ → (blocks t c : ℕ) → Bool
reaches_from l blocks t c = ltb (t + c - 2) blocks && leb c (back_from l (8 * (t + c - 2)))

-- for one of 1..c
unfoldable pub inside_from : List ℕ → (blocks t c : ℕ) → Bool
inside_from l blocks t zero = false
inside_from l blocks t (suc c) = reaches_from l blocks t (suc c) || inside_from l blocks t c

unfoldable pub names_inside : List ℕ → (blocks at : ℕ) → Bool
names_inside l blocks at = not (eqb (target_from l at) 0) && inside_from l blocks (target_from l at) max_back

unfoldable pub misnames : List ℕ → (blocks at : ℕ) → Bool
misnames l blocks at = names_generate l at || names_inside l blocks at

unfoldable pub targets_from : List ℕ → (blocks count at : ℕ) → Bool
targets_from l blocks zero at = true
targets_from l blocks (suc n) at = not (misnames l blocks at) && targets_from l blocks n (at + 8)

abbrev pub waits_after : (kind waits : ℕ) → ℕ
waits_after kind waits = cond (eqb kind 8) (suc waits) 0

-- behind so many waits of kind 8
unfoldable pub joined_from : List ℕ → (count at waits : ℕ) → Bool
joined_from l zero at waits = true
joined_from l (suc n) at waits = leb (back_from l at) waits && joined_from l n (at + 8) (waits_after (get_or l at 0) waits)

-- ---- A block that was read

-- of `most` blocks
pub record Formed (most : ℕ) (b : Block) : Type 0 where
  pub width : length (block_numbers b) ≤ 8
  pub small : T (small_block b)
  -- its row tells what question 7 asks of it
  pub generates : is_generate (facts b) ≡ eqb (get_or (block_numbers b) 0 0) 1
  pub leaves : (facts b).leaves ≡ leaves_kind (get_or (block_numbers b) 0 0)
  pub target : (facts b).target ≡ target_from (block_numbers b) 0
  pub back : (facts b).back ≡ back_from (block_numbers b) 0
  pub waits : (not (eqb (facts b).wel 0) && eqb (facts b).back 0) ≡ eqb (get_or (block_numbers b) 0 0) 8
  pub inside : T (target_inside (block_numbers b))
  pub names : (facts b).target ≤ most
