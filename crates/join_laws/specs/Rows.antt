-- The join as the code does it: the numbers of blocks and values in the tables, moved on by what they name, and written one after the other.
use Rattle.std.specs.Prelude.{◌+◌, ◌*◌, ◌-◌, ◌/◌, ◌%◌, ◌≡◌, ◌∷◌, ◌++◌}
use Rattle.machine.specs.All.{ℕ, zero, suc, cond, List, [], ltb, leb, eqb, length, get_or}
use Rattle.layout.specs.Layout as Layout
use Rattle.codec.specs.Writing.{Written, put}
use Rattle.join_laws.specs.declared.shift.Shift.{Shift}

-- numbers, written one after the other
unfoldable pub puts : List ℕ → Written → Written
puts [] w = w
puts (v ∷ l) w = puts l (put v w)

-- ---- One number

-- by its role: 0 to 9 as behind a tag, 12 a list, 13 a target. What stands in the tables from 0 is written from 1.
unfoldable pub moved_by : Shift → (role n : ℕ) → ℕ
moved_by by role n =
    cond (eqb role 2) (n + 1)
    (cond (eqb role 4) (n + 1 + by.blocks)
    (cond (eqb role 5) (n + 1 + by.queues)
    (cond (eqb role 6) (n - by.own + 1 + by.storages)
    (cond (eqb role 7) (n - by.own + 1 + by.storages)
    (cond (eqb role 8) (n + 1 + by.facilities)
    (cond (eqb role 9) (n + 1 + by.values)
    (cond (eqb role 12) (n + 1 + by.lists)
    (cond (eqb role 13) (n + by.blocks) n))))))))

-- ---- Blocks

-- The operands of a kind, the first in the lowest digit of 32: 1 more than a role, 15 as the tag before says, 16 as the code before says.
unfoldable pub shape_of : (kind : ℕ) → ℕ
shape_of kind =
    cond (eqb kind 1) 45
    (cond (eqb kind 2) 13
    (cond (eqb kind 3) 1
    (cond (eqb kind 4) 9
    (cond (eqb kind 5) 9
    (cond (eqb kind 6) 39
    (cond (eqb kind 7) 39
    (cond (eqb kind 8) 515
    (cond (eqb kind 9) 15762913
    (cond (eqb kind 10) 485524961
    (cond (eqb kind 11) 14
    (cond (eqb kind 12) 15395
    (cond (eqb kind 13) 1
    (cond (eqb kind 14) 449
    (cond (eqb kind 15) 6
    (cond (eqb kind 16) 6
    (cond (eqb kind 17) 1539
    (cond (eqb kind 18) 1 9)))))))))))))))))

unfoldable pub role_of : (digit before : ℕ) → ℕ
role_of digit before = cond (eqb digit 15) before (cond (eqb digit 16) (cond (ltb before 2) 8 6) (digit - 1))

-- what was written, and where reading goes on
pub record Items : Type 0 where
  pub numbers : List ℕ
  pub next : ℕ

abbrev pub items : List ℕ → ℕ → Items
items numbers next = record { numbers = numbers; next = next }

abbrev pub behind : List ℕ → Items → Items
behind l i = items (l ++ i.numbers) i.next

pub record Wrote (i : Items) (next : ℕ) (w w' : Written) : Type 0 where
  pub at : next ≡ i.next
  pub numbers : w' ≡ puts i.numbers w

-- how many terms tag 10 or 11 opens, and how many signs stand before each
unfoldable pub opened : (tag n : ℕ) → ℕ
opened tag n = cond (eqb tag 10) 2 n

unfoldable pub signs_in : (tag : ℕ) → ℕ
signs_in tag = cond (eqb tag 10) 0 1

module _ (tables : List ℕ) (by : Shift) where
  abbrev pub cell_at : ℕ → ℕ
  cell_at i = get_or tables i 0

  -- one operand; none for digit 0
  unfoldable pub operand_at : (at digit : ℕ) → List ℕ
  operand_at at digit = cond (eqb digit 0) [] (moved_by by (role_of digit (cell_at (at - 1))) (cell_at at) ∷ [])

  unfoldable pub operands_from : (left at digits : ℕ) → List ℕ
  operands_from zero at digits = []
  operands_from (suc left) at digits = operand_at at (digits % 32) ++ operands_from left (suc at) (digits / 32)

  -- the kind and at most six operands
  unfoldable pub block_row : ℕ → List ℕ
  block_row at = moved_by by 0 (cell_at at) ∷ operands_from 6 (suc at) (shape_of (cell_at at))

  -- `left` blocks from block b (from 0) on
  unfoldable pub block_rows : (left b : ℕ) → List ℕ
  block_rows zero b = []
  block_rows (suc left) b = block_row (Layout.block_width * b) ++ block_rows left (suc b)

  -- ---- Values

  unfoldable pub sign_at : (from signs : ℕ) → List ℕ
  sign_at from signs = cond (eqb signs 0) [] (moved_by by 0 (cell_at from) ∷ [])

  -- a term's sign, tag and number; behind tags 10 and 11 stand a relation and a count
  unfoldable pub item_at : (from signs : ℕ) → List ℕ
  item_at from signs =
      sign_at from signs
      ++ (moved_by by 0 (cell_at (from + signs)) ∷ moved_by by (cell_at (from + signs)) (cell_at (from + signs + 1)) ∷ [])

  unfoldable pub items_with : (inner : (left signs from : ℕ) → Items) → (left signs from : ℕ) → Items
  items_with inner zero signs from = items [] from
  items_with inner (suc left) signs from =
      let tag = cell_at (from + signs) in
      let opens = inner (opened tag (cell_at (from + signs + 1))) (signs_in tag) (from + signs + 2) in
      cond (leb (length tables) from) (items [] from)
      (cond (leb tag 9) (behind (item_at from signs) (items_with inner left signs (from + signs + 2)))
      (behind (item_at from signs) (behind opens.numbers (items_with inner left signs opens.next))))

  -- where that many brackets may still open
  unfoldable pub items_from : (depth left signs from : ℕ) → Items
  items_from zero left signs from = items_with (λ l s f. items [] f) left signs from
  items_from (suc depth) left signs from = items_with (items_from depth) left signs from

  unfoldable pub value_row_lem : ℕ → List ℕ
  value_row_lem at = moved_by by 0 (cell_at at) ∷ (items_from 4 (cell_at at) 1 (at + 1)).numbers

  -- `left` values from value k (from 0) on
  unfoldable pub value_rows : (left k : ℕ) → List ℕ
  value_rows zero k = []
  value_rows (suc left) k = value_row_lem (Layout.values + Layout.value_width * k) ++ value_rows left (suc k)
