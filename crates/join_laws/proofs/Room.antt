-- How many bytes a joined model takes at most.
use Rattle.machine.specs.All.{ℕ, zero, suc, ◌*◌, ◌/◌, ◌%◌, ◌≤◌, arith, Bool, true, false, cond, List, [], ◌∷◌, map, eqb, length, get_or, length-append, flat, number_bytes, ◌-◌}
use Rattle.layout.specs.Layout as Layout
use Rattle.codec.proofs.Numbers.{number_bytes-longest}
use Rattle.join_laws.specs.{numbers_bytes, shape_of, operand_at, operands_from, block_row, block_rows, moved_by, role_of}
use Rattle.join_laws.specs.declared.shift.Shift.{Shift}

-- a number takes at most nine bytes
pub bytes_most : (l : List ℕ) → length (numbers_bytes l) ≤ 9 * length l
unfolding numbers_bytes flat
bytes_most [] = omega arith
bytes_most (v ∷ l) =
    let n = length-append (number_bytes v) (flat (map number_bytes l)) in
    omega (arith, n, number_bytes-longest v, bytes_most l)

module _ (tables : List ℕ) (by : Shift) where
  operand-most : (at digit : ℕ) → length (operand_at tables by at digit) ≤ 1
  unfolding operand_at
  operand-most at digit = go (eqb digit 0) (moved_by by (role_of digit (get_or tables (at - 1) 0)) (get_or tables at 0))
    where
      go : (b : Bool) (v : ℕ) → length (cond b [] (v ∷ [])) ≤ 1
      go true v = omega arith
      go false v = omega arith

  operands-most : (left at digits : ℕ) → length (operands_from tables by left at digits) ≤ left
  unfolding operands_from
  operands-most zero at digits = omega arith
  operands-most (suc left) at digits =
      let n = length-append (operand_at tables by at (digits % 32)) (operands_from tables by left (suc at) (digits / 32)) in
      omega (arith, n, operand-most at (digits % 32), operands-most left (suc at) (digits / 32))

  block-most : (at : ℕ) → length (block_row tables by at) ≤ 7
  unfolding block_row
  block-most at = omega (arith, operands-most 6 (suc at) (shape_of (get_or tables at 0)))

  -- a block is at most seven numbers
  pub blocks-most : (left b : ℕ) → length (block_rows tables by left b) ≤ 7 * left
  unfolding block_rows
  blocks-most zero b = omega arith
  blocks-most (suc left) b =
      let n = length-append (block_row tables by (Layout.block_width * b)) (block_rows tables by left (suc b)) in
      omega (arith, n, block-most (Layout.block_width * b), blocks-most left (suc b))
