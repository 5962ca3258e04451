-- `ready_rows` meets its contract. The invariant: the first rows of the part are done and counted.
use Rattle.machine.specs.All.{ℕ, ◌+◌, ◌≡◌, refl, List, arith, add-one}
use Rattle.rows_laws.specs.All.{part_rows, ready_row, ready_rows, ready_count, one_if, load, place}
use Rattle.rows.proofs.whole.ready_rows.Goals as goal

rows_next : (w₀ w w' : List ℕ) (p from i : ℕ) → w ≡ ready_rows i w₀ p from → w' ≡ ready_row w p (from + i) → w' ≡ ready_rows (i + 1) w₀ p from
unfolding ready_rows
rows_next w₀ w w' p from i e g = rw (add-one i) (cc (e, g))

count_next : (w₀ w : List ℕ) (p from i n r : ℕ) → w ≡ ready_rows i w₀ p from → n ≡ ready_count i w₀ p from
    → r ≡ one_if p (load w (place (from + i)))
    → n + r ≡ ready_count (i + 1) w₀ p from
unfolding ready_count
count_next w₀ w p from i n r e f g = rw (add-one i) (cc (e, f, g))

pub loop-i-init : goal.loop-i-init
unfolding ready_rows ready_count
loop-i-init c = record {
  rows = refl;
  count = refl;
  small = omega arith;
}

pub loop-i-preserved : goal.loop-i-preserved
loop-i-preserved c =
    let l = c.loop-i in record {
      rows = rows_next _ _ _ _ _ _ l.invariant.rows c.ready_row-n.ensures.rows;
      count = count_next _ _ _ _ _ _ _ l.invariant.rows l.invariant.count c.ready_row-n.ensures.count;
      small = omega arith;
    }

pub returns : goal.returns
returns c =
    let l = c.loop-i in
    let all : l.i ≡ part_rows = omega arith in
    record {
      rows = rw (← all) l.invariant.rows;
      count = rw (← all) l.invariant.count;
    }
