-- The things that terms name, marked one by one in a list that has a cell for each: of the tables' numbers, as the code does it.
use Rattle.std.specs.Prelude.{◌+◌, ◌%◌}
use Rattle.machine.specs.All.{ℕ, zero, suc, cond, List, ltb, eqb, length, get_or, set}

-- ---- Cells

-- entries of block b (from 0) at b, for 256 blocks; then 32 queues, 64 servers and 8 values
abbrev pub queue_marks : ℕ
queue_marks = 256

abbrev pub server_marks : ℕ
server_marks = 288

abbrev pub value_marks : ℕ
value_marks = 352

abbrev pub clock_mark : ℕ
clock_mark = 360

-- the parameters
abbrev pub own_mark : ℕ
own_mark = 361

-- nothing that could change
abbrev pub no_mark : ℕ
no_mark = 362

abbrev pub marks_size : ℕ
marks_size = 363

-- the cell of what a term of tags 0 to 9 names, where the first `lower` values may be named
unfoldable pub cell_of : (lower tag number : ℕ) → ℕ
cell_of lower tag n =
    cond (ltb tag 2) no_mark
    (cond (eqb tag 2) own_mark
    (cond (eqb tag 3) clock_mark
    (cond (eqb tag 4) (n % 256)
    (cond (eqb tag 5) (queue_marks + n % 32)
    (cond (ltb tag 9) (server_marks + n % 64)
    (cond (ltb n lower) (value_marks + n % 8) no_mark))))))

-- ---- Terms and sums

-- where reading stands, and the marks
pub record Walked : Type 0 where
  pub next : ℕ
  pub marks : List ℕ

unfoldable pub walked : ℕ → List ℕ → Walked
walked next marks = record { next = next; marks = marks }

module _ (tables : List ℕ) where
  -- that many terms, each behind `skip` numbers, read by `term`
  unfoldable pub terms_from : (ℕ → List ℕ → Walked) → (skip left at : ℕ) → List ℕ → Walked
  terms_from term skip zero at marks = walked at marks
  terms_from term skip (suc left) at marks =
      cond (ltb at (length tables)) (λ m. let t : Walked = term (at + skip) m in terms_from term skip left t.next t.marks)
      (walked at) marks

  module _ (lower : ℕ) where
    -- a term, given what reads the terms of a bracket: two of a comparison, with no sign before them, or those of a sum
    unfoldable pub tagged_term : (inner : (skip left at : ℕ) → List ℕ → Walked) → (at : ℕ) → List ℕ → Walked
    tagged_term inner at =
        cond (ltb at (length tables))
        (cond (ltb (get_or tables at 0) 10) (λ m. walked (at + 2) (set m (cell_of lower (get_or tables at 0) (get_or tables (at + 1) 0)) 1))
        (cond (eqb (get_or tables at 0) 10) (inner 0 2 (at + 2)) (inner 1 (get_or tables (at + 1) 0) (at + 2))))
        (walked at)

    -- a term where that many brackets may still open
    unfoldable pub term_from : (depth at : ℕ) → List ℕ → Walked
    term_from zero = tagged_term (λ skip left at marks. walked at marks)
    term_from (suc d) = tagged_term (terms_from (term_from d))
