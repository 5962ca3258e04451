-- Evaluation over the numbers of the tables and the tally, as the code does it. It asks nothing of them: an index past an end
-- reads 0, a mention of a value that is not lower is worth 0, and so is a bracket deeper than the limit.
use Rattle.machine.specs.All.{ℕ, zero, suc, Bool, cond, not, List, ltb, eqb, length, get_or, max_blocks, max_facilities, max_storages, max_queues, max_brackets, signed, wrap, eq_z, one_if}
use Rattle.std.specs.Prelude.{ℤ, pos, ◌+ℤ◌, ◌-ℤ◌, neg_ℤ, int_le, int_lt, ◌+◌, ◌-◌, ◌*◌}
use Rattle.layout.specs.Layout as Layout
pub use Rattle.evaluation.specs.declared.view.Worth.{Worth}

-- ---- Relations by their number

unfoldable pub related_by : ℕ → ℤ → ℤ → Bool
related_by n a b =
    cond (eqb n 1) (eq_z a b)
    (cond (eqb n 2) (not (eq_z a b))
    (cond (eqb n 3) (int_lt a b)
    (cond (eqb n 4) (int_le a b)
    (cond (eqb n 5) (int_lt b a) (int_le b a)))))

-- ---- Terms with no sum inside

unfoldable pub small : ℕ → ℤ
small n = cond (ltb n 2147483648) (pos n) (pos 0)

-- number n of a part that begins at `begin` and has `size` of them
unfoldable pub within : List ℕ → (begin size n : ℕ) → ℕ
within l begin size n = cond (ltb n size) (get_or l (begin + n) 0) 0

abbrev pub servers : ℕ
servers = max_facilities + max_storages

unfoldable pub free_units : (tables tally : List ℕ) → ℕ → ℕ
free_units tables tally v = within tables Layout.capacities servers v - within tally Layout.in_use servers v

-- tags 0 to 8, with the parameters as bits
unfoldable pub simple_term : (tables tally : List ℕ) (clock : ℕ) (parameters : List ℕ) (tag number : ℕ) → ℤ
simple_term tables tally clock p tag n =
    cond (eqb tag 0) (small n)
    (cond (eqb tag 1) (neg_ℤ (small n))
    (cond (eqb tag 2) (signed (get_or p n 0))
    (cond (eqb tag 3) (wrap (pos clock))
    (cond (eqb tag 4) (small (within tally Layout.entries max_blocks n))
    (cond (eqb tag 5) (small (within tally Layout.content max_queues n))
    (cond (eqb tag 6) (small (within tally Layout.in_use servers n))
    (cond (eqb tag 7) (small (free_units tables tally n))
    (one_if (ltb 0 (within tally Layout.in_use servers n))))))))))

-- ---- Sums and terms that call each other

-- what a term or a sum is worth, and the position after its numbers
abbrev pub worth_at : ℤ → ℕ → Worth
worth_at z next = record { worth = z; next = next }

-- what a term is worth goes into what follows it
abbrev pub and_then : Worth → (ℤ → ℕ → Worth) → Worth
and_then t f = f t.worth t.next

abbrev pub added : ℤ → ℤ → ℤ
added a b = wrap (a +ℤ b)

-- a sign, "0 plus, 1 minus"
unfoldable pub joined : ℕ → ℤ → ℤ → ℤ
joined sign a b = cond (eqb sign 0) (added a b) (wrap (a -ℤ b))

-- a relation between two terms, the second behind the first
unfoldable pub judged : ℕ → Worth → Worth → Worth
judged relation a b = worth_at (one_if (related_by relation a.worth b.worth)) b.next

module _ (tables : List ℕ) where
  -- that many terms, read by `term`, behind terms worth `so_far`
  unfoldable pub sum_from : (ℕ → Worth) → (left : ℕ) → ℤ → ℕ → Worth
  sum_from term zero so_far at = worth_at so_far at
  sum_from term (suc left) so_far at =
      cond (ltb at (length tables))
      (and_then (term (at + 1)) (λ z next. sum_from term left (joined (get_or tables at 0) so_far z) next))
      (worth_at so_far at)

  -- a relation and two terms, read by `term`
  unfoldable pub comparison_from : (ℕ → Worth) → ℕ → Worth
  comparison_from term at =
      and_then (term (at + 1)) (λ z next. judged (get_or tables at 0) (worth_at z next) (term next))

  -- a count and as many terms, read by `term`
  unfoldable pub bracket_from : (ℕ → Worth) → ℕ → Worth
  bracket_from term at = sum_from term (get_or tables at 0) (pos 0) (at + 1)

  -- a term that is a tag and a number
  unfoldable pub pair_from : (ℕ → ℤ) → ℕ → Worth
  pair_from worth at = worth_at (worth (get_or tables (at + 1) 0)) (at + 2)

  -- too deep
  unfoldable pub nothing_at : ℕ → Worth
  nothing_at at = worth_at (pos 0) at

  module _ (simple : ℕ → ℕ → ℤ) (mention : ℕ → ℤ) where
    -- a term at a position, given what tags 10 and 11 lead to behind their tag. The case is chosen before it is applied.
    unfoldable pub tagged_term : (compared bracketed : ℕ → Worth) → ℕ → Worth
    tagged_term compared bracketed at =
        cond (ltb at (length tables))
        (cond (ltb (get_or tables at 0) 9) (pair_from (simple (get_or tables at 0)))
        (cond (eqb (get_or tables at 0) 9) (pair_from mention)
        (cond (eqb (get_or tables at 0) 10) (λ p. compared (p + 1)) (λ p. bracketed (p + 1)))))
        nothing_at
        at

    -- a term where that many brackets may still open
    unfoldable pub term_from : (depth : ℕ) → ℕ → Worth
    term_from zero = tagged_term nothing_at nothing_at
    term_from (suc d) = tagged_term (comparison_from (term_from d)) (bracket_from (term_from d))

  module _ (simple : ℕ → ℕ → ℤ) where
    -- value k (from 0), by a reader of the lower ones
    unfoldable pub value_by : (ℕ → ℤ) → ℕ → ℤ
    value_by mention k = (bracket_from (term_from simple mention max_brackets) (Layout.values + Layout.value_width * k)).worth

    -- "A value names only lower-numbered values": value k if it is one of the first `lower`
    unfoldable pub value_below : (lower : ℕ) → ℕ → ℤ
    value_below zero k = pos 0
    value_below (suc lower) k = cond (eqb k lower) (value_by (value_below lower)) (value_below lower) k

-- ---- The entry points

-- a term where brackets may open and the first `lower` values may be named
abbrev pub term_of : (tables tally : List ℕ) (clock : ℕ) (parameters : List ℕ) (lower depth : ℕ) → ℕ → Worth
term_of tables tally clock p lower depth =
    term_from tables (simple_term tables tally clock p) (value_below tables (simple_term tables tally clock p) lower) depth

-- a term of a block, which has no brackets
unfoldable pub term_at : (tables tally : List ℕ) (values clock : ℕ) (parameters : List ℕ) → ℕ → ℤ
term_at tables tally values clock p at = (term_of tables tally clock p values 0 at).worth

-- left, relation and right of a block
unfoldable pub compare_at : (tables tally : List ℕ) (values clock : ℕ) (parameters : List ℕ) → ℕ → Bool
compare_at tables tally values clock p at =
    related_by (get_or tables (at + 2) 0) (term_at tables tally values clock p at) (term_at tables tally values clock p (at + 3))
