-- `at_once` meets its contract: the tests in order.
use Rattle.std.specs.Prelude.{Option, None, Some, is_some}
use Rattle.machine.specs.All.{ℕ, ◌≡◌, Bool, sym, ◌∙◌, arith, ltb, lt-ltb, le-ltb, eq-eqb, ne_eqb}
use Rattle.rows_laws.specs.All.{IsRow, row_count}
use Rattle.servers_laws.specs.Waking.{many, at_once_lem}
use Rattle.servers.proofs.waking.at_once.Goals as goal

-- is there a row?
there : (n : ℕ) (o : Option ℕ) (b : Bool) → IsRow n o → is_some o ≡ b → ltb n row_count ≡ b
there n None b none e = le-ltb n 1024 none ∙ e
there n (Some k) b row e = lt-ltb n 1024 (omega (arith, row.0, row.1)) ∙ e

pub returns-then-n-lt-MANY : goal.returns-then-n-lt-MANY
unfolding at_once_lem
returns-then-n-lt-MANY c = rw (lt-ltb _ many c.if-n-lt-MANY.true)

pub returns-then-edition-ne1 : goal.returns-then-edition-ne1
unfolding at_once_lem
returns-then-edition-ne1 c = rw (le-ltb _ many c.if-n-lt-MANY.false, ne_eqb _ 1 c.if-edition-ne1.true)

pub returns-then-is_none : goal.returns-then-is_none
unfolding at_once_lem
returns-then-is_none c =
    rw (
      le-ltb _ many c.if-n-lt-MANY.false,
      eq-eqb _ 1 c.if-edition-ne1.false,
      there _ _ _ (rw c.queue.ensures at c.first.ensures) c.if-is_none.ensures,
    )

pub returns-then-not-ahead_of : goal.returns-then-not-ahead_of
unfolding at_once_lem
returns-then-not-ahead_of c =
    rw (
      le-ltb _ many c.if-n-lt-MANY.false,
      eq-eqb _ 1 c.if-edition-ne1.false,
      there _ _ _ (rw c.queue.ensures at c.first.ensures) c.if-is_none.ensures,
      sym c.ahead_of.ensures ∙ c.if-not-ahead_of.true,
    )

pub returns : goal.returns
unfolding at_once_lem
returns c =
    rw (
      le-ltb _ many c.if-n-lt-MANY.false,
      eq-eqb _ 1 c.if-edition-ne1.false,
      there _ _ _ (rw c.queue.ensures at c.first.ensures) c.if-is_none.ensures,
      sym c.ahead_of.ensures ∙ c.if-not-ahead_of.false,
    )
    c.none_too_many.ensures
