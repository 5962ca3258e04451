-- `ready_parts` meets its contract. The invariant: what is left to do from here is all of it.
use Rattle.machine.specs.All.{ℕ, zero, suc, ◌*◌, ◌-◌, ◌≡◌, ◌≢◌, refl, sym, ◌∙◌, List, arith, ne_eqb}
use Rattle.rows_laws.specs.All.{part_rows, ready_rows, ready_count, ready_parts}
use Rattle.rows.proofs.whole.ready_parts.Goals as goal

parts-end : (n : ℕ) (w : List ℕ) (p left : ℕ) → n ≡ 0 → ready_parts n w p left ≡ w
unfolding ready_parts
parts-end n w p left e = rw e

parts-stop : (n : ℕ) (w : List ℕ) (p left : ℕ) → left ≡ 0 → ready_parts n w p left ≡ w
unfolding ready_parts
parts-stop zero w p left e = refl
parts-stop (suc n) w p left e = rw e

parts_next : (n m : ℕ) (w w' : List ℕ) (p left found less : ℕ) → n ≡ suc m → left ≢ 0 → w' ≡ ready_rows part_rows w p (part_rows * m)
    → found ≡ ready_count part_rows w p (part_rows * m)
    → less ≡ left - found → ready_parts n w p left ≡ ready_parts m w' p less
unfolding ready_parts
parts_next n m w w' p left found less e some r g l = rw (e, ne_eqb _ 0 some, l, r, g)

pub returns-then-left-eq0 : goal.returns-then-left-eq0
returns-then-left-eq0 c = sym (parts-stop _ _ _ _ c.if-left-eq0.true) ∙ c.loop-c.invariant

pub loop-c-preserved : goal.loop-c-preserved
loop-c-preserved c =
    sym
    (parts_next _ _ _ _ _ _ _ _ (omega arith) c.if-left-eq0.false c.ready_rows-found.ensures.rows
    c.ready_rows-found.ensures.count c.saturating_sub-left.ensures)
    ∙ c.loop-c.invariant

pub returns : goal.returns
returns c = sym (parts-end _ _ _ _ (omega arith)) ∙ c.loop-c.invariant
