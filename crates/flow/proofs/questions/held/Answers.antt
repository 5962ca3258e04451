-- `held` meets its contract. The invariant: the first f are counted.
use Rattle.machine.specs.All.{ℕ, Bool, true, false, suc, ◌+◌, ◌≤◌, ◌≡◌, refl, ap, ◌∙◌, List, arith, eqb, get_or, bit}
use mir.Val.{bool_byte}
use Rattle.flow_laws.specs.Questions.{held_by}
use Rattle.flow.proofs.questions.held.Goals as goal

is_bit : (b : Bool) → bool_byte b ≡ bit b
is_bit true = refl
is_bit false = refl

small : (r : ℕ) (b : Bool) → r ≡ bool_byte b → r ≤ 1
small r true e = omega (arith, e)
small r false e = omega (arith, e)

held_next : (tally : List ℕ) (f number n r : ℕ) → n ≡ held_by tally f number → r ≡ bit (eqb (get_or tally (960 + f) 0) number)
    → n + r ≡ held_by tally (f + 1) number
unfolding held_by
held_next tally f number n r counted one =
    let e : suc f ≡ f + 1 = omega arith in
    rw (counted, one) (ap (λ (k : ℕ). held_by tally k number) e)

held-end : (tally : List ℕ) (f facilities number n : ℕ) → n ≡ held_by tally f number → f ≡ facilities → n ≡ held_by tally facilities number
held-end tally f facilities number n counted e = counted ∙ ap (λ (k : ℕ). held_by tally k number) e

pub loop-f-init : goal.loop-f-init
unfolding held_by
loop-f-init c = (refl, omega arith)

pub overflow_add-n : goal.overflow_add-n
overflow_add-n c =
    omega (arith, c.loop-f.invariant.1, small _ _ c.from-n.ensures, c.requires.facilities_le_max_facilities)

pub loop-f-preserved : goal.loop-f-preserved
loop-f-preserved c = (
  held_next _ _ _ _ _ c.loop-f.invariant.0 (c.from-n.ensures ∙ is_bit _),
  omega (arith, c.loop-f.invariant.1, small _ _ c.from-n.ensures),
)

pub returns : goal.returns
returns c = held-end _ _ _ _ _ c.loop-f.invariant.0 (omega arith)
