-- `view::View::simple_term` meets its contract: each arm is its line of the definition.
use Rattle.machine.specs.All.{◌∙◌, ◌≤◌, ne_eqb, arith}
use Rattle.layout.specs.Tags.{tag_number}
use Rattle.evaluation.specs.{simple_term}
use Rattle.evaluation.proofs.Parts.{from-eight}
use Rattle.evaluation.proofs.Signs.{back, cast-signed-is}
use Rattle.evaluation.proofs.view.View.simple_term.Goals as goal

pub returns-in-Constant : goal.returns-in-Constant
unfolding simple_term
returns-in-Constant c = rw c.in-Constant.is (cc (back _ c.small.type_inv, c.small.ensures, c.from.ensures))

pub returns-in-MinusConstant : goal.returns-in-MinusConstant
unfolding simple_term
returns-in-MinusConstant c = rw c.in-MinusConstant.is (cc (back _ c.minus.type_inv, c.minus.ensures, c.from-in-MinusConstant.ensures))

pub returns-in-Parameter : goal.returns-in-Parameter
unfolding simple_term
returns-in-Parameter c = rw c.in-Parameter.is (cc (back _ c.cast_signed.type_inv, c.cast_signed.ensures, cast-signed-is _ c.number.type_inv, c.number.ensures))

pub returns-in-Clock : goal.returns-in-Clock
unfolding simple_term
returns-in-Clock c = rw c.in-Clock.is (back _ c.low_signed.type_inv ∙ c.low_signed.ensures)

pub returns-in-Entries : goal.returns-in-Entries
unfolding simple_term
returns-in-Entries c = rw c.in-Entries.is (cc (back _ c.small-in-Entries.type_inv, c.small-in-Entries.ensures, c.tallied.ensures))

pub returns-in-Content : goal.returns-in-Content
unfolding simple_term
returns-in-Content c = rw c.in-Content.is (cc (back _ c.small-in-Content.type_inv, c.small-in-Content.ensures, c.tallied-in-Content.ensures))

pub returns-in-UnitsInUse : goal.returns-in-UnitsInUse
unfolding simple_term
returns-in-UnitsInUse c = rw c.in-UnitsInUse.is (cc (back _ c.small-in-UnitsInUse.type_inv, c.small-in-UnitsInUse.ensures, c.tallied-in-UnitsInUse.ensures))

pub returns-in-UnitsFree : goal.returns-in-UnitsFree
unfolding simple_term
returns-in-UnitsFree c = rw c.in-UnitsFree.is (cc (back _ c.small-in-UnitsFree.type_inv, c.small-in-UnitsFree.ensures, c.free.ensures))

pub returns-in_default : goal.returns-in_default
unfolding simple_term
returns-in_default c =
    let w = c.in_default in
    let h : 8 ≤ tag_number c.args.tag =
    from-eight _ w.not-Constant w.not-MinusConstant w.not-Parameter w.not-Clock w.not-Entries w.not-Content w.not-UnitsInUse
    w.not-UnitsFree in
    rw (
      ne_eqb (tag_number c.args.tag) 0 (λ e. omega arith),
      ne_eqb (tag_number c.args.tag) 1 (λ e. omega arith),
      ne_eqb (tag_number c.args.tag) 2 (λ e. omega arith),
      ne_eqb (tag_number c.args.tag) 3 (λ e. omega arith),
      ne_eqb (tag_number c.args.tag) 4 (λ e. omega arith),
      ne_eqb (tag_number c.args.tag) 5 (λ e. omega arith),
      ne_eqb (tag_number c.args.tag) 6 (λ e. omega arith),
      ne_eqb (tag_number c.args.tag) 7 (λ e. omega arith),
    )
    (back _ c.in_use.type_inv ∙ c.in_use.ensures)
