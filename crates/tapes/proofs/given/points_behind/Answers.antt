-- `tapes::points_behind` meets its contract.
use Rattle.machine.specs.All.{ℕ, arith, ◌≡◌, ap, ◌-◌, ◌+◌, sym, ◌∙◌, rules}
use Rattle.tapes_laws.specs.{Given.points_behind, Answers.is_given}
use Rattle.tapes_laws.proofs.Curves.{behind-stops, behind-goes, behind-ends}
use Rattle.tapes.proofs.given.points_behind.Goals as goal

pub loop-init : goal.loop-init
loop-init c =
    let all : c.args.count - 0 ≡ c.args.count = omega arith in
    ap (λ (n : ℕ). is_given (points_behind c.args.numbers.now n c.args.start c.args.first)) all

pub returns-in_default : goal.returns-in_default
returns-in_default c = behind-stops _ _ _ _ (sym c.next_point.ensures.result_value ∙ (search rules)) (omega arith) ∙ c.loop.invariant

pub loop-preserved : goal.loop-preserved
loop-preserved c =
    let less : c.args.count - (c.loop.counter + 1) ≡ c.args.count - c.loop.counter - 1 = omega arith in
    rw less (behind-goes _ _ _ _ _ (sym c.next_point.ensures.result_value ∙ c.in-Some.is) (omega arith)) ∙ c.loop.invariant

pub returns : goal.returns
returns c = behind-ends _ _ _ c.loop.last (omega arith) ∙ c.loop.invariant
