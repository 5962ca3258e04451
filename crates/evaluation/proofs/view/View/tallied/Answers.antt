-- `view::View::tallied` meets its contract.
use Rattle.machine.specs.All.{◌∙◌, ap, ◌≡◌, ◌+◌, ◌-◌, arith, take, drop, get_or}
use Rattle.evaluation.proofs.Parts.{part-at}
use Rattle.evaluation.proofs.view.View.tallied.Goals as goal

pub returns : goal.returns
returns c =
    let size : c.args.begin + c.args.size - c.args.begin ≡ c.args.size = omega arith in
    c.count.ensures
    ∙ ap (λ n. get_or (take n (drop c.args.begin c.args.self.now.tally.now)) c.args.n 0) size
    ∙ part-at _ _ _ _
