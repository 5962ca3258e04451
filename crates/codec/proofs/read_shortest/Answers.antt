-- `codec::read_shortest` meets its contract: no byte there, an empty first group, or what the groups give.
use Rattle.machine.specs.All.{◌<◌, ◌≤◌, ◌≡◌, length, get_or, sym, ◌∙◌, arith}
use Rattle.std.proofs.lemmas.Grind.{get_or_default_zero}
use Rattle.codec.proofs.Answers.{read_past, read-padded, read_unpadded}
use Rattle.codec.proofs.read_shortest.Goals as goal

pub returns-in_err-get : goal.returns-in_err-get
returns-in_err-get c =
    let past : length c.args.s.now ≤ c.args.at = omega (arith, c.in_err-get.ensures.lookup) in
    c.from_residual.ensures ∙ read_past _ _ _ _ past

pub returns-then-branch : goal.returns-then-branch
returns-then-branch c =
    let here : c.args.at < length c.args.s.now = omega (arith, c.in_ok-get.ensures.lookup) in
    let byte : c.in_ok-get.field-0.now ≡ get_or c.args.s.now c.args.at 0 =
    c.in_ok-get.ensures.lookup.1 ∙ get_or_default_zero _ _ _ here in
    read-padded _ _ _ _ here (sym byte ∙ c.if-branch.true)

pub returns : goal.returns
returns c =
    let here : c.args.at < length c.args.s.now = omega (arith, c.in_ok-get.ensures.lookup) in
    let byte : c.in_ok-get.field-0.now ≡ get_or c.args.s.now c.args.at 0 =
    c.in_ok-get.ensures.lookup.1 ∙ get_or_default_zero _ _ _ here in
    c.read_groups.ensures ∙ read_unpadded _ _ _ _ here (λ e. c.if-branch.false (byte ∙ e))
