-- `block` meets its contract: a kind and its operands.
use Rattle.machine.specs.All.{[], ◌∷◌, ◌+◌, ◌*◌, ◌≡◌, refl, ap, ◌∙◌, arith}
use Rattle.parse_values.proofs.Binds.{stores-passed}
use Rattle.program.specs.{capacities_of}
use Rattle.program.proofs.KindNumbers.{kind_found}
use Rattle.program.proofs.Steps.{block-stop, block-kept, capacities-kept}
use Rattle.program.proofs.block.Goals as goal

pub returns-in_err-n : goal.returns-in_err-n
returns-in_err-n c =
    let z : 0 + 8 * c.args.b ≡ 8 * c.args.b = omega arith in
    rw z (stores-passed c.from_residual.ensures.1 (block-stop _ _ _ c.in_err-n.ensures.takes _ refl))

pub unwrap-kind-requires : goal.unwrap-kind-requires
unwrap-kind-requires c =
    let r = c.in_ok-n.ensures.range _ _ refl in kind_found _ r.0 r.1 _ c.of.ensures

pub returns : goal.returns
returns c =
    let z : 0 + 8 * c.args.b ≡ 8 * c.args.b = omega arith in
    let named = rw c.unwrap-kind.ensures at c.of.ensures in
    rw z
    (block-kept _ _ _ c.in_ok-n.ensures.takes refl
    (λ cells. rw (
      named,
      ap (capacities_of c.args.m) cells
          ∙ capacities-kept c.args.m (c.in_ok-n.n ∷ []) c.args.tables.now _ (omega arith),
    ) at c.operands.ensures))
