-- `join::nested::item` meets its contract.
use Rattle.machine.specs.All.{ap, ◌∙◌}
use Rattle.codec.specs.Writing.{put, written}
use Rattle.join_laws.proofs.RowSteps.{item-whole}
use Rattle.join.proofs.nested.item.Goals as goal

pub returns : goal.returns
returns c =
    item-whole _ _ _ _ _ _ _ _ _ _
    c.sign-a.ensures
    c.number-tag.ensures
    c.emit-b.ensures c.number.ensures
    (c.emit.ensures ∙ ap (λ n. put n (written c.emit-b.result c.emit-b.new.out)) (c.of.ensures c.args.by c.number.result))
