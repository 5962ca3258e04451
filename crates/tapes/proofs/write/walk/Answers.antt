-- `tapes::walk` meets its contract.
use Rattle.tapes_laws.proofs.Walks.{lists-go, lists-over}
use Rattle.tapes.proofs.write.walk.Goals as goal

pub loop-row-init : goal.loop-row-init
loop-row-init g c ls held next behind taken = taken

pub loop-row-preserved : goal.loop-row-preserved
loop-row-preserved g c ls held =
    lists-go _ _ _ ls _ _ _ _ _ _ _ _ _ _ _ _ _ held c.loop-row-test.true (c.loop-row.invariant ls held) c.put-behind.ensures
    c.walk_times-p.ensures

pub returns : goal.returns
returns g c ls held = lists-over _ _ _ ls _ _ _ _ _ _ _ held c.loop-row-test.false (c.loop-row.invariant ls held)
