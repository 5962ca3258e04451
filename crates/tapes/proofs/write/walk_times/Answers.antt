-- `tapes::walk_times` meets its contract.
use Rattle.machine.specs.All.{arith, ◌≡◌, ◌-◌, ◌+◌, refl, sym, ◌∙◌}
use Rattle.tapes_laws.proofs.Walks.{times-go, times-over, state-go, state-over}
use Rattle.tapes.proofs.write.walk_times.Goals as goal

pub loop-init : goal.loop-init
loop-init g c = (
  refl,
  λ s meant. let all : c.args.row.count - 0 ≡ c.args.row.count = omega arith in rw all (λ next behind taken. taken, refl),
)

pub loop-preserved : goal.loop-preserved
loop-preserved g c = (
  refl,
  λ s meant.
      let drawn = c.draw-x.ensures s meant in
      let less : c.args.row.count - (c.loop.counter + 1) ≡ c.args.row.count - c.loop.counter - 1 = omega arith in
      rw less (
        times-go _ s _ _ _ _ _ _ _ _ _ _ _ (omega arith) (c.loop.invariant.1 s meant).0 drawn.0 drawn.1 c.put-at.ensures,
        state-go s _ _ _ (omega arith) drawn.1 ∙ (c.loop.invariant.1 s meant).1,
      ),
)

pub returns : goal.returns
returns g c s meant = (
  times-over _ s _ _ _ _ _ _ _ (omega arith) (c.loop.invariant.1 s meant).0,
  sym (state-over s _ _ (omega arith)) ∙ (c.loop.invariant.1 s meant).1,
)
