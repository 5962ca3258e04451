-- `codec::store_number` meets its contract. The loop's invariant: with the groups that are left to store, the bytes are
-- those of the whole number; there are as many groups as `left`. The measure is `left`.
use Rattle.machine.specs.All.{refl, ◌∙◌, arith, length-set}
use Rattle.codec.proofs.Numbers.{number_bytes-positive}
use Rattle.codec.proofs.Stores.{store-start, store-whole, store-fewer, store_step, store-done}
use Rattle.codec.proofs.store_number.Goals as goal

pub overflow_sub-left : goal.overflow_sub-left
overflow_sub-left c = omega (arith, number_bytes-positive c.args.v)

pub bounds-out-at : goal.bounds-out-at
bounds-out-at c = omega (arith, number_bytes-positive c.args.v)

pub loop-left-init : goal.loop-left-init
loop-left-init c = (refl, omega arith, rw c.requires.0 (store-start _), refl)

pub overflow_add-out-in-loop-left-2 : goal.overflow_add-out-in-loop-left-2
overflow_add-out-in-loop-left-2 c =
    omega (
      arith,
      simp length-set at c.loop-left.invariant.0,
      c.loop-left.invariant.1,
      number_bytes-positive c.args.v,
      c.requires,
    )

pub bounds-out-at-in-loop-left : goal.bounds-out-at-in-loop-left
bounds-out-at-in-loop-left c =
    omega (
      arith,
      simp length-set at c.loop-left.invariant.0,
      c.loop-left.invariant.1,
      number_bytes-positive c.args.v,
      c.requires,
    )

pub loop-left-preserved : goal.loop-left-preserved
loop-left-preserved c = let w = c.loop-left.invariant in (
  simp length-set (simp length-set at w.0),
  omega arith,
  store-fewer _ _ c.loop-left-test.true w.2,
  store_step _ _ c.loop-left-test.true w.2 _ _ ∙ w.3,
)

pub shape_of-out : goal.shape_of-out
shape_of-out c = c.loop-left.invariant.0 ∙ simp length-set

pub returns : goal.returns
returns c =
    store-done _ _ _ _ c.loop-left-test.false ∙ c.loop-left.invariant.3 ∙ rw c.requires.0 (store-whole _ _ _)
