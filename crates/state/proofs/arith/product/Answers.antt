-- `product` meets its contract: the factors are so small that the product fits.
use Rattle.machine.specs.All.{lt-ltb, le-ltb, arith}
use Rattle.state.specs.All.{product}
use Rattle.state.proofs.Products.{product-fits}
use Rattle.state.proofs.arith.product.Goals as goal

pub returns-then-a-ge-COUNT_END : goal.returns-then-a-ge-COUNT_END
unfolding product
returns-then-a-ge-COUNT_END c = rw (le-ltb _ _ c.if-a-ge-COUNT_END.true)

pub overflow_mul-result : goal.overflow_mul-result
overflow_mul-result c = record { fits = product-fits _ _ (omega arith) (omega arith) }

pub returns : goal.returns
unfolding product
returns c = rw (lt-ltb _ _ c.if-a-ge-COUNT_END.false)
