-- A count over some ticks: the product has 64 bits, and is the product where the count is as in a run.
use Rattle.machine.specs.All.{ℕ, ◌*◌, ◌<◌, ◌≤◌, ◌≡◌, mul-le-mul_left, arith, lt-ltb}
use Rattle.state.specs.All.{count_end, most_ticks, product}

-- the bounds are chosen so that no product of a count and ticks wraps
pub product-fits : (a b : ℕ) → a < count_end → b ≤ most_ticks → a * b < 18446744073709551616
product-fits a b ha hb =
    let x : a * b ≤ a * most_ticks = mul-le-mul_left a hb in
    omega (arith, x)

pub product_is : (a b : ℕ) → a < count_end → product a b ≡ a * b
unfolding product
product_is a b h = rw (lt-ltb a count_end h)
