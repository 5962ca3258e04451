-- Document 01, Examples, "2,147,483,647 + 1 is -2,147,483,648", by computation.
use Rattle.machine.specs.All.{[], ◌∷◌, ◌≡◌, refl, signed, low32, wrap, View, constant, value, nothing, plus, term, worths, evaluate}
use Rattle.std.proofs.Common.{pos, negsuc, ◌+ℤ◌, ◌-ℤ◌}

pub wraps-up : wrap (pos 2147483647 +ℤ pos 1) ≡ negsuc 2147483647
unfolding wrap signed low32
wraps-up = refl

pub wraps-down : wrap (negsuc 2147483647 -ℤ pos 1) ≡ pos 2147483647
unfolding wrap signed low32
wraps-down = refl

-- the same as a value that a block names
pub value_wraps : (w : View) → evaluate (plus (constant 2147483647) (plus (constant 1) nothing) ∷ []) w [] (value 1) ≡ negsuc 2147483647
unfolding evaluate worths term wrap signed low32
value_wraps w = refl
