-- The proof of the cycle of calls: sums and terms call each other. The measure is one number for value number, bracket depth and
-- remaining terms: a mention goes to a lower value, a comparison or a bracket one level deeper, a sum to its next term.
use Rattle.machine.specs.All.{ℕ, ◌+◌, ◌*◌}
use Rattle.evaluation.proofs.view.View.+comparison_sum_term_value.Given as goal

-- a value number is worth five levels, more than the brackets; a level more than the terms of a sum, below 2 to the 32
abbrev level : ℕ → ℕ → ℕ
level lower depth = 85899345920 * lower + 17179869184 * depth

abbrev pub decreases-comparison : goal.decreases-comparison
decreases-comparison l = level l.lower l.depth + 3

abbrev pub decreases-sum : goal.decreases-sum
decreases-sum l = level l.lower l.depth + (3 + l.left)

abbrev pub decreases-term : goal.decreases-term
decreases-term l = level l.lower l.depth + 2

abbrev pub decreases-value : goal.decreases-value
decreases-value l = level l.lower 0
