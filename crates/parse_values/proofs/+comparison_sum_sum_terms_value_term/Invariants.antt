-- The proof of the cycle of calls: a term, a comparison, a sum and its terms, each by its law of Steps.
-- The measure is 32 for each bracket that may open, and less than 32 for where reading stands between two brackets: after a
-- count of at most 8, a sum has its terms left, and a comparison its two.
use Rattle.machine.specs.All.{◌+◌, ◌*◌}
use Rattle.parse_values.proofs.+comparison_sum_sum_terms_value_term.Given as goal

abbrev pub decreases-comparison : goal.decreases-comparison
decreases-comparison l = l.depth * 32 + 1

abbrev pub decreases-sum : goal.decreases-sum
decreases-sum l = l.depth * 32 + 20

abbrev pub decreases-sum_terms : goal.decreases-sum_terms
decreases-sum_terms l = l.depth * 32 + 1 + l.left

abbrev pub decreases-value_term : goal.decreases-value_term
decreases-value_term l = l.depth * 32
