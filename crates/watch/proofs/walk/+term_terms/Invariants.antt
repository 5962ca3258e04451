-- The proof of the cycle of calls: a term and the terms of a bracket call each other. The measure: brackets that may open, then terms left.
use Rattle.machine.specs.All.{◌+◌, ◌*◌, ℕ}
use Rattle.watch.proofs.walk.+term_terms.Given as goal

abbrev level : ℕ → ℕ
level depth = 8589934592 * depth

abbrev pub decreases-term : goal.decreases-term
decreases-term l = level l.depth + 1

abbrev pub decreases-terms : goal.decreases-terms
decreases-terms l = level l.depth + (2 + l.left)
