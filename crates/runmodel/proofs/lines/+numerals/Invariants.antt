-- What is left of the numbers.
use Rattle.std.proofs.Common.{◌-◌, length}
use Rattle.runmodel.proofs.lines.+numerals.Given as goal

abbrev pub decreases-numerals : goal.decreases-numerals
decreases-numerals l = length l.numbers.now - l.i
