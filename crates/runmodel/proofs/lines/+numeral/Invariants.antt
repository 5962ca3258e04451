-- One digit fewer is asked for each time.
use Rattle.runmodel.proofs.lines.+numeral.Given as goal

abbrev pub decreases-numeral : goal.decreases-numeral
decreases-numeral l = l.most
