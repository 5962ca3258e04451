-- What is left of the letters.
use Rattle.std.proofs.Common.{◌-◌, length}
use Rattle.runmodel.proofs.lines.+spell.Given as goal

abbrev pub decreases-spell : goal.decreases-spell
decreases-spell l = length l.letters.now - l.i
