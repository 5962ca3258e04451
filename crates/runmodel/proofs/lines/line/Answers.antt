-- The letters, then the numbers.
use Rattle.runmodel.proofs.Stored.{line-stored}
use Rattle.runmodel.proofs.lines.line.Goals as goal

pub returns : goal.returns
returns c =
    let numbers = c.numerals.ensures in
    let whole = line-stored _ _ _ _ _ _ c.requires c.spell.ensures (numbers.value, numbers.out_after) in
    record { within = whole.0; value = whole.1.0; out_after = whole.1.1 }
