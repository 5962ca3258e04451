-- A space if numbers follow, else the line feed.
use Rattle.runmodel.proofs.Stored.{behind_more, behind-last}
use Rattle.runmodel.proofs.lines.behind.Goals as goal

pub returns-then-i-numbers : goal.returns-then-i-numbers
returns-then-i-numbers c = behind_more _ _ c.if-i-numbers.true

pub returns-else-i-numbers : goal.returns-else-i-numbers
returns-else-i-numbers c = behind-last _ _ c.if-i-numbers.false
