-- The proof of `join::nested::items`, which calls itself: how many brackets may open falls, or how many terms are left.
use Rattle.machine.specs.All.{◌+◌, ◌*◌}
use Rattle.join.proofs.nested.+items.Given as goal

abbrev pub decreases-items : goal.decreases-items
decreases-items l = l.depth * 4294967296 + l.left
