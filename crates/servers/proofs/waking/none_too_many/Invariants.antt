-- `none_too_many` meets its contract. The invariant: the blocks from here on tell it.
use Rattle.machine.specs.All.{◌-◌, ◌≡◌, max_blocks}
use Rattle.servers_laws.specs.Waking.{none_too_many}
use Rattle.servers.proofs.waking.none_too_many.Given as goal

abbrev pub invariant-loop-b : goal.invariant-loop-b
invariant-loop-b l = none_too_many (max_blocks - l.b) l.tables l.b l.v l.left ≡ none_too_many max_blocks l.tables 0 l.v l.left
