-- What holds before a block. The law of every kind takes this one argument, and says that its row definition leaves what the machine's
-- block does (`KIND-done`, `kindRows`).
use Rattle.machine.specs.All.{ℕ, ◌*◌, ◌-◌, ◌≡◌, List, some, Transaction, Block, BlockModel, block_at, State, question}
use Rattle.machine.proofs.Decoding.Proper.{Proper}
use Rattle.layout.specs.All.{block_width, Represents}
use Rattle.evaluation.specs.Nested.{Nested}
use Rattle.state.specs.declared.scalars.Scalars.{Scalars}
use Rattle.state.specs.All.{Bare, bare_answer, Listing, Tallying, Counting}
use Rattle.state.proofs.Sane.{Sane}

-- where the block of t stands in the tables
abbrev pub place_of : Transaction → ℕ
place_of t = block_width * (t.next - 1)

-- what the machine's block does, its question asked first, apart from its record
abbrev pub bare_block : BlockModel → Block → Transaction → State → Bare
bare_block m b t s = bare_answer (question m b t s) m b t s

-- t moves in state s and stands before block b; work buffer, tally and scalars stand for s
pub record Before (m : BlockModel) (tape : List (List ℕ)) (tape_bytes tables lists w tally : List ℕ) (x : Scalars)
    (t : Transaction) (s : State) (b : Block) : Type 0 where
  pub proper : Proper m tape
  pub rep : Represents m tape tape_bytes tables lists
  pub nested : Nested m
  pub sane : Sane m s
  pub moving : s.moving ≡ some t
  pub is : block_at m t.next ≡ b
  pub listing : Listing w x.moving (some t) s
  pub tallying : Tallying tape_bytes tally s
  pub counting : Counting x s
