-- `Reader::next` meets its contract: the answer is that at the position, and the position kept is the one behind it.
use Rattle.machine.specs.All.{ℕ, ◌∙◌, ap}
use Rattle.reader.specs.Position.{position_behind, position_after, by-paper, moved}
use Rattle.constants.specs.Numbers.{refusal_number}
use Rattle.reader.proofs.Reader.next.Goals as goal

pub returns : goal.returns
unfolding moved position_after
returns c =
    let r = c.args.self.now in (
      c.read_record-x.ensures,
      ap (λ (at : ℕ). record { bytes = r.bytes; at = at })
          (c.behind-self.ensures refusal_number ∙ ap (position_behind r.at) (by-paper _ ∙ c.read_record-x.ensures)),
    )
