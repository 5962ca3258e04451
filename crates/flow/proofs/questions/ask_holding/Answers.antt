-- `ask_holding` meets its contract: by cases on the residue's count, then on the number's.
use Rattle.machine.specs.All.{lt-ltb, le-ltb, eq-eqb, ne_eqb}
use Rattle.layout.specs.All.{tally_size}
use Rattle.flow_laws.specs.Questions.{ask_holding}
use Rattle.flow.proofs.questions.ask_holding.Goals as goal

pub returns-then-tally-lt-TALLY : goal.returns-then-tally-lt-TALLY
unfolding ask_holding
returns-then-tally-lt-TALLY c = rw (lt-ltb _ tally_size c.if-tally-lt-TALLY.true)

pub returns-then-tally-number-eq0 : goal.returns-then-tally-number-eq0
unfolding ask_holding
returns-then-tally-number-eq0 c = rw (le-ltb _ tally_size c.if-tally-lt-TALLY.false, eq-eqb _ 0 c.if-tally-number-eq0.true)

pub returns-then-held-eq0 : goal.returns-then-held-eq0
unfolding ask_holding
returns-then-held-eq0 c =
    rw (le-ltb _ tally_size c.if-tally-lt-TALLY.false, ne_eqb _ 0 c.if-tally-number-eq0.false, ← c.held.ensures, eq-eqb _ 0 c.if-held-eq0.true)

pub returns : goal.returns
unfolding ask_holding
returns c =
    rw (le-ltb _ tally_size c.if-tally-lt-TALLY.false, ne_eqb _ 0 c.if-tally-number-eq0.false, ← c.held.ensures, ne_eqb _ 0 c.if-held-eq0.false)
