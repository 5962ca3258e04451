-- `tapes::make_from` meets its contract: the questions in their order, then the tape.
use Rattle.machine.specs.All.{arith, sym, ◌∙◌, eqb-true, eq-eqb}
use Rattle.tapes_laws.proofs.Making.{uneven, seventeenth, in-fours, answer-42, answer-43, answer-made}
use Rattle.tapes.proofs.make_from.Goals as goal

pub returns-then-not-is_empty : goal.returns-then-not-is_empty
returns-then-not-is_empty c =
    answer-42 _ _ _
    (uneven _ _ (λ e. let both = c.if-not-is_empty.ensures ∙ eq-eqb _ 0 (c.as_chunks.ensures.back_len ∙ e) in cc))

pub returns-then-fours-gt-MOST_LISTS : goal.returns-then-fours-gt-MOST_LISTS
returns-then-fours-gt-MOST_LISTS c =
    let even = sym c.as_chunks.ensures.back_len ∙ eqb-true _ _ (sym c.if-not-is_empty.ensures) in
    answer-42 _ _ _ (seventeenth _ _ even (omega (arith, c.as_chunks.ensures.front_len)))

pub returns-in_default : goal.returns-in_default
returns-in_default c =
    let even = sym c.as_chunks.ensures.back_len ∙ eqb-true _ _ (sym c.if-not-is_empty.ensures) in
    answer-42 _ _ _ (in-fours _ _ even (omega (arith, c.as_chunks.ensures.front_len)) _ c.as_chunks.ensures.front ∙ c.in_default.ensures)

pub returns-then-tape-bytes : goal.returns-then-tape-bytes
returns-then-tape-bytes c =
    let even = sym c.as_chunks.ensures.back_len ∙ eqb-true _ _ (sym c.if-not-is_empty.ensures) in
    let all = in-fours _ _ even (omega (arith, c.as_chunks.ensures.front_len)) _ c.as_chunks.ensures.front in
    let filled = c.in-Some.ensures in
    answer-43 _ _ _ filled.lists (all ∙ filled.is) _ (c.measure-bytes.ensures filled.lists filled.held) c.if-tape-bytes.true

pub returns : goal.returns
returns c =
    let even = sym c.as_chunks.ensures.back_len ∙ eqb-true _ _ (sym c.if-not-is_empty.ensures) in
    let all = in-fours _ _ even (omega (arith, c.as_chunks.ensures.front_len)) _ c.as_chunks.ensures.front in
    let filled = c.in-Some.ensures in
    let total = c.measure-bytes.ensures filled.lists filled.held in
    answer-made _ _ _ filled.lists (all ∙ filled.is) _ total c.if-tape-bytes.false (omega arith) _
    (c.write.ensures filled.lists filled.held (omega (arith, total, c.if-tape-bytes.false)))
