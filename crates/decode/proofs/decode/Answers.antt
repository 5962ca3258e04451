-- `decode` meets its contract: the two lengths, the model and the tape, in the order of the questions.
use Rattle.machine.specs.All.{refl}
use Rattle.decode.proofs.Answers.{answer-passed, few-lists, few-rows, small-work, small-report, no-model, no-tape, all-answered}
use Rattle.decode.proofs.decode.Goals as goal

pub returns-then-work_len-lt-WORK_NUMBERS : goal.returns-then-work_len-lt-WORK_NUMBERS
returns-then-work_len-lt-WORK_NUMBERS c = small-work _ _ _ _ _ _ c.if-work_len-lt-WORK_NUMBERS.true

pub returns-then-report_len-lt-REPORT_ROOM : goal.returns-then-report_len-lt-REPORT_ROOM
returns-then-report_len-lt-REPORT_ROOM c =
    small-report _ _ _ _ _ _ c.if-work_len-lt-WORK_NUMBERS.false c.if-report_len-lt-REPORT_ROOM.true

pub whole_tape-requires : goal.whole_tape-requires
whole_tape-requires c = few-lists _ c.in_ok-m.ensures refl

pub watch-requires : goal.watch-requires
watch-requires c =
    let h = few-rows _ c.in_ok-m.ensures refl in
    record { blocks_le_max_blocks = h.0; values_le_max_values = h.1 }

pub returns-in_err-m : goal.returns-in_err-m
returns-in_err-m c =
    answer-passed _ _ _ _ _ _ c.from_residual.ensures.1
    (no-model _ _ _ _ _ _ c.if-work_len-lt-WORK_NUMBERS.false c.if-report_len-lt-REPORT_ROOM.false c.in_err-m.ensures refl)

pub returns-in_err-whole_tape : goal.returns-in_err-whole_tape
returns-in_err-whole_tape c =
    answer-passed _ _ _ _ _ _ c.from_residual-in_err-whole_tape.ensures.1
    (no-tape _ _ _ _ _ _ c.if-work_len-lt-WORK_NUMBERS.false c.if-report_len-lt-REPORT_ROOM.false c.in_ok-m.ensures refl
    c.in_err-whole_tape.ensures refl)

pub returns : goal.returns
returns c =
    all-answered _ _ _ _ _ _ c.if-work_len-lt-WORK_NUMBERS.false c.if-report_len-lt-REPORT_ROOM.false c.in_ok-m.ensures refl
    c.in_ok-whole_tape.ensures refl c.watch.ensures
