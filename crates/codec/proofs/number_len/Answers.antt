-- `codec::number_len` meets its contract: between two powers of 128 a number has one length.
use Rattle.machine.specs.All.{sym, arith}
use Rattle.codec.proofs.Numbers.{number_bytes-one, number_bytes_exact, number_bytes-nine}
use Rattle.codec.proofs.number_len.Goals as goal

pub returns-then-v-lt-END_1 : goal.returns-then-v-lt-END_1
returns-then-v-lt-END_1 c = sym (number_bytes-one _ c.if-v-lt-END_1.true)

pub returns-then-v-lt-END_2 : goal.returns-then-v-lt-END_2
returns-then-v-lt-END_2 c =
    sym (number_bytes_exact 1 _ (omega arith) c.if-v-lt-END_2.true (omega arith))

pub returns-then-v-lt-END_3 : goal.returns-then-v-lt-END_3
returns-then-v-lt-END_3 c =
    sym (number_bytes_exact 2 _ (omega arith) c.if-v-lt-END_3.true (omega arith))

pub returns-then-v-lt-END_4 : goal.returns-then-v-lt-END_4
returns-then-v-lt-END_4 c =
    sym (number_bytes_exact 3 _ (omega arith) c.if-v-lt-END_4.true (omega arith))

pub returns-then-v-lt-END_5 : goal.returns-then-v-lt-END_5
returns-then-v-lt-END_5 c =
    sym (number_bytes_exact 4 _ (omega arith) c.if-v-lt-END_5.true (omega arith))

pub returns-then-v-lt-END_6 : goal.returns-then-v-lt-END_6
returns-then-v-lt-END_6 c =
    sym (number_bytes_exact 5 _ (omega arith) c.if-v-lt-END_6.true (omega arith))

pub returns-then-v-lt-END_7 : goal.returns-then-v-lt-END_7
returns-then-v-lt-END_7 c =
    sym (number_bytes_exact 6 _ (omega arith) c.if-v-lt-END_7.true (omega arith))

pub returns-then-v-lt-END_8 : goal.returns-then-v-lt-END_8
returns-then-v-lt-END_8 c =
    sym (number_bytes_exact 7 _ (omega arith) c.if-v-lt-END_8.true (omega arith))

pub returns : goal.returns
returns c = sym (number_bytes-nine _ c.if-v-lt-END_8.false)
