-- `codec::put_number` meets its contract: each length has its own stores.
use Rattle.machine.specs.All.{sym, arith}
use Rattle.codec.proofs.Numbers.{number_bytes-one, number_bytes_exact}
use Rattle.codec.proofs.put_number.Goals as goal

pub store_number-requires : goal.store_number-requires
store_number-requires c =
    let e = number_bytes-one _ c.if-v-lt-END_1.true in (sym e, omega arith)

pub returns-then-v-lt-END_1 : goal.returns-then-v-lt-END_1
returns-then-v-lt-END_1 c =
    let e = number_bytes-one _ c.if-v-lt-END_1.true in record {
      position = omega arith;
      bytes = c.store_number.ensures;
    }

pub store_number-requires-then-v-lt-END_2 : goal.store_number-requires-then-v-lt-END_2
store_number-requires-then-v-lt-END_2 c =
    let e = number_bytes_exact 1 _ (omega arith) c.if-v-lt-END_2.true (omega arith) in (sym e, omega arith)

pub returns-then-v-lt-END_2 : goal.returns-then-v-lt-END_2
returns-then-v-lt-END_2 c =
    let e = number_bytes_exact 1 _ (omega arith) c.if-v-lt-END_2.true (omega arith) in
    record {
      position = omega arith;
      bytes = c.store_number-then-v-lt-END_2.ensures;
    }

pub store_number-requires-then-v-lt-END_3 : goal.store_number-requires-then-v-lt-END_3
store_number-requires-then-v-lt-END_3 c =
    let e = number_bytes_exact 2 _ (omega arith) c.if-v-lt-END_3.true (omega arith) in (sym e, omega arith)

pub returns-then-v-lt-END_3 : goal.returns-then-v-lt-END_3
returns-then-v-lt-END_3 c =
    let e = number_bytes_exact 2 _ (omega arith) c.if-v-lt-END_3.true (omega arith) in
    record { position = omega arith; bytes = c.store_number-then-v-lt-END_3.ensures }

pub store_number-requires-then-v-lt-END_4 : goal.store_number-requires-then-v-lt-END_4
store_number-requires-then-v-lt-END_4 c =
    let e = number_bytes_exact 3 _ (omega arith) c.if-v-lt-END_4.true (omega arith) in (sym e, omega arith)

pub returns-then-v-lt-END_4 : goal.returns-then-v-lt-END_4
returns-then-v-lt-END_4 c =
    let e = number_bytes_exact 3 _ (omega arith) c.if-v-lt-END_4.true (omega arith) in
    record {
      position = omega arith;
      bytes = c.store_number-then-v-lt-END_4.ensures;
    }

pub store_number-requires-2 : goal.store_number-requires-2
store_number-requires-2 c =
    let e = number_bytes_exact 4 c.args.v (omega arith) (omega arith) (omega arith) in (sym e, omega arith)

pub returns : goal.returns
returns c =
    let e = number_bytes_exact 4 c.args.v (omega arith) (omega arith) (omega arith) in
    record {
      position = omega arith;
      bytes = c.store_number-2.ensures;
    }
