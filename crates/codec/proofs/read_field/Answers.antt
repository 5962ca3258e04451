-- `codec::read_field` meets its contract: the answer of `read_number`, then the two tests of the range.
use Rattle.machine.specs.All.{◌≡◌, ◌+◌, suc, arith, rules}
use Rattle.std.specs.Prelude.{Some}
use Rattle.codec.specs.{numbered}
use Rattle.codec.proofs.Answers.{field-unread, field-low, field-high, field-within}
use Rattle.codec.proofs.read_field.Goals as goal
use Rattle.codec.proofs.read_field.Goals.{then-v-lo-via-then-v-lo, then-v-lo-via-else-v-lo+then-hi-v}

pub returns-in_default-clause-by_index : goal.returns-in_default-clause-by_index
unfolding numbered
returns-in_default-clause-by_index c = λ numbers mentions.
    field-unread _ _ _ _ _ _ numbers mentions _ c.read_number.ensures.result_value (search rules)

pub returns-then-v-lo-clause-by_index : goal.returns-then-v-lo-clause-by_index
unfolding numbered
returns-then-v-lo-clause-by_index c = λ numbers mentions.
    let read : c.read_number.result ≡ Some (c.in-Some.v, c.in-Some.next) = c.in-Some.is in
    let after : c.args.code + 1 ≡ suc c.args.code = omega arith in
    rw after
    (elim c.then-v-lo.branch [
      | then-v-lo-via-then-v-lo w ↦ field-low _ _ _ _ _ _ numbers mentions _ c.read_number.ensures.result_value _ _ read w.if-v-lo.true
      | then-v-lo-via-else-v-lo+then-hi-v w ↦
          field-high _ _ _ _ _ _ numbers mentions _ c.read_number.ensures.result_value _ _ read w.if-v-lo.false w.if-hi-v.true
    ])

pub returns-clause-by_index : goal.returns-clause-by_index
unfolding numbered
returns-clause-by_index c = λ numbers mentions.
    let read : c.read_number.result ≡ Some (c.in-Some.v, c.in-Some.next) = c.in-Some.is in
    let inside = c.read_number.ensures.inside _ _ read in
    field-within _ _ _ _ _ _ numbers mentions _ c.read_number.ensures.result_value _ _ read c.if-v-lo.false c.if-hi-v.false inside.1
