-- `join::pair` meets its contract: 61, 62, or both outputs.
use Rattle.machine.specs.All.{length, refl, sym, ◌∙◌, leb-true, rules}
use Rattle.join.proofs.Outputs.{sum_fits, not-joinable, no-tape-room, no-model-room, both-written}
use Rattle.join.proofs.pair.Goals as goal

pub returns-then-not-may_join : goal.returns-then-not-may_join
returns-then-not-may_join c =
    let with = c.args in
    let a = with.first.now in
    let b = with.second.now in
    not-joinable a.tables.now a.model b.tables.now b.model with.tape1.now with.tape2.now with.out_model.now
    with.out_tape.now
    (sym c.may_join.ensures ∙ c.if-not-may_join.true)

pub returns-then-not-room_for : goal.returns-then-not-room_for
returns-then-not-room_for c =
    let with = c.args in
    let a = with.first.now in
    let b = with.second.now in
    no-tape-room a.tables.now a.model b.tables.now b.model with.tape1.now with.tape2.now with.out_model.now
    with.out_tape.now
    (sym c.may_join.ensures ∙ c.if-not-may_join.false)
    (sym c.room_for.ensures ∙ c.if-not-room_for.true)

pub joined_model-bytes-requires : goal.joined_model-bytes-requires
joined_model-bytes-requires c =
    let with = c.args in
    let a = with.first.now in
    let b = with.second.now in
    let ready = c.requires in
    let may =
    sym c.may_join.ensures ∙ c.if-not-may_join.false in
    ready.room a.whole b.whole may

pub returns-then-out_model-bytes : goal.returns-then-out_model-bytes
returns-then-out_model-bytes c =
    let with = c.args in
    let a = with.first.now in
    let b = with.second.now in
    no-model-room a.tables.now a.model b.tables.now b.model with.tape1.now with.tape2.now
    with.out_model.now with.out_tape.now
    (sym c.may_join.ensures ∙ c.if-not-may_join.false)
    _ c.joined_model-bytes.ensures.stored _ c.joined_model-bytes.ensures.value c.if-out_model-bytes.true

pub end_to_end-requires : goal.end_to_end-requires
end_to_end-requires c =
    leb-true _
    (length
    c.args.out_tape.now) (sym c.room_for.ensures ∙ c.if-not-room_for.false)

pub overflow_add-result : goal.overflow_add-result
overflow_add-result c =
    let with = c.args in
    record {
      fits = sum_fits with.tape1.now with.tape2.now (length with.out_tape.now)
          (sym c.room_for.ensures
          ∙ c.if-not-room_for.false)
          (search rules);
    }

pub returns : goal.returns
returns c =
    let with = c.args in
    let a = with.first.now in
    let b = with.second.now in
    both-written a.tables.now a.model b.tables.now b.model with.tape1.now with.tape2.now with.out_model.now
    with.out_tape.now
    (sym c.may_join.ensures ∙ c.if-not-may_join.false)
    _ c.joined_model-bytes.ensures.stored _ _ _
    c.joined_model-bytes.ensures.value c.if-out_model-bytes.false
    (sym c.room_for.ensures
    ∙ c.if-not-room_for.false) refl
    c.end_to_end.ensures
