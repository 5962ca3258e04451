-- `join::joined_model` meets its contract: the room it keeps suffices.
use Rattle.machine.specs.All.{ℕ, sym, ap, ◌∙◌, ◌++◌, drop, length-replicate, length-take-le}
use Rattle.join.proofs.Outputs.{model-left, model-copied, copy-room}
use Rattle.join_laws.specs.Whole.{kept_room}
use Rattle.join.proofs.joined_model.Goals as goal

pub returns-then-out-bytes : goal.returns-then-out-bytes
returns-then-out-bytes c =
    let both =
    model-left _ _ c.args.out.now _ _ c.model-bytes.ensures
    (length-replicate {A = ℕ} kept_room 0) c.requires c.if-out-bytes.true in
    record { value = both.0; stored = both.1 }

pub slice_bounds-room-end : goal.slice_bounds-room-end
slice_bounds-room-end c =
    (copy-room _ _ c.args.out.now _ _ c.model-bytes.ensures (length-replicate {A = ℕ} kept_room 0) c.requires c.if-out-bytes.false).0

pub slice_bounds-copy-end : goal.slice_bounds-copy-end
slice_bounds-copy-end c =
    let room = copy-room _ _ c.args.out.now _ _ c.model-bytes.ensures (length-replicate {A = ℕ} kept_room 0) c.requires
    c.if-out-bytes.false in
    sym (length-take-le _ c.model-bytes.new.out room.0)

pub slice_bounds-copy-end-3 : goal.slice_bounds-copy-end-3
slice_bounds-copy-end-3 c = sym (length-take-le _ c.args.out.now c.if-out-bytes.false)

pub copy-requires : goal.copy-requires
copy-requires c =
    let room = copy-room _ _ c.args.out.now _ _ c.model-bytes.ensures (length-replicate {A = ℕ} kept_room 0) c.requires
    c.if-out-bytes.false in
    length-take-le _ c.args.out.now c.if-out-bytes.false ∙ sym (length-take-le _ c.model-bytes.new.out room.0)

pub returns : goal.returns
returns c =
    let both =
    model-copied _ _
    c.args.out.now _ _
    c.model-bytes.ensures (length-replicate {A = ℕ} kept_room 0)
    c.requires _
    c.if-out-bytes.false
    (ap (λ l. l ++ drop c.model-bytes.result c.args.out.now) c.copy.ensures) in
    record { value = both.0; stored = both.1 }
