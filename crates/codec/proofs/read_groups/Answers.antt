-- `codec::read_groups` meets its contract. The loop's invariant: the answer is that of the groups still to come at `next`
-- behind `value`, and `value` leaves room for them.
use Rattle.machine.specs.All.{suc, ◌+◌, ◌-◌, ◌<◌, ◌≤◌, ◌≡◌, length, get_or, refl, sym, ◌∙◌, arith}
use Rattle.std.proofs.lemmas.Grind.{get_or_default_zero}
use Rattle.codec.proofs.Steps.{read-end, read-limit, read-last, read_more, room-start, room-step, room_fits}
use Rattle.codec.proofs.read_groups.Goals as goal

pub loop-init : goal.loop-init
loop-init c =
    let all : c.args.limit - 0 ≡ c.args.limit = omega arith in
    rw all (room-start _ c.requires, refl)

pub returns-in_err-get : goal.returns-in_err-get
returns-in_err-get c =
    let past : length c.args.s.now ≤ c.loop.next = omega (arith, c.in_err-get.ensures.lookup) in
    cc (read-end _ _ _ _ _ past, c.loop.invariant.1)

pub overflow_mul-value : goal.overflow_mul-value
overflow_mul-value c =
    let one : c.args.limit - c.loop.counter ≡ suc (c.args.limit - (c.loop.counter + 1)) = omega arith in
    omega (arith, room_fits _ _ _ one c.loop.invariant.0)

pub overflow_add-value : goal.overflow_add-value
overflow_add-value c =
    let one : c.args.limit - c.loop.counter ≡ suc (c.args.limit - (c.loop.counter + 1)) = omega arith in
    omega (arith, room_fits _ _ _ one c.loop.invariant.0)

pub returns-then-b-lt-GROUP : goal.returns-then-b-lt-GROUP
returns-then-b-lt-GROUP c =
    let one : c.args.limit - c.loop.counter ≡ suc (c.args.limit - (c.loop.counter + 1)) = omega arith in
    let here : c.loop.next < length c.args.s.now = omega (arith, c.in_ok-get.ensures.lookup) in
    let byte : c.from-b.result ≡ get_or c.args.s.now c.loop.next 0 =
    c.from-b.ensures ∙ c.in_ok-get.ensures.lookup.1 ∙ get_or_default_zero _ _ _ here in
    c.then_some.ensures ∙ sym (read-last _ _ _ _ _ _ _ one here byte c.if-b-lt-GROUP.true) ∙ c.loop.invariant.1

pub overflow_mul-value-in-loop : goal.overflow_mul-value-in-loop
overflow_mul-value-in-loop c =
    let one : c.args.limit - c.loop.counter ≡ suc (c.args.limit - (c.loop.counter + 1)) = omega arith in
    omega (arith, room_fits _ _ _ one c.loop.invariant.0)

pub overflow_add-value-in-loop : goal.overflow_add-value-in-loop
overflow_add-value-in-loop c =
    let one : c.args.limit - c.loop.counter ≡ suc (c.args.limit - (c.loop.counter + 1)) = omega arith in
    let here : c.loop.next < length c.args.s.now = omega (arith, c.in_ok-get.ensures.lookup) in
    let byte : c.from-b.result ≡ get_or c.args.s.now c.loop.next 0 =
    c.from-b.ensures ∙ c.in_ok-get.ensures.lookup.1 ∙ get_or_default_zero _ _ _ here in
    omega (arith, room_fits _ _ _ one c.loop.invariant.0, c.type_inv.s c.loop.next)

pub loop-preserved : goal.loop-preserved
loop-preserved c =
    let one : c.args.limit - c.loop.counter ≡ suc (c.args.limit - (c.loop.counter + 1)) = omega arith in
    let here : c.loop.next < length c.args.s.now = omega (arith, c.in_ok-get.ensures.lookup) in
    let byte : c.from-b.result ≡ get_or c.args.s.now c.loop.next 0 =
    c.from-b.ensures ∙ c.in_ok-get.ensures.lookup.1 ∙ get_or_default_zero _ _ _ here in (
      room-step _ _ _ _ one (omega (arith, c.type_inv.s c.loop.next)) c.loop.invariant.0,
      sym (read_more _ _ _ _ _ _ _ one here byte c.if-b-lt-GROUP.false) ∙ c.loop.invariant.1,
    )

pub returns : goal.returns
returns c =
    let none : c.args.limit - c.loop.counter ≤ 0 = omega arith in
    cc (read-limit _ _ _ _ _ none, c.loop.invariant.1)
