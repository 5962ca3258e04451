-- `wake_ql` meets its contract. The invariant: what is left to wake from here is all of it, and who stays is counted.
use Rattle.std.specs.Int.{from_bool}
use Rattle.machine.specs.All.{ℕ, ◌≡◌, ◌≤◌, refl, sym, ap, ◌∙◌, arith, leb, Bool, true, false, not}
use Rattle.servers_laws.specs.Waking.{left_behind, one_unless}
use Rattle.servers_laws.proofs.Staying.{end-rows, end_stays, stop-rows, stop-stays, step-rows, step_stays}
use Rattle.servers.proofs.waking.wake_ql.Goals as goal

as_number : (b : Bool) → from_bool (not b) ≡ one_unless b
as_number true = refl
as_number false = refl

one_at_most : (b : Bool) (o : ℕ) → o ≡ from_bool (not b) → o ≤ 1
one_at_most true o e = omega (arith, e)
one_at_most false o e = omega (arith, e)

pub loop-init : goal.loop-init
loop-init c = rw (c.head-c.ensures.cell, c.queue-queue.ensures) (record {
  rows = refl;
  stays = omega arith;
  few = omega arith;
})

pub returns-in_default : goal.returns-in_default
returns-in_default c = record {
  rows = stop-rows _ _ _ _ _ _ _ _ refl c.in_default.ensures _ c.loop.invariant.rows;
  stays = stop-stays _ _ _ _ _ _ _ _ refl c.in_default.ensures _ _ c.loop.invariant.stays;
}

pub loop-preserved : goal.loop-preserved
loop-preserved c =
    let units = c.member_units-units.ensures in
    let tested = ap (λ u. leb u c.loop.left) units in
    let follows = c.left_behind-left.ensures ∙ ap (left_behind _ _) units in
    let rows = c.pass-c.ensures.rows in
    let row = sym c.in-Some.ensures.0 in
    record {
      rows = step-rows _ _ _ _ _ _ _ _ _ _ _ _ _ row c.in-Some.ensures.1 tested follows rows
          c.pass-c.ensures.cell _ c.loop.invariant.rows (omega arith);
      stays = step_stays _ _ _ _ _ _ _ _ _ _ _ _ _ row c.in-Some.ensures.1 tested follows rows
          c.pass-c.ensures.cell _ _ _ (c.from-stay.ensures ∙ as_number _) c.loop.invariant.stays (omega arith);
      few = omega (arith, one_at_most _ _ c.from-stay.ensures);
    }

pub returns : goal.returns
returns c = record {
  rows = end-rows _ _ _ _ _ _ _ _ c.loop.invariant.rows (omega arith);
  stays = end_stays _ _ _ _ _ _ _ _ _ c.loop.invariant.stays (omega arith);
}
