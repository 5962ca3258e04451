-- "Fewer than 12 bytes left in the trace": 12 are room for any record, under any rules whose clock limit is a number of five groups.
use Rattle.machine.specs.All.{ℕ, zero, suc, ◌/◌, ◌^◌, ◌≤◌, ◌<◌, arith, ◌≡◌, refl, Bool, true, false, leb-true, leb, eqb, length, length-append, max_transaction, max_blocks, record_room, five_groups, Rules, upper, number_bytes, Record, record_bytes, in_ranges, pow-suc, ◌&&◌}
use Rattle.machine.proofs.Basic.Bools.{and_true}

-- a number below 128 ^ j has at most j groups above the last
upper-most : (k j v : ℕ) → v < 128 ^ j → length (upper k v) ≤ j
unfolding upper
upper-most zero j v h = omega arith
upper-most (suc k) zero v h =
    let none : v ≡ 0 = omega arith in
    rw none (omega arith)
upper-most (suc k) (suc j) v h = go (eqb v 0) refl (upper-most k j (v / 128) (omega (arith, rw (pow-suc 128 j) at h)))
  where
    go : (t : Bool) → eqb v 0 ≡ t → length (upper k (v / 128)) ≤ j → length (upper (suc k) v) ≤ suc j
    go true e ih = rw e (omega arith)
    go false e ih = rw (e, length-append) (omega arith)

-- a number below 128 ^ (j + 1) takes at most j + 1 bytes
number-most : (j v : ℕ) → v < 128 ^ suc j → length (number_bytes v) ≤ suc j
unfolding number_bytes
number-most j v h = rw length-append (omega (arith, upper-most 8 j (v / 128) (omega (arith, rw (pow-suc 128 j) at h))))

pub record-room : (rules : Rules) → rules.max_clock ≤ five_groups → (r : Record) → in_ranges rules r ≡ true
    → length (record_bytes r) ≤ record_room
unfolding in_ranges record_bytes
record-room rules five r e =
    let x = and_true _ (leb r.outcome 1) e in
    let y = and_true _ (leb 1 r.block && leb r.block max_blocks) x.0 in
    let z = and_true (leb r.clock rules.max_clock) _ y.0 in
    let transaction = and_true (leb 1 r.transaction) (leb r.transaction max_transaction) z.1 in
    let block = and_true (leb 1 r.block) (leb r.block max_blocks) y.1 in
    rw (length-append, length-append, length-append)
    (omega (
      arith,
      number-most 4 r.clock (omega (arith, leb-true r.clock rules.max_clock z.0)),
      number-most 3 r.transaction (omega (arith, leb-true r.transaction max_transaction transaction.1)),
      number-most 1 r.block (omega (arith, leb-true r.block max_blocks block.1)),
      number-most 0 r.outcome (omega (arith, leb-true r.outcome 1 x.1)),
    ))
