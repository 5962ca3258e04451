-- The limits before a turn, by numbers.
use Rattle.machine.specs.All.{ℕ, ◌≡◌, refl, false}
use Rattle.state.specs.declared.scalars.Scalars.{Scalars}
use Rattle.engine_laws.specs.{worn_rows, full_rows, limit_rows}

-- scalars with so many serials given, turns done and bytes used
limits : (serial turns used : ℕ) → Scalars
limits serial turns used =
    record { counter = 1; moving = 1024; serial = serial; made = 0; ended = 0; turns = turns; used = used; clock = 0; end = 0; note = 0 }

budget-left : limit_rows (limits 0 6 0) 7 1000 ≡ 0
unfolding limits limit_rows worn_rows full_rows
budget-left = refl

-- "Fewer than 12 bytes left in the trace"
room-left : full_rows 988 1000 ≡ false
unfolding full_rows
room-left = refl

-- "100,000,000 turns done"
last_turn : limit_rows (limits 0 100000000 0) 200000000 1000 ≡ 26
unfolding limits limit_rows worn_rows full_rows
last_turn = refl

-- "Last serial given above 99,997,952"
last-serial : limit_rows (limits 99997953 0 0) 7 1000 ≡ 26
unfolding limits limit_rows worn_rows full_rows
last-serial = refl

-- all three at once
first-limit : limit_rows (limits 99997953 100000000 1000) 7 1000 ≡ 26
unfolding limits limit_rows worn_rows full_rows
first-limit = refl
