-- What later papers change of document 01's rules: one record, handed through validation, questions, run and claims. What is
-- shown of runs is shown for any rules.
use Rattle.machine.specs.Basics.{ℕ, Bool, true, false}
use Rattle.machine.specs.Limits as Limits

pub record Rules : Type 0 where
  -- Questions, "Is the move time at most ..?", and the range of a record's clock
  pub max_clock : ℕ
  -- Bytes, "that many times 0..": the largest sample time
  pub max_time : ℕ
  -- the largest number of a tape and of a trace
  pub max_number : ℕ
  -- is it asked who holds a facility, at RELEASE of a seized one and where somebody ends? (at RETURN it always is)
  pub holders : Bool
  -- "Kind and operands as stored": how many kinds there are
  pub kinds : ℕ
  -- the highest edition of a model
  pub editions : ℕ

abbrev pub document01 : Rules
document01 = record { max_clock = 2000000000; max_time = 1000000; max_number = Limits.max_number; holders = false; kinds = 16; editions = 1 }

-- document 02 with item 1, "Studies of a whole year in milliseconds"
abbrev pub item1 : Rules
item1 = record { max_clock = Limits.max_clock; max_time = Limits.max_time; max_number = Limits.five_groups; holders = false; kinds = 16; editions = 1 }

-- and with item 6, "Only the holder releases"
abbrev pub item6 : Rules
item6 = record { max_clock = item1.max_clock; max_time = item1.max_time; max_number = item1.max_number; holders = true; kinds = item1.kinds; editions = item1.editions }

-- and with item 7, "Storm and tug together"
abbrev pub item7 : Rules
item7 = record { max_clock = item6.max_clock; max_time = item6.max_time; max_number = item6.max_number; holders = item6.holders; kinds = 17; editions = item6.editions }

-- and with item 8, "Families that gather"
abbrev pub item8 : Rules
item8 = record { max_clock = item7.max_clock; max_time = item7.max_time; max_number = item7.max_number; holders = item7.holders; kinds = 18; editions = item7.editions }

-- and with item 11, "A crane that can be taken over"
abbrev pub item11 : Rules
item11 = record { max_clock = item8.max_clock; max_time = item8.max_time; max_number = item8.max_number; holders = item8.holders; kinds = 20; editions = item8.editions }

-- and with item 12, "Runs under the 1996 rules"
abbrev pub document02 : Rules
document02 = record { max_clock = item11.max_clock; max_time = item11.max_time; max_number = item11.max_number; holders = item11.holders; kinds = item11.kinds; editions = 2 }

-- the rules that the engine keeps
abbrev pub in_force : Rules
in_force = document02
