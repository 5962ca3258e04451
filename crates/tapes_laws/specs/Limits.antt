-- The limits of document 02, item 4, on what a tape is made of; those on doubles stand with the doubles (`floats`).
use Rattle.machine.specs.All.{ℕ}

-- "up to 16 of these, one per list"
abbrev pub most_lists : ℕ
most_lists = 16

-- "a count per list (0..65,535)"
abbrev pub most_times : ℕ
most_times = 65535

-- "A curve has 2 to 24 points"
abbrev pub fewest_points : ℕ
fewest_points = 2

abbrev pub most_points : ℕ
most_points = 24

-- "(r - 1) divided by 32,768, whole part"
abbrev pub states_per_part : ℕ
states_per_part = 32768

-- numbers that stand for one list in a call
abbrev pub numbers_per_list : ℕ
numbers_per_list = 4
