-- Tapes checked by hand. Stream 0 begins at 1; its states are 16807, 282475249, 1622650073, 984943658, 1144108930, .., so v is
-- 0, 8620, 49519, 30058, 34915, 14349, ..
use Rattle.machine.specs.All.{ℕ, List, [], ◌∷◌, true, false, ◌≡◌, refl, flat, upper, number_bytes}
use Rattle.std.specs.Prelude.{Some as some}
use Rattle.std.specs.Prelude.{pos, negsuc, Float}
use Rattle.std.specs.Float.{nan, inf, fin}
use Rattle.floats.specs.Value.{parts_of}
use Rattle.streams.specs.Stream.{next, beginning, start_of}
use Rattle.tapes_laws.specs.Options.{continue, ask}
use Rattle.tapes_laws.specs.Source.{spread, draw_of, around, line_time, after, time_of, times_of, state_after}
use Rattle.tapes_laws.specs.Given.{time_at, u_at, fixed_at, spread_at, point_at, follows, points_behind, curve_at, source_at, list_at_lem, lists_from, lists_of}
use Rattle.tapes_laws.specs.Tape.{bytes_of, list_numbers, tape_numbers, Making, made, refusal, fitted, from_lists, from_start, make_tape}

-- 12.5 and 4; 7; 0:1 0.5:3 1:10; then doubles that no distribution may hold
unfoldable pub doubles : List Float
doubles =
    fin false 25 (negsuc 0) ∷ fin false 1 (pos 2) ∷ fin false 7 (pos 0) ∷ fin false 0 (pos 0) ∷ fin false 1 (pos 0) ∷ fin false 1 (negsuc 0)
    ∷ fin false 3 (pos 0) ∷ fin false 1 (pos 0) ∷ fin false 5 (pos 1) ∷ nan ∷ inf false ∷ fin true 1 (pos 0) ∷ fin false 1
    (negsuc 6) ∷ fin true 0 (pos 0) ∷ []

-- a spread three times, a fixed time twice, a curve twice
unfoldable pub three : List ℕ
three = 1 ∷ 3 ∷ 0 ∷ 0 ∷ 0 ∷ 2 ∷ 2 ∷ 0 ∷ 2 ∷ 2 ∷ 3 ∷ 3 ∷ []

unfoldable pub found : List Making
unfolding doubles three
found =
    make_tape 0 three doubles 12
    -- the lists in another order
    ∷ make_tape 0 (2 ∷ 3 ∷ 3 ∷ 3 ∷ 1 ∷ 3 ∷ 0 ∷ 0 ∷ []) doubles 100
    -- one byte too few; 42 before 43, with no byte lent and where a list before it does not fit; 41 before both
    ∷ make_tape 0 three doubles 9
    ∷ make_tape 0 (1 ∷ 3 ∷ 9 ∷ 0 ∷ []) doubles 0
    ∷ make_tape 0 (1 ∷ 3 ∷ 0 ∷ 0 ∷ 1 ∷ 3 ∷ 9 ∷ 0 ∷ []) doubles 3
    ∷ make_tape 512 (1 ∷ 3 ∷ 9 ∷ 0 ∷ []) doubles 0
    -- no lists; minus zero, which counts as 0
    ∷ make_tape 0 [] doubles 0
    ∷ make_tape 0 (0 ∷ 1 ∷ 13 ∷ 0 ∷ []) doubles 2
    -- not a number, an infinity, below 0, 1/128, past the end; kind 3; a count of 65,536; a length that is no multiple of four
    ∷ make_tape 0 (0 ∷ 1 ∷ 9 ∷ 0 ∷ []) doubles 100
    ∷ make_tape 0 (0 ∷ 1 ∷ 10 ∷ 0 ∷ []) doubles 100
    ∷ make_tape 0 (0 ∷ 1 ∷ 11 ∷ 0 ∷ []) doubles 100
    ∷ make_tape 0 (0 ∷ 1 ∷ 12 ∷ 0 ∷ []) doubles 100
    ∷ make_tape 0 (0 ∷ 1 ∷ 14 ∷ 0 ∷ []) doubles 100
    ∷ make_tape 0 (3 ∷ 1 ∷ 2 ∷ 0 ∷ []) doubles 100
    ∷ make_tape 0 (0 ∷ 65536 ∷ 2 ∷ 0 ∷ []) doubles 100
    ∷ make_tape 0 (0 ∷ 1 ∷ 2 ∷ []) doubles 100
    -- half above mean; one point; a curve that ends before 1
    ∷ make_tape 0 (1 ∷ 1 ∷ 1 ∷ 0 ∷ []) doubles 100
    ∷ make_tape 0 (2 ∷ 1 ∷ 3 ∷ 1 ∷ []) doubles 100
    ∷ make_tape 0 (2 ∷ 1 ∷ 3 ∷ 2 ∷ []) doubles 100
    ∷ []

abbrev pub wanted : List Making
wanted =
    made (3 ∷ 8 ∷ 9 ∷ 14 ∷ 2 ∷ 7 ∷ 7 ∷ 2 ∷ 2 ∷ 3 ∷ [])
    ∷ made (3 ∷ 1 ∷ 1 ∷ 6 ∷ 3 ∷ 12 ∷ 12 ∷ 10 ∷ [])
    ∷ refusal 43
    ∷ refusal 42
    ∷ refusal 42
    ∷ refusal 41
    ∷ made []
    ∷ made (1 ∷ 0 ∷ [])
    ∷ refusal 42
    ∷ refusal 42
    ∷ refusal 42
    ∷ refusal 42
    ∷ refusal 42
    ∷ refusal 42
    ∷ refusal 42
    ∷ refusal 42
    ∷ refusal 42
    ∷ refusal 42
    ∷ refusal 42
    ∷ []

pub examples : found ≡ wanted
unfolding found doubles three upper number_bytes flat parts_of next beginning start_of continue ask draw_of around line_time after time_of times_of
    state_after time_at u_at fixed_at spread_at point_at follows points_behind curve_at source_at list_at_lem lists_from lists_of bytes_of list_numbers
    tape_numbers fitted from_lists from_start make_tape
examples = refl

-- list 0 is the first
pub in_order : list_at_lem three doubles 0 ≡ some (record { source = spread 800 256; count = 3 })
unfolding doubles three parts_of continue ask time_at spread_at source_at list_at_lem
in_order = refl
