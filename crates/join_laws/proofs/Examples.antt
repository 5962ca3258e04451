-- Item 13 over bytes, by computing.
use Rattle.machine.specs.All.{ℕ, ◌≡◌, refl, List, [], ◌∷◌, ◌++◌, everything}
use Rattle.layout.specs.All.{relation_number, terms}
use Rattle.joined.specs.Join.{join_models, joinable, server_in, term_in, sum_in, share_in, condition_in, block_in}
use Rattle.join_laws.specs.Written.{own_number, stored_term, stored_terms, stored_sum, stored_take, stored_free, stored_wait, stored_move, stored_count, stored_block, stored_model, numbers_bytes}
use Rattle.join_laws.specs.Joining.{Joining, joined, refused, fitted, joined_pair, join}

-- one name that unfolds all of it
unfoldable all : Unit {0}
unfolding everything relation_number terms join_models joinable server_in term_in sum_in share_in condition_in block_in own_number stored_term stored_terms stored_sum stored_take stored_free stored_wait stored_move stored_count stored_block stored_model numbers_bytes fitted joined_pair join
all = tt

-- ---- Two plants

-- document 01's first example
abbrev crane : List ℕ
crane = 1 ∷ 1 ∷ 0 ∷ 0 ∷ 0 ∷ 2 ∷ 2 ∷ 5 ∷ 1 ∷ 1 ∷ 0 ∷ 4 ∷ 1 ∷ 2 ∷ 2 ∷ 5 ∷ 1 ∷ 3 ∷ 1 ∷ []

abbrev crane_tape : List ℕ
crane_tape = 2 ∷ 3 ∷ 2 ∷ 2 ∷ 5 ∷ 4 ∷ []

-- one of everything that is renumbered; its values: [block 2's entries], and value 1 less whether queue 1 is as long as minus 0
abbrev yard_values : List ℕ
yard_values = 1 ∷ 0 ∷ 11 ∷ 1 ∷ 0 ∷ 4 ∷ 2 ∷ 2 ∷ 0 ∷ 9 ∷ 1 ∷ 1 ∷ 10 ∷ 1 ∷ 5 ∷ 1 ∷ 1 ∷ 0 ∷ []

abbrev yard_blocks : List ℕ
yard_blocks =
    1 ∷ 1 ∷ 0 ∷ 15 ∷ 1 ∷ 6 ∷ 1 ∷ 1 ∷ 8 ∷ 5 ∷ 1 ∷ 8 ∷ 1 ∷ 1 ∷ 10 ∷ 9 ∷ 2 ∷ 1 ∷ 7 ∷ 1 ∷ 8 ∷ 16 ∷ 1 ∷ 7 ∷ 1 ∷ 1 ∷ 3 ∷ 1 ∷ []

abbrev yard : List ℕ
yard = 1 ∷ 1 ∷ 1 ∷ 2 ∷ 1 ∷ 2 ∷ (yard_values ++ (1 ∷ 3 ∷ 9 ∷ yard_blocks))

abbrev yard_tape : List ℕ
yard_tape = 1 ∷ 4 ∷ []

-- ---- Joined

pub cranes : join crane crane_tape crane crane_tape 30 12 ≡ joined (1 ∷ 2 ∷ 0 ∷ 0 ∷ 0 ∷ 4 ∷ 4 ∷ 10 ∷ 1 ∷ 1 ∷ 0 ∷ 4 ∷ 1 ∷ 2 ∷ 2 ∷ 5 ∷ 1 ∷ 3 ∷ 1 ∷ 1 ∷ 3 ∷ 0 ∷ 4 ∷ 2 ∷ 2 ∷ 4 ∷ 5 ∷ 2 ∷ 3 ∷ 1 ∷ []) (crane_tape ++ crane_tape)
unfolding all
cranes = refl

pub yards :
    join yard yard_tape yard yard_tape 102 4
    ≡ joined
    (1 ∷ 2 ∷ 2 ∷ 2 ∷ 2 ∷ 2 ∷ 4 ∷ (yard_values ++ (1 ∷ 0 ∷ 11 ∷ 1 ∷ 0 ∷ 4 ∷ 11 ∷ 2 ∷ 0 ∷ 9 ∷ 3 ∷ 1 ∷ 10 ∷ 1 ∷ 5 ∷ 2 ∷ 1 ∷ 0 ∷ 2 ∷ 6 ∷ 18 ∷ (yard_blocks ++ (1 ∷ 2 ∷ 0 ∷ 15 ∷ 2 ∷ 6 ∷ 2 ∷ 1 ∷ 8 ∷ 5 ∷ 2 ∷ 8 ∷ 1 ∷ 2 ∷ 10 ∷ 9 ∷ 4 ∷ 1 ∷ 7 ∷ 2 ∷ 17 ∷ 16 ∷ 2 ∷ 7 ∷ 2 ∷ 1 ∷ 3 ∷ 1 ∷ [])))))
    (1 ∷ 4 ∷ 1 ∷ 4 ∷ [])
unfolding all
yards = refl

-- ---- Refused

-- the same crane under edition 2
abbrev later : List ℕ
later = 2 ∷ 1 ∷ 0 ∷ 0 ∷ 0 ∷ 2 ∷ 2 ∷ 5 ∷ 1 ∷ 1 ∷ 0 ∷ 4 ∷ 1 ∷ 2 ∷ 2 ∷ 5 ∷ 1 ∷ 3 ∷ 1 ∷ []

-- a model that stops, a tape that goes on, a second model with a byte behind it, two editions, and a byte too little for either output
abbrev answers : List Joining
answers =
    join (1 ∷ []) [] crane crane_tape 30 12
    ∷ join crane (2 ∷ []) (1 ∷ []) [] 30 12
    ∷ join crane crane_tape (crane ++ (0 ∷ [])) [] 30 12
    ∷ join crane crane_tape later (crane_tape ++ (0 ∷ [])) 30 12
    ∷ join crane crane_tape later crane_tape 0 0
    ∷ join crane crane_tape crane crane_tape 29 12
    ∷ join crane crane_tape crane crane_tape 30 11
    ∷ []

pub refusals : answers ≡ refused 3 ∷ refused 8 ∷ refused 6 ∷ refused 10 ∷ refused 61 ∷ refused 62 ∷ refused 62 ∷ []
unfolding all
refusals = refl
