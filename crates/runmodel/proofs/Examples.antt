-- The first example of document 01, and one that is refused: the text that runmodel prints, by computing.
use Rattle.machine.specs.All.{List, [], ◌∷◌, ◌≡◌, refl, ℕ, everything, flat}
use Rattle.machine.proofs.Examples.{first_model, first_tape}
use Rattle.runmodel.specs.{numeral, behind, numerals, line, record_line, end_line_lem, server_lines, queue_lines, run_text, text_of, printed}

abbrev first_text : List (List ℕ)
first_text =
    -- 3 1 1 0
    (51 ∷ 32 ∷ 49 ∷ 32 ∷ 49 ∷ 32 ∷ 48 ∷ 10 ∷ []) ∷
    -- 3 1 2 0
    (51 ∷ 32 ∷ 49 ∷ 32 ∷ 50 ∷ 32 ∷ 48 ∷ 10 ∷ []) ∷
    -- 3 1 3 0
    (51 ∷ 32 ∷ 49 ∷ 32 ∷ 51 ∷ 32 ∷ 48 ∷ 10 ∷ []) ∷
    -- 5 2 1 0
    (53 ∷ 32 ∷ 50 ∷ 32 ∷ 49 ∷ 32 ∷ 48 ∷ 10 ∷ []) ∷
    -- 5 2 2 1
    (53 ∷ 32 ∷ 50 ∷ 32 ∷ 50 ∷ 32 ∷ 49 ∷ 10 ∷ []) ∷
    -- 8 1 4 0
    (56 ∷ 32 ∷ 49 ∷ 32 ∷ 52 ∷ 32 ∷ 48 ∷ 10 ∷ []) ∷
    -- 8 1 5 0
    (56 ∷ 32 ∷ 49 ∷ 32 ∷ 53 ∷ 32 ∷ 48 ∷ 10 ∷ []) ∷
    -- 8 2 2 0
    (56 ∷ 32 ∷ 50 ∷ 32 ∷ 50 ∷ 32 ∷ 48 ∷ 10 ∷ []) ∷
    -- 8 2 3 0
    (56 ∷ 32 ∷ 50 ∷ 32 ∷ 51 ∷ 32 ∷ 48 ∷ 10 ∷ []) ∷
    -- 12 2 4 0
    (49 ∷ 50 ∷ 32 ∷ 50 ∷ 32 ∷ 52 ∷ 32 ∷ 48 ∷ 10 ∷ []) ∷
    -- 12 2 5 0
    (49 ∷ 50 ∷ 32 ∷ 50 ∷ 32 ∷ 53 ∷ 32 ∷ 48 ∷ 10 ∷ []) ∷
    -- end 2 12 2 2 0
    (101 ∷ 110 ∷ 100 ∷ 32 ∷ 50 ∷ 32 ∷ 49 ∷ 50 ∷ 32 ∷ 50 ∷ 32 ∷ 50 ∷ 32 ∷ 48 ∷ 10 ∷ []) ∷
    -- f 1 2 9 1 3 1
    (102 ∷ 32 ∷ 49 ∷ 32 ∷ 50 ∷ 32 ∷ 57 ∷ 32 ∷ 49 ∷ 32 ∷ 51 ∷ 32 ∷ 49 ∷ 10 ∷ []) ∷
    []

pub first-text : printed first_model first_tape ≡ flat first_text
unfolding everything numeral behind numerals line record_line end_line_lem server_lines queue_lines run_text text_of printed first_model first_tape
first-text = refl

-- refused 3
pub refused_text : printed (0x80 ∷ first_model) first_tape ≡ 114 ∷ 101 ∷ 102 ∷ 117 ∷ 115 ∷ 101 ∷ 100 ∷ 32 ∷ 51 ∷ 10 ∷ []
unfolding everything numeral behind numerals line record_line end_line_lem server_lines queue_lines run_text text_of printed first_model first_tape
refused_text = refl
