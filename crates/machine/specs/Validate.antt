-- "Questions at the door" in their order, from bytes.
use Rattle.std.specs.Prelude.{◌&&◌, ◌||◌, ◌∷◌}
use Rattle.machine.specs.Basics.{ℕ, suc, Bool, true, cond, not, List, [], leb, eqb, length}
use Rattle.machine.specs.{Limits.work_numbers, Limits.report_room, Rules.Rules, Facts.is_generate, Decode.model_fields, Decode.at_end, Decode.list_field}
use Rattle.machine.specs.Parser.{Cursor, Parser, Parsed, parsed, refused, ◌>>=◌, ◌>>◌, give, ask, times}
use Rattle.machine.specs.Term.{Term, constant, minus_constant, parameter, clock_term, entries_of, content_of, units_in_use, units_free, facility_in_use, value, comparison, bracket, Sum, nothing, plus, minus}
use Rattle.machine.specs.Block.{Block, facts, BlockModel, block_at, inside_group}

-- ---- "Is each GENERATE first or after TERMINATE or GOTO, named by no target, the last block TERMINATE or GOTO, and does
-- each block named in a value exist? 7."

-- each GENERATE stands where nothing goes on before it, and the last block lets nothing go on
unfoldable pub well_placed : Bool → List Block → Bool
well_placed left [] = left
well_placed left (b ∷ l) = (not (is_generate (facts b)) || left) && well_placed (facts b).leaves l

unfoldable pub all_of : {A : Type 0} → (A → Bool) → List A → Bool
all_of p [] = true
all_of p (x ∷ l) = p x && all_of p l

-- Document 02, item 7: "The c blocks before it are server waits of kind 8", behind so many of them
unfoldable pub joined : (waits : ℕ) → List Block → Bool
joined waits [] = true
joined waits (b ∷ l) =
    leb (facts b).back waits && joined (cond (not (eqb (facts b).wel 0) && eqb (facts b).back 0) (suc waits) 0) l

-- no target names a GENERATE; document 02, item 7: nor "the second of this group, a later one or the kind 17 block itself"
unfoldable pub targets_move : BlockModel → Bool
targets_move m =
    all_of
    (λ b. eqb (facts b).target 0 || (not (is_generate (facts (block_at m (facts b).target))) && not (inside_group m (facts b).target)))
    m.blocks

-- does each block named in a sum exist, where there are n?
unfoldable mutual
  pub term_names : ℕ → Term → Bool
  term_names n (constant k) = true
  term_names n (minus_constant k) = true
  term_names n (parameter k) = true
  term_names n clock_term = true
  term_names n (entries_of b) = leb b n
  term_names n (content_of q) = true
  term_names n (units_in_use v) = true
  term_names n (units_free v) = true
  term_names n (facility_in_use v) = true
  term_names n (value k) = true
  term_names n (comparison r a b) = term_names n a && term_names n b
  term_names n (bracket e) = sum_names n e

  pub sum_names : ℕ → Sum → Bool
  sum_names n nothing = true
  sum_names n (plus t e) = term_names n t && sum_names n e
  sum_names n (minus t e) = term_names n t && sum_names n e

unfoldable pub well_formed : BlockModel → Bool
well_formed m =
    well_placed true m.blocks && targets_move m && all_of (sum_names (length m.blocks)) m.values && joined 0 m.blocks

-- ---- Model and tape

abbrev pub beginning : Cursor
beginning = record { position = 0; numbers = 0; mentions = 0 }

-- questions 3 to 7
unfoldable pub model_of_lem : Rules → List ℕ → Parser BlockModel
model_of_lem rules s = do
  m ← model_fields s rules
  at_end s 6
  ask (well_formed m) 7
  give m

-- questions 8 to 10
unfoldable pub tape_of : Rules → List ℕ → ℕ → Parser (List (List ℕ))
tape_of rules s lists = do
  tape ← times lists (list_field s rules)
  at_end s 10
  give tape

-- The answer to the questions: the model and the tape, or the number of the first "no".
pub data Validation : Type 0 where
  accept : BlockModel → List (List ℕ) → Validation
  reject : ℕ → Validation

unfoldable pub with_tape : BlockModel → Parsed (List (List ℕ)) → Validation
with_tape m (parsed tape c) = accept m tape
with_tape m (refused n) = reject n

unfoldable pub with_model : List ℕ → Parsed BlockModel → Validation
with_model tape (parsed m c) = with_tape m (tape_of m.rules tape m.lists beginning)
with_model tape (refused n) = reject n

-- "Has the work buffer 16,384 32-bit numbers? 1. The report buffer 10,240 bytes? 2. Then number by number through the model"
unfoldable pub validate : Rules → (model tape : List ℕ) (work report : ℕ) → Validation
validate rules model tape work report =
    cond (leb work_numbers work)
    (cond (leb report_room report) (with_model tape (model_of_lem rules model beginning)) (reject 2))
    (reject 1)
