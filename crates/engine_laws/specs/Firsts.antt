-- Document 02, item 9: "keep the first of REL, FEL and each QL and WEL true through all turns", "For every run the kept first is the first
-- that a full walk finds, and none exactly when the list is empty". The machine's lists are plain and keep no first, so this is of the run
-- over rows, whose last state the code leaves: of every state before a turn and after it. `KeepsFirsts` is the claim; proved in
-- proofs/FirstsKept.
use Rattle.std.specs.Prelude.{◌<◌, ◌≡◌, ◌∷◌}
use Rattle.machine.specs.All.{ℕ, List, [], length, replicate, in_force, BlockModel, State, states, steps, accept, validate}
use Rattle.constants.specs.declared.model.Model.{Model}
use Rattle.layout.specs.All.{tally_size, header_of, Represents}
use Rattle.rows_laws.specs.All.{wsl, rel, fel, outranks, sooner, KeptFirst, KeptHead}
use Rattle.state.specs.All.{lists_of}
use Rattle.turn_laws.specs.Turn.{Traced, traced}
use Rattle.start.specs.Start.{start_rows}
use Rattle.engine_laws.specs.{Steps.passed, Turns.end_of, Turns.close_rows, Turns.turn_rows}

-- in one state over rows, beside the machine's
pub record Firsts (m : BlockModel) (a : Traced) (s : State) : Type 0 where
  pub rel-first : KeptFirst (outranks a.rows.work) a.rows.work rel
  pub fel-first : KeptFirst (sooner a.rows.work) a.rows.work fel
  -- each QL and WEL: edition 1 keeps them in order, edition 2 orders no rows
  pub line_first : m.edition ≡ 1 → (p : ℕ) → p < wsl → KeptFirst (outranks a.rows.work) a.rows.work p
  pub line-head : (p : ℕ) → p < wsl → KeptHead a.rows.work p (lists_of s p)

-- each of a list, with the one in its place of another list
unfoldable pub Along : {A B : Type 0} → (A → B → Type 0) → List A → List B → Type 0
Along P [] [] = Unit {0}
Along P [] (b ∷ l) = ⊥
Along P (a ∷ k) [] = ⊥
Along P (a ∷ k) (b ∷ l) = P a b × Along P k l

-- the states of the run over rows whose last is `last_rows`
unfoldable pub states_rows : (model : Model) (tables lists tape : List ℕ) (budget : ℕ) (work trace : List ℕ) → List Traced
states_rows model tables lists tape budget work trace =
    passed (end_of budget (length trace)) (turn_rows model tables tape) close_rows steps
    (traced (start_rows model tables tape lists work (replicate tally_size 0)) trace)

-- in every state of the run of every accepted model and tape, whatever tables stand for them
abbrev pub KeepsFirsts : Type 0
KeepsFirsts =
    (model tape : List ℕ) (budget : ℕ) (work trace report : List ℕ) (m : BlockModel) (times : List (List ℕ))
    → validate in_force model tape (length work) (length report) ≡ accept m times
    → (tables lists : List ℕ) → Represents m times tape tables lists
    → Along (Firsts m) (states_rows (header_of m) tables lists tape budget work trace) (states m times budget (length trace))
